-- `address::interpret::Interpreted::list_others` meets its contract: the loop has stored the others that the walk has come to.
use mathlib.Core.Path.{◌≡◌}
use Rattle.address.proofs.Tabling.{Tabling}
use Rattle.address.proofs.interpret.Interpreted.list_others.Given as goal

abbrev pub invariant-loop-place : goal.invariant-loop-place
invariant-loop-place l = (l.place-iterator.bytes.now ≡ l.self.value.now) × Tabling l.self.value.now l.initial.rows l.rows l.place-iterator.at l.row
