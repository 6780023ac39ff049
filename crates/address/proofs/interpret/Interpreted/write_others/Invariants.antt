-- `address::interpret::Interpreted::write_others` meets its contract: the loop has written the others that the walk has come to.
use mathlib.Core.Path.{◌≡◌}
use Rattle.address.proofs.Copying.{Copying}
use Rattle.address.proofs.interpret.Interpreted.write_others.Given as goal

abbrev pub invariant-loop-place : goal.invariant-loop-place
invariant-loop-place l = (l.place-iterator.bytes.now ≡ l.self.value.now) × Copying l.self.value.now l.initial.out l.out l.place-iterator.at l.at
