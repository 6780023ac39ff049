-- `flat::list::write_list` meets its contract: the loop has written the parameters before the position.
use mathlib.Core.Path.{◌≡◌}
use Rattle.flat.proofs.FlatWriting.{Written}
use Rattle.flat.proofs.list.write_list.Given as goal

abbrev pub invariant-loop-place : goal.invariant-loop-place
invariant-loop-place l = (l.place-iterator.list.now ≡ l.list) × Written l.list l.initial.out l.out l.place-iterator.at l.at
