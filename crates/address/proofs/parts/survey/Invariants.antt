-- `address::parts::survey` meets its contract: the loop has kept the parts of the sub-parameters that the walk has come to.
use mathlib.Core.Path.{◌≡◌}
use Rattle.address.proofs.Surveying.{Surveying}
use Rattle.address.proofs.parts.survey.Given as goal

abbrev pub invariant-loop-place : goal.invariant-loop-place
invariant-loop-place l = (l.place-iterator.bytes.now ≡ l.value) × Surveying l.value l.place-iterator.at l.parts
