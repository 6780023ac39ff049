-- `flat::list::list_length` meets its contract: the loop has measured the parameters before the position.
use mathlib.Core.Path.{◌≡◌}
use Rattle.bcd.specs.Answers.{outcome_of}
use Rattle.flat.proofs.Summing.{Summed}
use Rattle.flat.proofs.list.list_length.Given as goal

abbrev pub invariant-loop-place : goal.invariant-loop-place
invariant-loop-place l = (l.place-iterator.list.now ≡ l.list) × Summed l.list l.place-iterator.at (outcome_of l.sum)
