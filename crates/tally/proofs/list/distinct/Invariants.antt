-- `tally::list::distinct` meets its contract: the numbers that are left tell.
use mathlib.Core.Path.{◌≡◌}
use lib.ListN.{length}
use Rattle.tally.specs.Steps.Codes.{unlike}
use Rattle.tally.proofs.list.distinct.Given as goal

abbrev pub invariant-loop-number : goal.invariant-loop-number
invariant-loop-number l = unlike l.rest ≡ unlike l.numbers

abbrev pub decreases-loop-number : goal.decreases-loop-number
decreases-loop-number l = length l.rest
