-- `tally::list::numbers` meets its contract: the loop has stored the first i numbers.
use Rattle.tally.proofs.Loading.{Stored}
use Rattle.tally.proofs.list.numbers.Given as goal

abbrev pub invariant-loop-i : goal.invariant-loop-i
invariant-loop-i l = Stored l.digits l.lengths l.i l.rest l.numbers
