-- `tally::list::code` meets its contract: the loop has the number of the first digits.
use Rattle.tally.specs.Steps.Codes.{values}
use Rattle.tally.proofs.Codes.{Coded}
use Rattle.tally.proofs.list.code.Given as goal

abbrev pub invariant-loop-c : goal.invariant-loop-c
invariant-loop-c l = Coded (values l.prefix) l.c-index l.number
