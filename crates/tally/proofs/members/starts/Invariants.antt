-- `tally::members::starts` meets its contract: the loop has stored the numbers of at most i digits.
use Rattle.bcd.specs.Digits.{halves}
use Rattle.tally.proofs.Starts.{Started}
use Rattle.tally.proofs.members.starts.Given as goal

abbrev pub invariant-loop-i : goal.invariant-loop-i
invariant-loop-i l = Started (halves l.octets) l.i l.first
