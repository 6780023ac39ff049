-- `tally::members::Members::longest` meets its contract: the loop has found the longest of the members that it has passed.
use lib.ListN.{take}
use Rattle.std.specs.Slice.Iter.{iter_rest}
use Rattle.bcd.specs.Digits.{halves}
use Rattle.tally.proofs.Finding.{Left}
use Rattle.tally.proofs.members.Members.longest.Given as goal

abbrev pub invariant-loop-i : goal.invariant-loop-i
invariant-loop-i l = Left l.self (take l.n (halves l.octets)) l.best l.row l.i-iterator.count (iter_rest l.i-iterator.iter.a) (iter_rest l.i-iterator.iter.b)
