-- `bcd::fill_digits` meets its contract: the loop has stored the first i digits.
use lib.ListN.{length, take}
use Rattle.bcd.specs.Digits.{built_in, digits_in}
use Rattle.bcd.proofs.Writing.{Begun}
use Rattle.bcd.proofs.fill_digits.Given as goal

abbrev pub invariant-loop-i : goal.invariant-loop-i
invariant-loop-i l = Begun l.initial.out (take l.i (digits_in built_in l.bytes (length l.initial.out))) l.out
