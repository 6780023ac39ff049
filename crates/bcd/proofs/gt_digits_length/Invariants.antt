-- `bcd::gt_digits_length` meets its contract: the loop has checked the digits before this one.
use Rattle.bcd.specs.Digits.{built_in}
use Rattle.bcd.proofs.Writable.{Checked}
use Rattle.bcd.proofs.gt_digits_length.Given as goal

abbrev pub invariant-loop-digit : goal.invariant-loop-digit
invariant-loop-digit l = Checked built_in l.digits l.digit-index
