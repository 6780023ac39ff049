-- `bcd::gt_digits_length` meets its contract: the loop has checked the digits before this one.
use mathlib.Core.Path.{sym, ap, ◌∙◌}
use native.Mathlib.Omega.{arith}
use lib.ListN.{length}
use Rattle.bcd.specs.Outcome.{mapped, accepted}
use Rattle.bcd.specs.Digits.{built_in}
use Rattle.bcd.proofs.Results.{exit}
use Rattle.bcd.proofs.Characters.{built_in_lawful}
use Rattle.bcd.proofs.Writable.{too_many, checked_more, checked_bad, checked_all, packed-length}
use Rattle.bcd.proofs.gt_digits_length.Goals as goal

pub returns-then-n-gt255 : goal.returns-then-n-gt255
returns-then-n-gt255 c = sym (ap (mapped length) (too_many built_in c.args.digits.now c.if-n-gt255.true))

pub returns-in_err-nibble : goal.returns-in_err-nibble
returns-in_err-nibble c =
    exit c.from_residual.result c.in_err-nibble.field-0.0 c.from_residual.ensures.1
    ∙ sym (ap (mapped length) (checked_bad built_in built_in_lawful c.args.digits.now c.loop-digit.digit-index (omega arith) c.loop-digit.invariant _ _ (omega arith) c.in_err-nibble.ensures))

pub loop-digit-preserved : goal.loop-digit-preserved
loop-digit-preserved c = (checked_more built_in built_in_lawful c.args.digits.now c.loop-digit.digit-index (omega arith) c.loop-digit.invariant _ c.in_ok-nibble.ensures).2

pub returns : goal.returns
returns c = let digits = c.args.digits.now in
    let n = packed-length built_in digits in
    ap accepted (omega arith) ∙ sym (ap (mapped length) (checked_all built_in digits c.loop-digit.digit-index c.loop-digit.invariant (omega arith) (omega arith)))
