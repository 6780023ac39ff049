-- `address::GlobalTitle::encode` meets its contract.
use mathlib.Core.Path.{◌≡◌, ap}
use mathlib.Core.List.{[], ◌∷◌}
use Prim.Native.Nat.{ℕ, ◌+◌, ◌/◌, ◌≤◌}
use native.Mathlib.Omega.{arith}
use lib.ListN.{length}
use Rattle.bcd.specs.Outcome.{Outcome, refused, after}
use Rattle.bcd.proofs.Results.{exit}
use Rattle.address.proofs.TitleRecords.{record_many, record_short, record_refused, record_put}
use Rattle.address.proofs.GlobalTitle.encode.Goals as goal

pub returns-then-count-gt255 : goal.returns-then-count-gt255
returns-then-count-gt255 c = record_many c.args.self.now c.args.out.now c.if-count-gt255.true

pub returns-in_err-gt_digits_length : goal.returns-in_err-gt_digits_length
returns-in_err-gt_digits_length c =
    let long : 255 ≤ length c.args.self.now.digits = omega (arith, c.fits-self) in
    let e = exit c.from_residual.result _ c.from_residual.ensures.1 in
    let size : c.div_ceil-length.result ≡ (c.args.self.now.count + 1) / 2 = omega (arith, c.div_ceil-length.ensures) in
    rw e
    (record_short c.args.self.now c.if-count-gt255.false long c.args.out.now (ap (λ (o : Outcome ℕ). after o (λ (n : ℕ). refused 14 ((8 + (c.args.self.now.count + 1) / 2) ∷ []))) c.in_err-gt_digits_length.ensures) (omega (arith, size, c.if-out-length.true)))

pub returns-then-out-length : goal.returns-then-out-length
returns-then-out-length c =
    let long : 255 ≤ length c.args.self.now.digits = omega (arith, c.fits-self) in
    let size : c.div_ceil-length.result ≡ (c.args.self.now.count + 1) / 2 = omega (arith, c.div_ceil-length.ensures) in
    rw size
    (record_short c.args.self.now c.if-count-gt255.false long c.args.out.now (ap (λ (o : Outcome ℕ). after o (λ (n : ℕ). refused 14 ((8 + (c.args.self.now.count + 1) / 2) ∷ []))) c.in_ok-gt_digits_length.ensures) (omega (arith, size, c.if-out-length.true)))

pub returns-in_err-encode_gt_digits : goal.returns-in_err-encode_gt_digits
returns-in_err-encode_gt_digits c =
    let long : 255 ≤ length c.args.self.now.digits = omega (arith, c.fits-self) in
    let size : c.div_ceil-length.result ≡ (c.args.self.now.count + 1) / 2 = omega (arith, c.div_ceil-length.ensures) in
    rw (exit c.from_residual-in_err-encode_gt_digits.result _ c.from_residual-in_err-encode_gt_digits.ensures.1)
    (record_refused c.args.self.now c.if-count-gt255.false long c.args.out.now (omega (arith, size, c.if-out-length.false)) _ c.in_err-encode_gt_digits.ensures)

pub returns : goal.returns
returns c =
    let long : 255 ≤ length c.args.self.now.digits = omega (arith, c.fits-self) in
    let size : c.div_ceil-length.result ≡ (c.args.self.now.count + 1) / 2 = omega (arith, c.div_ceil-length.ensures) in
    rw size
    (record_put c.args.self.now c.if-count-gt255.false long c.args.out.now (omega (arith, size, c.if-out-length.false)) _ _ _ c.in_ok-encode_gt_digits.ensures
    (rw c.copy_from_slice.ensures.after))
