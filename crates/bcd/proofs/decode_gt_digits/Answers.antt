-- `bcd::decode_gt_digits` meets its contract.
use Prim.Native.Nat.{ℕ, ◌≤◌}
use mathlib.Core.Path.{◌≡◌, ap, ◌∙◌}
use native.Mathlib.Omega.{arith}
use lib.ListN.{length, take, replicate}
use lib.Seq.{length-take-le}
use Rattle.bcd.specs.Digits.{built_in, digits_in}
use Rattle.bcd.proofs.Results.{exit, few_octets, many_octets}
use Rattle.bcd.proofs.Reading.{reading_refused, reading_done}
use Rattle.bcd.proofs.decode_gt_digits.Goals as goal

pub returns-in_err-within : goal.returns-in_err-within
returns-in_err-within c =
    let (h, a, b) = many_octets tt _ _ c.in_err-within.ensures in
    rw (exit c.from_residual.result _ c.from_residual.ensures.1, a, b) (reading_refused built_in c.args.bytes.now c.args.num_digits h)

pub returns : goal.returns
returns c =
    let count = c.min-count.result in
    let room : count ≤ 255 = omega (arith, c.from-declared.ensures, c.min-count.ensures, c.ranges.num_digits.fits) in
    let lent : length {A = ℕ} (take count (replicate 255 0)) ≡ count = length-take-le count (replicate 255 0) room in
    reading_done built_in c.args.bytes.now c.args.num_digits count _ c.fill_digits.new.out (few_octets c.in_ok-within.ensures)
    (omega (arith, c.from-declared.ensures, c.min-count.ensures))
    (omega (arith, c.from-declared.ensures))
    (c.fill_digits.ensures ∙ ap (digits_in built_in c.args.bytes.now) lent)
