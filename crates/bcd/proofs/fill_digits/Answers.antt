-- `bcd::fill_digits` meets its contract: the loop has stored the first i digits.
use Prim.Native.Nat.{ℕ, ◌+◌}
use mathlib.Core.Path.{sym, ◌∙◌, subst}
use native.Mathlib.Omega.{arith}
use lib.ListN.{length, take, set}
use lib.Seq.{take_all}
use Rattle.bcd.specs.Digits.{built_in, digits_in}
use Rattle.bcd.proofs.Writing.{Begun, store_next, whole}
use Rattle.bcd.proofs.Reading.{digits-length, digits_at}
use Rattle.bcd.proofs.fill_digits.Goals as goal

pub loop-i-preserved : goal.loop-i-preserved
loop-i-preserved c = let n = length c.args.out.now in
    let os = digits_in built_in c.args.bytes.now n in
    let v = c.digit_in.ensures ∙ sym (digits_at built_in c.args.bytes.now n c.loop-i.i (omega arith)) in
    subst (λ (v : ℕ). Begun c.args.out.now (take (c.loop-i.i + 1) os) (set c.loop-i.out c.loop-i.i v)) (sym v)
    (store_next os c.loop-i.i c.loop-i.invariant (omega (arith, digits-length built_in c.args.bytes.now n)) (omega arith))

pub returns : goal.returns
returns c = let n = length c.args.out.now in
    let os = digits_in built_in c.args.bytes.now n in
    let l = digits-length built_in c.args.bytes.now n in
    let b : Begun c.args.out.now os c.loop-i.out = rw (take_all c.loop-i.i os (omega arith)) at c.loop-i.invariant in
    whole b (omega arith)
