-- `bcd::unpack_digits` meets its contract.
use Prim.Native.Nat.{ℕ, ◌*◌, ◌≤◌, min}
use mathlib.Core.Path.{◌≡◌, refl, sym, ap, ap₂, ◌∙◌}
use mathlib.Core.Logic.{⊎_elim}
use mathlib.Core.List.{List, ◌++◌}
use native.Mathlib.Omega.{arith}
use lib.ListN.{length, take, drop, drop_of_length-le}
use lib.Seq.{length-take-le}
use Rattle.bcd.specs.Digits.{built_in, digits_in}
use Rattle.bcd.proofs.Outcomes.{le_or_lt}
use Rattle.bcd.proofs.Reading.{digits-most}
use Rattle.bcd.proofs.unpack_digits.Goals as goal

-- what stands behind the digits that were stored, as many as there are or as there was room for
behind : (out : List ℕ) (m n : ℕ) → n ≡ min (length out) m → drop n out ≡ drop m out
behind out m n e =
    ⊎_elim
    (λ h. drop_of_length-le out (omega arith) ∙ sym (drop_of_length-le out h))
    (λ h. let same : n ≡ m = omega arith in ap (λ (k : ℕ). drop k out) same)
    (le_or_lt (length out) m)

pub returns : goal.returns
returns c =
    let bs = c.args.bytes.now in
    let out = c.args.out.now in
    let e : c.min-n.result ≡ min (length out) (2 * length bs) = omega (arith, c) in
    let lent : length (take c.min-n.result out) ≡ c.min-n.result = length-take-le c.min-n.result out (omega arith) in
    let digits : c.fill_digits.new.out ≡ digits_in built_in bs (length out) =
    c.fill_digits.ensures ∙ ap (digits_in built_in bs) (lent ∙ e) ∙ digits-most built_in bs (length out) in
    ap₂ (λ (a b : List ℕ). a ++ b) digits (behind out (2 * length bs) c.min-n.result e)
