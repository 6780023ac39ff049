-- What folds without a branch say: a test of every element, and a sum that stays within 64 bits.
use Prim.Native.Nat.{ℕ, suc, ◌+◌, ◌-◌, ◌*◌, ◌^◌, ◌≤◌, ◌<◌, min}
use mathlib.Core.Path.{◌≡◌, refl, sym, ap₂, ◌∙◌}
use mathlib.Core.Bool.{Bool, ◌&&◌, and_assoc, and-true}
use mathlib.Core.List.{List, [], ◌∷◌}
use native.Mathlib.Omega.{arith}
use lib.Dec.{leb}
use lib.ListN.{get_or}
use borrow.Author.Tests.{leb-true, le-leb}
use Rattle.std.specs.List.{fold, sum, list_all, zip}
use Rattle.bcd.proofs.Tests.{agree}
use Rattle.parameter.specs.Parameter.{most_value}
use Rattle.tally.specs.Members.{every}
use Rattle.tally.specs.Rows.{within}
use Rattle.tally.proofs.Lists.{sum_cons}

pub fold_every : {A : Type 0} (test : A → Bool) (b : Bool) (xs : List A) → fold (λ b x. b && test x) b xs ≡ (b && every test xs)
fold_every test b [] = sym (and-true b)
fold_every test b (x ∷ xs) = fold_every test (b && test x) xs ∙ and_assoc b (test x) (every test xs)

pub fold_sum : (a : ℕ) (ns : List ℕ) → a ≤ 2 ^ 64 - 1 → fold (λ a n. min (a + n) (2 ^ 64 - 1)) a ns ≡ min (a + sum ns) (2 ^ 64 - 1)
fold_sum a [] h = omega arith
fold_sum a (n ∷ ns) h = fold_sum (min (a + n) (2 ^ 64 - 1)) ns (omega arith) ∙ omega (arith, sum_cons n ns)

-- Rows side by side, tested by products that stay within 64 bits.
abbrev pub covers : ℕ × ℕ → Bool
covers p = leb p.1 (min (p.0 * most_value) (2 ^ 64 - 1))

pub zip_within : (ms os : List ℕ) → ((i : ℕ) → get_or os i 0 < 2 ^ 64) → list_all covers (zip ms os) ≡ within ms os
zip_within [] os h = refl
zip_within (m ∷ ms) [] h = refl
zip_within (m ∷ ms) (o ∷ os) h =
    let o_small : o < 2 ^ 64 = h 0 in
    ap₂ ◌&&◌
    (agree (leb o (min (m * most_value) (2 ^ 64 - 1))) (leb o (most_value * m))
    (λ t. le-leb o (most_value * m) (omega (arith, leb-true o _ t)))
    (λ t. le-leb o (min (m * most_value) (2 ^ 64 - 1)) (omega (arith, leb-true o _ t))))
    (zip_within ms os (λ i. h (suc i)))
