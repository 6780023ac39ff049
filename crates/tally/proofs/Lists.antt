-- A test of every element of a list, and the sum of its numbers, element by element.
use Prim.Native.Nat.{ℕ, zero, suc, ◌+◌, ◌≤◌, ◌<◌}
use mathlib.Core.Path.{◌≡◌, refl}
use mathlib.Core.Bool.{Bool, true}
use mathlib.Core.List.{List, [], ◌∷◌}
use native.Mathlib.Omega.{arith}
use lib.Dec.{leb}
use lib.ListN.{length, get_or, take, drop}
use borrow.Author.Tests.{le-leb, leb-true}
use Rattle.bcd.proofs.Below.{both}
use Rattle.std.specs.List.{sum}
use Rattle.std.proofs.lemmas.List.Sums.{sum_by-cons}
use Rattle.tally.specs.Members.{between, every}

-- a number from one to another
pub between_inv : (low high n : ℕ) → between low high n ≡ true → (low ≤ n) × (n ≤ high)
between_inv low high n e =
    let t = both (leb low n) (leb n high) e in
    (leb-true low n t.0, leb-true n high t.1)

pub between_in : (low high n : ℕ) → low ≤ n → n ≤ high → between low high n ≡ true
between_in low high n l h = rw (le-leb low n l, le-leb n high h)

-- a test of every element
module _ {A : Type 0} (test : A → Bool) where
  pub every_take : (n : ℕ) (xs : List A) → every test xs ≡ true → every test (take n xs) ≡ true
  every_take zero xs e = refl
  every_take (suc n) [] e = refl
  every_take (suc n) (x ∷ xs) e =
      let t = both (test x) (every test xs) e in
      rw t.0 (every_take n xs t.1)

  pub every_drop : (n : ℕ) (xs : List A) → every test xs ≡ true → every test (drop n xs) ≡ true
  every_drop zero xs e = e
  every_drop (suc n) [] e = refl
  every_drop (suc n) (x ∷ xs) e = every_drop n xs (both (test x) (every test xs) e).1

  pub every_at : (xs : List A) (i : ℕ) (d : A) → every test xs ≡ true → i < length xs → test (get_or xs i d) ≡ true
  every_at [] i d e h = absurd (omega arith)
  every_at (x ∷ xs) zero d e h = (both (test x) (every test xs) e).0
  every_at (x ∷ xs) (suc i) d e h = every_at xs i d (both (test x) (every test xs) e).1 (omega arith)

-- a sum, number by number
pub sum_cons : (n : ℕ) (ns : List ℕ) → sum (n ∷ ns) ≡ n + sum ns
sum_cons n ns = sum_by-cons (λ x. x) n ns

-- no number is above the sum
pub below_sum : (i : ℕ) (ns : List ℕ) → get_or ns i 0 ≤ sum ns
below_sum i [] = omega arith
below_sum zero (n ∷ ns) = omega (arith, sum_cons n ns)
below_sum (suc i) (n ∷ ns) = omega (arith, below_sum i ns, sum_cons n ns)
