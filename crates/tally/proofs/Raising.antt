-- The laws of a number more at a place of a list.
use Prim.Native.Nat.{ℕ, zero, suc, ◌+◌, ◌*◌, ◌≤◌, ◌<◌}
use mathlib.Core.Path.{◌≡◌, refl, ap, ap₂}
use mathlib.Core.Bool.{true}
use mathlib.Core.List.{List, [], ◌∷◌, zip_with}
use native.Mathlib.Omega.{arith}
use lib.ListN.{length, get_or, set, replicate}
use lib.Dec.{leb}
use borrow.Author.Tests.{leb-true, le-leb}
use Rattle.std.specs.List.{sum}
use Rattle.parameter.specs.Parameter.{most_value}
use Rattle.bcd.proofs.Below.{both}
use Rattle.tally.specs.Rows.{within, raised}
use Rattle.tally.proofs.Lists.{sum_cons}

pub length-raised : (i n : ℕ) (xs : List ℕ) → length (raised i n xs) ≡ length xs
length-raised i n [] = refl
length-raised zero n (x ∷ xs) = refl
length-raised (suc i) n (x ∷ xs) = ap suc (length-raised i n xs)

pub sum-raised : (i n : ℕ) (xs : List ℕ) → i < length xs → sum (raised i n xs) ≡ sum xs + n
sum-raised i n [] h = absurd (omega arith)
sum-raised zero n (x ∷ xs) h = omega (arith, sum_cons x xs, sum_cons (x + n) xs)
sum-raised (suc i) n (x ∷ xs) h = omega (arith, sum-raised i n xs (omega arith), sum_cons x xs, sum_cons x (raised i n xs))

-- The code's way: what stands at the place is read, and stored with the number more.
pub raised-set : (i n : ℕ) (xs : List ℕ) → set xs i (get_or xs i 0 + n) ≡ raised i n xs
raised-set i n [] = refl
raised-set zero n (x ∷ xs) = refl
raised-set (suc i) n (x ∷ xs) = ap (λ ys. x ∷ ys) (raised-set i n xs)

-- Two raises, in either order.
pub raised-raised : (i m j n : ℕ) (xs : List ℕ) → raised i m (raised j n xs) ≡ raised j n (raised i m xs)
raised-raised i m j n [] = refl
raised-raised zero m zero n (x ∷ xs) = ap (λ y. y ∷ xs) (omega arith)
raised-raised zero m (suc j) n (x ∷ xs) = refl
raised-raised (suc i) m zero n (x ∷ xs) = refl
raised-raised (suc i) m (suc j) n (x ∷ xs) = ap (λ ys. x ∷ ys) (raised-raised i m j n xs)

-- What stands at a place afterwards.
pub record Raised (most before after : ℕ) : Type 0 where
  pub low : before ≤ after
  pub high : after ≤ before + most

pub get_d_raised : (i n : ℕ) (xs : List ℕ) (k : ℕ) → Raised n (get_or xs k 0) (get_or (raised i n xs) k 0)
get_d_raised i n [] k = record { low = omega arith; high = omega arith }
get_d_raised zero n (x ∷ xs) zero = record { low = omega arith; high = omega arith }
get_d_raised zero n (x ∷ xs) (suc k) = record { low = omega arith; high = omega arith }
get_d_raised (suc i) n (x ∷ xs) zero = record { low = omega arith; high = omega arith }
get_d_raised (suc i) n (x ∷ xs) (suc k) = get_d_raised i n xs k

-- One of two lists that are added is raised.
pub raised_sums : (i n : ℕ) (xs ys : List ℕ) → raised i n (zip_with ◌+◌ xs ys) ≡ zip_with ◌+◌ xs (raised i n ys)
unfolding zip_with
raised_sums i n [] ys = refl
raised_sums i n (x ∷ xs) [] = refl
raised_sums zero n (x ∷ xs) (y ∷ ys) = ap (λ z. z ∷ zip_with ◌+◌ xs ys) (omega arith)
raised_sums (suc i) n (x ∷ xs) (y ∷ ys) = ap (λ zs. (x + y) ∷ zs) (raised_sums i n xs ys)

pub sums_zeros : (n : ℕ) (xs : List ℕ) → length xs ≡ n → zip_with ◌+◌ xs (replicate n 0) ≡ xs
unfolding zip_with
sums_zeros zero [] h = refl
sums_zeros (suc n) [] h = absurd (omega arith)
sums_zeros zero (x ∷ xs) h = absurd (omega arith)
sums_zeros (suc n) (x ∷ xs) h = ap₂ (λ y ys. y ∷ ys) (omega arith) (sums_zeros n xs (omega arith))

-- A row with one message more, and at most 65,531 octets more.
pub within-raised :
    (i n : ℕ) (ms os : List ℕ) → n ≤ most_value → within ms os ≡ true → within (raised i 1 ms) (raised i n os) ≡ true
within-raised i n [] os h w = refl
within-raised zero n (m ∷ ms) [] h w = refl
within-raised (suc i) n (m ∷ ms) [] h w = refl
within-raised zero n (m ∷ ms) (o ∷ os) h w =
    let (here, rest) = both (leb o (most_value * m)) (within ms os) w in
    rw (le-leb (o + n) (most_value * (m + 1)) (omega (arith, leb-true o (most_value * m) here))) rest
within-raised (suc i) n (m ∷ ms) (o ∷ os) h w =
    let (here, rest) = both (leb o (most_value * m)) (within ms os) w in
    rw here (within-raised i n ms os h rest)
