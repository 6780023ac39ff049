-- A test that holds at every number below a bound is checked by computation, once.
use Prim.Native.Nat.{ℕ, zero, suc, ◌<◌}
use mathlib.Core.Path.{◌≡◌, refl, subst}
use mathlib.Core.Bool.{Bool, true, false, ◌&&◌}
use mathlib.Core.Logic.{⊎_elim}
use native.Mathlib.Omega.{arith}
use Rattle.bcd.proofs.Outcomes.{le_or_lt}

abbrev pub all_below : ℕ → (ℕ → Bool) → Bool
all_below zero f = true
all_below (suc n) f = f n && all_below n f

-- Both of two tests pass.
pub both : (a b : Bool) → a && b ≡ true → (a ≡ true) × (b ≡ true)
both true b e = (refl, e)
both false b e = let z : ◌≡◌ {A = ℕ} 0 1 = cc in absurd (omega arith)

pub below_at : (n : ℕ) (f : ℕ → Bool) → all_below n f ≡ true → (k : ℕ) → k < n → f k ≡ true
below_at zero f e k h = absurd (omega arith)
below_at (suc n) f e k h =
    let (here, lower) = both (f n) (all_below n f) e in
    ⊎_elim
    (λ le. let same : n ≡ k = omega arith in subst (λ (i : ℕ). f i ≡ true) same here)
    (λ lt. below_at n f lower k lt)
    (le_or_lt n k)
