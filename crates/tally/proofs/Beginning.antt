-- Digits that begin with a prefix, how far members reach into digits, and members that the numbers of digits tell.
use Prim.Native.Nat.{ℕ, zero, suc, ◌≤◌}
use mathlib.Core.Path.{◌≡◌, refl, sym, ap, ap₂, ◌∙◌}
use mathlib.Core.Bool.{Bool, true, false, ◌&&◌}
use mathlib.Core.List.{List, [], ◌∷◌, head-eq_of_cons-eq, tail-eq_of_cons-eq, nil≢cons}
use native.Mathlib.Omega.{arith}
use borrow.Author.Tests.{eqb-true, eq-eqb, ne_eqb}
use lib.Dec.{eqb}
use lib.ListN.{length, take, length-take}
use lib.Seq.{take_all, take-length, length-take-le}
use Rattle.bcd.specs.Outcome.{pick}
use Rattle.bcd.proofs.Below.{both}
use Rattle.tally.specs.Members.{begins, same, reach}

-- Digits begin with their own first ones, and with no others.
pub begins-take : (p ds : List ℕ) → begins p ds ≡ true → take (length p) ds ≡ p
begins-take [] ds e = refl
begins-take (c ∷ cs) [] e = let z : ◌≡◌ {A = ℕ} 0 1 = cc in absurd (omega arith)
begins-take (c ∷ cs) (d ∷ ds) e = let (l, r) = both (eqb c d) (begins cs ds) e in ap₂ ◌∷◌ (sym (eqb-true c d l)) (begins-take cs ds r)

pub take_begins : (p ds : List ℕ) → take (length p) ds ≡ p → begins p ds ≡ true
take_begins [] ds e = refl
take_begins (c ∷ cs) [] e = absurd (nil≢cons e)
take_begins (c ∷ cs) (d ∷ ds) e = rw (eq-eqb c d (sym (head-eq_of_cons-eq e))) (take_begins cs ds (tail-eq_of_cons-eq e))

pub begins-length : (p ds : List ℕ) → begins p ds ≡ true → length p ≤ length ds
begins-length p ds e = omega (arith, length-take (length p) ds, ap length (begins-take p ds e))

pub begins-first : (p ds : List ℕ) (n : ℕ) → length p ≤ n → begins p (take n ds) ≡ begins p ds
begins-first [] ds n h = refl
begins-first (c ∷ cs) ds zero h = absurd (omega arith)
begins-first (c ∷ cs) [] (suc n) h = refl
begins-first (c ∷ cs) (d ∷ ds) (suc n) h = ap (λ b. eqb c d && b) (begins-first cs ds n (omega arith))

pub same_true : (p q : List ℕ) → same p q ≡ true → p ≡ q
same_true p q e =
    let (l, b) = both (eqb (length p) (length q)) (begins p q) e in
    let n = eqb-true (length p) (length q) l in
    sym (begins-take p q b) ∙ take_all (length p) q (omega arith)

pub same_self : (p : List ℕ) → same p p ≡ true
same_self p = rw (eq-eqb (length p) (length p) refl) (take_begins p p (take-length p))

pub same_other : (p q : List ℕ) → (length p ≡ length q → ⊥) → same p q ≡ false
same_other p q h = rw (ne_eqb (length p) (length q) h)

-- How far one member reaches.
abbrev pub fit : List ℕ → List ℕ → ℕ
fit p ds = pick (begins p ds) (length p) 0

pub fit_all : (p ds : List ℕ) → begins p ds ≡ true → fit p ds ≡ length p
fit_all p ds e = rw e

pub fit-most : (p ds : List ℕ) (n : ℕ) → (begins p ds ≡ true → length p ≤ n) → fit p ds ≤ n
fit-most p ds n h = go (begins p ds) refl
  where
    go : (b : Bool) → begins p ds ≡ b → pick b (length p) 0 ≤ n
    go true e = h e
    go false e = omega arith

pub fit_inside : (p ds : List ℕ) → fit p ds ≤ length ds
fit_inside p ds = fit-most p ds (length ds) (begins-length p ds)

pub reach_inside : (ps : List (List ℕ)) (ds : List ℕ) → reach ps ds ≤ length ds
reach_inside [] ds = omega arith
reach_inside (p ∷ ps) ds = omega (arith, fit_inside p ds, reach_inside ps ds)

-- A member that is the first r digits reaches as far.
pub fit_same : (p ds : List ℕ) (r : ℕ) → r ≤ length ds → same (take r ds) p ≡ true → fit p ds ≡ r
fit_same p ds r h e =
    let s = same_true (take r ds) p e in
    let n : length p ≡ r = ap length (sym s) ∙ length-take-le r ds h in
    fit_all p ds (take_begins p ds (ap (λ k. take k ds) n ∙ s)) ∙ n
