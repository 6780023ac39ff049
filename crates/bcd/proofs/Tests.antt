-- What tests say: two that pass, one of every element of a list, one of a number among others, and one that a choice goes by.
use Prim.Native.Nat.{ℕ, suc, ◌+◌, ◌≤◌, ◌<◌}
use mathlib.Core.Path.{◌≡◌, refl, sym, ◌∙◌}
use mathlib.Core.Bool.{Bool, true, false, ◌&&◌, ◌||◌, cond, or_assoc, or-false}
use Rattle.std.proofs.lemmas.List.Folds.{list_any-append, list_any_at, list_any_more}
use mathlib.Core.Logic.{◌↔◌, ◌⊎◌, inl, inr}
use mathlib.Core.List.{List, [], ◌∷◌, ◌++◌}
use native.Mathlib.Omega.{arith}
use lib.Dec.{leb, ltb, eqb}
use lib.ListN.{length, get_or, take}
use borrow.Author.Tests.{eq-eqb, eqb-true, eqb-false, lt-ltb, ltb-true, le-leb, leb-true}
use Rattle.bcd.specs.Outcome.{Outcome, accepted, pick, All, every, among}
use Rattle.bcd.proofs.Below.{both}
use Rattle.std.specs.List.{fold}

-- Two tests that tell the same.
pub agree : (a b : Bool) → (a ≡ true → b ≡ true) → (b ≡ true → a ≡ true) → a ≡ b
agree true b f g = sym (f refl)
agree false true f g = g refl
agree false false f g = refl

-- Two tests pass exactly where each does.
pub and_iff : {P Q : Type 0} {a b : Bool} → (a ≡ true) ↔ P → (b ≡ true) ↔ Q → (a && b ≡ true) ↔ (P × Q)
and_iff {P} {Q} {a} {b} p q = (
  (λ e. let (x, y) = both a b e in (p.0 x, q.0 y)),
  (λ (x, y). let h = p.1 x in rw h (q.1 y)),
)

pub eqb_iff : (m n : ℕ) → (eqb m n ≡ true) ↔ (m ≡ n)
eqb_iff m n = (eqb-true m n, eq-eqb m n)

pub ltb_iff : (m n : ℕ) → (ltb m n ≡ true) ↔ (m < n)
ltb_iff m n = (ltb-true m n, lt-ltb m n)

pub leb_iff : (m n : ℕ) → (leb m n ≡ true) ↔ (m ≤ n)
leb_iff m n = (leb-true m n, le-leb m n)

-- A test of every element.
pub every_iff : {A : Type 0} {test : A → Bool} {P : A → Type 0} → ((x : A) → (test x ≡ true) ↔ P x) → (xs : List A) → (every test xs ≡ true) ↔ All P xs
every_iff h [] = ((λ e. tt), (λ u. refl))
every_iff h (x ∷ xs) = and_iff (h x) (every_iff h xs)

-- Tests that tell the same of every element.
pub every-same : {A : Type 0} {f g : A → Bool} → ((x : A) → f x ≡ g x) → (xs : List A) → every f xs ≡ every g xs
every-same h [] = refl
every-same h (x ∷ xs) = rw (h x, every-same h xs)

-- A number among two lists joined, and among the first i numbers and one more.
pub among-append : (n : ℕ) (ms ks : List ℕ) → among n (ms ++ ks) ≡ (among n ms || among n ks)
among-append n = list_any-append (λ m. eqb m n)

pub among_next : (n : ℕ) (ms : List ℕ) (i : ℕ) → i < length ms → among n (take (i + 1) ms) ≡ (among n (take i ms) || eqb (get_or ms i 0) n)
among_next n ms i h = list_any_more (λ m. eqb m n) ms i 0 h

-- A fold that looks at all numbers, with no branch, tells the same.
pub fold_among : (n : ℕ) (b : Bool) (ms : List ℕ) → fold (λ b m. b || eqb m n) b ms ≡ (b || among n ms)
fold_among n b [] = sym (or-false b)
fold_among n b (m ∷ ms) = fold_among n (b || eqb m n) ms ∙ or_assoc b (eqb m n) (among n ms)

-- A number is among others exactly where it stands at a place of them.
among-to : (n : ℕ) (ms : List ℕ) → among n ms ≡ true → (k : ℕ) × (k < length ms) × (get_or ms k 0 ≡ n)
among-to n [] e = let z : ◌≡◌ {A = ℕ} 0 1 = cc in absurd (omega arith)
among-to n (m ∷ ms) e = go (eqb m n) refl (among-to n ms) e
  where
    go :
        (b : Bool)
        → eqb m n ≡ b
        → (among n ms ≡ true → (k : ℕ) × (k < length ms) × (get_or ms k 0 ≡ n))
        → b || among n ms ≡ true
        → (k : ℕ) × (k < length (m ∷ ms)) × (get_or (m ∷ ms) k 0 ≡ n)
    go true t later e = (0, omega arith, eqb-true m n t)
    go false t later e = let (k, h, at) = later e in (suc k, omega arith, at)

among_from : (n : ℕ) (ms : List ℕ) (k : ℕ) → k < length ms → get_or ms k 0 ≡ n → among n ms ≡ true
among_from n ms k h e = list_any_at (λ m. eqb m n) ms k 0 h (eq-eqb (get_or ms k 0) n e)

pub among_iff : (n : ℕ) (ms : List ℕ) → (among n ms ≡ true) ↔ ((k : ℕ) × (k < length ms) × (get_or ms k 0 ≡ n))
among_iff n ms = (among-to n ms, (λ (k, h, e). among_from n ms k h e))

-- The library's word for the same.
pub cond_is_pick : {A : Type 0} (b : Bool) (x y : A) → cond b x y ≡ pick b x y
cond_is_pick true x y = refl
cond_is_pick false x y = refl

-- A choice by a number: the number is that one, or it is not.
pub chosen :
    {X : Type 0} {x : X} (n k : ℕ) (o q : Outcome X)
    → pick (eqb n k) o q ≡ accepted x
    → ((n ≡ k) × (o ≡ accepted x)) ⊎ ((n ≡ k → ⊥) × (q ≡ accepted x))
chosen {X} {x} n k o q = go (eqb n k) refl
  where
    go : (b : Bool) → eqb n k ≡ b → pick b o q ≡ accepted x → ((n ≡ k) × (o ≡ accepted x)) ⊎ ((n ≡ k → ⊥) × (q ≡ accepted x))
    go true h e = inl (eqb-true n k h, e)
    go false h e = inr (eqb-false n k h, e)
