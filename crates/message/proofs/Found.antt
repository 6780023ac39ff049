-- Which types a pair finds among a protocol's, and how many pairs are known.
use Prim.Native.Nat.{ℕ, zero, suc, ◌+◌, ◌≤◌}
use mathlib.Core.Path.{◌≡◌, refl, sym, ap, ap₂, ◌∙◌}
use mathlib.Core.Bool.{Bool, true, false, ◌&&◌}
use mathlib.Core.Logic.{⊎_elim}
use mathlib.Core.List.{List, [], ◌∷◌}
use native.Mathlib.Omega.{arith}
use native.Mathlib.Nat.{zero-add}
use lib.Dec.{leb, eqb, lit≤}
use borrow.Author.Tests.{eqb-true, leb-true}
use Rattle.bcd.specs.Outcome.{Outcome, accepted, refused, pick, every}
use Rattle.bcd.proofs.Outcomes.{accepted_inj, never, le_or_lt}
use Rattle.bcd.proofs.Below.{both}
use Rattle.message.specs.Kinds.{Kinds, first, kind_of, known, sum_below, known_in}

-- What was found in a list passes the test.
first_passes : {A : Type 0} (test : A → Bool) (xs : List A) (n : ℕ) (vs : List ℕ) (x : A) → first test xs (refused n vs) ≡ accepted x → test x ≡ true
first_passes test [] n vs x e = absurd (never e)
first_passes {A} test (y ∷ ys) n vs x e = on (test y) refl e (λ d. first_passes test ys n vs x d)
  where
    on :
        (t : Bool)
        → test y ≡ t
        → pick t (accepted y) (first test ys (refused n vs)) ≡ accepted x
        → (first test ys (refused n vs) ≡ accepted x → test x ≡ true)
        → test x ≡ true
    on true h e ih = ap test (sym (accepted_inj e)) ∙ h
    on false h e ih = ih e

-- What was found in a list is one of it.
first-among :
    {A : Type 0} (test f : A → Bool) (xs : List A) (n : ℕ) (vs : List ℕ) (x : A)
    → first test xs (refused n vs) ≡ accepted x
    → every f xs ≡ true
    → f x ≡ true
first-among test f [] n vs x e h = absurd (never e)
first-among {A} test f (y ∷ ys) n vs x e h =
    let (here, others) = both (f y) (every f ys) h in
    on (test y) e here (λ d. first-among test f ys n vs x d others)
  where
    on :
        (t : Bool)
        → pick t (accepted y) (first test ys (refused n vs)) ≡ accepted x
        → f y ≡ true
        → (first test ys (refused n vs) ≡ accepted x → f x ≡ true)
        → f x ≡ true
    on true e here ih = ap f (sym (accepted_inj e)) ∙ here
    on false e here ih = ih e

off : (t : Bool) → (t ≡ true → ⊥) → t ≡ false
off true h = absurd (h refl)
off false h = refl

-- Nothing is found where a property of all rules the test out.
first_none :
    {A : Type 0} (test f : A → Bool) (xs : List A) (other : Outcome A)
    → ((x : A) → f x ≡ true → test x ≡ true → ⊥)
    → every f xs ≡ true
    → first test xs other ≡ other
first_none test f [] other out e = refl
first_none test f (x ∷ xs) other out e =
    let (here, others) = both (f x) (every f xs) e in
    rw (off (test x) (out x here)) (first_none test f xs other out others)

sum_same : (n : ℕ) (f g : ℕ → ℕ) → ((i : ℕ) → f i ≡ g i) → sum_below n f ≡ sum_below n g
sum_same zero f g e = refl
sum_same (suc n) f g e = ap₂ ◌+◌ (e n) (sum_same n f g e)

sum_cut : (n m : ℕ) (f : ℕ → ℕ) → m ≤ n → ((i : ℕ) → m ≤ i → f i ≡ 0) → sum_below n f ≡ sum_below m f
sum_cut zero m f h e = let same : m ≡ 0 = omega arith in rw same
sum_cut (suc n) m f h e =
    ⊎_elim (λ l. rw (e n l, zero-add) (sum_cut n m f l e)) (λ l. let same : m ≡ suc n = omega arith in rw same) (le_or_lt m n)

module _ {K : Type 0} (T : Kinds K) where
  -- A type that was found by a pair has that pair.
  pub kind_pair : (c t : ℕ) (k : K) → kind_of T c t ≡ accepted k → (c ≡ (T.pair_of k).0) × (t ≡ (T.pair_of k).1)
  unfolding kind_of
  kind_pair c t k e =
      let (hc, ht) = both (eqb c (T.pair_of k).0) _ (first_passes (λ k. eqb c (T.pair_of k).0 && eqb t (T.pair_of k).1) T.all _ _ k e) in
      (eqb-true c (T.pair_of k).0 hc, eqb-true t (T.pair_of k).1 ht)

  -- A type that was found passes a test that all types pass.
  pub kind_passes : (c t : ℕ) (k : K) (f : K → Bool) → kind_of T c t ≡ accepted k → every f T.all ≡ true → f k ≡ true
  unfolding kind_of
  kind_passes c t k f e h = first-among (λ k. eqb c (T.pair_of k).0 && eqb t (T.pair_of k).1) f T.all _ _ k e h

  -- A pair that no type has is refused, by a property of all types.
  unknown_pair :
      (c t : ℕ) (f : K → Bool)
      → ((k : K) → f k ≡ true → c ≡ (T.pair_of k).0 → t ≡ (T.pair_of k).1 → ⊥)
      → every f T.all ≡ true
      → kind_of T c t ≡ refused 4 (c ∷ t ∷ [])
  unfolding kind_of
  unknown_pair c t f out e =
      first_none (λ k. eqb c (T.pair_of k).0 && eqb t (T.pair_of k).1) f T.all (refused 4 (c ∷ t ∷ []))
      (λ k h i. let (hc, ht) = both (eqb c (T.pair_of k).0) _ i in out k h (eqb-true c (T.pair_of k).0 hc) (eqb-true t (T.pair_of k).1 ht)) e

  -- Where no class is above 9 and no type above 11, the pairs of octets are counted below these.
  module _ (classes : every (λ k. leb (T.pair_of k).0 9) T.all ≡ true) (types : every (λ k. leb (T.pair_of k).1 11) T.all ≡ true) where
    high_class : (c t : ℕ) → 10 ≤ c → known (kind_of T c t) ≡ 0
    high_class c t h = rw (unknown_pair c t (λ k. leb (T.pair_of k).0 9) (λ k i ec et. omega (arith, leb-true (T.pair_of k).0 9 i)) classes)

    high_type : (c t : ℕ) → 12 ≤ t → known (kind_of T c t) ≡ 0
    high_type c t h = rw (unknown_pair c t (λ k. leb (T.pair_of k).1 11) (λ k i ec et. omega (arith, leb-true (T.pair_of k).1 11 i)) types)

    pub known_few : known_in T 256 256 ≡ known_in T 10 12
    known_few =
        sum_cut 256 10 (λ c. sum_below 256 (λ t. known (kind_of T c t))) (lit≤ tt)
        (λ c h. sum_cut 256 0 (λ t. known (kind_of T c t)) (omega arith) (λ t _. high_class c t h))
        ∙ sum_same 10 _ _ (λ c. sum_cut 256 12 (λ t. known (kind_of T c t)) (lit≤ tt) (λ t h. high_type c t h))
