-- The walk over the members: what is found among those that it has passed, by numbers.
use Prim.Native.Nat.{ℕ, ◌+◌, ◌≤◌, ◌<◌}
use mathlib.Core.Path.{◌≡◌, refl, sym, ap, ◌∙◌, subst}
use mathlib.Core.Bool.{true}
use mathlib.Core.Logic.{◌⊎◌, ⊎_elim}
use mathlib.Core.List.{List, [], ◌∷◌, map, head-eq_of_cons-eq, tail-eq_of_cons-eq, nil≢cons}
use native.Mathlib.Omega.{arith}
use lib.ListN.{length, get_or, take, length-take, length-map}
use Rattle.bcd.specs.Digits.{built_in}
use Rattle.bcd.proofs.Below.{both}
use Rattle.bcd.proofs.Outcomes.{le_or_lt}
use Rattle.tally.specs.Members.{between, every, begins, longest}
use Rattle.tally.specs.Steps.Codes.{code, values, codes}
use Rattle.tally.proofs.Codes.{Kept, kept_count}
use Rattle.tally.proofs.Telling.{Firsts, told-begins, begins-told}
use Rattle.tally.proofs.Passing.{ended, ended_none, ended_better, ended_other, ended-all, none_empty}

-- The members that are left, beside their lengths and numbers; a pass that has come to them with the length `best` found at
-- `row` ends where it should.
pub record Left (ps : List (List ℕ)) (hs : List ℕ) (best row i : ℕ) (ks ms : List ℕ) : Type 0 where
  pub rest : List (List ℕ)
  pub kept : Kept rest ks ms
  pub found : ended best row i rest (map built_in.char hs) ≡ longest ps (map built_in.char hs)

pub left_all :
    {ps : List (List ℕ)} {ks ms : List ℕ} (i : ℕ)
    → Kept ps ks ms
    → every (between 1 15) ks ≡ true
    → (hs : List ℕ)
    → i ≡ 0
    → Left ps hs 0 (length ks) i ks ms
left_all {ps} {ks} i k short hs z =
    let e = none_empty ps (subst (λ (l : List ℕ). every (between 1 15) l ≡ true) k.sizes short) in
    record {
      rest = ps;
      kept = k;
      found = rw z (ap (λ k. ended 0 k 0 ps (map built_in.char hs)) (kept_count k) ∙ ended-all ps (map built_in.char hs) e);
    }

-- The first of the members that are left, and the others.
record Next (rest : List (List ℕ)) (k m : ℕ) (ks ms : List ℕ) : Type 0 where
  first : List ℕ
  others : List (List ℕ)
  all : rest ≡ first ∷ others
  size : k ≡ length first
  number : m ≡ code (values first)
  decimal : every (between 0x30 0x39) first ≡ true
  kept : Kept others ks ms

next : (rest : List (List ℕ)) (k m : ℕ) (ks ms : List ℕ) → Kept rest (k ∷ ks) (m ∷ ms) → Next rest k m ks ms
next [] k m ks ms h = absurd (nil≢cons (sym h.sizes))
next (p ∷ rest) k m ks ms h =
    let d = both (every (between 0x30 0x39) p) (every (every (between 0x30 0x39)) rest) h.decimal in
    record {
      first = p;
      others = rest;
      all = refl;
      size = head-eq_of_cons-eq h.sizes;
      number = head-eq_of_cons-eq h.numbers;
      decimal = d.0;
      kept = record { sizes = tail-eq_of_cons-eq h.sizes; numbers = tail-eq_of_cons-eq h.numbers; decimal = d.1 };
    }

none_left : (rest : List (List ℕ)) (ks ms : List ℕ) → Kept rest ks ms → (length ks ≡ 0) ⊎ (length ms ≡ 0) → rest ≡ []
none_left [] ks ms h z = refl
none_left (p ∷ rest) ks ms h z =
    let size = kept_count h in
    let number : length (take (length (p ∷ rest)) ms) ≡ length (codes (p ∷ rest)) = ap length h.numbers in
    ⊎_elim (λ e. absurd (omega arith))
    (λ e. absurd (omega (arith, number, length-take (length (p ∷ rest)) ms, length-map (p ∷ rest) (λ p. code (values p)))))
    z

module _ {ps : List (List ℕ)} {first hs ks ms : List ℕ} {n best row i : ℕ} (f : Firsts first n hs) (w : Left ps hs best row i ks ms) where
  module _ {k m j : ℕ} {more others : List ℕ} (e : ks ≡ k ∷ more) (g : ms ≡ m ∷ others) (s : j ≡ i + 1) where
    abbrev here : Next w.rest k m more others
    here = next w.rest k m more others (rw (e, g) at w.kept)

    pub left_better : best < k → k ≤ n → get_or first k 0 ≡ m → Left ps hs k i j more others
    left_better better short same =
        let h = here in
        let ds = map built_in.char hs in
        let b : begins h.first ds ≡ true = told-begins f h.first h.decimal (omega (arith, h.size)) (ap (λ k. get_or first k 0) (sym h.size) ∙ same ∙ h.number) in
        record {
          rest = h.others;
          kept = h.kept;
          found = rw s
              (ap (λ k. ended k i (i + 1) h.others ds) h.size ∙ sym (ended_better best row i h.first h.others ds b (omega (arith, h.size))) ∙ ap (λ l. ended best row i l ds) (sym h.all) ∙ w.found);
        }

    pub left_other : (best < k → k ≤ n → get_or first k 0 ≡ m → ⊥) → Left ps hs best row j more others
    left_other other =
        let h = here in
        let ds = map built_in.char hs in
        let small : begins h.first ds ≡ true → length h.first ≤ best = λ b.
        let (short, same) = begins-told f h.first h.decimal b in
        ⊎_elim (λ l. l)
        (λ l. absurd (other (omega (arith, h.size)) (omega (arith, h.size)) (ap (λ k. get_or first k 0) h.size ∙ same ∙ sym h.number)))
        (le_or_lt (length h.first) best) in
        record {
          rest = h.others;
          kept = h.kept;
          found = rw s (sym (ended_other best row i h.first h.others ds small) ∙ ap (λ l. ended best row i l ds) (sym h.all) ∙ w.found);
        }

  pub left_none : (length ks ≡ 0) ⊎ (length ms ≡ 0) → row ≡ longest ps (map built_in.char hs)
  left_none z =
      let ds = map built_in.char hs in
      sym (ended_none best row i ds) ∙ ap (λ l. ended best row i l ds) (sym (none_left w.rest ks ms w.kept z)) ∙ w.found
