-- One pass over the records: what it keeps for a tag is the first record with it.
use Prim.Native.Nat.{ℕ, suc, ◌≤◌, ◌<◌}
use mathlib.Core.Path.{◌≡◌, refl, sym, ap, ap₂, ◌∙◌}
use mathlib.Core.Bool.{Bool, true, false, ◌&&◌, and_assoc, and-false}
use Rattle.std.specs.Prelude.{Option, None, Some, option_map}
use mathlib.Core.List.{List, [], ◌∷◌, ◌++◌, map, append_assoc, append-nil}
use lib.Dec.{eqb}
use native.Mathlib.Omega.{arith}
use lib.ListN.{length, set, take}
use borrow.Author.Tests.{eqb-true}
use Rattle.bcd.specs.Outcome.{Outcome, accepted, refused, mapped, pick, every}
use Rattle.bcd.proofs.Outcomes.{never, mapped_inv}
use Rattle.parameter.specs.declared.Place.{Place}
use Rattle.parameter.specs.Parameter.{Param}
use Rattle.parameter.specs.Walk.{valued}
use Rattle.parameter.specs.Table.{Table, records, first_with}
use Rattle.parameter.proofs.Records.{inside, records_few, records-inside}
use Rattle.lookup.specs.Steps.Pass.{wanted, place_among, first_of}

-- One record more in front of the others: it is the first with its tag.
abbrev pub kept : Option ℕ → Place → List (Option Place) → List (Option Place)
kept None p firsts = firsts
kept (Some k) p firsts = set firsts k (Some p)

-- The first record with each tag.
abbrev pub firsts : List ℕ → List Place → List (Option Place)
firsts w ps = map (λ tag. first_with tag ps) w

-- No tag stands twice.
abbrev pub Different : List ℕ → Type 0
Different [] = Unit {0}
Different (t ∷ ts) = (place_among ts t ≡ None) × Different ts

pub wanted_different : Different wanted
wanted_different = (refl, (refl, (refl, (refl, (refl, (refl, (refl, tt)))))))

module _ (p : Place) (ps : List Place) where
  pub kept_more : (w : List ℕ) → Different w → firsts w (p ∷ ps) ≡ kept (place_among w p.tag) p (firsts w ps)
  kept_more [] d = refl
  kept_more (t ∷ ts) d = go (eqb p.tag t) refl (kept_more ts d.1)
    where
      behind : (o : Option ℕ) (x : Option Place) (xs ys : List (Option Place)) → xs ≡ kept o p ys → x ∷ xs ≡ kept (option_map (λ n. suc n) o) p (x ∷ ys)
      behind None x xs ys e = ap (λ l. x ∷ l) e
      behind (Some k) x xs ys e = ap (λ l. x ∷ l) e

      go :
          (b : Bool)
          → eqb p.tag t ≡ b
          → firsts ts (p ∷ ps) ≡ kept (place_among ts p.tag) p (firsts ts ps)
          → pick b (Some p) (first_with t ps) ∷ firsts ts (p ∷ ps)
          ≡ kept (pick b (Some 0) (option_map (λ n. suc n) (place_among ts p.tag))) p (first_with t ps ∷ firsts ts ps)
      go true e later =
          let absent : place_among ts p.tag ≡ None = rw (eqb-true p.tag t e) d.0 in
          ap (λ l. Some p ∷ l) (later ∙ ap (λ o. kept o p (firsts ts ps)) absent)
      go false e later = behind (place_among ts p.tag) (first_with t ps) _ _ later

every_joined : {A : Type 0} (test : A → Bool) (xs ys : List A) → every test (xs ++ ys) ≡ (every test xs && every test ys)
every_joined test [] ys = refl
every_joined test (x ∷ xs) ys = ap (λ b. test x && b) (every_joined test xs ys) ∙ sym (and_assoc (test x) (every test xs) (every test ys))

-- The pass has looked at the records behind those that are left.
pub record Passed (values : List ℕ) (rows left : List Place) (first : List (Option Place)) : Type 0 where
  pub done : List Place
  pub whole : left ++ done ≡ rows
  pub inside : every (inside values) done ≡ true
  pub kept : first ≡ firsts wanted done

pub pass_start : (values : List ℕ) (rows : List Place) → Passed values rows rows (firsts wanted [])
pass_start values rows = record { done = []; whole = append-nil rows; inside = refl; kept = refl }

pub pass_all : {values : List ℕ} {rows left : List Place} {first : List (Option Place)} (passed : Passed values rows left first) → length left ≡ 0 → passed.done ≡ rows
pass_all {left = []} passed h = passed.whole
pass_all {left = p ∷ ps} passed h = absurd (omega arith)

-- It looks at one record more.
module _ {values : List ℕ} {rows left : List Place} (next : List Place) {first : List (Option Place)} (passed : Passed values rows left first) (p : Place) (more : left ≡ next ++ (p ∷ [])) where
  still_whole : next ++ (p ∷ passed.done) ≡ rows
  still_whole = sym (append_assoc next (p ∷ []) passed.done) ∙ ap (λ l. l ++ passed.done) (sym more) ∙ passed.whole

  pub pass_next : (place : Option ℕ) → place ≡ place_among wanted p.tag → true ≡ inside values p → Passed values rows next (kept place p first)
  pass_next place e h = record {
    done = p ∷ passed.done;
    whole = still_whole;
    inside = rw (← h) passed.inside;
    kept = ap₂ (λ o f. kept o p f) e passed.kept ∙ sym (kept_more p passed.done wanted wanted_different);
  }

  pub pass_outside : false ≡ inside values p → every (inside values) rows ≡ false
  pass_outside h =
      ap (every (inside values)) (sym still_whole)
      ∙ every_joined (inside values) next (p ∷ passed.done)
      ∙ rw (← h) (and-false (every (inside values) next))

-- What the pass answers, of the first so many rows of a table: 15, or what it kept of all of them.
module _ (w : List ℕ) (values : List ℕ) (t : Table) (count : ℕ) where
  pass_refused : records values t count ≡ refused 15 [] → refused 15 [] ≡ first_of w values t count
  unfolding first_of
  pass_refused e = sym (ap (mapped (λ ps. firsts w (take count t))) e)

  pub answer_few : length t < count → refused 15 [] ≡ first_of w values t count
  answer_few h = pass_refused (records_few values t count h)

  told : (b : Bool) → count ≤ length t → every (inside values) (take count t) ≡ b → records values t count ≡ pick b (accepted (map (valued values) (take count t))) (refused 15 [])
  told b few e = records-inside values t count few ∙ ap (λ b. pick b (accepted (map (valued values) (take count t))) (refused 15 [])) e

  pub answer_outside : count ≤ length t → every (inside values) (take count t) ≡ false → refused 15 [] ≡ first_of w values t count
  answer_outside few e = pass_refused (told false few e)

  pub answer_all : count ≤ length t → every (inside values) (take count t) ≡ true → accepted (firsts w (take count t)) ≡ first_of w values t count
  unfolding first_of
  answer_all few e = sym (ap (mapped (λ ps. firsts w (take count t))) (told true few e))

  -- what the answer tells of the records
  pub first_refused : (n : ℕ) (vs : List ℕ) → refused n vs ≡ first_of w values t count → records values t count ≡ refused n vs
  unfolding first_of
  first_refused n vs e = go (records values t count) e
    where
      go : (o : Outcome (List Param)) → refused n vs ≡ mapped (λ ps. firsts w (take count t)) o → o ≡ refused n vs
      go (refused m ws) f = let a : m ≡ n = cc in let b : ws ≡ vs = cc in rw (a, b)
      go (accepted ps) f = absurd (never f)

  pub first_known : (first : List (Option Place)) → accepted first ≡ first_of w values t count → (ps : List Param) × (records values t count ≡ accepted ps) × (first ≡ firsts w (take count t))
  unfolding first_of
  first_known first e = let (ps, k, f) = mapped_inv _ (records values t count) (sym e) in (ps, k, sym f)
