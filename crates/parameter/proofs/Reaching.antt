-- How far a walk has come: from a position, at another, with what is left of the definition.
use Prim.Native.Nat.{ℕ, suc, ◌+◌, ◌-◌, ◌*◌, ◌≤◌, ◌<◌}
use mathlib.Core.Path.{◌≡◌, refl, sym, ap, ◌∙◌}
use mathlib.Core.Bool.{Bool, true, false}
use mathlib.Core.Logic.{⊎_elim}
use mathlib.Core.List.{List, [], ◌∷◌, ◌++◌, append_assoc, append-nil}
use native.Mathlib.Omega.{arith}
use borrow.Author.Tests.{leb-true, ltb-false}
use lib.Dec.{leb, ltb}
use lib.ListN.{length, length-append}
use Rattle.bcd.specs.Outcome.{Outcome, accepted, refused, pick, after, mapped, bounded, most}
use Rattle.bcd.proofs.Outcomes.{never, mapped_inv, demand_inv, le_or_lt, bounded-within, bounded_beyond}
use Rattle.parameter.specs.declared.Place.{Place}
use Rattle.parameter.specs.Parameter.{two_at}
use Rattle.parameter.specs.Walk.{Walked, ended, found, headed, onward, step_at, steps, places}
use Rattle.parameter.proofs.Walking.{Found, step_inv}
use Rattle.parameter.proofs.Structure.{places-steps}

pub record Reached (xs : List ℕ) (from at : ℕ) : Type 0 where
  pub done : List Place
  pub left : places xs from ≡ mapped (λ qs. done ++ qs) (places xs at)

pub nothing-done : (o : Outcome (List Place)) → o ≡ mapped (λ qs. [] ++ qs) o
nothing-done (accepted qs) = refl
nothing-done (refused n vs) = refl

pub one_more :
    (done : List Place) (p : Place) (o : Outcome (List Place))
    → mapped (λ qs. done ++ qs) (mapped (λ ps. p ∷ ps) o) ≡ mapped (λ qs. (done ++ (p ∷ [])) ++ qs) o
one_more done p (accepted qs) = ap accepted (sym (append_assoc done (p ∷ []) qs))
one_more done p (refused n vs) = refl

abbrev pub reached_start : (xs : List ℕ) (from : ℕ) → Reached xs from from
reached_start xs from = record { done = []; left = nothing-done (places xs from) }

-- One turn of the definition.
pub places_turn : (xs : List ℕ) (at : ℕ) (w : Outcome Walked) → step_at xs at ≡ w → places xs at ≡ after w (onward (places xs))
unfolding places steps
places_turn xs at w e =
    places-steps (suc (length xs)) xs at (omega arith) ∙ ap (λ (w : Outcome Walked). after w (onward (steps (length xs) xs))) e

-- What a step of the code tells: there are no more octets than the bound, and it is the definition's.
module _ (xs : List ℕ) (at : ℕ) {w : Walked} (e : accepted w ≡ bounded xs (step_at xs at)) where
  pub walk_within : length xs ≤ most
  walk_within = leb-true (length xs) most (demand_inv (leb (length xs) most) _ _ (step_at xs at) (sym e)).0

  pub walk_step : step_at xs at ≡ accepted w
  walk_step = (demand_inv (leb (length xs) most) _ _ (step_at xs at) (sym e)).1

-- What refuses has octets.
pub walk_some : (xs : List ℕ) (at n : ℕ) (vs : List ℕ) → refused n vs ≡ bounded xs (step_at xs at) → 0 < length xs
unfolding step_at
walk_some xs at n vs e = ⊎_elim (λ h. some (ltb (length xs - at) 4) refl (e ∙ bounded-within xs (step_at xs at) h)) (λ h. omega arith) (le_or_lt (length xs) most)
  where
    some :
        (t : Bool)
        → ltb (length xs - at) 4 ≡ t
        → refused n vs ≡ pick t (accepted ended) (headed (two_at xs at) (two_at xs (at + 2)) at (length xs - at))
        → 0 < length xs
    some true t e = absurd (never e)
    some false t e = let h = ltb-false (length xs - at) 4 t in omega arith

module _ (xs : List ℕ) (at : ℕ) {p : Place} {next : ℕ} (e : accepted (found p next) ≡ bounded xs (step_at xs at)) where
  pub walk_found : Found xs at p next
  walk_found = step_inv xs at (walk_step xs at e)

  -- Fewer octets are left.
  pub walk_fewer : length xs - next < length xs - at
  walk_fewer = let f = walk_found in omega (arith, f.least, f.within, f.forward)

module _ {xs : List ℕ} {from at : ℕ} (r : Reached xs from at) where
  abbrev pub reached_next : (p : Place) (next : ℕ) → step_at xs at ≡ accepted (found p next) → Reached xs from next
  reached_next p next e = record {
    done = r.done ++ (p ∷ []);
    left = r.left ∙ ap (mapped (λ qs. r.done ++ qs)) (places_turn xs at _ e) ∙ one_more r.done p (places xs next);
  }

  pub reached_end : step_at xs at ≡ accepted ended → places xs from ≡ accepted r.done
  reached_end e = r.left ∙ ap (mapped (λ qs. r.done ++ qs)) (places_turn xs at _ e) ∙ ap accepted (append-nil r.done)

  pub reached_refused : (n : ℕ) (vs : List ℕ) → step_at xs at ≡ refused n vs → places xs from ≡ refused n vs
  reached_refused n vs e = r.left ∙ ap (mapped (λ qs. r.done ++ qs)) (places_turn xs at _ e)

  -- One parameter more, the end, or a refusal, as a step of the code answers.
  abbrev pub walk_more : (p : Place) (next : ℕ) → accepted (found p next) ≡ bounded xs (step_at xs at) → Reached xs from next
  walk_more p next e = reached_next p next (walk_step xs at e)

  pub walk_end : accepted ended ≡ bounded xs (step_at xs at) → bounded xs (places xs from) ≡ accepted r.done
  walk_end e = bounded-within xs (places xs from) (walk_within xs at e) ∙ reached_end (walk_step xs at e)

  pub walk_refused : (n : ℕ) (vs : List ℕ) → refused n vs ≡ bounded xs (step_at xs at) → bounded xs (places xs from) ≡ refused n vs
  walk_refused n vs e =
      ⊎_elim
      (λ h. bounded-within xs (places xs from) h ∙ reached_refused n vs (sym (e ∙ bounded-within xs (step_at xs at) h)))
      (λ h.
      let twelve = e ∙ bounded_beyond xs (step_at xs at) h in
      let a : n ≡ 12 = cc in
      let b : vs ≡ length xs ∷ [] = cc in
      bounded_beyond xs (places xs from) h ∙ rw (a, b) refl)
      (le_or_lt (length xs) most)

-- Where parameters were counted, the octets are within the bound.
pub counted-within : (xs : List ℕ) (from n : ℕ) → accepted n ≡ mapped length (bounded xs (places xs from)) → length xs ≤ most
counted-within xs from n e =
    ⊎_elim (λ h. h) (λ h. absurd (never (sym (e ∙ ap (mapped length) (bounded_beyond xs (places xs from) h))))) (le_or_lt (length xs) most)

pub counted-places : (xs : List ℕ) (from n : ℕ) → accepted n ≡ mapped length (bounded xs (places xs from)) → accepted n ≡ mapped length (places xs from)
counted-places xs from n e = e ∙ ap (mapped length) (bounded-within xs (places xs from) (counted-within xs from n e))

-- A walk by the iterator, past n parameters.
pub record Passed (xs : List ℕ) (from n : ℕ) (left : List ℕ) (at : ℕ) : Type 0 where
  pub same : left ≡ xs
  pub reached : Reached xs from at
  pub counted : n ≡ length reached.done
  pub few : 4 * n ≤ at

abbrev pub passed_none : (xs : List ℕ) (from : ℕ) {left : List ℕ} (at : ℕ) → left ≡ xs → at ≡ from → Passed xs from 0 left at
passed_none xs from at same e = record {
  same = same;
  reached = record { done = []; left = ap (places xs) (sym e) ∙ nothing-done (places xs at) };
  counted = refl;
  few = omega arith;
}

module _ {xs left : List ℕ} {from n at : ℕ} (w : Passed xs from n left at) where
  pub passed_small : {p : Place} {next : ℕ} → accepted (found p next) ≡ bounded left (step_at left at) → n < most
  passed_small e =
      let step = rw (w.same) at e in
      let f = walk_found xs at step in
      omega (arith, w.few, f.least, f.within, walk_within xs at step)

  abbrev pub passed_next :
      {later : List ℕ} (p : Place) (next : ℕ)
      → later ≡ left
      → accepted (found p next) ≡ bounded left (step_at left at)
      → Passed xs from (n + 1) later next
  passed_next p next same e =
      let step : accepted (found p next) ≡ bounded xs (step_at xs at) = rw (w.same) at e in
      record {
        same = same ∙ w.same;
        reached = walk_more w.reached p next step;
        counted = rw length-append (omega (arith, w.counted));
        few = omega (arith, w.few, (walk_found xs at step).forward);
      }

  pub passed_end : accepted ended ≡ bounded left (step_at left at) → bounded xs (places xs from) ≡ accepted w.reached.done
  passed_end e = walk_end w.reached (rw (w.same) at e)

  pub passed_refused : (m : ℕ) (vs : List ℕ) → refused m vs ≡ bounded left (step_at left at) → bounded xs (places xs from) ≡ refused m vs
  passed_refused m vs e = walk_refused w.reached m vs (rw (w.same) at e)

  -- Where parameters were counted, no more come than were counted.
  pub passed_room :
      (count : ℕ) {later : List ℕ} (p : Place) (next : ℕ)
      → accepted count ≡ mapped length (bounded xs (places xs from))
      → later ≡ left
      → accepted (found p next) ≡ bounded left (step_at left at)
      → n < count
  passed_room count p next known same e =
      let w' = passed_next p next same e in
      let all = counted-places xs from count known ∙ ap (mapped length) w'.reached.left in
      let (qs, front, l) = mapped_inv length (mapped (λ qs. w'.reached.done ++ qs) (places xs next)) (sym all) in
      let (rest, behind, j) = mapped_inv (λ qs. w'.reached.done ++ qs) (places xs next) front in
      let sum : length w'.reached.done + length rest ≡ length qs = sym (length-append w'.reached.done rest) ∙ ap length j in
      omega (arith, w'.counted, sum, l)
