-- A flat list, record by record.
use Prim.Native.Nat.{ℕ, zero, suc, ◌+◌, ◌-◌, ◌≤◌, ◌<◌}
use mathlib.Core.Path.{◌≡◌, refl, sym, ap, ◌∙◌}
use mathlib.Core.Bool.{Bool, true, false}
use mathlib.Core.List.{List, [], ◌∷◌, ◌++◌, map, append-nil}
use native.Mathlib.Omega.{arith}
use lib.Dec.{leb}
use lib.ListN.{length}
use borrow.Author.Tests.{le-leb, leb-true, leb-false}
use Rattle.bcd.specs.Outcome.{Outcome, accepted, refused, pick, after, mapped}
use Rattle.bcd.proofs.Outcomes.{accepted_inj, never, demand_inv}
use Rattle.parameter.specs.declared.Place.{Place}
use Rattle.parameter.specs.Walk.{Walked, ended, found, onward, valued}
use Rattle.parameter.proofs.Reaching.{nothing-done, one_more}
use Rattle.flat.specs.Flat.{four_at, flat_step, flat_steps, flat_list}

picked :
    (t : Bool) (o : Outcome Walked) {p : Place} {next : ℕ} → accepted (found p next) ≡ pick t (accepted ended) o → o ≡ accepted (found p next)
picked true o e = let z : ◌≡◌ {A = ℕ} 0 1 = cc in absurd (omega arith)
picked false o e = sym e

-- A record that is found lies inside the list, and the next one behind it.
pub record Inside (xs : List ℕ) (at : ℕ) (p : Place) (next : ℕ) : Type 0 where
  pub ends : p.start + p.length ≡ next
  pub within : next ≤ length xs
  pub forward : at < next

pub flat_inside : {p : Place} {next : ℕ} (xs : List ℕ) (at : ℕ) → accepted (found p next) ≡ flat_step xs at → Inside xs at p next
unfolding flat_step
flat_inside {p} {next} xs at e =
    let a = demand_inv (leb (at + 6) (length xs)) _ _ _ (picked (leb (length xs) at) _ e) in
    let b = demand_inv (leb (at + 6 + four_at xs (at + 2)) (length xs)) _ _ _ a.1 in
    let w = accepted_inj b.1 in
    let s : at + 6 ≡ p.start = cc in
    let l : four_at xs (at + 2) ≡ p.length = cc in
    let n : at + 6 + four_at xs (at + 2) ≡ next = cc in
    let h = leb-true (at + 6 + four_at xs (at + 2)) (length xs) b.0 in
    record { ends = omega arith; within = omega arith; forward = omega arith }

-- What is found, and what refuses, has octets.
module _ (xs : List ℕ) (at : ℕ) where
  flat_out : length xs ≤ at → flat_step xs at ≡ accepted ended
  unfolding flat_step
  flat_out h = rw (le-leb (length xs) at h)

  pub flat_some : (n : ℕ) (vs : List ℕ) → refused n vs ≡ flat_step xs at → at < length xs
  flat_some n vs e = some (leb (length xs) at) refl
    where
      some : (t : Bool) → leb (length xs) at ≡ t → at < length xs
      some true t = absurd (never (e ∙ flat_out (leb-true (length xs) at t)))
      some false t = leb-false (length xs) at t

onward_same :
    (xs : List ℕ) (at : ℕ) (f g : ℕ → Outcome (List Place))
    → ((next : ℕ) → at < next → next ≤ length xs → f next ≡ g next)
    → (o : Outcome Walked)
    → o ≡ flat_step xs at
    → after o (onward f) ≡ after o (onward g)
onward_same xs at f g h (accepted ended) e = refl
onward_same xs at f g h (accepted (found p next)) e = let i = flat_inside xs at e in ap (mapped (λ ps. p ∷ ps)) (h next i.forward i.within)
onward_same xs at f g h (refused n vs) e = refl

-- As many steps as there are octets left suffice.
enough : (k j : ℕ) (xs : List ℕ) (at : ℕ) → length xs - at ≤ k → length xs - at ≤ j → flat_steps k xs at ≡ flat_steps j xs at
unfolding flat_steps
enough zero zero xs at h l = refl
enough zero (suc j) xs at h l = rw (flat_out xs at (omega arith))
enough (suc k) zero xs at h l = rw (flat_out xs at (omega arith))
enough (suc k) (suc j) xs at h l =
    onward_same xs at (flat_steps k xs) (flat_steps j xs)
    (λ next f w. enough k j xs next (omega (arith, f, w)) (omega (arith, f, w)))
    (flat_step xs at) refl

-- All records from a position on.
abbrev rest : List ℕ → (at : ℕ) → Outcome (List Place)
rest xs at = flat_steps (length xs) xs at

turn : (xs : List ℕ) (at : ℕ) {w : Outcome Walked} → w ≡ flat_step xs at → rest xs at ≡ after w (onward (rest xs))
unfolding flat_steps
turn xs at e =
    enough (length xs) (suc (length xs)) xs at (omega arith) (omega arith) ∙ ap (λ (w : Outcome Walked). after w (onward (rest xs))) (sym e)

-- How far a walk has come: at a position, with what is left of the definition.
pub record Walking (xs : List ℕ) (at : ℕ) : Type 0 where
  pub done : List Place
  pub left : flat_steps (length xs) xs 0 ≡ mapped (λ qs. done ++ qs) (flat_steps (length xs) xs at)

unfoldable pub walking_start : (xs : List ℕ) → Walking xs 0
walking_start xs = record { done = []; left = nothing-done (flat_steps (length xs) xs 0) }

module _ {xs : List ℕ} {at : ℕ} (r : Walking xs at) where
  -- what is left begins with the record that is found
  pub walking_found : (p : Place) (next : ℕ) → accepted (found p next) ≡ flat_step xs at → flat_steps (length xs) xs 0 ≡ mapped (λ qs. r.done ++ qs) (mapped (λ ps. p ∷ ps) (flat_steps (length xs) xs next))
  walking_found p next e = r.left ∙ ap (mapped (λ qs. r.done ++ qs)) (turn xs at e)

  abbrev pub walking_next : (p : Place) (next : ℕ) → accepted (found p next) ≡ flat_step xs at → Walking xs next
  walking_next p next e = record { done = r.done ++ (p ∷ []); left = walking_found p next e ∙ one_more r.done p (flat_steps (length xs) xs next) }

  pub walking_end : accepted ended ≡ flat_step xs at → flat_steps (length xs) xs 0 ≡ accepted r.done
  walking_end e = r.left ∙ ap (mapped (λ qs. r.done ++ qs)) (turn xs at e) ∙ ap accepted (append-nil r.done)

  pub walking_refused : (n : ℕ) (vs : List ℕ) → refused n vs ≡ flat_step xs at → flat_steps (length xs) xs 0 ≡ refused n vs
  walking_refused n vs e = r.left ∙ ap (mapped (λ qs. r.done ++ qs)) (turn xs at e)

-- the parameters of the list
pub flat_walked : (xs : List ℕ) (ps : List Place) → flat_steps (length xs) xs 0 ≡ accepted ps → flat_list xs ≡ accepted (map (valued xs) ps)
unfolding flat_list
flat_walked xs ps e = rw e

pub flat_refused : (xs : List ℕ) (n : ℕ) (vs : List ℕ) → flat_steps (length xs) xs 0 ≡ refused n vs → flat_list xs ≡ refused n vs
unfolding flat_list
flat_refused xs n vs e = rw e
