-- A step of the walk, case by case; what it tells where it finds a parameter; and what the whole walk tells.
use Prim.Native.Nat.{ℕ, zero, suc, ◌+◌, ◌-◌, ◌*◌, ◌/◌, ◌≤◌, ◌<◌}
use mathlib.Core.Path.{◌≡◌, ap, subst}
use mathlib.Core.Bool.{Bool, true, false}
use mathlib.Core.List.{List, [], ◌∷◌}
use native.Mathlib.Omega.{arith}
use borrow.Author.Tests.{le-leb, lt-leb, lt-ltb, le-ltb, leb-true}
use lib.Dec.{leb, ltb}
use lib.ListN.{length, get_or}
use Rattle.bcd.specs.Outcome.{Outcome, accepted, refused, pick, All}
use Rattle.bcd.proofs.Outcomes.{accepted_inj, after_inv, mapped_inv, demand_inv}
use Rattle.parameter.specs.declared.Place.{Place}
use Rattle.parameter.specs.Parameter.{padded_length, two_at}
use Rattle.parameter.specs.Walk.{Walked, ended, found, headed, step_at, onward, steps, places}

pub second_two : (xs : List ℕ) (at : ℕ) → get_or xs (at + 2) 0 * 256 + get_or xs (at + 3) 0 ≡ two_at xs (at + 2)
unfolding two_at
second_two xs at = let e : at + 3 ≡ at + 2 + 1 = omega arith in ap (λ i. get_or xs (at + 2) 0 * 256 + get_or xs i 0) e

module _ (xs : List ℕ) (at : ℕ) where
  pub step_end : length xs - at < 4 → step_at xs at ≡ accepted ended
  unfolding step_at
  step_end h = rw (lt-ltb (length xs - at) 4 h)

  module _ (tag len : ℕ) (h : 4 ≤ length xs - at) (t : tag ≡ two_at xs at) (l : len ≡ two_at xs (at + 2)) where
    pub step_headed : step_at xs at ≡ headed tag len at (length xs - at)
    unfolding step_at
    step_headed = rw (le-ltb (length xs - at) 4 h, t, l)

    pub step_invalid : len < 4 → step_at xs at ≡ refused 5 (tag ∷ len ∷ [])
    unfolding headed
    step_invalid s = rw (step_headed, lt-leb 4 len s)

    pub step_beyond : 4 ≤ len → length xs - at < len → step_at xs at ≡ refused 6 (tag ∷ len ∷ (length xs - at) ∷ [])
    unfolding headed
    step_beyond m s = rw (step_headed, le-leb 4 len m, lt-leb len (length xs - at) s)

    pub step_found :
        4 ≤ len
        → len ≤ length xs - at
        → step_at xs at ≡ accepted (found (record { tag = tag; start = at + 4; length = len - 4 }) (at + (len + 3) / 4 * 4))
    unfolding headed
    step_found m s =
        let e : 4 + (len - 4) + 3 ≡ len + 3 = omega arith in
        rw (step_headed, le-leb 4 len m, le-leb len (length xs - at) s, e)

-- What a step that finds a parameter tells: the place lies inside the octets, behind tag and length, and the next
-- position lies behind the padding.
pub record Found (xs : List ℕ) (at : ℕ) (p : Place) (next : ℕ) : Type 0 where
  pub tag : p.tag ≡ two_at xs at
  pub start : p.start ≡ at + 4
  pub size : p.length ≡ two_at xs (at + 2) - 4
  pub least : 4 ≤ two_at xs (at + 2)
  pub within : two_at xs (at + 2) ≤ length xs - at
  pub behind : next ≡ at + padded_length p.length
  pub inside : p.start + p.length ≤ length xs
  pub forward : at + 4 ≤ next

headed_inv :
    (tag len at left : ℕ) (p : Place) (next : ℕ)
    → headed tag len at left ≡ accepted (found p next)
    → (4 ≤ len) × (len ≤ left) × (p ≡ record { tag = tag; start = at + 4; length = len - 4 }) × (next ≡ at + padded_length (len - 4))
unfolding headed
headed_inv tag len at left p next e =
    let d = demand_inv (leb 4 len) _ _ _ e in
    let b = demand_inv (leb len left) _ _ _ d.1 in
    let j = accepted_inj b.1 in
    (leb-true _ _ d.0, leb-true _ _ b.0, cc, cc)

picked :
    (t : Bool) (o : Outcome Walked) {p : Place} {next : ℕ} → pick t (accepted ended) o ≡ accepted (found p next) → o ≡ accepted (found p next)
picked true o e = let z : ◌≡◌ {A = ℕ} 0 1 = cc in absurd (omega arith)
picked false o e = e

pub step_inv : {p : Place} {next : ℕ} (xs : List ℕ) (at : ℕ) → step_at xs at ≡ accepted (found p next) → Found xs at p next
unfolding step_at
step_inv {p} {next} xs at e =
    let (low, high, place, behind) = headed_inv _ _ at _ p next (picked (ltb (length xs - at) 4) _ e) in
    let tag : p.tag ≡ two_at xs at = ap (λ (q : Place). q.tag) place in
    let start : p.start ≡ at + 4 = ap (λ (q : Place). q.start) place in
    let size : p.length ≡ two_at xs (at + 2) - 4 = ap (λ (q : Place). q.length) place in
    record {
      tag = tag;
      start = start;
      size = size;
      least = low;
      within = high;
      behind = omega arith;
      inside = omega arith;
      forward = omega arith;
    }

-- Induction over a walk that was accepted.
module _ (xs : List ℕ) (P : (at : ℕ) → List Place → Type 0) (stop : (at : ℕ) → P at [])
    (step : (at next : ℕ) (p : Place) (ps : List Place) → Found xs at p next → P next ps → P at (p ∷ ps))
  where
    pub steps_induct : (n at : ℕ) (ps : List Place) → steps n xs at ≡ accepted ps → P at ps
    unfolding steps
    steps_induct zero at ps e = subst (P at) (accepted_inj e) (stop at)
    steps_induct (suc n) at ps e = let (w, hw, hn) = after_inv (step_at xs at) _ e in on w hw hn (λ next qs h. steps_induct n next qs h)
      where
        on :
            (w : Walked)
            → step_at xs at ≡ accepted w
            → onward (steps n xs) w ≡ accepted ps
            → ((next : ℕ) (qs : List Place) → steps n xs next ≡ accepted qs → P next qs)
            → P at ps
        on ended hw hn ih = subst (P at) (accepted_inj hn) (stop at)
        on (found p next) hw hn ih =
            let (qs, hq, j) = mapped_inv (λ ps. p ∷ ps) (steps n xs next) hn in
            subst (P at) j (step at next p qs (step_inv xs at hw) (ih next qs hq))

module _ (xs : List ℕ) (at : ℕ) (ps : List Place) (e : places xs at ≡ accepted ps) where
  pub places_inside : All (λ (p : Place). p.start + p.length ≤ length xs) ps
  unfolding places
  places_inside =
      steps_induct xs (λ at ps. All (λ (p : Place). p.start + p.length ≤ length xs) ps) (λ at. tt)
      (λ at next p ps f ih. (f.inside, ih)) (length xs) at ps e

  -- each parameter has four octets or more
  pub places_few : 4 * length ps ≤ length xs - at
  unfolding places
  places_few =
      steps_induct xs (λ at ps. 4 * length ps ≤ length xs - at) (λ at. omega arith)
      (λ at next p ps f ih. omega (arith, f.within, f.least, f.forward, ih)) (length xs) at ps e
