-- The walk by clauses on the octets, and that it is the walk from a position.
use Prim.Native.Nat.{ℕ, zero, suc, ◌+◌, ◌-◌, ◌*◌, ◌≤◌, ◌<◌}
use mathlib.Core.Path.{◌≡◌, refl, sym, ap, ◌∙◌}
use mathlib.Core.Bool.{Bool, true, false}
use mathlib.Core.List.{List, [], ◌∷◌, map}
use native.Mathlib.Omega.{arith}
use lib.Dec.{leb}
use lib.ListN.{length, take, drop, length-drop}
use lib.Seq.{get_or-drop, drop-drop}
use Rattle.bcd.specs.Outcome.{Outcome, accepted, refused, after, demand, mapped}
use Rattle.parameter.specs.declared.Place.{Place}
use Rattle.parameter.specs.Parameter.{Param, padded_length, two_at}
use Rattle.parameter.specs.Walk.{Walked, ended, found, headed, step_at, onward, steps, places, valued, parameters}
use Rattle.parameter.proofs.Walking.{step_end, step_headed, step_inv}

-- A run of parameters, at most so many.
unfoldable pub walk : ℕ → List ℕ → Outcome (List Param)
walk zero xs = accepted []
walk (suc n) [] = accepted []
walk (suc n) (a ∷ []) = accepted []
walk (suc n) (a ∷ b ∷ []) = accepted []
walk (suc n) (a ∷ b ∷ c ∷ []) = accepted []
walk (suc n) (a ∷ b ∷ c ∷ d ∷ rest) =
    let tag = a * 256 + b in
    let len = c * 256 + d in
    demand (leb 4 len) 5 (tag ∷ len ∷ [])
    (demand (leb len (4 + length rest)) 6 (tag ∷ len ∷ (4 + length rest) ∷ [])
    (mapped (λ ps. record { tag = tag; value = take (len - 4) rest } ∷ ps) (walk n (drop (padded_length (len - 4) - 4) rest))))

agree :
    (w : Outcome Walked) (k l : ℕ → Outcome (List Place))
    → ((p : Place) (next : ℕ) → w ≡ accepted (found p next) → k next ≡ l next)
    → after w (onward k) ≡ after w (onward l)
agree (accepted ended) k l e = refl
agree (accepted (found p next)) k l e = ap (mapped (λ ps. p ∷ ps)) (e p next refl)
agree (refused n vs) k l e = refl

-- Any two bounds that are enough for the octets left give the same.
pub steps_enough :
    (m n : ℕ) (xs : List ℕ) (at : ℕ) → length xs ≤ at + 4 * m → length xs ≤ at + 4 * n → steps m xs at ≡ steps n xs at
unfolding steps
steps_enough zero zero xs at h k = refl
steps_enough zero (suc n) xs at h k = rw (step_end xs at (omega arith))
steps_enough (suc m) zero xs at h k = rw (step_end xs at (omega arith))
steps_enough (suc m) (suc n) xs at h k =
    agree (step_at xs at) (steps m xs) (steps n xs)
    (λ p next e. let f = step_inv xs at e in steps_enough m n xs next (omega (arith, f.forward)) (omega (arith, f.forward)))

pub places-steps : (n : ℕ) (xs : List ℕ) (at : ℕ) → length xs ≤ at + 4 * n → places xs at ≡ steps n xs at
unfolding places
places-steps n xs at h = steps_enough (length xs) n xs at (omega arith) h

two-drop : (n i : ℕ) (xs : List ℕ) → two_at (drop n xs) i ≡ two_at xs (n + i)
unfolding two_at
two-drop n i xs =
    let e : n + (i + 1) ≡ n + i + 1 = omega arith in
    rw (get_or-drop n xs i 0, get_or-drop n xs (i + 1) 0, e)

in_front :
    {A B : Type 0} (f : A → B) (x : A) (y : B) (o : Outcome (List A)) (r : Outcome (List B))
    → f x ≡ y
    → mapped (map f) o ≡ r
    → mapped (map f) (mapped (λ xs. x ∷ xs) o) ≡ mapped (λ ys. y ∷ ys) r
in_front f x y (accepted xs) r e h = rw (← h, e)
in_front f x y (refused n vs) r e h = rw (← h)

-- One step and on, over the two tests of a step.
tested :
    (f : Place → Param) (k : ℕ → Outcome (List Place)) (r : Outcome (List Param)) (p : Place) (q : Param) (next : ℕ) (vs ws : List ℕ) (s t : Bool)
    → f p ≡ q
    → mapped (map f) (k next) ≡ r
    → mapped (map f) (after (demand s 5 vs (demand t 6 ws (accepted (found p next)))) (onward k))
    ≡ demand s 5 vs (demand t 6 ws (mapped (λ qs. q ∷ qs) r))
tested f k r p q next vs ws true true e h = in_front f p q (k next) r e h
tested f k r p q next vs ws true false e h = refl
tested f k r p q next vs ws false true e h = refl
tested f k r p q next vs ws false false e h = refl

-- What stands at a position, read from the octets left there.
module _ (xs : List ℕ) (at a b c d : ℕ) (rest : List ℕ) (e : drop at xs ≡ a ∷ b ∷ c ∷ d ∷ rest) where
  left_there : length xs - at ≡ 4 + length rest
  left_there = let l = ap length e in omega (arith, length-drop at xs)

  tag_there : a * 256 + b ≡ two_at xs at
  unfolding two_at
  tag_there =
      let z : at + 0 ≡ at = omega arith in
      ap (λ ys. two_at ys 0) (sym e) ∙ two-drop at 0 xs ∙ ap (two_at xs) z

  length-there : c * 256 + d ≡ two_at xs (at + 2)
  unfolding two_at
  length-there = ap (λ ys. two_at ys 2) (sym e) ∙ two-drop at 2 xs

  rest-there : (n : ℕ) → drop (at + (4 + n)) xs ≡ drop n rest
  rest-there n = sym (drop-drop (4 + n) at xs) ∙ ap (drop (4 + n)) e ∙ sym (drop-drop n 4 (a ∷ b ∷ c ∷ d ∷ rest))

  onward-there : (n : ℕ) → 4 ≤ n → drop (at + n) xs ≡ drop (n - 4) rest
  onward-there n h = let e : n ≡ 4 + (n - 4) = omega arith in ap (λ k. drop (at + k) xs) e ∙ rest-there (n - 4)

  headed-there : step_at xs at ≡ headed (a * 256 + b) (c * 256 + d) at (4 + length rest)
  headed-there =
      step_headed xs at (a * 256 + b) (c * 256 + d) (omega (arith, left_there)) tag_there length-there
      ∙ ap (headed (a * 256 + b) (c * 256 + d) at) left_there

-- As many steps give the same, from any position.
pub steps-walk : (n : ℕ) (xs : List ℕ) (at : ℕ) → mapped (map (valued xs)) (steps n xs at) ≡ walk n (drop at xs)
unfolding steps walk headed
steps-walk zero xs at = refl
steps-walk (suc n) xs at = on (drop at xs) refl (λ next. steps-walk n xs next)
  where
    short : (ys : List ℕ) → drop at xs ≡ ys → length ys < 4 → mapped (map (valued xs)) (steps (suc n) xs at) ≡ accepted []
    short ys e h = let l = ap length e in rw (step_end xs at (omega (arith, length-drop at xs)))

    on :
        (ys : List ℕ)
        → drop at xs ≡ ys
        → ((next : ℕ) → mapped (map (valued xs)) (steps n xs next) ≡ walk n (drop next xs))
        → mapped (map (valued xs)) (steps (suc n) xs at) ≡ walk (suc n) ys
    on [] e ih = short _ e (omega arith)
    on (a ∷ []) e ih = short _ e (omega arith)
    on (a ∷ b ∷ []) e ih = short _ e (omega arith)
    on (a ∷ b ∷ c ∷ []) e ih = short _ e (omega arith)
    on (a ∷ b ∷ c ∷ d ∷ rest) e ih =
        let behind = onward-there xs at a b c d rest e in
        let len = c * 256 + d in
        let next = at + padded_length (len - 4) in
        let value = ap {B = Param} (λ l. record { tag = a * 256 + b; value = take (len - 4) l }) (behind 4 (omega arith)) in
        let more = ih next ∙ ap (walk n) (behind (padded_length (len - 4)) (omega arith)) in
        rw (headed-there xs at a b c d rest e) (tested (valued xs) (steps n xs) _ _ _ next _ _ (leb 4 len) (leb len (4 + length rest)) value more)

-- The walk from a position is the walk of the octets left there, for any bound that is enough for them.
pub places-walk : (n : ℕ) (xs : List ℕ) (at : ℕ) → length xs ≤ at + 4 * n → mapped (map (valued xs)) (places xs at) ≡ walk n (drop at xs)
places-walk n xs at h = ap (mapped (map (valued xs))) (places-steps n xs at h) ∙ steps-walk n xs at

pub walk_enough : (n : ℕ) (xs : List ℕ) → length xs ≤ 4 * n → parameters xs ≡ walk n xs
unfolding parameters
walk_enough n xs h = places-walk n xs 0 (omega arith)

pub parameters-walk : (xs : List ℕ) → parameters xs ≡ walk (length xs) xs
parameters-walk xs = walk_enough (length xs) xs (omega arith)

pub places-parameters : (xs : List ℕ) (at : ℕ) → mapped (map (valued xs)) (places xs at) ≡ parameters (drop at xs)
places-parameters xs at =
    let l = length-drop at xs in
    places-walk (length xs) xs at (omega arith) ∙ sym (walk_enough (length xs) (drop at xs) (omega arith))
