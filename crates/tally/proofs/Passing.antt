-- How one pass over the members finds the longest one that digits begin with.
use Prim.Native.Nat.{ℕ, suc, ◌+◌, ◌≤◌, ◌<◌}
use mathlib.Core.Path.{◌≡◌, refl, sym, ap, ◌∙◌}
use mathlib.Core.Bool.{Bool, true, false}
use mathlib.Core.Logic.{⊎_elim}
use mathlib.Core.List.{List, [], ◌∷◌, map}
use native.Mathlib.Omega.{arith}
use borrow.Author.Tests.{leb-true, le-leb, lt-ltb, le-ltb}
use lib.Dec.{leb, ltb}
use lib.ListN.{length, take}
use Rattle.bcd.specs.Outcome.{pick}
use Rattle.bcd.proofs.Outcomes.{le_or_lt}
use Rattle.bcd.proofs.Below.{both}
use Rattle.tally.specs.Members.{between, every, begins, same, reach, place_of, longest}
use Rattle.tally.proofs.Lists.{between_inv}
use Rattle.tally.proofs.Beginning.{begins-take, same_self, same_other, fit, fit_all, fit-most, fit_same, reach_inside}

-- The place where a pass ends that has come to place i, with the length `best` found at `row`.
unfoldable pub ended : (best row i : ℕ) → List (List ℕ) → List ℕ → ℕ
ended best row i ps ds = pick (ltb best (reach ps ds)) (i + place_of (take (reach ps ds) ds) ps) row

ended_more : (best row i : ℕ) (ps : List (List ℕ)) (ds : List ℕ) → best < reach ps ds → ended best row i ps ds ≡ i + place_of (take (reach ps ds) ds) ps
unfolding ended
ended_more best row i ps ds h = rw (lt-ltb best (reach ps ds) h)

ended_here : (best row i : ℕ) (ps : List (List ℕ)) (ds : List ℕ) → reach ps ds ≤ best → ended best row i ps ds ≡ row
unfolding ended
ended_here best row i ps ds h = rw (le-ltb best (reach ps ds) h)

pub ended_none : (best row i : ℕ) (ds : List ℕ) → ended best row i [] ds ≡ row
ended_none best row i ds = ended_here best row i [] ds (omega arith)

-- the place of the first r digits, that the first member is, and that it is not
place-first : (p ds : List ℕ) (ps : List (List ℕ)) → begins p ds ≡ true → place_of (take (length p) ds) (p ∷ ps) ≡ 0
place-first p ds ps e = rw (begins-take p ds e, same_self p)

place-later : (p ds : List ℕ) (ps : List (List ℕ)) (r : ℕ) → r ≤ length ds → fit p ds < r → place_of (take r ds) (p ∷ ps) ≡ suc (place_of (take r ds) ps)
place-later p ds ps r h l = go (same (take r ds) p) refl
  where
    go : (b : Bool) → same (take r ds) p ≡ b → pick b 0 (suc (place_of (take r ds) ps)) ≡ suc (place_of (take r ds) ps)
    go true e = absurd (omega (arith, fit_same p ds r h e))
    go false e = refl

module _ (best row i : ℕ) (p : List ℕ) (ps : List (List ℕ)) (ds : List ℕ) where
  later : fit p ds < reach ps ds → best < reach ps ds → ended best row i (p ∷ ps) ds ≡ i + 1 + place_of (take (reach ps ds) ds) ps
  later h l =
      let m : reach (p ∷ ps) ds ≡ reach ps ds = omega arith in
      ended_more best row i (p ∷ ps) ds (omega arith)
      ∙ ap (λ r. i + place_of (take r ds) (p ∷ ps)) m
      ∙ ap (λ k. i + k) (place-later p ds ps (reach ps ds) (reach_inside ps ds) h)
      ∙ omega arith

  -- a member that is longer than what was found, and one that is not or that the digits do not begin with
  pub ended_better : begins p ds ≡ true → best < length p → ended best row i (p ∷ ps) ds ≡ ended (length p) i (i + 1) ps ds
  ended_better b l =
      let f = fit_all p ds b in
      ⊎_elim
      (λ h.
      let m : reach (p ∷ ps) ds ≡ length p = omega arith in
      ended_more best row i (p ∷ ps) ds (omega arith)
      ∙ ap (λ r. i + place_of (take r ds) (p ∷ ps)) m
      ∙ ap (λ k. i + k) (place-first p ds ps b)
      ∙ omega (arith, ended_here (length p) i (i + 1) ps ds h))
      (λ h. later (omega arith) (omega arith) ∙ sym (ended_more (length p) i (i + 1) ps ds h))
      (le_or_lt (reach ps ds) (length p))

  pub ended_other : (begins p ds ≡ true → length p ≤ best) → ended best row i (p ∷ ps) ds ≡ ended best row (i + 1) ps ds
  ended_other o =
      let f = fit-most p ds best o in
      ⊎_elim
      (λ h. ended_here best row i (p ∷ ps) ds (omega arith) ∙ sym (ended_here best row (i + 1) ps ds h))
      (λ h. later (omega arith) h ∙ sym (ended_more best row (i + 1) ps ds h))
      (le_or_lt (reach ps ds) best)

-- A pass starts with nothing found, and the number of members for the row.
pub place_none : (ps : List (List ℕ)) → every (λ p. leb 1 (length p)) ps ≡ true → place_of [] ps ≡ length ps
place_none [] e = refl
place_none (p ∷ ps) e =
    let (l, r) = both (leb 1 (length p)) (every (λ p. leb 1 (length p)) ps) e in
    rw (same_other [] p (λ n. omega (arith, leb-true 1 (length p) l))) (ap suc (place_none ps r))

pub ended-all : (ps : List (List ℕ)) (ds : List ℕ) → every (λ p. leb 1 (length p)) ps ≡ true → ended 0 (length ps) 0 ps ds ≡ longest ps ds
unfolding longest
ended-all ps ds e =
    ⊎_elim
    (λ h.
    let z : reach ps ds ≡ 0 = omega arith in
    ended_here 0 (length ps) 0 ps ds h ∙ sym (place_none ps e) ∙ ap (λ r. place_of (take r ds) ps) (sym z))
    (λ h. ended_more 0 (length ps) 0 ps ds h ∙ omega arith)
    (le_or_lt (reach ps ds) 0)

-- Lengths of 1 to 15 are of members that are not empty.
pub none_empty : (ps : List (List ℕ)) → every (between 1 15) (map length ps) ≡ true → every (λ p. leb 1 (length p)) ps ≡ true
none_empty [] e = refl
none_empty (p ∷ ps) e =
    let (l, r) = both (between 1 15 (length p)) (every (between 1 15) (map length ps)) e in
    rw (le-leb 1 (length p) (between_inv 1 15 (length p) l).0) (none_empty ps r)
