-- The place of the longest member: what stands there, and that no digit past the fifteenth decides.
use Prim.Native.Nat.{ℕ, zero, suc, ◌*◌, ◌≤◌, ◌<◌, max, min}
use mathlib.Core.Path.{◌≡◌, refl, sym, ap, ap₂, ◌∙◌, subst}
use mathlib.Core.Bool.{Bool, true, false}
use mathlib.Core.Logic.{◌⊎◌, inl, inr, ⊎_elim}
use mathlib.Core.List.{List, [], ◌∷◌, map}
use native.Mathlib.Omega.{arith}
use borrow.Author.Tests.{leb-true}
use lib.Dec.{leb}
use lib.ListN.{length, get_or, take, length-take}
use lib.Seq.{take_all, take-take, length-take-le}
use Rattle.bcd.specs.Outcome.{pick}
use Rattle.bcd.specs.Digits.{built_in, halves, digits_in}
use Rattle.bcd.proofs.Outcomes.{le_or_lt}
use Rattle.bcd.proofs.Reading.{digits-most}
use Rattle.bcd.proofs.Below.{both}
use Rattle.tally.specs.Members.{between, every, begins, same, reach, place_of, longest}
use Rattle.tally.specs.Facts.{LongestAt, NoneAt}
use Rattle.tally.proofs.Lists.{every_at, between_inv}
use Rattle.tally.proofs.Beginning.{begins-take, take_begins, begins-first, same_self, same_true, fit, fit_all, fit-most, reach_inside}
use Rattle.tally.proofs.Codes.{Kept}
use Rattle.tally.proofs.Passing.{place_none}
use Rattle.tally.proofs.Telling.{take-map}

-- No member that the digits begin with is longer than they reach, and one of them is as long.
reach-most : (ps : List (List ℕ)) (ds : List ℕ) (i : ℕ) → i < length ps → begins (get_or ps i []) ds ≡ true → length (get_or ps i []) ≤ reach ps ds
reach-most [] ds i h b = absurd (omega arith)
reach-most (p ∷ ps) ds zero h b = omega (arith, fit_all p ds b)
reach-most (p ∷ ps) ds (suc i) h b = omega (arith, reach-most ps ds i (omega arith) b)

fit_some : (p ds : List ℕ) → 0 < fit p ds → begins p ds ≡ true
fit_some p ds h = go (begins p ds) refl h
  where
    go : (b : Bool) → begins p ds ≡ b → 0 < pick b (length p) 0 → begins p ds ≡ true
    go true e h = e
    go false e h = absurd (omega arith)

place_at : (x : List ℕ) (ps : List (List ℕ)) → place_of x ps < length ps → get_or ps (place_of x ps) [] ≡ x
place_at x [] h = absurd (omega arith)
place_at x (p ∷ ps) h = go (same x p) refl h (λ k. place_at x ps k)
  where
    go :
        (b : Bool)
        → same x p ≡ b
        → pick b 0 (suc (place_of x ps)) < length (p ∷ ps)
        → (place_of x ps < length ps → get_or ps (place_of x ps) [] ≡ x)
        → get_or (p ∷ ps) (pick b 0 (suc (place_of x ps))) [] ≡ x
    go true e h later = sym (same_true x p e)
    go false e h later = later (omega arith)

reach-place : (ps : List (List ℕ)) (ds : List ℕ) → 0 < reach ps ds → place_of (take (reach ps ds) ds) ps < length ps
reach-place [] ds h = absurd (omega arith)
reach-place (p ∷ ps) ds h =
    ⊎_elim
    (λ (l : reach ps ds ≤ fit p ds).
    let b = fit_some p ds (omega arith) in
    let m : reach (p ∷ ps) ds ≡ length p = omega (arith, fit_all p ds b) in
    rw (m, begins-take p ds b, same_self p) (omega arith))
    (λ l.
    let m : reach (p ∷ ps) ds ≡ reach ps ds = omega arith in
    subst (λ (n : ℕ). place_of (take n ds) (p ∷ ps) < length (p ∷ ps)) (sym m)
    (go (same (take (reach ps ds) ds) p) (reach-place ps ds (omega arith))))
    (le_or_lt (reach ps ds) (fit p ds))
  where
    go : (b : Bool) → place_of (take (reach ps ds) ds) ps < length ps → pick b 0 (suc (place_of (take (reach ps ds) ds) ps)) < length (p ∷ ps)
    go true k = omega arith
    go false k = omega arith

-- The digits begin with the member at the place of the longest, and with none that is longer; or with no member.
pub longest_member : (ps : List (List ℕ)) (ds : List ℕ) → every (λ p. leb 1 (length p)) ps ≡ true → LongestAt ps ds (longest ps ds) ⊎ NoneAt ps ds (longest ps ds)
unfolding longest
longest_member ps ds e = ⊎_elim (λ h. inr (lacking h)) (λ h. inl (found h)) (le_or_lt (reach ps ds) 0)
  where
    lacking : reach ps ds ≤ 0 → NoneAt ps ds (place_of (take (reach ps ds) ds) ps)
    lacking h = record {
      past = let z : reach ps ds ≡ 0 = omega arith in ap (λ r. place_of (take r ds) ps) z ∙ place_none ps e;
      none = λ i l. go i l (begins (get_or ps i []) ds) refl;
    }
      where
        go : (i : ℕ) → i < length ps → (b : Bool) → begins (get_or ps i []) ds ≡ b → begins (get_or ps i []) ds ≡ false
        go i l true b = absurd (omega (arith, reach-most ps ds i l b, leb-true 1 (length (get_or ps i [])) (every_at (λ p. leb 1 (length p)) ps i [] e l)))
        go i l false b = b

    found : 0 < reach ps ds → LongestAt ps ds (place_of (take (reach ps ds) ds) ps)
    found h =
        let x = take (reach ps ds) ds in
        let k = reach-place ps ds h in
        let at = place_at x ps k in
        let size : length (get_or ps (place_of x ps) []) ≡ reach ps ds = ap length at ∙ length-take-le (reach ps ds) ds (reach_inside ps ds) in
        record {
          inside = k;
          there = take_begins (get_or ps (place_of x ps) []) ds (ap (λ n. take n ds) size ∙ sym at);
          most = λ i l b. omega (arith, reach-most ps ds i l b);
        }

-- Members of at most 15 digits reach into the first 15.
reach-first : (ps : List (List ℕ)) (ds : List ℕ) → every (between 1 15) (map length ps) ≡ true → (reach ps (take 15 ds) ≡ reach ps ds) × (reach ps ds ≤ 15)
reach-first [] ds e = (refl, omega arith)
reach-first (p ∷ ps) ds e =
    let (l, r) = both (between 1 15 (length p)) (every (between 1 15) (map length ps)) e in
    let short = (between_inv 1 15 (length p) l).1 in
    let (same, most) = reach-first ps ds r in
    (ap₂ (λ b n. max (pick b (length p) 0) n) (begins-first p ds 15 short) same, omega (arith, fit-most p ds 15 (λ b. short)))

pub longest-first : (ps : List (List ℕ)) (ds : List ℕ) → every (between 1 15) (map length ps) ≡ true → longest ps (take 15 ds) ≡ longest ps ds
unfolding longest
longest-first ps ds e =
    let (same, most) = reach-first ps ds e in
    ap (λ r. place_of (take r (take 15 ds)) ps) same ∙ ap (λ l. place_of l ps) (take-take (reach ps ds) 15 ds most)

-- The first 15 digits of so many half octets.
pub digits-first : (xs : List ℕ) (count n : ℕ) → n ≡ min 15 (min count (2 * length xs)) → map built_in.char (take n (halves xs)) ≡ take 15 (digits_in built_in xs count)
unfolding digits_in
digits-first xs count n e =
    let m = min count (2 * length xs) in
    let first : take n (halves xs) ≡ take 15 (take m (halves xs)) =
    ⊎_elim
    (λ h. let k : n ≡ 15 = omega arith in ap (λ n. take n (halves xs)) k ∙ sym (take-take 15 m (halves xs) h))
    (λ h.
    let k : n ≡ m = omega arith in
    ap (λ n. take n (halves xs)) k ∙ sym (take_all 15 (take m (halves xs)) (omega (arith, length-take m (halves xs)))))
    (le_or_lt 15 m) in
    ap (map built_in.char) first
    ∙ sym (take-map built_in.char 15 (take m (halves xs)))
    ∙ ap (take 15) (digits-most built_in xs count)

-- No digit past the fifteenth decides.
pub longest-digits :
    {ps : List (List ℕ)} {lengths held : List ℕ}
    → Kept ps lengths held
    → every (between 1 15) lengths ≡ true
    → (xs : List ℕ) (count n : ℕ)
    → n ≡ min 15 (min count (2 * length xs))
    → longest ps (map built_in.char (take n (halves xs))) ≡ longest ps (digits_in built_in xs count)
longest-digits {ps} k short xs count n e =
    ap (longest ps) (digits-first xs count n e)
    ∙ longest-first ps (digits_in built_in xs count) (subst (λ (l : List ℕ). every (between 1 15) l ≡ true) k.sizes short)
