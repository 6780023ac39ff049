-- What a message adds: one of the rows, octets that one value can have, and the same for messages of the same form.
use Prim.Native.Nat.{ℕ, suc, ◌+◌, ◌≤◌, ◌<◌}
use mathlib.Core.Path.{◌≡◌, refl, subst}
use mathlib.Core.Bool.{Bool, true, false}
use mathlib.Core.Logic.{⊎_elim}
use Rattle.std.specs.Prelude.{Option, None, Some}
use mathlib.Core.List.{List, [], ◌∷◌}
use native.Mathlib.Omega.{arith}
use lib.Dec.{eqb}
use lib.ListN.{length, take, drop}
use Rattle.bcd.specs.Outcome.{Outcome, accepted, refused, pick, after, mapped, each, All, Octets}
use Rattle.bcd.specs.Digits.{built_in}
use Rattle.bcd.proofs.Outcomes.{accepted_inj, after_inv, mapped_inv, each_inv, all_drop}
use Rattle.parameter.specs.Parameter.{Param, most_value, Fits}
use Rattle.parameter.proofs.Reading.{parameters-fit}
use Rattle.address.specs.Address.{Title, Address}
use Rattle.message.specs.Message.{read_message}
use Rattle.message.proofs.Messages.{message_inv}
use Rattle.form.specs.Family.{meaning_by}
use Rattle.form.specs.Form.{settled, Part, part_in, Meaning, meaning}
use Rattle.form.proofs.Demand3.{equal}
use Rattle.tally.specs.Members.{same, reach, place_of, longest}
use Rattle.tally.specs.Rows.{gain}
use Rattle.tally.specs.Tally.{is_cldt, data_length, destination, title_row, destination_row, meant, or_else, placed}
use Rattle.tally.proofs.Meaning.{part_inv, other_data}

place-within : (x : List ℕ) (ps : List (List ℕ)) → place_of x ps ≤ length ps
place-within x [] = omega arith
place-within x (p ∷ ps) = on (same x p) (place-within x ps)
  where
    on : (b : Bool) → place_of x ps ≤ length ps → pick b 0 (suc (place_of x ps)) ≤ suc (length ps)
    on true h = omega arith
    on false h = omega arith

-- A title, a destination and a message have a row up to the unplaced row.
pub longest-within : (ps : List (List ℕ)) (ds : List ℕ) → longest ps ds ≤ length ps
unfolding longest
longest-within ps ds = place-within (take (reach ps ds) ds) ps

title_within : (ps : List (List ℕ)) (t : Option Title) → title_row ps t ≤ length ps
title_within ps None = omega arith
title_within ps (Some t) = longest-within ps t.digits

destination-within : (ps : List (List ℕ)) (a : Option Address) → destination_row ps a ≤ length ps
destination-within ps None = omega arith
destination-within ps (Some a) = title_within ps a.title

meant-within : (ps : List (List ℕ)) (m : Meaning) → (meant ps m).row ≤ length ps
meant-within ps m = on (is_cldt m.type)
  where
    on : (b : Bool) → pick b (destination_row ps (destination m.parts)) (length ps) ≤ length ps
    on true = destination-within ps (destination m.parts)
    on false = omega arith

-- A message adds to a member's row, to the unplaced row or to the last.
pub placed_row : (ps : List (List ℕ)) (xs : List ℕ) → (placed ps xs).row < length ps + 2
unfolding placed
placed_row ps xs = on (settled built_in xs) (meaning built_in xs)
  where
    on :
        (s : Outcome (List ℕ)) (o : Outcome Meaning)
        → (or_else (gain (length ps + 1) 0) (after s (λ form. mapped (meant ps) o))).row < length ps + 2
    on (refused n vs) o = omega arith
    on (accepted f) (refused n vs) = omega arith
    on (accepted f) (accepted m) = omega (arith, meant-within ps m)

-- The first Data of parameters that fit has the octets that a value can have.
data_small : (ps : List Param) (xs : List Part) → All Fits ps → each (part_in built_in) ps ≡ accepted xs → data_length xs ≤ most_value
data_small [] xs fs e = subst (λ (xs : List Part). data_length xs ≤ most_value) (accepted_inj e) (omega arith)
data_small (p ∷ ps) xs fs e =
    let (us, vs, hu, hv, j) = each_inv (part_in built_in) p ps xs e in
    let small = data_small ps vs fs.1 hv in
    subst (λ (xs : List Part). data_length xs ≤ most_value) j
    (⊎_elim (λ (t, a, ha, k). rw (← k) small) (λ (t, k). rw (← k, other_data p vs) (first (eqb p.tag 0x010B) vs small)) (part_inv p us hu))
  where
    first : (b : Bool) (vs : List Part) → data_length vs ≤ most_value → pick b (length p.value) (data_length vs) ≤ most_value
    first true vs h = fs.0.size
    first false vs h = h

meaning_small : (xs : List ℕ) (m : Meaning) → Octets xs → meaning built_in xs ≡ accepted m → data_length m.parts ≤ most_value
unfolding meaning_by
meaning_small xs m o e =
    let (g, hg, e1) = after_inv (read_message xs) _ e in
    let (ps, hp, j) = mapped_inv _ (each (part_in built_in) g.params) e1 in
    let fs = parameters-fit (drop 8 xs) g.params (all_drop (λ x. x < 256) 8 xs o) (message_inv xs g hg).walked in
    subst (λ (m : Meaning). data_length m.parts ≤ most_value) j (data_small g.params ps fs hp)

-- A message adds at most the octets of one value.
pub placed-octets : (ps : List (List ℕ)) (xs : List ℕ) → Octets xs → (placed ps xs).octets ≤ most_value
unfolding placed
placed-octets ps xs o = on (settled built_in xs) (meaning built_in xs) refl
  where
    on :
        (s : Outcome (List ℕ)) (w : Outcome Meaning)
        → meaning built_in xs ≡ w
        → (or_else (gain (length ps + 1) 0) (after s (λ form. mapped (meant ps) w))).octets ≤ most_value
    on (refused n vs) w e = omega arith
    on (accepted f) (refused n vs) e = omega arith
    on (accepted f) (accepted m) e = meaning_small xs m o e

-- Messages of the same form add the same.
pub placed_same :
    (ps : List (List ℕ)) (xs ys f : List ℕ)
    → settled built_in xs ≡ accepted f
    → settled built_in ys ≡ accepted f
    → Octets xs
    → Octets ys
    → placed ps xs ≡ placed ps ys
unfolding placed
placed_same ps xs ys f d e o q =
    let same = (equal xs ys f f o q d e).0 refl in
    rw (d, e, same)
