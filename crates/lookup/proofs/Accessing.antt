-- The accessors: what was found, and what its value reads as.
use Prim.Native.Nat.{ℕ, ◌+◌, ◌≤◌, ◌<◌}
use mathlib.Core.Path.{◌≡◌, refl, sym, ap, subst}
use mathlib.Core.Bool.{Bool, true, false}
use Rattle.std.specs.Prelude.{Option, None, Some, option_map}
use mathlib.Core.List.{List, [], ◌∷◌}
use native.Mathlib.Omega.{arith}
use lib.Dec.{leb, eqb}
use lib.ListN.{length, take, drop}
use Rattle.bcd.specs.Outcome.{Outcome, accepted, refused, pick, mapped, All, Octets}
use Rattle.bcd.proofs.Outcomes.{accepted_inj, after_inv, all_take, all_drop}
use Rattle.parameter.specs.declared.Place.{Place}
use Rattle.parameter.specs.Parameter.{four_in}
use Rattle.parameter.specs.Walk.{valued}
use Rattle.parameter.specs.Table.{Table, records, first_with, find_param}
use Rattle.parameter.proofs.Records.{held}
use Rattle.lookup.specs.Accessors.{of_four, read_at, first_read}

first-all : (P : Place → Type 0) (tag : ℕ) (ps : List Place) (p : Place) → All P ps → first_with tag ps ≡ Some p → P p
first-all P tag [] p h e = let z : ◌≡◌ {A = ℕ} 0 1 = cc in absurd (omega arith)
first-all P tag (q ∷ ps) p h e = go (eqb q.tag tag) (first-all P tag ps p h.1) e
  where
    go : (b : Bool) → (first_with tag ps ≡ Some p → P p) → pick b (Some q) (first_with tag ps) ≡ Some p → P p
    go true later e = let same : q ≡ p = cc in subst P same h.0
    go false later e = later e

-- A record that was found lies inside the values.
pub find_inside : (values : List ℕ) (t : Table) (count tag : ℕ) (p : Place) → accepted (Some p) ≡ find_param values t count tag → p.start + p.length ≤ length values
unfolding find_param
find_inside values t count tag p e =
    let (ps, hp, f) = after_inv (records values t count) _ (sym e) in
    let k = held values t count ps hp in
    first-all (λ (p : Place). p.start + p.length ≤ length values) tag (take count t) p k.inside (accepted_inj f)

-- The values' octets at a place are octets.
pub value-octets : (values : List ℕ) (p : Place) → Octets values → Octets (valued values p).value
value-octets values p o = all_take (λ (x : ℕ). x < 256) p.length (drop p.start values) (all_drop (λ (x : ℕ). x < 256) p.start values o)

-- The first parameter, read, by what was found.
pub read_found :
    {A : Type 0} (read : List ℕ → Option A) (tag : ℕ) (values : List ℕ) (t : Table) (count : ℕ) (o : Outcome (Option Place))
    → o ≡ find_param values t count tag
    → mapped (read_at read values) o ≡ first_read read tag values t count
unfolding first_read
read_found read tag values t count o e = ap (mapped (read_at read values)) e

-- What is made of the number of the first four octets is what the value reads as.
pub four_then :
    {A : Type 0} (f : ℕ → A) (read : List ℕ → A)
    → ((v : List ℕ) → Octets v → f (four_in v) ≡ read v)
    → (tag : ℕ) (values : List ℕ) (t : Table) (count : ℕ)
    → Octets values
    → mapped (option_map f) (first_read (of_four four_in) tag values t count) ≡ first_read (of_four read) tag values t count
unfolding first_read
four_then f read same tag values t count o = go (find_param values t count tag)
  where
    told : (b : Bool) (v : List ℕ) → Octets v → option_map f (pick b (Some (four_in v)) None) ≡ pick b (Some (read v)) None
    told true v k = ap Some (same v k)
    told false v k = refl

    go : (o : Outcome (Option Place)) → mapped (option_map f) (mapped (read_at (of_four four_in) values) o) ≡ mapped (read_at (of_four read) values) o
    go (refused n vs) = refl
    go (accepted None) = refl
    go (accepted (Some p)) = ap accepted (told (leb 4 (length (valued values p).value)) (valued values p).value (value-octets values p o))
