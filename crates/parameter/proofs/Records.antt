-- Records of a lent table, and the check that they lie inside the values.
use Prim.Native.Nat.{ℕ, zero, suc, ◌+◌, ◌≤◌, ◌<◌, min}
use mathlib.Core.Path.{◌≡◌, refl, sym, ap, ap₂, ◌∙◌}
use mathlib.Core.Bool.{Bool, true, false, ◌&&◌}
use denote.Ref.{Bor}
use Rattle.std.specs.Prelude.{Option, None, Some, option_map, option_copied}
use Rattle.std.specs.List.{find}
use mathlib.Core.List.{List, [], ◌∷◌, ◌++◌, map}
use native.Mathlib.Omega.{arith}
use lib.Dec.{leb, eqb}
use lib.ListN.{length, get_or, take, drop, length-take, length-map, length-drop}
use lib.Seq.{length-take-le}
use borrow.Author.Tests.{le-leb, lt-leb, leb-true, leb-false}
use Rattle.bcd.specs.Outcome.{Outcome, accepted, refused, pick, each, All, every}
use Rattle.bcd.proofs.Outcomes.{accepted_inj, demand_inv, each_inv, each-cons, all_at}
use Rattle.bcd.proofs.Tests.{cond_is_pick}
use Rattle.parameter.specs.declared.Place.{Place}
use Rattle.parameter.specs.Parameter.{Param}
use Rattle.parameter.specs.Walk.{valued}
use Rattle.parameter.specs.Table.{Table, record_in, records, first_with, find_param, rows}

-- a place that does not matter, beyond the end of a list
abbrev pub nowhere : Place
nowhere = record { tag = 0; start = 0; length = 0 }

-- of three lists: a row by its place, and how many rows there are
pub rows_at :
    (ts ss ls : List ℕ) (i : ℕ) (d : Place)
    → i < length ts
    → i < length ss
    → i < length ls
    → get_or (rows ts ss ls) i d ≡ record { tag = get_or ts i 0; start = get_or ss i 0; length = get_or ls i 0 }
unfolding rows
rows_at (t ∷ ts) (s ∷ ss) (l ∷ ls) zero d a b c = refl
rows_at (t ∷ ts) (s ∷ ss) (l ∷ ls) (suc i) d a b c = rows_at ts ss ls i d (omega arith) (omega arith) (omega arith)
rows_at [] ss ls i d a b c = absurd (omega arith)
rows_at (t ∷ ts) [] ls i d a b c = absurd (omega arith)
rows_at (t ∷ ts) (s ∷ ss) [] i d a b c = absurd (omega arith)

pub rows-length : (ts ss ls : List ℕ) → length (rows ts ss ls) ≡ min (length ts) (min (length ss) (length ls))
unfolding rows
rows-length (t ∷ ts) (s ∷ ss) (l ∷ ls) = omega (arith, rows-length ts ss ls)
rows-length [] ss ls = omega arith
rows-length (t ∷ ts) [] ls = omega arith
rows-length (t ∷ ts) (s ∷ ss) [] = omega arith

-- a record that lies inside the values, and one that does not
pub record_inside : (values : List ℕ) (p : Place) → p.start + p.length ≤ length values → record_in values p ≡ accepted (valued values p ∷ [])
unfolding record_in
record_inside values p h = rw (le-leb (p.start + p.length) (length values) h)

pub record_outside : (values : List ℕ) (p : Place) → length values < p.start + p.length → record_in values p ≡ refused 15 []
unfolding record_in
record_outside values p h = rw (lt-leb (p.start + p.length) (length values) h)

-- a value inside the values has the length of its record
pub value-length : (values : List ℕ) (p : Place) → p.start + p.length ≤ length values → length (valued values p).value ≡ p.length
value-length values p h = rw (length-take p.length (drop p.start values), length-drop p.start values) (omega arith)

module _ (values : List ℕ) where
  -- a record ends inside the values
  abbrev pub inside : Place → Bool
  inside p = leb (p.start + p.length) (length values)

  -- records are the parameters at their places, where all lie inside, and else refused
  pub each-inside : (ps : List Place) → each (record_in values) ps ≡ pick (every inside ps) (accepted (map (valued values) ps)) (refused 15 [])
  each-inside [] = refl
  each-inside (p ∷ ps) = go (inside p) refl (every inside ps) (each-inside ps)
    where
      go :
          (b : Bool)
          → inside p ≡ b
          → (r : Bool)
          → each (record_in values) ps ≡ pick r (accepted (map (valued values) ps)) (refused 15 [])
          → each (record_in values) (p ∷ ps) ≡ pick (b && r) (accepted (map (valued values) (p ∷ ps))) (refused 15 [])
      go true e true more = each-cons (record_in values) p ps _ _ (record_inside values p (leb-true _ _ e)) more
      go true e false more = rw (record_inside values p (leb-true _ _ e), more)
      go false e r more = rw (record_outside values p (leb-false _ _ e))

module _ (values : List ℕ) (t : Table) (count : ℕ) where
  pub records_few : length t < count → records values t count ≡ refused 15 []
  unfolding records
  records_few h = rw (lt-leb count (length t) h)

  pub records-each : count ≤ length t → records values t count ≡ each (record_in values) (take count t)
  unfolding records
  records-each h = rw (le-leb count (length t) h)

  pub records-inside : count ≤ length t → records values t count ≡ pick (every (inside values) (take count t)) (accepted (map (valued values) (take count t))) (refused 15 [])
  records-inside h = records-each h ∙ each-inside values (take count t)

-- what records that lie inside tell
each_all : (values : List ℕ) (ps : List Place) (qs : List Param) → each (record_in values) ps ≡ accepted qs → All (λ (p : Place). p.start + p.length ≤ length values) ps
unfolding record_in
each_all values [] qs e = tt
each_all values (p ∷ ps) qs e =
    let (us, vs, hu, hv, j) = each_inv (record_in values) p ps qs e in
    let (test, one) = demand_inv (leb (p.start + p.length) (length values)) 15 [] _ hu in
    (leb-true _ _ test, each_all values ps vs hv)

each-valued : (values : List ℕ) (ps : List Place) (qs : List Param) → each (record_in values) ps ≡ accepted qs → map (valued values) ps ≡ qs
unfolding record_in
each-valued values [] qs e = accepted_inj e
each-valued values (p ∷ ps) qs e =
    let (us, vs, hu, hv, j) = each_inv (record_in values) p ps qs e in
    let (test, one) = demand_inv (leb (p.start + p.length) (length values)) 15 [] _ hu in
    ap₂ ◌++◌ (accepted_inj one) (each-valued values ps vs hv) ∙ j

-- records that lie inside, and their parameters
pub record Held (values : List ℕ) (t : Table) (count : ℕ) : Type 0 where
  pub few : count ≤ length t
  pub inside : All (λ (p : Place). p.start + p.length ≤ length values) (take count t)
  pub known : records values t count ≡ accepted (map (valued values) (take count t))

pub held : (values : List ℕ) (t : Table) (count : ℕ) (qs : List Param) → records values t count ≡ accepted qs → Held values t count
unfolding records
held values t count qs e =
    let (test, rest) = demand_inv (leb count (length t)) 15 [] _ e in
    record {
      few = leb-true _ _ test;
      inside = each_all values (take count t) qs rest;
      known = e ∙ ap accepted (sym (each-valued values (take count t) qs rest));
    }

-- what the answer of the check tells
pub told_outside : {A : Type 0} (o : Outcome A) (r : Bool) (n : ℕ) (vs : List ℕ) (p : Outcome A) → o ≡ pick r (refused n vs) p → r ≡ true → o ≡ refused n vs
told_outside o r n vs p e t = e ∙ ap (λ (r : Bool). pick r (refused n vs) p) t

pub told-held :
    (values : List ℕ) (t : Table) (count : ℕ) (r : Bool) (o : Outcome (List Param)) (qs : List Param)
    → records values t count ≡ pick r o (accepted qs)
    → r ≡ false
    → Held values t count
told-held values t count r o qs e f = held values t count qs (e ∙ ap (λ (r : Bool). pick r o (accepted qs)) f)

-- a parameter that does not matter, beyond the end of a list
abbrev pub no_param : Param
no_param = record { tag = 0; value = [] }

pub valued_at : (values : List ℕ) (ps : List Place) (i : ℕ) → i < length ps → get_or (map (valued values) ps) i no_param ≡ valued values (get_or ps i nowhere)
valued_at values [] i h = absurd (omega arith)
valued_at values (p ∷ ps) zero h = refl
valued_at values (p ∷ ps) (suc i) h = valued_at values ps i (omega arith)

-- the i-th record and its parameter
module _ {values : List ℕ} {t : Table} {count : ℕ} (k : Held values t count) where
  pub held_rows : length (take count t) ≡ count
  held_rows = length-take-le count t k.few

  pub held-length : length (map (valued values) (take count t)) ≡ count
  held-length = length-map (take count t) (valued values) ∙ held_rows

  module _ (i : ℕ) (h : i < count) where
    pub held_inside : (get_or (take count t) i nowhere).start + (get_or (take count t) i nowhere).length ≤ length values
    held_inside = all_at (λ (p : Place). p.start + p.length ≤ length values) (take count t) i nowhere k.inside (rw held_rows h)

    pub held-param : get_or (map (valued values) (take count t)) i no_param ≡ valued values (get_or (take count t) i nowhere)
    held-param = valued_at values (take count t) i (rw held_rows h)

    pub held-value : length (get_or (map (valued values) (take count t)) i no_param).value ≡ (get_or (take count t) i nowhere).length
    held-value = ap (λ (p : Param). length p.value) held-param ∙ value-length values (get_or (take count t) i nowhere) held_inside

-- finding, where the records lie inside or not
pub find_outside : (values : List ℕ) (t : Table) (count tag : ℕ) → records values t count ≡ refused 15 [] → find_param values t count tag ≡ refused 15 []
unfolding find_param
find_outside values t count tag e = rw e

pub find_first :
    (values : List ℕ) (t : Table) (count tag : ℕ) (ps : List Param)
    → records values t count ≡ accepted ps
    → find_param values t count tag ≡ accepted (first_with tag (take count t))
unfolding find_param
find_first values t count tag ps e = rw e

-- The library's words for the first record with a tag, and for one that is copied.
pub find_is_first : (tag : ℕ) (ps : List Place) → find (λ p. eqb p.tag tag) ps ≡ first_with tag ps
find_is_first tag [] = refl
find_is_first tag (p ∷ ps) = cond_is_pick (eqb p.tag tag) (Some p) (find (λ p. eqb p.tag tag) ps) ∙ ap (pick (eqb p.tag tag) (Some p)) (find_is_first tag ps)

pub copied_is_map : {A : Type 0} (o : Option (Bor A)) → option_copied o ≡ option_map (λ x. x.now) o
copied_is_map None = refl
copied_is_map (Some x) = refl
