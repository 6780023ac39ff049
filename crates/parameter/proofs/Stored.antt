-- Places that were stored in a table are the records that a writer takes from it.
use Prim.Native.Nat.{ℕ, ◌+◌, ◌≤◌}
use mathlib.Core.Path.{◌≡◌, refl, sym, ap, ◌∙◌}
use mathlib.Core.Bool.{Bool, true, false}
use mathlib.Core.Logic.{◌⊎◌, inl, inr}
use mathlib.Core.List.{List, [], ◌∷◌, map}
use native.Mathlib.Omega.{arith}
use lib.Dec.{leb}
use lib.ListN.{length, drop, length-append}
use lib.Seq.{take_at}
use Rattle.bcd.specs.Outcome.{accepted, refused, pick, each, All}
use Rattle.bcd.proofs.Outcomes.{accepted_inj, never, each-cons}
use Rattle.parameter.specs.declared.Place.{Place}
use Rattle.parameter.specs.Walk.{valued}
use Rattle.parameter.specs.Table.{Table, Tabulated, tabulated, room, over, tabulate, record_in, records}
use Rattle.parameter.specs.Facts.{Stored}
use Rattle.parameter.proofs.Records.{record_inside, records-each}

each_inside :
    (values : List ℕ) (ps : List Place)
    → All (λ (p : Place). p.start + p.length ≤ length values) ps
    → each (record_in values) ps ≡ accepted (map (valued values) ps)
each_inside values [] h = refl
each_inside values (p ∷ ps) h = each-cons (record_in values) p ps _ _ (record_inside values p h.0) (each_inside values ps h.1)

table-records :
    (values : List ℕ) (ps : List Place) (t : Table)
    → All (λ (p : Place). p.start + p.length ≤ length values) ps
    → records values (over ps t) (length ps) ≡ accepted (map (valued values) ps)
table-records values ps t h =
    let few : length ps ≤ length (over ps t) = rw (length-append ps) (omega arith) in
    records-each values (over ps t) (length ps) few ∙ ap (each (record_in values)) (take_at ps (drop (length ps) t) (length ps) refl) ∙ each_inside values ps h

-- Places that lie inside the values, stored in a table, are the records that a writer takes from it.
pub stored-records :
    (values : List ℕ) (ps : List Place) (t held : Table) (n : ℕ)
    → All (λ (p : Place). p.start + p.length ≤ length values) ps
    → tabulated (accepted n) held ≡ tabulate (accepted ps) t
    → Stored values ps held n
unfolding tabulate
stored-records values ps t held n h e = go (leb (length ps) (room t)) e
  where
    go :
        (b : Bool)
        → ◌≡◌ {A = Tabulated} (record { answer = accepted n; table = held }) (pick b (record { answer = accepted (length ps); table = over ps t }) (record { answer = refused 13 (length ps ∷ []); table = t }))
        → Stored values ps held n
    go true e = record {
      count = accepted_inj (ap (λ (s : Tabulated). s.answer) e);
      params = ap (λ (u : Table). records values u (length ps)) (ap (λ (s : Tabulated). s.table) e) ∙ table-records values ps t h;
    }
    go false e = absurd (never (sym (ap (λ (s : Tabulated). s.answer) e)))

-- Places inside the values are stored, and are the records taken from the table then; or the table is too small.
pub stored_or_small :
    (values : List ℕ) (ps : List Place) (t : Table)
    → All (λ (p : Place). p.start + p.length ≤ length values) ps
    → (((tabulate (accepted ps) t).answer ≡ accepted (length ps))
    × (records values (tabulate (accepted ps) t).table (length ps) ≡ accepted (map (valued values) ps)))
    ⊎ (tabulate (accepted ps) t ≡ record { answer = refused 13 (length ps ∷ []); table = t })
unfolding tabulate
stored_or_small values ps t h = go (leb (length ps) (room t))
  where
    stored : Tabulated
    stored = record { answer = accepted (length ps); table = over ps t }

    small : Tabulated
    small = record { answer = refused 13 (length ps ∷ []); table = t }

    go :
        (b : Bool)
        → (((pick b stored small).answer ≡ accepted (length ps))
        × (records values (pick b stored small).table (length ps) ≡ accepted (map (valued values) ps)))
        ⊎ (pick b stored small ≡ small)
    go true = inl (refl, table-records values ps t h)
    go false = inr refl
