-- An address value that is read is read into any table, unless the table is too small.
use Prim.Native.Nat.{ℕ}
use mathlib.Core.Path.{◌≡◌, refl, sym, ap, ◌∙◌, subst}
use mathlib.Core.Logic.{⊎_elim, inl, inr}
use mathlib.Core.List.{List, [], ◌∷◌}
use lib.ListN.{length}
use Rattle.bcd.specs.Outcome.{Outcome, accepted, refused, mapped, Octets}
use Rattle.bcd.specs.Digits.{built_in}
use Rattle.parameter.specs.declared.Place.{Place}
use Rattle.parameter.specs.Table.{Table, Tabulated, tabulate, records}
use Rattle.parameter.proofs.Stored.{stored_or_small}
use Rattle.bcd.proofs.Outcomes.{accepted_inj}
use Rattle.address.specs.Address.{Address, read_address}
use Rattle.address.specs.Absent.{absent_in}
use Rattle.address.specs.Listing.{other_places, address_record, Listed, listed, list_address}
use Rattle.address.specs.Steps.Plan.{Read}
use Rattle.address.specs.Standing.{ListsAs}
use Rattle.address.specs.declared.parts.Parts.{Parts}
use Rattle.address.proofs.Interpreted.{address, read_whole, accepted_read}
use Rattle.address.proofs.AddressRecords.{address_back}
use Rattle.address.proofs.Tabling.{places-known, list_known}
use Rattle.address.proofs.TableBack.{others, others_count, others_inside, routing}

module _ {v : List ℕ} {s : Parts} (y : Read v s) (t : Table) where
  abbrev a : Address
  a = address y.known

  abbrev ps : List Place
  ps = other_places y.known.places

  abbrev stored : Tabulated
  stored = tabulate (accepted ps) t

  told : (o : Tabulated) → stored ≡ o → list_address v t ≡ listed (mapped (λ (n : ℕ). address_record (absent_in built_in v) a) o.answer) o.table
  told o e = list_known y t o (sym (ap (λ (o : Outcome (List Place)). tabulate o t) (places-known y) ∙ e))

  lists : ListsAs v a t
  lists =
      ⊎_elim
      (λ (n, r).
      let all = told stored refl in
      inl (record {
        read = address_record (absent_in built_in v) a;
        answer = ap (λ (l : Listed). l.answer) all ∙ ap (mapped (λ (n : ℕ). address_record (absent_in built_in v) a)) n;
        others =
            ap (λ (l : Listed). records v l.table (length a.others)) all
            ∙ ap (records v stored.table) (others_count y)
            ∙ r
            ∙ ap accepted (sym (others y));
        address = address_back (absent_in built_in v) a (routing y);
      }))
      (λ small. inr (told _ small ∙ ap (λ (n : ℕ). listed (refused 13 (n ∷ [])) t) (sym (others_count y))))
      (stored_or_small v ps t (others_inside y))

-- Reading an address value into a record and a table is refused only as 13, and what it stores stands for the address.
pub address-listed : (v : List ℕ) (a : Address) (t : Table) → Octets v → read_address built_in v ≡ accepted a → ListsAs v a t
address-listed v a t o e =
    let (s, y) = accepted_read o e in
    subst (λ (a : Address). ListsAs v a t) (accepted_inj (sym (read_whole y) ∙ e)) (lists y t)
