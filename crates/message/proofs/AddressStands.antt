-- An address that is read through an accessor stands for the address of its value, unless the table is too small.
use Prim.Native.Nat.{ℕ, ◌+◌, ◌≤◌, ◌<◌}
use mathlib.Core.Path.{◌≡◌, sym, ap, ◌∙◌, subst}
use mathlib.Core.Logic.{⊎_elim, inl, inr}
use Rattle.std.specs.Prelude.{Option, Some}
use mathlib.Core.List.{List, [], ◌∷◌, map}
use native.Mathlib.Omega.{arith}
use lib.ListN.{length, length-map}
use Rattle.bcd.specs.Outcome.{Outcome, accepted, refused, mapped, Octets}
use Rattle.bcd.specs.Digits.{built_in}
use Rattle.bcd.proofs.Outcomes.{accepted_inj, le_or_lt}
use Rattle.parameter.specs.declared.Place.{Place}
use Rattle.parameter.specs.Walk.{valued}
use Rattle.parameter.specs.Table.{Table, over, Tabulated, tabulate, records, find_param}
use Rattle.parameter.proofs.Stored.{stored-records}
use Rattle.address.specs.Address.{Address, read_address}
use Rattle.address.specs.Absent.{absent_in}
use Rattle.address.specs.Listing.{other_places, address_record, Listed, listed, list_address}
use Rattle.address.specs.Steps.Plan.{Read}
use Rattle.address.specs.declared.SuaAddress.{SuaAddress}
use Rattle.address.specs.declared.parts.Parts.{Parts}
use Rattle.address.proofs.Interpreted.{address, read_whole, accepted_read}
use Rattle.address.proofs.AddressRecords.{address_back}
use Rattle.address.proofs.Tabling.{places-known}
use Rattle.address.proofs.TableBack.{others, others_count, others_inside, routing}
use Rattle.message.specs.Accessors.{moved, list_address_at, address_found}
use Rattle.message.specs.Back.{Shows}
use Rattle.lookup.proofs.Accessing.{find_inside, value-octets}
use Rattle.lookup.proofs.Addresses.{tabulate_fits, tabulate_small, address-there}
use Rattle.message.proofs.AddressBack.{values_moved, inside_moved}

module _ (values : List ℕ) (p : Place) (inside : p.start + p.length ≤ length values) (t : Table) {s : Parts} (y : Read (valued values p).value s) where
  abbrev v : List ℕ
  v = (valued values p).value

  abbrev a : Address
  a = address y.known

  abbrev ps : List Place
  ps = other_places y.known.places

  abbrev qs : List Place
  qs = map (moved p.start) ps

  moved_count : length qs ≡ length ps
  moved_count = length-map ps (moved p.start)

  abbrev shown : SuaAddress
  shown = address_record (absent_in built_in v) a

  abbrev told : Outcome ℕ → Table → Listed
  told n held = listed (mapped (λ _. shown) n) held

  alone : list_address v t ≡ told (tabulate (accepted ps) t).answer (tabulate (accepted ps) t).table
  unfolding list_address
  alone = rw (places-known y, read_whole y)

  at_base : list_address_at p.start v t ≡ told (tabulate (accepted ps) t).answer (tabulate (accepted qs) t).table
  unfolding list_address_at
  at_base = rw (alone, places-known y)

  shows_at : Shows values a t (list_address_at p.start v t)
  shows_at = ⊎_elim fits small (le_or_lt (length ps) (length t))
    where
      fits : length ps ≤ length t → Shows values a t (list_address_at p.start v t)
      fits h =
          let stored = tabulate_fits qs t (omega (arith, moved_count)) in
          let is : list_address_at p.start v t ≡ listed (accepted shown) (over qs t) =
          at_base
          ∙ ap (λ (n : Outcome ℕ). told n (tabulate (accepted qs) t).table) (ap (λ (s : Tabulated). s.answer) (tabulate_fits ps t h))
          ∙ ap (λ (s : Tabulated). listed (accepted shown) s.table) stored in
          let k = stored-records values qs t (over qs t) (length qs) (inside_moved values p inside ps (others_inside y)) (sym stored) in
          inl (record {
            read = shown;
            answer = ap (λ (l : Listed). l.answer) is;
            others =
                ap (λ (l : Listed). records values l.table (length a.others)) is
                ∙ ap (records values (over qs t)) (others_count y ∙ sym moved_count)
                ∙ k.params
                ∙ ap accepted (values_moved values p inside ps (others_inside y) ∙ sym (others y));
            address = address_back (absent_in built_in v) a (routing y);
          })

      small : length t < length ps → Shows values a t (list_address_at p.start v t)
      small h =
          inr
          (at_base
          ∙ ap (λ (n : Outcome ℕ). told n (tabulate (accepted qs) t).table) (ap (λ (s : Tabulated). s.answer) (tabulate_small ps t h))
          ∙ ap (λ (s : Tabulated). listed (refused 13 (length ps ∷ [])) s.table) (tabulate_small qs t (omega (arith, moved_count)))
          ∙ ap (λ (n : ℕ). listed (refused 13 (n ∷ [])) t) (sym (others_count y)))

pub accessor_shows :
    (tag : ℕ) (values : List ℕ) (u : Table) (count : ℕ) (p : Place) (a : Address) (t : Table)
    → Octets values
    → find_param values u count tag ≡ accepted (Some p)
    → read_address built_in (valued values p).value ≡ accepted a
    → Shows values a t (address_found tag values (find_param values u count tag) t)
accessor_shows tag values u count p a t o f e =
    let (s, y) = accepted_read (value-octets values p o) e in
    let inside = find_inside values u count tag p (sym f) in
    let same : address y.known ≡ a = accepted_inj (sym (read_whole y) ∙ e) in
    let there : list_address_at p.start (valued values p).value t ≡ address_found tag values (find_param values u count tag) t =
    address-there tag values p t ∙ ap (λ (o : Outcome (Option Place)). address_found tag values o t) (sym f) in
    subst (λ (l : Listed). Shows values a t l) there
    (subst (λ (a : Address). Shows values a t (list_address_at p.start (valued values p).value t)) same (shows_at values p inside t y))
