-- An address that was read into a record and a table is written from them, over the same octets, as its reading says.
use Prim.Native.Nat.{ℕ, ◌≤◌, ◌<◌}
use mathlib.Core.Path.{◌≡◌, refl, sym, ap, ◌∙◌, subst}
use mathlib.Core.Bool.{Bool, true, false}
use Rattle.std.specs.Prelude.{Option, None, Some, option_map}
use mathlib.Core.List.{List, [], ◌∷◌, map}
use native.Mathlib.Omega.{arith}
use borrow.Author.Tests.{le-leb}
use lib.ListN.{length, get_or, drop, length-map}
use Rattle.bcd.specs.Outcome.{Outcome, accepted, pick, after, All, Octets}
use Rattle.bcd.specs.Digits.{built_in}
use Rattle.bcd.proofs.Outcomes.{accepted_inj, after_inv, mapped_inv, all_take, all_drop, octets_at}
use Rattle.bcd.proofs.Digits.{read_at_most}
use Rattle.parameter.specs.Parameter.{Param}
use Rattle.parameter.specs.Walk.{valued}
use Rattle.parameter.specs.Table.{Table, Tabulated, tabulate, records}
use Rattle.parameter.specs.declared.Place.{Place}
use Rattle.parameter.proofs.Walking.{places_inside}
use Rattle.parameter.proofs.Stored.{stored-records}
use Rattle.address.specs.Address.{Title, Address, address_with, read_address, write_address}
use Rattle.address.specs.Records.{title_of, part_given, address_given}
use Rattle.address.specs.Titles.{record_of}
use Rattle.address.specs.Absent.{absent_in}
use Rattle.address.specs.Listing.{is_other, other_places, address_places, address_record, Listed, listed, list_address}
use Rattle.address.specs.Given.{encode_address_as, encode_address}
use Rattle.address.specs.Parts.{nothing, note_all}
use Rattle.address.specs.Parts.{kept_title}
use Rattle.address.specs.Steps.Plan.{Read}
use Rattle.address.specs.declared.SuaAddress.{SuaAddress}
use Rattle.address.specs.declared.parts.Parts.{Parts}
use Rattle.address.proofs.Keeping.{Inside}
use Rattle.address.proofs.Interpreting.{title_holds, others_hold}
use Rattle.address.proofs.Interpreted.{address, read_whole, accepted_read}
use Rattle.address.proofs.AddressRecords.{address_back}
use Rattle.address.proofs.Tabling.{places-known}

-- The digits of a title that was read are at most 255, so that writing takes its record.
abbrev FewDigits : Option Title → Type 0
FewDigits None = Unit {0}
FewDigits (Some t) = length t.digits ≤ 255

kept_few : (v : List ℕ) (k : Option Place) → Octets v → FewDigits (kept_title built_in v k)
kept_few v None o = tt
kept_few v (Some p) o = read_at_most built_in (drop 8 w) (get_or w 4 0) (omega (arith, octets_at w 4 octets))
  where
    w : List ℕ
    w = (valued v p).value

    octets : Octets w
    octets = all_take (λ (x : ℕ). x < 256) p.length (drop p.start v) (all_drop (λ (x : ℕ). x < 256) p.start v o)

title_taken :
    (absent : ℕ) (o : Option Title)
    → FewDigits o
    → part_given (option_map (record_of absent) o) ≡ accepted (option_map title_of (option_map (record_of absent) o))
title_taken absent None f = refl
title_taken absent (Some t) f = rw (le-leb (length t.digits) 255 f)

given-read : (absent : ℕ) (a : Address) → a.routing ≤ 4 → FewDigits a.title → address_given (address_record absent a) a.others ≡ accepted a
given-read absent a h f = rw (title_taken absent a.title f) (ap accepted (address_back absent a h))

pub others-all : (P : Place → Type 0) (ps : List Place) → All P ps → All P (other_places ps)
others-all P [] h = tt
others-all P (p ∷ ps) h = go (is_other p.tag) (others-all P ps h.1)
  where
    go : (b : Bool) → All P (other_places ps) → All P (pick b (p ∷ other_places ps) (other_places ps))
    go true r = (h.0, r)
    go false r = r

-- What an address that was listed tells.
pub record IsListed (v : List ℕ) (t : Table) (r : SuaAddress) (held : Table) : Type 0 where
  pub address : Address
  pub read : read_address built_in v ≡ accepted address
  pub recorded : r ≡ address_record (absent_in built_in v) address
  pub count : ℕ
  pub stored : record { answer = accepted count; table = held } ≡ tabulate (address_places v) t

tabulated : (s : Tabulated) (n : ℕ) (held : Table) → s.answer ≡ accepted n → held ≡ s.table → record { answer = accepted n; table = held } ≡ s
tabulated s n held e h = rw (h, ← e)

pub list_inv : (v : List ℕ) (t held : Table) (r : SuaAddress) → listed (accepted r) held ≡ list_address v t → IsListed v t r held
unfolding list_address
list_inv v t held r e =
    let s : Tabulated = tabulate (address_places v) t in
    let (a, ha, f) = after_inv (read_address built_in v) _ (sym (ap (λ (l : Listed). l.answer) e)) in
    let (n, hn, same) = mapped_inv _ s.answer f in
    record {
      address = a;
      read = ha;
      recorded = sym same;
      count = n;
      stored = tabulated s n held hn (ap (λ (l : Listed). l.table) e);
    }

-- An address that was read, written from its record and the records of its others over any values.
module _ {v : List ℕ} {s : Parts} (y : Read v s) where
  abbrev a : Address
  a = address y.known

  abbrev ps : List Place
  ps = y.known.places

  pub others : a.others ≡ map (valued v) (other_places ps)
  unfolding address_with
  others = others_hold built_in v ps

  pub others_count : length a.others ≡ length (other_places ps)
  others_count = ap length others ∙ length-map (other_places ps) (valued v)

  few : FewDigits a.title
  unfolding address_with
  few = subst FewDigits (sym (title_holds built_in v ps)) (kept_few v (note_all nothing ps).title y.known.octets)

  pub routing : a.routing ≤ 4
  unfolding address_with
  routing = y.known.routing

  pub others_inside : All (Inside v) (other_places ps)
  others_inside = others-all (Inside v) ps (places_inside v 4 ps y.known.walked)

  pub record_written :
      (absent : ℕ) (values : List ℕ) (held : Table)
      → records values held (length (other_places ps)) ≡ accepted (map (valued v) (other_places ps))
      → encode_address (address_record absent a) values held ≡ write_address built_in 0 a
  unfolding encode_address_as
  record_written absent values held e =
      let from-table : records values held (length a.others) ≡ accepted a.others =
      ap (records values held) others_count ∙ e ∙ ap accepted (sym others) in
      ap (λ (o : Outcome (List Param)). after o (λ os. after (address_given (address_record absent a) os) (write_address built_in 0))) from-table
      ∙ ap (λ (o : Outcome Address). after o (write_address built_in 0)) (given-read absent a routing few)

  -- as it is read and written again
  pub written_again :
      (absent : ℕ) (values : List ℕ) (held : Table) (r : SuaAddress) (x : Address)
      → read_address built_in v ≡ accepted x
      → r ≡ address_record absent x
      → records values held (length (other_places ps)) ≡ accepted (map (valued v) (other_places ps))
      → encode_address r values held ≡ after (read_address built_in v) (write_address built_in 0)
  written_again absent values held r x read recorded e =
      let same : x ≡ a = accepted_inj (sym read ∙ read_whole y) in
      ap (λ (r : SuaAddress). encode_address r values held) (recorded ∙ ap (address_record absent) same)
      ∙ record_written absent values held e
      ∙ sym (ap (λ (o : Outcome Address). after o (write_address built_in 0)) (read_whole y))

pub written_from_table :
    (v : List ℕ) (t held : Table) (r : SuaAddress)
    → Octets v
    → listed (accepted r) held ≡ list_address v t
    → encode_address r v held ≡ after (read_address built_in v) (write_address built_in 0)
written_from_table v t held r o e =
    let l = list_inv v t held r e in
    let (s, y) = accepted_read o l.read in
    let stored = l.stored ∙ ap (λ (o : Outcome (List Place)). tabulate o t) (places-known y) in
    written_again y (absent_in built_in v) v held r l.address l.read l.recorded
    (stored-records v (other_places y.known.places) t held l.count (others_inside y) stored).params
