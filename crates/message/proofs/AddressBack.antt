-- An address that was read through an accessor is written from its record and table, over the same values, as its reading
-- says.
use Prim.Native.Nat.{ℕ, zero, suc, ◌+◌, ◌≤◌, ◌<◌}
use mathlib.Core.Path.{◌≡◌, refl, sym, ap, ap₂, ◌∙◌}
use mathlib.Core.Logic.{⊎_elim}
use Rattle.std.specs.Prelude.{Option, None, Some}
use mathlib.Core.List.{List, [], ◌∷◌, map}
use native.Mathlib.Omega.{arith}
use lib.ListN.{length, take, drop, length-map}
use lib.Seq.{take-take, drop-drop}
use Rattle.bcd.specs.Outcome.{Outcome, accepted, refused, after, mapped, All, Octets}
use Rattle.bcd.specs.Digits.{built_in}
use Rattle.bcd.proofs.Outcomes.{never, le_or_lt}
use Rattle.parameter.specs.declared.Place.{Place}
use Rattle.parameter.specs.Walk.{valued}
use Rattle.parameter.specs.Table.{Table, Tabulated, tabulated, tabulate, records, find_param}
use Rattle.parameter.proofs.Records.{value-length}
use Rattle.parameter.proofs.Stored.{stored-records}
use Rattle.address.specs.Address.{read_address, write_address}
use Rattle.address.specs.Absent.{absent_in}
use Rattle.address.specs.Listing.{other_places, Listed, listed, list_address}
use Rattle.address.specs.Given.{encode_address}
use Rattle.address.specs.declared.SuaAddress.{SuaAddress}
use Rattle.address.proofs.Interpreted.{accepted_read}
use Rattle.address.proofs.Tabling.{places-known}
use Rattle.address.proofs.TableBack.{list_inv, others_inside, written_again}
use Rattle.message.specs.Accessors.{moved, list_address_at, address_found}
use Rattle.message.specs.Back.{Back}
use Rattle.lookup.proofs.Accessing.{find_inside, value-octets}
use Rattle.lookup.proofs.Addresses.{tabulate_fits, tabulate_small}

-- A part of a part is a part.
part_part : (l s n : ℕ) (w : List ℕ) → s + l ≤ n → take l (drop s (take n w)) ≡ take l (drop s w)
part_part l zero n w h = take-take l n w (omega arith)
part_part l (suc s) zero w h = absurd (omega arith)
part_part l (suc s) (suc n) [] h = refl
part_part l (suc s) (suc n) (x ∷ w) h = part_part l s n w (omega arith)

-- The others of the value at a place, and the same places counted from the first of the values.
module _ (values : List ℕ) (p : Place) (inside : p.start + p.length ≤ length values) where
  abbrev v : List ℕ
  v = (valued values p).value

  value-moved : (q : Place) → q.start + q.length ≤ length v → valued values (moved p.start q) ≡ valued v q
  value-moved q h =
      let n = value-length values p inside in
      ap (λ (l : List ℕ). record { tag = q.tag; value = l })
      (ap (take q.length) (sym (drop-drop q.start p.start values)) ∙ sym (part_part q.length q.start p.length (drop p.start values) (omega arith)))

  pub values_moved : (qs : List Place) → All (λ (q : Place). q.start + q.length ≤ length v) qs → map (valued values) (map (moved p.start) qs) ≡ map (valued v) qs
  values_moved [] h = refl
  values_moved (q ∷ qs) h = ap₂ ◌∷◌ (value-moved q h.0) (values_moved qs h.1)

  pub inside_moved :
      (qs : List Place)
      → All (λ (q : Place). q.start + q.length ≤ length v) qs
      → All (λ (q : Place). q.start + q.length ≤ length values) (map (moved p.start) qs)
  inside_moved [] h = tt
  inside_moved (q ∷ qs) h = (omega (arith, h.0, value-length values p inside), inside_moved qs h.1)

-- Places that fit, fit where they are moved too.
moved_answer :
    (base n : ℕ) (ps : List Place) (t held : Table)
    → tabulated (accepted n) held ≡ tabulate (accepted ps) t
    → (tabulate (accepted (map (moved base) ps)) t).answer ≡ accepted n
moved_answer base n ps t held e = ⊎_elim fits small (le_or_lt (length ps) (length t))
  where
    fits : length ps ≤ length t → (tabulate (accepted (map (moved base) ps)) t).answer ≡ accepted n
    fits h =
        let m = length-map ps (moved base) in
        ap (λ (s : Tabulated). s.answer) (tabulate_fits (map (moved base) ps) t (omega arith))
        ∙ ap accepted m
        ∙ sym (ap (λ (s : Tabulated). s.answer) (e ∙ tabulate_fits ps t h))

    small : length t < length ps → (tabulate (accepted (map (moved base) ps)) t).answer ≡ accepted n
    small h = absurd (never (sym (ap (λ (s : Tabulated). s.answer) (e ∙ tabulate_small ps t h))))

read_back :
    (values : List ℕ) (p : Place) (t held : Table) (r : SuaAddress)
    → Octets values
    → p.start + p.length ≤ length values
    → listed (accepted r) held ≡ list_address_at p.start (valued values p).value t
    → encode_address r values held ≡ after (read_address built_in (valued values p).value) (write_address built_in 0)
unfolding list_address_at
read_back values p t held r o inside e =
    let v = (valued values p).value in
    let alone = list_address v t in
    let answer : accepted r ≡ alone.answer = ap (λ (l : Listed). l.answer) e in
    let same : listed (accepted r) alone.table ≡ alone = ap (λ (a : Outcome SuaAddress). listed a alone.table) answer in
    let l = list_inv v t alone.table r same in
    let (s, y) = accepted_read (value-octets values p o) l.read in
    let ps = other_places y.known.places in
    let known = l.stored ∙ ap (λ (o : Outcome (List Place)). tabulate o t) (places-known y) in
    let table : held ≡ (tabulate (accepted (map (moved p.start) ps)) t).table =
    ap (λ (l : Listed). l.table) e ∙ ap (λ (o : Outcome (List Place)). (tabulate (mapped (map (moved p.start)) o) t).table) (places-known y) in
    let stored : tabulated (accepted l.count) held ≡ tabulate (accepted (map (moved p.start) ps)) t =
    ap (tabulated (accepted l.count)) table
    ∙ ap (λ (a : Outcome ℕ). tabulated a (tabulate (accepted (map (moved p.start) ps)) t).table) (sym (moved_answer p.start l.count ps t alone.table known)) in
    let k = stored-records values (map (moved p.start) ps) t held l.count (inside_moved values p inside ps (others_inside y)) stored in
    written_again y (absent_in built_in v) values held r l.address l.read l.recorded
    (ap (records values held) (sym (length-map ps (moved p.start))) ∙ k.params ∙ ap accepted (values_moved values p inside ps (others_inside y)))

-- What an accessor read is written again as its reading says.
pub written_from_accessor :
    (tag : ℕ) (values : List ℕ) (u : Table) (count : ℕ) (t held : Table) (r : SuaAddress)
    → Octets values
    → listed (accepted r) held ≡ address_found tag values (find_param values u count tag) t
    → Back values (find_param values u count tag) held r
unfolding address_found
written_from_accessor tag values u count t held r o e = go (find_param values u count tag) refl e
  where
    go :
        (f : Outcome (Option Place))
        → find_param values u count tag ≡ f
        → listed (accepted r) held ≡ address_found tag values f t
        → Back values (find_param values u count tag) held r
    go (refused n vs) h e = absurd (never (sym (ap (λ (l : Listed). l.answer) e)))
    go (accepted None) h e = absurd (never (sym (ap (λ (l : Listed). l.answer) e)))
    go (accepted (Some p)) h e = record { place = p; there = h; written = read_back values p t held r o (find_inside values u count tag p (sym h)) e }
