-- The accessors of a message: its parameters by name (RFC 3868, 3.9 and 3.10; document 01, module 6). Each takes the values,
-- the table of records and their count; 15 looks at every record (document 01, 'Order').
use Rattle.std.specs.Prelude.{ℕ, ◌+◌, List, [], ◌∷◌, map, length, get_or, leb}
use Rattle.std.specs.Prelude.{Option, None, Some}
use Rattle.bcd.specs.Outcome.{Outcome, accepted, refused, pick, mapped}
use Rattle.parameter.specs.declared.Place.{Place}
use Rattle.parameter.specs.Parameter.{four_in}
use Rattle.parameter.specs.Walk.{valued}
use Rattle.parameter.specs.Table.{Table, tabulate, find_param}
use Rattle.address.specs.Listing.{address_places, Listed, listed, list_address}
use Rattle.lookup.specs.declared.SccpCause.{SccpCause}

-- What a value of four octets or more reads as; nothing under four.
abbrev pub of_four : {A : Type 0} → (List ℕ → A) → List ℕ → Option A
of_four read v = pick (leb 4 (length v)) (Some (read v)) None

-- What the value at a place reads as, if there is one.
abbrev pub read_at : {A : Type 0} → (List ℕ → Option A) → List ℕ → Option Place → Option A
read_at read values None = None
read_at read values (Some p) = read (valued values p).value

-- The first parameter with a tag, read; no later one is looked at.
unfoldable pub first_read : {A : Type 0} → (List ℕ → Option A) → (tag : ℕ) → List ℕ → Table → (count : ℕ) → Outcome (Option A)
first_read read tag values t count = mapped (read_at read values) (find_param values t count tag)

-- Three reserved octets and one of value (RFC 3868, 3.10).
abbrev pub fourth : List ℕ → ℕ
fourth v = get_or v 3 0

-- Two reserved octets, the cause's type and its value (RFC 3868, 3.10).
abbrev pub cause_in : List ℕ → SccpCause
cause_in v = record { cause_type = get_or v 2 0; cause_value = get_or v 3 0 }

-- Routing context (RFC 3868, 3.9).
abbrev pub routing_context : List ℕ → Table → (count : ℕ) → Outcome (Option ℕ)
routing_context = first_read (of_four four_in) 0x0006

-- Protocol class, sequence control, SS7 hop counter and SCCP cause (RFC 3868, 3.10).
abbrev pub protocol_class : List ℕ → Table → (count : ℕ) → Outcome (Option ℕ)
protocol_class = first_read (of_four fourth) 0x0115

abbrev pub sequence_control : List ℕ → Table → (count : ℕ) → Outcome (Option ℕ)
sequence_control = first_read (of_four four_in) 0x0116

abbrev pub ss7_hop_count : List ℕ → Table → (count : ℕ) → Outcome (Option ℕ)
ss7_hop_count = first_read (of_four fourth) 0x0101

abbrev pub sccp_cause : List ℕ → Table → (count : ℕ) → Outcome (Option SccpCause)
sccp_cause = first_read (of_four cause_in) 0x0106

-- Data (RFC 3868, 3.10): where the part stands in the values, and the part itself; no octets where there is none, or where a
-- record meets 15.
abbrev pub data_at : List ℕ → Table → (count : ℕ) → Outcome (Option Place)
data_at values t count = find_param values t count 0x010B

abbrev pub shown : List ℕ → Outcome (Option Place) → List ℕ
shown values (accepted (Some p)) = (valued values p).value
shown values (accepted None) = []
shown values (refused number vs) = []

abbrev pub data_part : List ℕ → Table → (count : ℕ) → List ℕ
data_part values t count = shown values (data_at values t count)

-- A place in a value that starts at a position of a slice, counted from the first octet of the slice.
abbrev pub moved : (base : ℕ) → Place → Place
moved base p = record { tag = p.tag; start = base + p.start; length = p.length }

-- An address value that starts at a position of the values: read as it is alone, but the places of its others count from
-- the first octet of the values (docs/DECISIONS.md, point 2).
unfoldable pub list_address_at : (base : ℕ) → List ℕ → Table → Listed
list_address_at base v held =
    let alone : Listed = list_address v held in
    listed alone.answer (tabulate (mapped (map (moved base)) (address_places v)) held).table

-- An address parameter that was looked for: 15, then 7 where there is none, then its reading's refusals (document 01,
-- 'Order'). A refusal leaves the table as it was.
unfoldable pub address_found : (tag : ℕ) → List ℕ → Outcome (Option Place) → Table → Listed
address_found tag values (refused number vs) held = listed (refused number vs) held
address_found tag values (accepted None) held = listed (refused 7 (tag ∷ [])) held
address_found tag values (accepted (Some p)) held = list_address_at p.start (valued values p).value held

-- Source and destination address (RFC 3868, 3.10.2 and 3.10.3).
abbrev pub source_address : List ℕ → Table → (count : ℕ) → Table → Listed
source_address values t count = address_found 0x0102 values (find_param values t count 0x0102)

abbrev pub destination_address : List ℕ → Table → (count : ℕ) → Table → Listed
destination_address values t count = address_found 0x0103 values (find_param values t count 0x0103)
