-- Worked screens: records with each of the seven tags twice, and what is shown where an address or a record is not right.
use Rattle.std.specs.Prelude.{ℕ, false, List, [], ◌∷◌}
use Rattle.std.specs.Prelude.{Option, None, Some}
use Rattle.bcd.specs.Outcome.{accepted, refused}
use Rattle.parameter.specs.Parameter.{param}
use Rattle.parameter.specs.Table.{Table, table}
use Rattle.address.specs.Address.{Title}
use Rattle.address.specs.Listing.{address_record, Listed, listed}
use Rattle.lookup.specs.Screen.{Handling}

-- Five values of four octets; an address with an other sub-parameter, 0x8005, of no octets; one with an SSN, 6, the same, and a
-- title that declares nine digits and brings none.
abbrev pub worked_values : List ℕ
worked_values =
    0 ∷ 0 ∷ 0 ∷ 7
    ∷ 0 ∷ 0 ∷ 0 ∷ 1
    ∷ 0 ∷ 0 ∷ 1 ∷ 0
    ∷ 0 ∷ 0 ∷ 0 ∷ 15
    ∷ 0 ∷ 0 ∷ 4 ∷ 9
    ∷ 0 ∷ 1 ∷ 0 ∷ 0 ∷ 0x80 ∷ 5 ∷ 0 ∷ 4
    ∷ 0 ∷ 2 ∷ 0 ∷ 0 ∷ 0x80 ∷ 3 ∷ 0 ∷ 8 ∷ 0 ∷ 0 ∷ 0 ∷ 6 ∷ 0x80 ∷ 5 ∷ 0 ∷ 4
    ∷ 0x80 ∷ 1 ∷ 0 ∷ 12 ∷ 0 ∷ 0 ∷ 0 ∷ 4 ∷ 9 ∷ 0 ∷ 1 ∷ 4
    ∷ []

-- The seven tags, the source's left out or not, and again, each time with another's value.
abbrev pub worked_tags : (source : ℕ) → List ℕ
worked_tags source =
    6 ∷ 0x0115 ∷ 0x0116 ∷ 0x0101 ∷ 0x0106 ∷ source ∷ 0x0103 ∷ 6 ∷ 0x0115 ∷ 0x0116 ∷ 0x0101 ∷ 0x0106 ∷ source ∷ 0x0103 ∷ []

-- The first routing context has so many octets, and the last value starts at a position: 20, where it lies inside.
abbrev pub worked_table : (source context last : ℕ) → Table
worked_table source context last =
    table (worked_tags source)
    (0 ∷ 4 ∷ 8 ∷ 12 ∷ 16 ∷ 20 ∷ 28 ∷ 4 ∷ 8 ∷ 12 ∷ 16 ∷ 0 ∷ 28 ∷ last ∷ [])
    (context ∷ 4 ∷ 4 ∷ 4 ∷ 4 ∷ 8 ∷ 28 ∷ 4 ∷ 4 ∷ 4 ∷ 4 ∷ 4 ∷ 28 ∷ 8 ∷ [])

-- A table with room for one other, and one with room for none.
abbrev pub room_for_one : Table
room_for_one = table (9 ∷ []) (9 ∷ []) (9 ∷ [])

abbrev pub room_for_none : Table
room_for_none = []

-- A routing context and two addresses, beside the other numbers as the first records have them.
abbrev pub worked_fields : Option ℕ → (source destination : Listed) → Handling
worked_fields context source destination = record {
  context = accepted context;
  class = accepted (Some 1);
  control = accepted (Some 0x0100);
  hops = accepted (Some 15);
  cause = accepted (Some (record { cause_type = 4; cause_value = 9 }));
  source = source;
  destination = destination;
}

abbrev pub worked_source : Listed
worked_source =
    listed
    (accepted (address_record 0 (record { routing = 1; gt = false; pc = false; ssn = false; title = None; code = None; sub = None; others = param 0x8005 [] ∷ [] })))
    (table (0x8005 ∷ []) (28 ∷ []) (0 ∷ []))

abbrev pub worked_title : Title
worked_title = record { gti = 4; tt = 0; np = 1; noa = 4; digits = [] }

abbrev pub worked_destination : Listed
worked_destination =
    listed
    (accepted (address_record 9 (record { routing = 2; gt = false; pc = false; ssn = false; title = Some worked_title; code = None; sub = Some 6; others = param 0x8005 [] ∷ [] })))
    (table (0x8005 ∷ []) (44 ∷ []) (0 ∷ []))

-- An address that was refused, with its table as it was.
abbrev pub refused_with : (number : ℕ) → List ℕ → Table → Listed
refused_with number vs held = listed (refused number vs) held

-- One refusal in all seven, and 15.
abbrev pub all_refused : (number : ℕ) → List ℕ → (source destination : Table) → Handling
all_refused number vs source destination = record {
  context = refused number vs;
  class = refused number vs;
  control = refused number vs;
  hops = refused number vs;
  cause = refused number vs;
  source = refused_with number vs source;
  destination = refused_with number vs destination;
}

abbrev pub all_outside : (source destination : Table) → Handling
all_outside = all_refused 15 []
