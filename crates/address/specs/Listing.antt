-- An address read into a record, with the places of its other sub-parameters in a lent table (document 01, module 3).
use Rattle.std.specs.Prelude.{ℕ, Bool, true, false, List, [], ◌∷◌, eqb, length, get_or}
use Rattle.std.specs.Prelude.{option_map}
use Rattle.bcd.specs.Outcome.{Outcome, pick, after, mapped}
use Rattle.bcd.specs.Digits.{built_in}
use Rattle.parameter.specs.Walk.{places}
use Rattle.parameter.specs.Table.{Table, Tabulated, tabulate}
use Rattle.parameter.specs.declared.Place.{Place}
use Rattle.address.specs.Address.{Address, read_address}
use Rattle.address.specs.Titles.{record_of}
use Rattle.address.specs.Absent.{absent_in}
use Rattle.address.specs.declared.RoutingIndicator.{RoutingIndicator}
use Rattle.address.specs.declared.RoutingIndicator.TheVariants as I
use Rattle.address.specs.declared.SuaAddress.{SuaAddress}

-- A sub-parameter that is no title, point code or SSN stays raw (document 01, 'Records on the wire').
abbrev pub is_other : ℕ → Bool
is_other tag = pick (eqb tag 0x8001) false (pick (eqb tag 0x8002) false (pick (eqb tag 0x8003) false true))

abbrev pub other_places : List Place → List Place
other_places [] = []
other_places (p ∷ ps) = pick (is_other p.tag) (p ∷ other_places ps) (other_places ps)

-- The places of an address's other sub-parameters, counted from the first octet of its value (docs/DECISIONS.md, point 2).
unfoldable pub address_places : List ℕ → Outcome (List Place)
address_places v = after (read_address built_in v) (λ a. mapped other_places (places v 4))

-- The routing indicator of a number up to 4 (RFC 3868, 3.10.2.1).
abbrev pub routing_named : ℕ → RoutingIndicator
routing_named n =
    get_or (I.Reserved ∷ I.RouteOnGlobalTitle ∷ I.RouteOnSsnAndPc ∷ I.RouteOnHostname ∷ I.RouteOnSsnAndIp ∷ []) n I.Reserved

-- The record of an address, with how many digits of its title are absent; its other sub-parameters stand in a lent table
-- (document 01, 'Rust forms that cannot stay').
abbrev pub address_record : (absent : ℕ) → Address → SuaAddress
address_record absent a = record {
  routing_indicator = routing_named a.routing;
  include_gt = a.gt;
  include_pc = a.pc;
  include_ssn = a.ssn;
  global_title = option_map (record_of absent) a.title;
  point_code = a.code;
  ssn = a.sub;
  other_count = length a.others;
}

-- What reading an address into a record and a lent table answers, and what the table then holds.
pub record Listed : Type 0 where
  pub answer : Outcome SuaAddress
  pub table : Table

-- An answer beside what the table then holds.
abbrev pub listed : Outcome SuaAddress → Table → Listed
listed answer held = record { answer = answer; table = held }

-- The refusals of reading, then 13 (document 01, 'Order').
unfoldable pub list_address : List ℕ → Table → Listed
list_address v t =
    let stored : Tabulated = tabulate (address_places v) t in
    listed (after (read_address built_in v) (λ a. mapped (λ n. address_record (absent_in built_in v) a) stored.answer)) stored.table
