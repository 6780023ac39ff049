-- What comes back through reading and the accessors of what was written.
use Rattle.std.specs.Prelude.{ℕ, ◌≡◌, ◌⊎◌, List, [], ◌∷◌, map, length}
use Rattle.std.specs.Prelude.{Option, Some, option_map}
use Rattle.bcd.specs.Outcome.{Outcome, accepted, refused, after}
use Rattle.bcd.specs.Digits.{fold, built_in}
use Rattle.parameter.specs.Parameter.{Param}
use Rattle.parameter.specs.declared.Place.{Place}
use Rattle.parameter.specs.Walk.{valued}
use Rattle.parameter.specs.Table.{Table}
use Rattle.address.specs.Address.{Title, Address, read_address, write_address}
use Rattle.address.specs.Given.{encode_address}
use Rattle.address.specs.declared.SuaAddress.{SuaAddress}
use Rattle.address.specs.Listing.{Listed, listed}
use Rattle.address.specs.Standing.{Stands}
use Rattle.message.specs.declared.types.MessageType.{MessageType}
use Rattle.message.specs.Message.{message, read_message}
use Rattle.message.specs.Accessors.{first_read, routing_context, protocol_class, sequence_control, ss7_hop_count, data_part}

-- Capitals as small letters.
abbrev pub fold_title : Title → Title
fold_title t = record { gti = t.gti; tt = t.tt; np = t.np; noa = t.noa; digits = map fold t.digits }

abbrev pub fold_address : Address → Address
fold_address a = record {
  routing = a.routing;
  gt = a.gt;
  pc = a.pc;
  ssn = a.ssn;
  title = option_map fold_title a.title;
  code = a.code;
  sub = a.sub;
  others = a.others;
}

-- A sub-parameter that is no title, no point code and no SSN.
pub record Other (p : Param) : Type 0 where
  pub title : p.tag ≡ 0x8001 → ⊥
  pub code : p.tag ≡ 0x8002 → ⊥
  pub sub : p.tag ≡ 0x8003 → ⊥

-- A message with two addresses, read back as its type and its parameters, with the addresses as they were written.
pub record ReadsWith (m : MessageType) (ps : (source destination : List ℕ) → List Param) (s d : Outcome (List ℕ)) (os : List ℕ) : Type 0 where
  pub source : List ℕ
  pub destination : List ℕ
  pub source_written : s ≡ accepted source
  pub destination-written : d ≡ accepted destination
  pub reads : read_message os ≡ accepted (message m (ps source destination))

-- The arguments of a CLDT, by the accessors' definitions; s and d are the octets of its addresses.
pub record CldtBack (context class : ℕ) (s d : List ℕ) (sequence : ℕ) (hop : Option ℕ) (octets values : List ℕ) (t : Table) (count : ℕ) : Type 0 where
  pub context_back : routing_context values t count ≡ accepted (Some context)
  pub class_back : protocol_class values t count ≡ accepted (Some class)
  pub source_back : first_read Some 0x0102 values t count ≡ accepted (Some s)
  pub destination_back : first_read Some 0x0103 values t count ≡ accepted (Some d)
  pub sequence_back : sequence_control values t count ≡ accepted (Some sequence)
  pub hop_back : ss7_hop_count values t count ≡ accepted hop
  pub data_back : data_part values t count ≡ octets

-- An address read through an accessor, from values and into a table: the record, with its records in the table over the
-- values, stands for the address; or the table is too small, and stays as it was.
abbrev pub Shows : (values : List ℕ) → Address → Table → Listed → Type 0
Shows values a held l = Stands values a l ⊎ (l ≡ listed (refused 13 (length a.others ∷ [])) held)

-- The parameter that an accessor found, and what its record and table are written as over the same values: the address read
-- and written again.
pub record Back (values : List ℕ) (found : Outcome (Option Place)) (held : Table) (r : SuaAddress) : Type 0 where
  pub place : Place
  pub there : found ≡ accepted (Some place)
  pub written : encode_address r values held ≡ after (read_address built_in (valued values place).value) (write_address built_in 0)
