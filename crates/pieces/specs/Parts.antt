-- The parts of a message between the constructors and the octets.
use Rattle.std.specs.Prelude.{ℕ, ◌≤◌, ◌≡◌, List, [], ◌∷◌, length, Option, None, Some}
use Rattle.bcd.specs.Outcome.{Outcome, accepted, after, each}
use Rattle.parameter.specs.Parameter.{Param, encode_param, param, four}
use Rattle.parameter.specs.Table.{Table}
use Rattle.address.specs.declared.SuaAddress.{SuaAddress}
use Rattle.address.specs.Given.{encode_address_as}
use Rattle.pieces.specs.PointCodes.{codes_octets}
use Rattle.pieces.specs.declared.Part.{Part}
use Rattle.pieces.specs.declared.Part.TheVariants as P

-- A parameter of a 32-bit number (RFC 3868, 3.9, 3.10).
abbrev pub number : (tag n : ℕ) → Param
number tag n = param tag (four n)

-- A parameter of three reserved octets and one of value (RFC 3868, 3.9, 3.10).
abbrev pub octet : (tag n : ℕ) → Param
octet tag n = param tag (0 ∷ 0 ∷ 0 ∷ n ∷ [])

-- The parameter of a value, if there is one.
abbrev pub given : {A : Type 0} → (A → Param) → Option A → List Param
given made None = []
given made (Some a) = made a ∷ []

-- The point codes of a parameter (RFC 3868, 3.9).
abbrev pub affected : (codes : List ℕ) → Param
affected codes = param 0x0012 (codes_octets codes)

-- An address as a parameter.
abbrev pub address_param : (tag : ℕ) → SuaAddress → (values : List ℕ) → Table → Outcome (List ℕ)
address_param tag a values t = after (encode_address_as tag a values t) (λ w. encode_param (param tag w))

-- A part, written as one parameter.
abbrev pub part_written : Part → Outcome (List ℕ)
part_written (P.Number tag n) = encode_param (number tag n)
part_written (P.Octet tag n) = encode_param (octet tag n)
part_written (P.Octets tag octets) = encode_param (param tag octets.now)
part_written (P.Codes codes) = encode_param (affected codes.now)
part_written (P.Address tag a others) = address_param tag a.now others.values.now others.rows.now

abbrev pub given_written : Option Part → Outcome (List ℕ)
given_written None = accepted []
given_written (Some part) = part_written part

-- Parts in a row, written; an absent one is nothing.
abbrev pub run_written : List (Option Part) → Outcome (List ℕ)
run_written parts = each given_written parts

-- Octets that are written, into so much room.
pub record Placeable (o : Outcome (List ℕ)) (room : ℕ) : Type 0 where
  pub octets : List ℕ
  pub encoded : o ≡ accepted octets
  pub fits : length octets ≤ room
