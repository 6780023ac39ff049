-- Writing an address that is given by its record.
use Rattle.std.specs.Prelude.{ℕ, List, [], ◌∷◌, Option, None, Some}
use Rattle.bcd.specs.Outcome.{Outcome, after}
use Rattle.bcd.specs.Digits.{built_in}
use Rattle.parameter.specs.Parameter.{Param, param}
use Rattle.parameter.specs.Table.{Table, records}
use Rattle.address.specs.Address.{write_address}
use Rattle.address.specs.Records.{address_given}
use Rattle.address.specs.declared.SuaAddress.{SuaAddress}

-- The other sub-parameters are records over a lent slice of values. 15, 11, 9, 10 for each other, 10 for the whole
-- (document 01, 'Order'), with the tag of the parameter that the address is to be the value of.
unfoldable pub encode_address_as : (tag : ℕ) → SuaAddress → (values : List ℕ) → Table → Outcome (List ℕ)
encode_address_as tag a values t =
    after (records values t a.other_count) (λ others.
    after (address_given a others) (write_address built_in tag))

-- An address written alone has tag 0 (document 01, 'Refused because of the input').
abbrev pub encode_address : SuaAddress → (values : List ℕ) → Table → Outcome (List ℕ)
encode_address = encode_address_as 0

-- A sub-parameter of a tag and a value, if it is there: a point code, an SSN (RFC 3868, 3.10.2.4 and 3.10.2.5).
abbrev pub given_param : (tag : ℕ) → Option (List ℕ) → List Param
given_param tag None = []
given_param tag (Some v) = param tag v ∷ []
