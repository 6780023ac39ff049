-- How many of the digits that a title declares are absent (document 02, CR 7). A record carries the number; it is no part of what a
-- title means, and writing ignores it. The first argument is the alphabet of the digits.
use Rattle.std.specs.Prelude.{ℕ, ◌-◌, ◌≡◌, List, [], map, length, get_or, take, drop, set, eqb}
use Rattle.std.specs.Prelude.{Option, None, Some, option_map, unwrap_or}
use Rattle.bcd.specs.Outcome.{pick, mapped, accepted_or}
use Rattle.bcd.specs.Digits.{Alphabet}
use Rattle.parameter.specs.Parameter.{Param}
use Rattle.parameter.specs.Walk.{parameters}
use Rattle.address.specs.Address.{title_at, last}
use Rattle.address.specs.Titles.{record_of}
use Rattle.address.specs.declared.GlobalTitle.{GlobalTitle}

-- Of a title's value: the declared count, its fifth octet, less the digits read (RFC 3868, 3.10.2.3).
abbrev pub absent_at : Alphabet → List ℕ → ℕ
absent_at A v = get_or v 4 0 - length (title_at A v).digits

-- The record that a title's value is read as (RFC 3868, 3.10.2.3; document 02, CR 7).
abbrev pub record_at : Alphabet → List ℕ → GlobalTitle
record_at A v = record_of (absent_at A v) (title_at A v)

-- The value of a sub-parameter, if it is a title's (RFC 3868, 3.10.2.3).
abbrev pub title_value : Param → Option (List ℕ)
title_value p = pick (eqb p.tag 0x8001) (Some p.value) None

-- Of the title that holds among sub-parameters, the last one (document 01, module 3); 0 where there is none.
abbrev pub absent_among : Alphabet → List Param → ℕ
absent_among A ps = unwrap_or (option_map (absent_at A) (last title_value ps)) 0

-- Of an address value that is read (RFC 3868, 3.10.2); where reading refuses, no answer has it.
unfoldable pub absent_in : Alphabet → List ℕ → ℕ
absent_in A v = absent_among A (accepted_or [] (parameters (drop 4 v)))

-- A title's value with the count of the digits that it brings.
abbrev pub recounted : Alphabet → List ℕ → List ℕ
recounted A v = set v 4 (length (title_at A v).digits)

-- The same of a title's sub-parameter; any other stays.
abbrev pub recounted_param : Alphabet → Param → Param
recounted_param A p = record { tag = p.tag; value = pick (eqb p.tag 0x8001) (recounted A p.value) p.value }

-- Address values with the same first four octets, routing indicator and address indicator, and the same sub-parameters but for
-- how many digits their titles declare beyond those that they bring.
pub record BringTheSame (A : Alphabet) (v w : List ℕ) : Type 0 where
  pub head : take 4 v ≡ take 4 w
  pub params : mapped (map (recounted_param A)) (parameters (drop 4 v)) ≡ mapped (map (recounted_param A)) (parameters (drop 4 w))
