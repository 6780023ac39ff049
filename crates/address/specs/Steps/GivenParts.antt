-- The parts that are written of an address that is given by its record.
use Rattle.std.specs.Prelude.{List, [], ◌∷◌, ◌++◌, ℕ, ◌+◌, ◌≤◌, ◌≡◌, length, leb}
use Rattle.std.specs.Prelude.{Option, None, Some, is_some}
use Rattle.bcd.specs.Outcome.{Outcome, accepted, pick, after, demand, mapped, each, fit64}
use Rattle.bcd.specs.Digits.{built_in}
use Rattle.parameter.specs.Parameter.{Param, two, padded_length, run_length, most_value, encode_param}
use Rattle.parameter.specs.Table.{Table, records}
use Rattle.address.specs.Address.{title, indicator, sub_param}
use Rattle.address.specs.Records.{routing_value, title_of, title_given, address_of}
use Rattle.address.specs.Lengths.{title_length}
use Rattle.address.specs.declared.GlobalTitle.{GlobalTitle}
use Rattle.address.specs.declared.SuaAddress.{SuaAddress}
use Rattle.address.specs.declared.interpret.Digits.{Digits}
use Rattle.address.specs.declared.interpret.Digits.TheVariants as D

-- The sub-parameter of a title, if it is there: 11, 9.
abbrev pub given_title : Option GlobalTitle → Outcome (List Param)
given_title None = accepted []
given_title (Some g) = after (title_given g) (λ t. sub_param built_in (title t))

-- The value of an SSN's sub-parameter (RFC 3868, 3.10.2.5).
abbrev pub sub_value : ℕ → List ℕ
sub_value n = 0 ∷ 0 ∷ 0 ∷ n ∷ []

-- The octets in front of the sub-parameters: routing indicator, address indicator.
abbrev pub given_head : SuaAddress → List ℕ
given_head a = two (routing_value a.routing_indicator) ++ two (indicator (address_of a []))

-- What a title takes on the wire, if it is there and its digits can be written (RFC 3868, 3.10.2.3). 11 (document 01, 'Refused
-- because of the input').
abbrev pub title_room : Option GlobalTitle → Outcome ℕ
title_room None = accepted 0
title_room (Some g) = demand (leb g.count 255) 11 (g.count ∷ []) (accepted (padded_length (title_length (title_of g))))

-- What a title takes on the wire, if it is there: 11; 9, where its digits are looked at.
abbrev pub title_by : Digits → Option GlobalTitle → Outcome ℕ
title_by D.Checked o = mapped run_length (given_title o)
title_by D.Unchecked o = title_room o

-- There is room for so many octets.
pub record Roomed (o : Outcome ℕ) (out : List ℕ) : Type 0 where
  pub takes : ℕ
  pub known : o ≡ accepted takes
  pub room : takes ≤ length out

-- What a point code or an SSN takes on the wire, if it is there.
abbrev pub four_length : {X : Type 0} → Option X → ℕ
four_length o = pick (is_some o) 8 0

-- A value has at most 65,531 octets, else 10 (document 01, 'Refused because of the input').
abbrev pub within : (tag n : ℕ) → Outcome ℕ
within tag n = demand (leb n most_value) 10 (tag ∷ fit64 n ∷ []) (accepted n)

-- How many octets an address value has, with what its title takes: 15, the title's refusal, 10 for each other, 10 for the whole
-- (document 01, 'Order').
unfoldable pub length_with : (tag : ℕ) → (taken : Outcome ℕ) → SuaAddress → (values : List ℕ) → Table → Outcome ℕ
length_with tag taken a values t =
    after (records values t a.other_count) (λ others.
    after taken (λ n.
    after (each encode_param others) (λ w.
    within tag (4 + n + four_length a.point_code + four_length a.ssn + length w))))

-- The same of an address whose digits can be written.
abbrev pub room_for : (tag : ℕ) → SuaAddress → (values : List ℕ) → Table → Outcome ℕ
room_for tag a values t = length_with tag (title_room a.global_title) a values t
