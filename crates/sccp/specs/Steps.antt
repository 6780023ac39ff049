-- Steps of the code between its public calls. No public contract of this crate cites these.
use denote.Ref.{Bor}
use Rattle.std.specs.Prelude.{ℕ, ◌+◌, ◌&&◌, Bool, true, false, List, [], ◌++◌, leb, eqb, length, get_or, take, drop}
use Rattle.std.specs.Prelude.{Option, None, Some, option_map, is_some}
use Rattle.bcd.specs.Outcome.{Outcome, accepted, pick, demand, each}
use Rattle.bcd.specs.Digits.{halves, pack, built_in, digits_in}
use Rattle.parameter.specs.Parameter.{Param, two, two_at, padded_length}
use Rattle.address.specs.Address as Sua
use Rattle.address.specs.Address.{Address, bit, present, sub_param}
use Rattle.address.specs.declared.parts.Parts.{Parts}
use Rattle.sccp.specs.Sccp.{with_parts, same, routes}
use Rattle.sccp.specs.declared.common.Digits.{Digits}
use Rattle.sccp.specs.declared.common.Title.{Title}
use Rattle.sccp.specs.declared.common.Common.{Common}

-- The digits, the title and the address that the code's records stand for.
abbrev pub digits_from : Digits → List ℕ
digits_from d = digits_in built_in d.octets.now d.count

abbrev pub title_from : Title → Sua.Title
title_from t = record {
  gti = 4;
  tt = t.translation_type;
  np = t.numbering_plan;
  noa = t.nature_of_address;
  digits = digits_from t.digits;
}

abbrev pub address_from : Common → Address
address_from p = with_parts (pick p.on_title 1 2) p.point_code p.ssn (option_map title_from p.title)

-- A part that was read, and the octets behind it.
abbrev pub behind : Option (List ℕ) × Bor (List ℕ) → Option (List ℕ) × List ℕ
behind p = (p.0, p.1.now)

-- The octets of a part of n octets, if it is there, and those behind it. 18 where fewer are left.
abbrev pub taken : (n : ℕ) → (there : Bool) → List ℕ → Outcome (Option (List ℕ) × List ℕ)
taken n false xs = accepted (None, xs)
taken n true xs = demand (leb n (length xs)) 18 [] (accepted (Some (take n xs), drop n xs))

-- What an address needs to convert, but for its title and its point code: by the parts of an address value that was read.
abbrev pub plain_parts : List ℕ → Parts → Bool
plain_parts v s =
    routes (two_at v 0)
    && (same (bit 4 (get_or v 3 0)) (is_some s.title)
    && (same (bit 2 (get_or v 3 0)) (is_some s.code)
    && (same (bit 1 (get_or v 3 0)) (is_some s.ssn)
    && eqb s.other_count 0)))

-- What converts is accepted; anything else is 17.
abbrev pub convertible : {A : Type 0} → (A → Bool) → A → Outcome A
convertible test x = demand (test x) 17 [] (accepted x)

-- The octets of digits.
abbrev pub packed : Digits → List ℕ
packed d = pack (take d.count (halves d.octets.now))

-- How many octets the title of a party address takes, and the whole.
abbrev pub title_length : Option Title → ℕ
title_length None = 0
title_length (Some t) = 3 + length t.digits.octets.now

abbrev pub party_length : Common → ℕ
party_length p = 1 + pick (is_some p.point_code) 2 0 + pick (is_some p.ssn) 1 0 + title_length p.title

-- The sub-parameter that a title is written as, if it is there, and how many octets it takes.
abbrev pub title_param : Option Title → Outcome (List Param)
title_param t = each (sub_param built_in) (present Sua.title (option_map title_from t))

abbrev pub param_length : Option Title → ℕ
param_length None = 0
param_length (Some t) = padded_length (8 + length t.digits.octets.now)

-- The octets in front of the sub-parameters of an address value: routing indicator, address indicator; how many octets the whole
-- takes.
abbrev pub head_from : Common → List ℕ
head_from p =
    two (pick p.on_title 1 2)
    ++ two (pick (is_some p.ssn) 1 0 + pick (is_some p.point_code) 2 0 + pick (is_some p.title) 4 0)

abbrev pub value_length : Common → ℕ
value_length p = 4 + param_length p.title + pick (is_some p.point_code) 8 0 + pick (is_some p.ssn) 8 0
