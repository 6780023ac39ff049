-- What `interpret` gives of an address value: the places that one walk over its sub-parameters keeps.
use Rattle.std.specs.Prelude.{ℕ, ◌+◌, List, [], ◌∷◌, ltb, eqb, get_or}
use Rattle.std.specs.Prelude.{Option, None, Some, option_map}
use Rattle.bcd.specs.Outcome.{Outcome, pick, after, mapped}
use Rattle.bcd.specs.Digits.{Alphabet, built_in}
use Rattle.parameter.specs.Parameter.{padded_length, four_in}
use Rattle.parameter.specs.Walk.{places, valued}
use Rattle.parameter.specs.declared.Place.{Place}
use Rattle.address.specs.Address.{Title, title_at, read_address}
use Rattle.address.specs.declared.parts.Parts.{Parts}

-- The one that came first, or this one if it has too few octets.
abbrev pub sooner : Option Place → Place → ℕ → Option Place
sooner None p least = pick (ltb p.length least) (Some p) None
sooner (Some k) p least = Some k

-- The parts of what is kept: the first that is too short, title, point code, SSN, and the count and length of the others.
abbrev pub parts_with : (short title code ssn : Option Place) → (count length : ℕ) → Parts
parts_with short title code ssn count length =
    record { short = short; title = title; code = code; ssn = ssn; other_count = count; other_length = length }

-- Before the walk nothing is kept.
abbrev pub nothing : Parts
nothing = parts_with None None None None 0 0

-- One sub-parameter more, by its tag: the last of a kind is kept.
abbrev pub noted_title : Parts → Place → Parts
noted_title s p = parts_with (sooner s.short p 8) (Some p) s.code s.ssn s.other_count s.other_length

abbrev pub noted_code : Parts → Place → Parts
noted_code s p = parts_with (sooner s.short p 4) s.title (Some p) s.ssn s.other_count s.other_length

abbrev pub noted_ssn : Parts → Place → Parts
noted_ssn s p = parts_with (sooner s.short p 4) s.title s.code (Some p) s.other_count s.other_length

abbrev pub noted_other : Parts → Place → Parts
noted_other s p =
    parts_with s.short s.title s.code s.ssn (s.other_count + 1) (s.other_length + padded_length p.length)

-- Global title, point code, SSN, or another (RFC 3868, 3.10.2.3 to 3.10.2.5).
unfoldable pub noted : Parts → Place → Parts
noted s p =
    pick (eqb p.tag 0x8001) (noted_title s p)
    (pick (eqb p.tag 0x8002) (noted_code s p)
    (pick (eqb p.tag 0x8003) (noted_ssn s p) (noted_other s p)))

-- All of them, in order.
unfoldable pub note_all : Parts → List Place → Parts
note_all s [] = s
note_all s (p ∷ ps) = note_all (noted s p) ps

-- What the walk keeps of an address value that is read; the refusals of its reading.
unfoldable pub interpreted : List ℕ → Outcome Parts
interpreted v = after (read_address built_in v) (λ a. mapped (note_all nothing) (places v 4))

-- The octets of what is kept: a sub-parameter's value (RFC 3868, 3.10.2).
abbrev pub kept_value : List ℕ → Option Place → Option (List ℕ)
kept_value v = option_map (λ p. (valued v p).value)

-- What is kept, as the parts of the address: a title, a point code, an SSN (RFC 3868, 3.10.2.3 to 3.10.2.5).
abbrev pub kept_title : Alphabet → List ℕ → Option Place → Option Title
kept_title A v k = option_map (title_at A) (kept_value v k)

abbrev pub kept_code : List ℕ → Option Place → Option ℕ
kept_code v k = option_map four_in (kept_value v k)

abbrev pub kept_sub : List ℕ → Option Place → Option ℕ
kept_sub v k = option_map (λ w. get_or w 3 0) (kept_value v k)
