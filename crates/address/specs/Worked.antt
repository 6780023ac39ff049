-- Worked addresses: one with every part, one with nothing but an include bit, titles that ran short, and addresses with two titles
-- (document 02, CR 7).
use Rattle.std.specs.Prelude.{ℕ, true, false, List, [], ◌∷◌, map, None, Some}
use Rattle.parameter.specs.Parameter.{param, run_octets, words}
use Rattle.address.specs.Address.{Address}

-- A title's value that declares so many digits and brings these octets.
abbrev pub declaring : (count : ℕ) → List ℕ → List ℕ
declaring count os = 0 ∷ 0 ∷ 0 ∷ 4 ∷ count ∷ 0 ∷ 1 ∷ 4 ∷ os

-- An address value with these titles.
abbrev pub with_titles : List (List ℕ) → List ℕ
with_titles vs = 0 ∷ 1 ∷ 0 ∷ 4 ∷ run_octets (map (param 0x8001) vs)

-- Titles' values, each with how many of its declared digits are absent.
abbrev pub declared_titles : List (List ℕ × ℕ)
declared_titles =
    (declaring 4 (0x21 ∷ 0x03 ∷ []), 0)
    ∷ (declaring 3 (0x21 ∷ 0xF3 ∷ []), 0)
    ∷ (declaring 9 (0x21 ∷ 0x03 ∷ []), 5)
    -- an odd last digit, whose octet did not come
    ∷ (declaring 3 (0x21 ∷ []), 1)
    ∷ (declaring 255 [], 255)
    -- octets beyond the count
    ∷ (declaring 0 (0x21 ∷ []), 0)
    ∷ []

-- The same of addresses: the last title holds.
abbrev pub titled_addresses : List (List ℕ × ℕ)
titled_addresses =
    (with_titles (declaring 4 (0x21 ∷ 0x03 ∷ []) ∷ declaring 9 (0x21 ∷ 0x03 ∷ []) ∷ []), 5)
    ∷ (with_titles (declaring 9 (0x21 ∷ 0x03 ∷ []) ∷ declaring 4 (0x21 ∷ 0x03 ∷ []) ∷ []), 0)
    ∷ (with_titles [], 0)
    ∷ []

-- An address value with a title, a point code, an SSN and an IPv4 address, whose include bits are 4 and 1; and what it is read as.
abbrev pub whole_value : List ℕ
whole_value =
    words
    (0x00030005
    ∷ 0x8001000D ∷ 0x01020304 ∷ 0x01060708 ∷ 0x05000000
    ∷ 0x80020008 ∷ 0xAABBCCDD
    ∷ 0x80030008 ∷ 0x11223344
    ∷ 0x80040005 ∷ 0x41000000 ∷ [])

abbrev pub whole_address : Address
whole_address = record {
  routing = 3;
  gt = true;
  pc = false;
  ssn = true;
  title = Some (record { gti = 4; tt = 6; np = 7; noa = 8; digits = 0x35 ∷ [] });
  code = Some 0xAABBCCDD;
  sub = Some 0x44;
  others = param 0x8004 (0x41 ∷ []) ∷ [];
}

-- One with no parts, whose include bit is 2, among reserved ones.
abbrev pub bare_value : List ℕ
bare_value = words (0x0004FFFA ∷ [])

abbrev pub bare_address : Address
bare_address = record { routing = 4; gt = false; pc = true; ssn = false; title = None; code = None; sub = None; others = [] }
