-- Worked addresses: an address value of SUA, and the party address of SCCP that it converts to and from; and some that do
-- not convert.
use Rattle.std.specs.Prelude.{ℕ, ◌≡◌, List, [], ◌∷◌, replicate}
use Rattle.bcd.specs.Outcome.{accepted, refused}
use Rattle.parameter.specs.Parameter.{words}
use Rattle.sccp.specs.Sccp.{to_sccp, from_sccp}

-- What converts both ways, and what is refused, with the refusal's number.
pub data Example : Type 0 where
  converts : (value party : List ℕ) → Example
  refused_to : (value : List ℕ) → (number : ℕ) → Example
  refused_from : (party : List ℕ) → (number : ℕ) → Example

abbrev pub Holds : Example → Type 0
Holds (converts value party) = (to_sccp value ≡ accepted party) × (from_sccp party ≡ accepted value)
Holds (refused_to value n) = to_sccp value ≡ refused n []
Holds (refused_from party n) = from_sccp party ≡ refused n []

abbrev pub converted : List Example
converted =
    -- the title 12345 and SSN 6, routed on the title
    converts
    (words (0x00010005 ∷ 0x8001000F ∷ 0x00000004 ∷ 0x05000104 ∷ 0x21430500 ∷ 0x80030008 ∷ 0x00000006 ∷ []))
    (0x12 ∷ 0x06 ∷ 0x00 ∷ 0x11 ∷ 0x04 ∷ 0x21 ∷ 0x43 ∷ 0x05 ∷ [])
    -- the title 123456 alone
    ∷ converts
    (words (0x00010004 ∷ 0x8001000F ∷ 0x00000004 ∷ 0x06090703 ∷ 0x21436500 ∷ []))
    (0x10 ∷ 0x09 ∷ 0x72 ∷ 0x03 ∷ 0x21 ∷ 0x43 ∷ 0x65 ∷ [])
    -- a title without digits
    ∷ converts (words (0x00010004 ∷ 0x8001000C ∷ 0x00000004 ∷ 0x00000104 ∷ [])) (0x10 ∷ 0x00 ∷ 0x12 ∷ 0x04 ∷ [])
    -- point code 4,660 and SSN 8, routed on the SSN
    ∷ converts
    (words (0x00020003 ∷ 0x80020008 ∷ 0x00001234 ∷ 0x80030008 ∷ 0x00000008 ∷ []))
    (0x43 ∷ 0x34 ∷ 0x12 ∷ 0x08 ∷ [])
    -- all three: the title *#c with the largest plan and nature, the largest point code, and SSN 254
    ∷ converts
    (words (0x00020007 ∷ 0x8001000E ∷ 0x00000004 ∷ 0x03020F7F ∷ 0xBA0E0000 ∷ 0x80020008 ∷ 0x00003FFF ∷ 0x80030008 ∷ 0x000000FE ∷ []))
    (0x53 ∷ 0xFF ∷ 0x3F ∷ 0xFE ∷ 0x02 ∷ 0xF1 ∷ 0x7F ∷ 0xBA ∷ 0x0E ∷ [])
    -- nothing but the routing
    ∷ converts (words (0x00020000 ∷ [])) (0x40 ∷ [])
    ∷ []

abbrev pub unconverted : List Example
unconverted =
    -- the title 1 with the nature 128
    refused_to (words (0x00010004 ∷ 0x8001000D ∷ 0x00000004 ∷ 0x01000180 ∷ 0x01000000 ∷ [])) 17
    -- a title's include bit without a title
    ∷ refused_to (words (0x00020005 ∷ 0x80030008 ∷ 0x00000008 ∷ [])) 17
    -- point code 16,384
    ∷ refused_to (words (0x00020002 ∷ 0x80020008 ∷ 0x00004000 ∷ [])) 17
    -- the title 12345 with the filler 1
    ∷ refused_from (0x12 ∷ 0x06 ∷ 0x00 ∷ 0x11 ∷ 0x04 ∷ 0x21 ∷ 0x43 ∷ 0x15 ∷ []) 18
    -- the title 1 with the high bit of its nature, and with scheme 0
    ∷ refused_from (0x10 ∷ 0x00 ∷ 0x11 ∷ 0x84 ∷ 0x01 ∷ []) 18
    ∷ refused_from (0x10 ∷ 0x00 ∷ 0x10 ∷ 0x04 ∷ 0x01 ∷ []) 18
    -- a title of 256 digits
    ∷ refused_from (0x10 ∷ 0x00 ∷ 0x12 ∷ 0x04 ∷ replicate 128 0x11) 18
    -- an octet behind the last part, and none at all
    ∷ refused_from (0x43 ∷ 0x34 ∷ 0x12 ∷ 0x08 ∷ 0x00 ∷ []) 18
    ∷ refused_from [] 18
    ∷ []
