-- The digits of a global title (RFC 3868, 3.10.2.3; coded as ITU-T Q.713, 3.4.2.3.1, but for document 01, module 1).
use Rattle.std.specs.Prelude.{ℕ, suc, ◌+◌, ◌*◌, ◌/◌, ◌%◌, ◌-◌, ◌<◌, min, ◌≡◌, ◌&&◌, List, [], ◌∷◌, ◌++◌, map, length, get_or, take, drop, replicate, leb, eqb}
use Rattle.std.specs.Prelude.{Option, None, Some, option_map}
use Rattle.bcd.specs.Outcome.{Outcome, accepted, refused, pick, demand, mapped, each, All, bounded}
use Rattle.bcd.specs.declared.GtDigits.{GtDigits}

-- The half octets of an octet string, the low half of each octet first (RFC 3868, 3.10.2.3).
unfoldable pub halves : List ℕ → List ℕ
halves [] = []
halves (x ∷ xs) = x % 16 ∷ x / 16 ∷ halves xs

-- The octets of half octets, the first in the low half; after an odd number the last high half is 0 (RFC 3868, 3.10.2.3).
unfoldable pub pack : List ℕ → List ℕ
pack [] = []
pack (low ∷ []) = low ∷ []
pack (low ∷ high ∷ hs) = (high * 16 + low) ∷ pack hs

-- The character that a half octet reads as, and the half octet that a character is written as, if any.
pub record Alphabet : Type 0 where
  pub char : ℕ → ℕ
  pub half : ℕ → Option ℕ

-- A character is written as a half octet; what a half octet reads as is written, if at all, as that half octet.
pub record Lawful (A : Alphabet) : Type 0 where
  pub small : (c h : ℕ) → A.half c ≡ Some h → h < 16
  pub back : (h k : ℕ) → h < 16 → A.half (A.char h) ≡ Some k → k ≡ h

-- The first place of a character in a list, if it is there.
abbrev pub place : ℕ → List ℕ → Option ℕ
place c [] = None
place c (x ∷ xs) = pick (eqb c x) (Some 0) (option_map suc (place c xs))

-- The built-in characters of the half octets 0 to 15 (document 01, module 1): 0 1 2 3 4 5 6 7 8 9 * # a b c ?
abbrev pub characters : List ℕ
characters =
    0x30 ∷ 0x31 ∷ 0x32 ∷ 0x33 ∷ 0x34 ∷ 0x35 ∷ 0x36 ∷ 0x37 ∷ 0x38 ∷ 0x39 ∷ 0x2A ∷ 0x23 ∷ 0x61 ∷ 0x62 ∷ 0x63 ∷ 0x3F ∷ []

-- A to C count as a to c (document 01, module 1).
abbrev pub fold : ℕ → ℕ
fold c = pick (leb 0x41 c && leb c 0x43) (c + 32) c

-- Capitals are written too, and ? is not (document 01, module 1).
abbrev pub built_in : Alphabet
built_in = record { char = λ h. get_or characters h 0x3F; half = λ c. place (fold c) (take 15 characters) }

-- The digits read: of as many half octets as the count says, or as there are (document 01, module 1).
unfoldable pub digits_in : Alphabet → List ℕ → (count : ℕ) → List ℕ
digits_in A xs count = map A.char (take count (halves xs))

-- Reading digits refuses 12 (document 01, 'Order').
unfoldable pub read_digits : Alphabet → List ℕ → (count : ℕ) → Outcome (List ℕ)
read_digits A xs count = bounded xs (accepted (digits_in A xs count))

-- Digits as the code holds them: in front of zeros, with their number, and how many of those declared are absent: the count that
-- was declared less the digits read (document 02, CR 7).
abbrev pub digits_record : (declared : ℕ) → List ℕ → GtDigits
digits_record declared cs =
    record { digits = cs ++ drop (length cs) (replicate 255 0); count = length cs; absent = declared - length cs }

-- A character that is written as no half octet is refused as 9.
abbrev pub written : ℕ → Option ℕ → Outcome (List ℕ)
written c None = refused 9 (c ∷ [])
written c (Some h) = accepted (h ∷ [])

-- Writing digits refuses 11, then 9 at the first bad one (document 01, 'Order').
unfoldable pub write_digits : Alphabet → List ℕ → Outcome (List ℕ)
write_digits A cs = demand (leb (length cs) 255) 11 (length cs ∷ []) (mapped pack (each (λ c. written c (A.half c)) cs))

-- No digit is ?, which is read and never written (document 01, module 1).
abbrev pub KnownDigits : List ℕ → Type 0
KnownDigits = All (λ (c : ℕ). c ≡ 0x3F → ⊥)

-- Two octet strings give as many digits for a count, and at each place their half octets read as the same character.
abbrev pub SameCharacters : Alphabet → List ℕ → List ℕ → (count : ℕ) → Type 0
SameCharacters A xs ys count =
    (min count (2 * length xs) ≡ min count (2 * length ys))
    × ((i : ℕ) → i < min count (2 * length xs) → A.char (get_or (halves xs) i 0) ≡ A.char (get_or (halves ys) i 0))
