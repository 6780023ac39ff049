-- Affected point codes (RFC 3868, 3.9, 0x0012; document 01, module 6): one mask octet and 24 bits of point code each.
use Rattle.std.specs.Prelude.{ℕ, ◌+◌, ◌*◌, ◌/◌, ◌%◌, List, [], ◌∷◌, ◌++◌, length, leb}
use Rattle.bcd.specs.Outcome.{Outcome, accepted, after, demand, bounded, Delivered, deliver}

-- The low 24 bits of a code: what is written of it.
abbrev pub low24 : ℕ → ℕ
low24 code = code % 16777216

-- A code as four octets: a mask of 0, then its low 24 bits, the high octet first.
abbrev pub code_octets : ℕ → List ℕ
code_octets code = 0 ∷ code / 65536 % 256 ∷ code / 256 % 256 ∷ code % 256 ∷ []

unfoldable pub codes_octets : List ℕ → List ℕ
codes_octets [] = []
codes_octets (code ∷ codes) = code_octets code ++ codes_octets codes

-- The most codes that one parameter holds (document 01, 'Bounds of the domain').
abbrev pub most_codes : ℕ
most_codes = 16382

-- Writing: 10 with the parameter's tag and the length that its value would have (document 01, 'Order').
unfoldable pub pack_codes : List ℕ → Outcome (List ℕ)
pack_codes codes = demand (leb (length codes) most_codes) 10 (0x0012 ∷ 4 * length codes ∷ []) (accepted (codes_octets codes))

-- The codes in octets: each group's mask is dropped, and so is an unfinished group.
unfoldable pub codes_in : List ℕ → List ℕ
codes_in (mask ∷ high ∷ middle ∷ low ∷ xs) = (high * 65536 + middle * 256 + low) ∷ codes_in xs
codes_in (mask ∷ high ∷ middle ∷ []) = []
codes_in (mask ∷ high ∷ []) = []
codes_in (mask ∷ []) = []
codes_in [] = []

-- Reading: 12 (document 01, 'Order').
unfoldable pub unpack_codes : List ℕ → Outcome (List ℕ)
unpack_codes xs = bounded xs (accepted (codes_in xs))

-- Codes stored in a lent table: those that fit stand in front of what it held beyond them, and their number is answered; 13
-- where they do not fit. A refusal leaves the table as it was.
unfoldable pub store_codes : Outcome (List ℕ) → List ℕ → Delivered
store_codes o held = deliver (after o (λ codes. demand (leb (length codes) (length held)) 13 (length codes ∷ []) (accepted codes))) held
