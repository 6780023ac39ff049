-- Party addresses of SCCP, read and written as addresses of SUA (ITU-T Q.713, 3.4; document 02, change request 5). The length
-- octet that stands before a party address in a message is no part of it.
use Rattle.std.specs.Prelude.{ℕ, ◌+◌, ◌-◌, ◌*◌, ◌/◌, ◌%◌, Bool, true, false, not, ◌&&◌, List, [], ◌∷◌, ◌++◌, leb, eqb, length, get_or}
use Rattle.std.specs.Prelude.{Option, None, Some, is_some}
use Rattle.bcd.specs.Outcome.{Outcome, accepted, refused, pick, after, demand, mapped, bounded}
use Rattle.bcd.specs.Digits.{halves, built_in, digits_in, write_digits}
use Rattle.parameter.specs.Parameter.{Param}
use Rattle.address.specs.Address.{Title, Address, bit, read_address, write_address}

-- Octets that are no party address of SCCP, or one that does not convert (document 02, change request 5).
abbrev pub invalid : {A : Type 0} → Outcome A
invalid = refused 18 []

-- No digit is ?, which half octet 15 reads as.
abbrev pub known : List ℕ → Bool
known [] = true
known (c ∷ cs) = not (eqb c 0x3F) && known cs

-- An address with these parts, which its include bits say are there, and no other sub-parameters.
abbrev pub with_parts : (routing : ℕ) → (code sub : Option ℕ) → Option Title → Address
with_parts routing code sub title = record {
  routing = routing;
  gt = is_some title;
  pc = is_some code;
  ssn = is_some sub;
  title = title;
  code = code;
  sub = sub;
  others = [];
}

-- Point code: 14 bits in two octets, the low one first, the two high bits 0 (Q.713, 3.4.2.1). Read, with the octets behind it.
abbrev pub code_in : Bool → List ℕ → Outcome (Option ℕ × List ℕ)
code_in false xs = accepted (None, xs)
code_in true (low ∷ high ∷ xs) = demand (leb high 63) 18 [] (accepted (Some (high * 256 + low), xs))
code_in true (x ∷ []) = invalid
code_in true [] = invalid

-- Subsystem number: one octet (Q.713, 3.4.2.2). Read, with the octets behind it.
abbrev pub sub_in : Bool → List ℕ → Outcome (Option ℕ × List ℕ)
sub_in false xs = accepted (None, xs)
sub_in true (n ∷ xs) = accepted (Some n, xs)
sub_in true [] = invalid

-- How many digits stand in n octets, by the encoding scheme: 1 is BCD with an odd number, 2 with an even number (Q.713,
-- 3.4.2.3.4). Another scheme, or BCD odd without octets, is refused.
abbrev pub digit_count : (scheme n : ℕ) → Outcome ℕ
digit_count scheme n =
    pick (eqb scheme 1) (demand (leb 1 n) 18 [] (accepted (2 * n - 1)))
    (pick (eqb scheme 2) (accepted (2 * n)) invalid)

-- The digits, two to an octet, the first in the low half; behind an odd number stands a half octet of 0 (Q.713, 3.4.2.3.1). Over
-- 255 digits, another filler, or a ? is refused.
unfoldable pub digits_of : (scheme : ℕ) → List ℕ → Outcome (List ℕ)
digits_of scheme xs =
    after (digit_count scheme (length xs)) (λ count.
    demand (leb count 255 && (eqb (get_or (halves xs) count 0) 0 && known (digits_in built_in xs count))) 18 []
    (accepted (digits_in built_in xs count)))

-- Global title of indicator 4: translation type; numbering plan in the high half and encoding scheme in the low half of an
-- octet; nature of address in seven bits, the high bit 0; digits (Q.713, 3.4.2.3.4).
abbrev pub title_in : List ℕ → Outcome (Option Title)
title_in (tt ∷ plan ∷ nature ∷ xs) =
    demand (leb nature 127) 18 []
    (mapped (λ ds. Some (record { gti = 4; tt = tt; np = plan / 16; noa = nature; digits = ds })) (digits_of (plan % 16) xs))
title_in (x ∷ y ∷ []) = invalid
title_in (x ∷ []) = invalid
title_in [] = invalid

-- Nothing stands behind the last part.
abbrev pub nothing_left : List ℕ → Outcome (Option Title)
nothing_left [] = accepted None
nothing_left (x ∷ xs) = invalid

-- The title by its indicator: none or 4 (Q.713, 3.4.2.3).
abbrev pub title_by : (indicator : ℕ) → List ℕ → Outcome (Option Title)
title_by indicator xs = pick (eqb indicator 0) (nothing_left xs) (pick (eqb indicator 4) (title_in xs) invalid)

-- A party address: first the address indicator, from the lowest bit: point code there, SSN there, four bits of title indicator,
-- routing indicator (0 on title, 1 on SSN), one bit reserved (Q.713, 3.4.1); then point code, SSN and title (3.4.2).
unfoldable pub sccp_in : List ℕ → Outcome Address
sccp_in [] = invalid
sccp_in (i ∷ xs) =
    demand (leb i 127) 18 []
    (after (code_in (bit 1 i) xs) (λ code.
    after (sub_in (bit 2 i) code.1) (λ sub.
    mapped (with_parts (pick (bit 64 i) 2 1) code.0 sub.0) (title_by (i / 4 % 16) sub.1))))

-- Two tests agree.
abbrev pub same : Bool → Bool → Bool
same true b = b
same false b = not b

-- A part has the property, if it is there.
abbrev pub absent_or : {X : Type 0} → (X → Bool) → Option X → Bool
absent_or test None = true
absent_or test (Some x) = test x

-- Which addresses of SUA convert (document 02, change request 5): routing is on title (1) or on SSN and point code (2) ..
abbrev pub routes : ℕ → Bool
routes n = pick (eqb n 1) true (eqb n 2)

-- .. include bits equal presence ..
abbrev pub included : Address → Bool
included a = same a.gt (is_some a.title) && (same a.pc (is_some a.code) && same a.ssn (is_some a.sub))

-- .. raw sub-parameters are absent ..
abbrev pub alone : List Param → Bool
alone [] = true
alone (p ∷ ps) = false

-- .. and the title has indicator 4, a numbering plan up to 15, a nature up to 127 and no digit ?, the point code is at most 16,383.
abbrev pub title_converts : Title → Bool
title_converts t = eqb t.gti 4 && (leb t.np 15 && (leb t.noa 127 && known t.digits))

unfoldable pub converts : Address → Bool
converts a =
    routes a.routing
    && (included a
    && (alone a.others
    && (absent_or title_converts a.title
    && absent_or (λ n. leb n 16383) a.code)))

-- The octets of each part: a point code, the low octet first (Q.713, 3.4.2.1) ..
abbrev pub code_octets : Option ℕ → List ℕ
code_octets None = []
code_octets (Some n) = n % 256 ∷ n / 256 ∷ []

-- .. an SSN (3.4.2.2) ..
abbrev pub sub_octets : Option ℕ → List ℕ
sub_octets None = []
sub_octets (Some n) = n ∷ []

-- .. and a title, whose encoding scheme is 1 for an odd number of digits and 2 for an even one (3.4.2.3.4).
abbrev pub title_octets : Option Title → Outcome (List ℕ)
title_octets None = accepted []
title_octets (Some t) =
    mapped (λ os. t.tt ∷ (t.np * 16 + (2 - length t.digits % 2)) ∷ t.noa ∷ os) (write_digits built_in t.digits)

-- The address indicator, title indicator 4 in its bits 3 to 6 (3.4.1).
abbrev pub indicator : Address → ℕ
indicator a =
    pick (is_some a.code) 1 0 + pick (is_some a.sub) 2 0 + pick (is_some a.title) 16 0 + pick (eqb a.routing 1) 0 64

-- A party address written; 17 for what does not convert.
unfoldable pub sccp_octets : Address → Outcome (List ℕ)
sccp_octets a =
    demand (converts a) 17 []
    (mapped (λ os. indicator a ∷ (code_octets a.code ++ (sub_octets a.sub ++ os))) (title_octets a.title))

-- From an address value of SUA: its reading's refusals, then 17.
unfoldable pub to_sccp : List ℕ → Outcome (List ℕ)
to_sccp v = after (read_address built_in v) sccp_octets

-- To an address value of SUA, which is written alone and so with tag 0: 12, 18.
unfoldable pub from_sccp : List ℕ → Outcome (List ℕ)
from_sccp xs = bounded xs (after (sccp_in xs) (write_address built_in 0))
