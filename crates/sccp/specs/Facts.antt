-- Which addresses of SUA convert, in the words of document 02, change request 5; and what the theorems give.
use Rattle.std.specs.Prelude.{ℕ, ◌+◌, ◌-◌, ◌*◌, ◌/◌, ◌%◌, ◌≤◌, ◌≡◌, true, ◌⊎◌, List, [], length, get_or, drop}
use Rattle.std.specs.Prelude.{Option, None, Some, is_some}
use Rattle.bcd.specs.Outcome.{accepted, refused, pick}
use Rattle.bcd.specs.Digits.{halves, built_in, digits_in, KnownDigits}
use Rattle.address.specs.Address.{Title, Address, bit, read_address}
use Rattle.sccp.specs.Sccp.{to_sccp, from_sccp}

-- A title has indicator 4, a numbering plan up to 15, a nature up to 127, and no digit ?.
pub record TitleConverts (t : Title) : Type 0 where
  pub indicator : t.gti ≡ 4
  pub plan : t.np ≤ 15
  pub nature : t.noa ≤ 127
  pub digits : KnownDigits t.digits

-- A part has the property, if it is there.
abbrev pub Where : {X : Type 0} → (X → Type 0) → Option X → Type 0
Where P None = Unit {0}
Where P (Some x) = P x

-- The conditions, one by one.
pub record Converts (a : Address) : Type 0 where
  pub routing : (a.routing ≡ 1) ⊎ (a.routing ≡ 2)
  pub gt : a.gt ≡ is_some a.title
  pub pc : a.pc ≡ is_some a.code
  pub ssn : a.ssn ≡ is_some a.sub
  pub title : Where TitleConverts a.title
  pub code : Where (λ (n : ℕ). n ≤ 16383) a.code
  pub others : a.others ≡ []

-- An address of SUA converts exactly where they hold (`converts_exactly`), and is refused as 17 elsewhere.
pub record Exactly (v : List ℕ) (a : Address) : Type 0 where
  pub where_held : Converts a → (xs : List ℕ) × (to_sccp v ≡ accepted xs)
  pub held : (xs : List ℕ) → to_sccp v ≡ accepted xs → Converts a
  pub elsewhere : (Converts a → ⊥) → to_sccp v ≡ refused 17 []

-- Which octets of SCCP convert (`party_exactly`). Digits (Q.713, 3.4.2.3.1, the scheme 3.4.2.3.4): BCD odd with octets, or BCD
-- even; at most 255; no filler half but 0; no ?.
pub record DigitsConvert (scheme : ℕ) (xs : List ℕ) : Type 0 where
  pub count : ℕ
  pub by : ((scheme ≡ 1) × (1 ≤ length xs) × (count ≡ 2 * length xs - 1)) ⊎ ((scheme ≡ 2) × (count ≡ 2 * length xs))
  pub few : count ≤ 255
  pub filler : get_or (halves xs) count 0 ≡ 0
  pub digits : KnownDigits (digits_in built_in xs count)

-- A title of indicator 4 does not end early, and the reserved bit of its nature is 0 (Q.713, 3.4.2.3.4).
pub record TitlePartConverts (xs : List ℕ) : Type 0 where
  pub whole : 3 ≤ length xs
  pub nature : get_or xs 2 0 ≤ 127
  pub digits : DigitsConvert (get_or xs 1 0 % 16) (drop 3 xs)

-- Where a title starts, behind the address indicator, a point code and an SSN.
abbrev pub title_start : (indicator : ℕ) → ℕ
title_start i = 1 + pick (bit 1 i) 2 0 + pick (bit 2 i) 1 0

-- A party address does not end early, its reserved bits are 0, and it has a title of indicator 4, or none and no octets left over
-- (Q.713, 3.4.1 and 3.4.2).
pub record PartyConverts (xs : List ℕ) : Type 0 where
  pub some : 1 ≤ length xs
  pub reserved : get_or xs 0 0 ≤ 127
  pub whole : title_start (get_or xs 0 0) ≤ length xs
  pub code : bit 1 (get_or xs 0 0) ≡ true → get_or xs 2 0 ≤ 63
  pub title : ((get_or xs 0 0 / 4 % 16 ≡ 0) × (length xs ≡ title_start (get_or xs 0 0)))
      ⊎ ((get_or xs 0 0 / 4 % 16 ≡ 4) × TitlePartConverts (drop (title_start (get_or xs 0 0)) xs))

-- A party address is converted to an address value that is read as a (`sua_back`).
pub record Back (xs : List ℕ) (a : Address) : Type 0 where
  pub value : List ℕ
  pub converted : from_sccp xs ≡ accepted value
  pub reads : read_address built_in value ≡ accepted a
