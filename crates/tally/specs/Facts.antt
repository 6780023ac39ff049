-- What the theorems speak of: the rules of a list and of rows, the longest member, a day from rows at 0, rows that are near
-- to one another, and rows added up.
use Rattle.std.specs.Prelude.{ℕ, ◌+◌, ◌*◌, ◌≤◌, ◌<◌, ◌≡◌, true, false, length, sum, get_or}
use mathlib.Core.List.{List, [], ◌∷◌, zip_with}
use Rattle.bcd.specs.Outcome.{Outcome, All}
use Rattle.form.specs.Form.{Part, part_tag}
use Rattle.tally.specs.Members.{begins}
use Rattle.tally.specs.Rows.{Rows, rows, no_rows}
use Rattle.tally.specs.Tally.{day}

-- The members of a list by document 02's rules: 1 to 64 prefixes, each of 1 to 15 decimal digits, no two the same.
pub record MemberList (ps : List (List ℕ)) : Type 0 where
  pub some : 1 ≤ length ps
  pub few : length ps ≤ 64
  pub short : All (λ (p : List ℕ). (1 ≤ length p) × (length p ≤ 15)) ps
  pub decimal : All (All (λ (c : ℕ). (0x30 ≤ c) × (c ≤ 0x39))) ps
  pub distinct : (i j : ℕ) → i < j → j < length ps → get_or ps i [] ≡ get_or ps j [] → ⊥

-- At a place stands a member that the digits begin with, and none that they begin with is longer (`longest_member`).
pub record LongestAt (ps : List (List ℕ)) (ds : List ℕ) (place : ℕ) : Type 0 where
  pub inside : place < length ps
  pub there : begins (get_or ps place []) ds ≡ true
  pub most : (i : ℕ) → i < length ps → begins (get_or ps i []) ds ≡ true → length (get_or ps i []) ≤ length (get_or ps place [])

-- A place is past the members, and the digits begin with none of them (`longest_member`).
pub record NoneAt (ps : List (List ℕ)) (ds : List ℕ) (place : ℕ) : Type 0 where
  pub past : place ≡ length ps
  pub none : (i : ℕ) → i < length ps → begins (get_or ps i []) ds ≡ false

-- Rows that can gain a message by document 02's rules: two more than the members, together fewer than 4,294,967,295
-- messages, and in no row over 65,531 octets for each of its messages.
pub record OpenRows (members : ℕ) (r : Rows) : Type 0 where
  pub messages : length r.messages ≡ members + 2
  pub octets : length r.octets ≡ members + 2
  pub few : sum r.messages < 4294967295
  pub covered : (i : ℕ) → get_or r.octets i 0 ≤ 65531 * get_or r.messages i 0

-- No part of a meaning has this tag (`first_data`, `first_destination`).
abbrev pub Without : (tag : ℕ) → List Part → Type 0
Without tag = All (λ (q : Part). part_tag q ≡ tag → ⊥)

-- A day from two rows more than members, all at 0.
abbrev pub whole_day : (digits lengths : List ℕ) → List (List ℕ) → Outcome Rows
whole_day ds ns ms = day ds ns ms (no_rows (length ns))

-- Two numbers that differ by at most a third.
abbrev pub Apart : (most : ℕ) → ℕ → ℕ → Type 0
Apart most m n = (m ≤ n + most) × (n ≤ m + most)

-- No row differs by more than one message and 65,531 octets.
pub record Near (r s : Rows) : Type 0 where
  pub messages : (i : ℕ) → Apart 1 (get_or r.messages i 0) (get_or s.messages i 0)
  pub octets : (i : ℕ) → Apart 65531 (get_or r.octets i 0) (get_or s.octets i 0)

-- Rows added row by row: two tallies, and any number of them.
unfoldable pub plus : Rows → Rows → Rows
plus r s = rows (zip_with ◌+◌ r.messages s.messages) (zip_with ◌+◌ r.octets s.octets)

unfoldable pub total : (members : ℕ) → List Rows → Rows
total n [] = no_rows n
total n (r ∷ rs) = plus r (total n rs)
