-- The day tally by member: one call, and a day of calls (document 02, CR 1).
use Rattle.std.specs.Prelude.{ℕ, ◌+◌, Bool, ◌&&◌, List, [], ◌∷◌, length, eqb}
use Rattle.std.specs.Prelude.{Option, None, Some}
use Rattle.bcd.specs.Outcome.{Outcome, accepted, refused, pick, after, mapped}
use Rattle.bcd.specs.Digits.{built_in}
use Rattle.address.specs.Address.{Title, Address}
use Rattle.message.specs.declared.types.MessageType.{MessageType}
use Rattle.message.specs.Types.{class_of, type_of}
use Rattle.form.specs.Form.{settled, Part, raw, address, Meaning, meaning}
use Rattle.tally.specs.declared.place.Gain.{Gain}
use Rattle.tally.specs.Members.{members, valid_members, longest}
use Rattle.tally.specs.Rows.{Rows, gain, gained, valid_rows}

-- CLDT is class 7, type 1 (RFC 3868, 3.1.3).
abbrev pub is_cldt : MessageType → Bool
is_cldt t = eqb (class_of t) 7 && eqb (type_of t) 1

-- The octets of the first Data parameter, 0 if there is none (RFC 3868, 3.10).
abbrev pub data_length : List Part → ℕ
data_length [] = 0
data_length (raw p ∷ ps) = pick (eqb p.tag 0x010B) (length p.value) (data_length ps)
data_length (address tag a ∷ ps) = data_length ps

-- The first destination address (RFC 3868, 3.10.3).
abbrev pub destination : List Part → Option Address
destination [] = None
destination (raw p ∷ ps) = destination ps
destination (address tag a ∷ ps) = pick (eqb tag 0x0103) (Some a) (destination ps)

-- The row of a title: that of the longest member that its digits begin with, else the unplaced row.
abbrev pub title_row : List (List ℕ) → Option Title → ℕ
title_row ps None = length ps
title_row ps (Some t) = longest ps t.digits

-- The row of a destination. Whether its title is there decides, and not the include bit.
abbrev pub destination_row : List (List ℕ) → Option Address → ℕ
destination_row ps None = length ps
destination_row ps (Some a) = title_row ps a.title

-- What a message that has a form adds: its first Data's octets, a CLDT to its first destination's row, others to the
-- unplaced row, which stands behind the members.
abbrev pub meant : List (List ℕ) → Meaning → Gain
meant ps m = gain (pick (is_cldt m.type) (destination_row ps (destination m.parts)) (length ps)) (data_length m.parts)

-- What was accepted, or else this.
abbrev pub or_else : {A : Type 0} → A → Outcome A → A
or_else a (accepted b) = b
or_else a (refused n vs) = a

-- What a message adds; one whose form is refused adds no octets, to the last row.
unfoldable pub placed : List (List ℕ) → (input : List ℕ) → Gain
placed ps xs = or_else (gain (length ps + 1) 0) (after (settled built_in xs) (λ form. mapped (meant ps) (meaning built_in xs)))

-- What a call answers, the row that gained or 16, and what the rows then hold.
pub record Tallied : Type 0 where
  pub answer : Outcome ℕ
  pub rows : Rows

abbrev pub tallied : Outcome ℕ → Rows → Tallied
tallied answer held = record { answer = answer; rows = held }

-- One call. 16 is settled by the list and the rows alone, and leaves the rows as they were.
unfoldable pub tally : (digits lengths input : List ℕ) → Rows → Tallied
tally ds ns xs held =
    pick (valid_members ds ns && valid_rows (length ns) held)
    (tallied (accepted (placed (members ds ns) xs).row) (gained (placed (members ds ns) xs) held))
    (tallied (refused 16 []) held)

-- A day: one call for each message, in order; the first refusal ends it.
abbrev pub day : (digits lengths : List ℕ) → List (List ℕ) → Rows → Outcome Rows
day ds ns [] held = accepted held
day ds ns (xs ∷ more) held = after (tally ds ns xs held).answer (λ row. day ds ns more (tally ds ns xs held).rows)
