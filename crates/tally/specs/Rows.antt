-- The rows of a day: as the members stand, then unplaced, then refused (document 02, CR 1).
use Rattle.std.specs.Prelude.{ℕ, zero, suc, ◌+◌, ◌*◌, Bool, true, ◌&&◌, List, [], ◌∷◌, length, sum, replicate, leb, ltb, eqb}
use Rattle.parameter.specs.Parameter.{most_value}
use Rattle.tally.specs.declared.place.Gain.{Gain}

-- The messages of each row, and their octets.
pub record Rows : Type 0 where
  pub messages : List ℕ
  pub octets : List ℕ

abbrev pub rows : (messages octets : List ℕ) → Rows
rows messages octets = record { messages = messages; octets = octets }

-- The rows that a day starts from: two more than the members, all at 0.
abbrev pub no_rows : (members : ℕ) → Rows
no_rows n = rows (replicate (n + 2) 0) (replicate (n + 2) 0)

-- The most messages that the rows hold together.
abbrev pub most_messages : ℕ
most_messages = 4294967295

-- No row holds over 65,531 octets for each of its messages.
abbrev pub within : (messages octets : List ℕ) → Bool
within (m ∷ ms) (o ∷ os) = leb o (most_value * m) && within ms os
within [] os = true
within (m ∷ ms) [] = true

-- Rows that can gain a message: two more than the members, together fewer messages than the most, and in no row too many
-- octets for its messages (document 02, CR 1, 'Refused').
unfoldable pub valid_rows : (members : ℕ) → Rows → Bool
valid_rows n r =
    eqb (length r.messages) (n + 2)
    && (eqb (length r.octets) (n + 2)
    && (ltb (sum r.messages) most_messages
    && within r.messages r.octets))

-- A number more at a place of a list.
abbrev pub raised : (place more : ℕ) → List ℕ → List ℕ
raised place more [] = []
raised zero more (n ∷ ns) = (n + more) ∷ ns
raised (suc place) more (n ∷ ns) = n ∷ raised place more ns

-- What a message adds: itself, and so many octets, to one row.
abbrev pub gain : (row octets : ℕ) → Gain
gain row octets = record { row = row; octets = octets }

-- The rows with what a message adds.
abbrev pub gained : Gain → Rows → Rows
gained g r = rows (raised g.row 1 r.messages) (raised g.row g.octets r.octets)
