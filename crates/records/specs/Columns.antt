-- Records told by three slices of numbers: their tags, their starts and their lengths. No call takes such slices, and none has a
-- contract by these definitions: a table is one slice of records, and `tabulate` and `list_message` say what reading stores there.
-- `rows-columns`, `message-rows-columns` and `columns-rows` say that three slices would tell neither more nor less.
use Rattle.std.specs.Prelude.{ℕ, min, List, [], ◌∷◌, map, length, leb}
use Rattle.bcd.specs.Outcome.{Outcome, accepted, refused, pick, after, mapped}
use Rattle.parameter.specs.declared.Place.{Place}
use Rattle.parameter.specs.Table.{Table, Tabulated, over}
use Rattle.message.specs.declared.SuaMessage.{SuaMessage}
use Rattle.message.specs.declared.types.MessageType.{MessageType}
use Rattle.message.specs.Message.{read_header, message_places}
use Rattle.message.specs.Listing.{Listed}

pub record Columns : Type 0 where
  pub tags : List ℕ
  pub starts : List ℕ
  pub lengths : List ℕ

-- The shortest slice is their room (docs/DECISIONS.md, point 1).
unfoldable pub room : Columns → ℕ
room t = min (length t.tags) (min (length t.starts) (length t.lengths))

-- What a call that reads into three slices would answer, and what they would then hold.
pub record Stored (A : Type 0) : Type 0 where
  pub answer : Outcome A
  pub columns : Columns

-- An answer beside what the slices then hold.
abbrev pub stored : {A : Type 0} → Outcome A → Columns → Stored A
stored answer held = record { answer = answer; columns = held }

-- Places that fit are stored from the front, and their number is answered. Places that do not fit are refused as 13 with
-- the count needed, and a refusal leaves the slices as they were (document 01, 'Agreement on contracts').
unfoldable pub tabulate_columns : Outcome (List Place) → Columns → Stored ℕ
tabulate_columns (refused n vs) t = stored (refused n vs) t
tabulate_columns (accepted ps) t =
    pick (leb (length ps) (room t))
    (stored (accepted (length ps))
    (record {
      tags = over (map (λ p. p.tag) ps) t.tags;
      starts = over (map (λ p. p.start) ps) t.starts;
      lengths = over (map (λ p. p.length) ps) t.lengths;
    }))
    (stored (refused 13 (length ps ∷ [])) t)

-- The record of a message: its type and the number of its parameters.
abbrev pub counting : MessageType → ℕ → SuaMessage
counting type n = record { message_type = type; count = n }

-- Reading a message: the header's refusals, then 5 or 6 in wire order, then 13 (document 01, 'Order'); the record has the
-- type that the header names and the number of the places stored.
unfoldable pub list_columns : List ℕ → Columns → Stored SuaMessage
list_columns xs t =
    let places : Stored ℕ = tabulate_columns (message_places xs) t in
    stored (after (read_header xs) (λ h. mapped (counting h.message_type) places.answer)) places.columns

-- The three slices of numbers that hold the same as a slice of records.
abbrev pub columns : Table → Columns
columns ps = record { tags = map (λ p. p.tag) ps; starts = map (λ p. p.start) ps; lengths = map (λ p. p.length) ps }

-- What was answered, beside the three slices of the records that the slice then holds.
abbrev pub of_rows : Tabulated → Stored ℕ
of_rows r = stored r.answer (columns r.table)

abbrev pub of_message_rows : Listed → Stored SuaMessage
of_message_rows r = stored r.answer (columns r.table)
