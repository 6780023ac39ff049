-- A message whose parameters stand in a lent table (document 01, module 5).
use Rattle.std.specs.Prelude.{ℕ, List}
use Rattle.bcd.specs.Outcome.{Outcome, after, mapped}
use Rattle.parameter.specs.Table.{Table, Tabulated, tabulate}
use Rattle.message.specs.declared.types.MessageType.{MessageType}
use Rattle.message.specs.declared.SuaMessage.{SuaMessage}
use Rattle.message.specs.Kinds.{Kinds}
use Rattle.message.specs.Framed.{named_by, places_of}
use Rattle.message.specs.Types.{sua_kinds}

-- What reading a message into a lent table answers, its type and the number of its parameters, and what the table then holds.
pub record Listing (K : Type 0) : Type 0 where
  pub answer : Outcome (K × ℕ)
  pub table : Table

abbrev pub listing : {K : Type 0} → Outcome (K × ℕ) → Table → Listing K
listing answer held = record { answer = answer; table = held }

-- The header's refusals, then 5 or 6 in wire order, then 13 (document 01, 'Order'); the number is that of the places stored.
unfoldable pub list_of : {K : Type 0} → Kinds K → List ℕ → Table → Listing K
list_of T xs t =
    let stored : Tabulated = tabulate (places_of T xs) t in
    listing (after (named_by T xs) (λ h. mapped (λ n. (h.0, n)) stored.answer)) stored.table

-- The same of an SUA message: its record, and what the table then holds.
pub record Listed : Type 0 where
  pub answer : Outcome SuaMessage
  pub table : Table

-- An answer beside what the table then holds.
abbrev pub listed : Outcome SuaMessage → Table → Listed
listed answer held = record { answer = answer; table = held }

abbrev pub record_of : MessageType × ℕ → SuaMessage
record_of r = record { message_type = r.0; count = r.1 }

-- Reading an SUA message into a lent table.
unfoldable pub list_message : List ℕ → Table → Listed
list_message xs t =
    let l : Listing MessageType = list_of sua_kinds xs t in
    listed (mapped record_of l.answer) l.table
