-- The settled form of an M3UA message, and what a message means (document 02, CR 8).
use Rattle.std.specs.Prelude.{ℕ, ◌≤◌, ◌≡◌, Bool, List, [], ◌∷◌, eqb, length}
use Rattle.bcd.specs.Outcome.{Outcome, accepted, pick, mapped}
use Rattle.parameter.specs.Parameter.{Param}
use Rattle.message.specs.Framed.{Framed, read_of, write_of}
use Rattle.form.specs.Family.{Family, Meant, settled_of, meaning_of}
use Rattle.m3ua.specs.declared.types.MessageType.{MessageType}
use Rattle.m3ua.specs.Types.{m3ua_kinds}
use Rattle.m3ua.specs.ProtocolData.{data_in}

-- A message of M3UA, read and written.
abbrev pub Message : Type 0
Message = Framed MessageType

abbrev pub read_message : List ℕ → Outcome Message
read_message = read_of m3ua_kinds

abbrev pub write_message : Message → Outcome (List ℕ)
write_message = write_of m3ua_kinds

-- The tag of Protocol Data (RFC 4666, 3.3.1).
abbrev pub is_protocol_data : ℕ → Bool
is_protocol_data tag = eqb tag 0x0210

-- What a parameter means: its tag with its value. Protocol Data is read, with its refusal.
unfoldable pub checked : Param → Outcome (List Param)
checked p = pick (is_protocol_data p.tag) (mapped (λ d. p ∷ []) (data_in p.value)) (accepted (p ∷ []))

-- A parameter is written as it is.
abbrev pub m3ua : Family Param
m3ua = record { mean = checked; write = λ p. accepted (p ∷ []) }

-- The settled form: the message is read, then each Protocol Data in wire order, and the message is encoded. Nothing is dropped
-- or rewritten. Reading's refusals, then 6.
abbrev pub settled : List ℕ → Outcome (List ℕ)
settled = settled_of m3ua_kinds m3ua

-- The meaning of a message: its type and, in wire order, each tag with its value.
abbrev pub Meaning : Type 0
Meaning = Meant MessageType Param

abbrev pub meaning : List ℕ → Outcome Meaning
meaning = meaning_of m3ua_kinds m3ua

-- A parameter is whole unless it is Protocol Data under 12 octets.
abbrev pub Whole : Param → Type 0
Whole p = p.tag ≡ 0x0210 → 12 ≤ length p.value
