-- The common header and messages of SUA (RFC 3868, 3.1): a header and messages (Framed.antt) over SUA's message types.
use Rattle.std.specs.Prelude.{ℕ, List}
use Rattle.bcd.specs.Outcome.{Outcome, accepted, mapped}
use Rattle.parameter.specs.declared.Place.{Place}
use Rattle.parameter.specs.Parameter.{Param}
use Rattle.message.specs.declared.types.MessageType.{MessageType}
use Rattle.message.specs.declared.header.CommonHeader.{CommonHeader}
use Rattle.message.specs.Types.{sua_kinds}
use Rattle.message.specs.Framed.{header_of, named_by, Framed, message_of, read_of, places_of, framed_of, octets_of, write_of}

-- The version is 1 (RFC 3868, 3.1.1).
abbrev pub header_with : MessageType → (len : ℕ) → CommonHeader
header_with m len = record { version = 1; message_type = m; message_length = len }

abbrev pub header_octets : CommonHeader → List ℕ
header_octets h = header_of sua_kinds h.version h.message_type h.message_length

-- The octets of a message's parameters behind its header.
abbrev pub framed : MessageType → (params : List ℕ) → List ℕ
framed = framed_of sua_kinds

-- Reading a header: 12, 1, 2, 4.
unfoldable pub read_header : List ℕ → Outcome CommonHeader
read_header xs = mapped (λ h. header_with h.0 h.1) (named_by sua_kinds xs)

-- A header written alone has the version and the length that it holds.
unfoldable pub write_header : CommonHeader → Outcome (List ℕ)
write_header h = accepted (header_octets h)

-- A message of SUA, read and written.
abbrev pub Message : Type 0
Message = Framed MessageType

abbrev pub message : MessageType → List Param → Message
message = message_of

abbrev pub read_message : List ℕ → Outcome Message
read_message = read_of sua_kinds

abbrev pub message_places : List ℕ → Outcome (List Place)
message_places = places_of sua_kinds

abbrev pub message_octets : MessageType → List Param → List ℕ
message_octets = octets_of sua_kinds

abbrev pub write_message : Message → Outcome (List ℕ)
write_message = write_of sua_kinds
