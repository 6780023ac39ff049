-- M3UA's message types (RFC 4666, 3.1.2 and 3.1.3).
use Rattle.std.specs.Prelude.{ℕ, List, [], ◌∷◌}
use Rattle.bcd.specs.Outcome.{Outcome}
use Rattle.message.specs.Kinds.{Kinds, kind_of}
use Rattle.m3ua.specs.declared.types.MessageType.{MessageType}
use Rattle.m3ua.specs.declared.types.MessageType.TheVariants as T

-- The octets of a message type: its class and its type (RFC 4666, 3.1.3).
abbrev pub class_and_type : MessageType → ℕ × ℕ
class_and_type T.Error = (0, 0)
class_and_type T.Notify = (0, 1)
class_and_type T.Data = (1, 1)
class_and_type T.Duna = (2, 1)
class_and_type T.Dava = (2, 2)
class_and_type T.Daud = (2, 3)
class_and_type T.Scon = (2, 4)
class_and_type T.Dupu = (2, 5)
class_and_type T.Drst = (2, 6)
class_and_type T.AspUp = (3, 1)
class_and_type T.AspDown = (3, 2)
class_and_type T.Heartbeat = (3, 3)
class_and_type T.AspUpAck = (3, 4)
class_and_type T.AspDownAck = (3, 5)
class_and_type T.HeartbeatAck = (3, 6)
class_and_type T.AspActive = (4, 1)
class_and_type T.AspInactive = (4, 2)
class_and_type T.AspActiveAck = (4, 3)
class_and_type T.AspInactiveAck = (4, 4)
class_and_type T.RegReq = (9, 1)
class_and_type T.RegRsp = (9, 2)
class_and_type T.DeregReq = (9, 3)
class_and_type T.DeregRsp = (9, 4)

abbrev pub message_types : List MessageType
message_types =
    T.Error ∷ T.Notify
    ∷ T.Data
    ∷ T.Duna ∷ T.Dava ∷ T.Daud ∷ T.Scon ∷ T.Dupu ∷ T.Drst
    ∷ T.AspUp ∷ T.AspDown ∷ T.Heartbeat ∷ T.AspUpAck ∷ T.AspDownAck ∷ T.HeartbeatAck
    ∷ T.AspActive ∷ T.AspInactive ∷ T.AspActiveAck ∷ T.AspInactiveAck
    ∷ T.RegReq ∷ T.RegRsp ∷ T.DeregReq ∷ T.DeregRsp ∷ []

-- Their pairs as numbers, in the RFC's order (RFC 4666, 3.1.3; `pairs_in_order`).
abbrev pub the_pairs : List (ℕ × ℕ)
the_pairs =
    (0, 0) ∷ (0, 1)
    ∷ (1, 1)
    ∷ (2, 1) ∷ (2, 2) ∷ (2, 3) ∷ (2, 4) ∷ (2, 5) ∷ (2, 6)
    ∷ (3, 1) ∷ (3, 2) ∷ (3, 3) ∷ (3, 4) ∷ (3, 5) ∷ (3, 6)
    ∷ (4, 1) ∷ (4, 2) ∷ (4, 3) ∷ (4, 4)
    ∷ (9, 1) ∷ (9, 2) ∷ (9, 3) ∷ (9, 4) ∷ []

-- M3UA's message types with their pairs.
abbrev pub m3ua_kinds : Kinds MessageType
m3ua_kinds = record { all = message_types; pair_of = class_and_type }

-- The message type of a class and a type; any other pair is refused as 4.
abbrev pub from_class_type : (class type : ℕ) → Outcome MessageType
from_class_type = kind_of m3ua_kinds
