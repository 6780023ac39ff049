-- Message classes and message types (RFC 3868, 3.1.2 and 3.1.3).
use Rattle.std.specs.Prelude.{ℕ, List, [], ◌∷◌, eqb}
use Rattle.bcd.specs.Outcome.{Outcome, refused}
use Rattle.message.specs.Kinds.{Kinds, first, kind_of, known_in}
use Rattle.message.specs.declared.types.MessageClass.{MessageClass}
use Rattle.message.specs.declared.types.MessageClass.TheVariants as C
use Rattle.message.specs.declared.types.MessageType.{MessageType}
use Rattle.message.specs.declared.types.MessageType.TheVariants as T

-- The octet of a class (RFC 3868, 3.1.2).
abbrev pub class_octet : MessageClass → ℕ
class_octet C.Management = 0
class_octet C.Snm = 2
class_octet C.Aspsm = 3
class_octet C.Asptm = 4
class_octet C.ConnectionLess = 7
class_octet C.ConnectionOriented = 8
class_octet C.Rkm = 9

abbrev pub message_classes : List MessageClass
message_classes = C.Management ∷ C.Snm ∷ C.Aspsm ∷ C.Asptm ∷ C.ConnectionLess ∷ C.ConnectionOriented ∷ C.Rkm ∷ []

-- The class of an octet; any other is refused as 3.
unfoldable pub from_octet : ℕ → Outcome MessageClass
from_octet octet = first (λ c. eqb octet (class_octet c)) message_classes (refused 3 (octet ∷ []))

-- The octets of a message type: its class and its type (RFC 3868, 3.1.3).
abbrev pub class_and_type : MessageType → ℕ × ℕ
class_and_type T.Error = (0, 0)
class_and_type T.Notify = (0, 1)
class_and_type T.Duna = (2, 1)
class_and_type T.Dava = (2, 2)
class_and_type T.Daud = (2, 3)
class_and_type T.Scon = (2, 4)
class_and_type T.Dupu = (2, 5)
class_and_type T.Drst = (2, 6)
class_and_type T.AspUp = (3, 1)
class_and_type T.AspDown = (3, 2)
class_and_type T.Heartbeat = (3, 3)
class_and_type T.AspUpAck = (3, 4)
class_and_type T.AspDownAck = (3, 5)
class_and_type T.HeartbeatAck = (3, 6)
class_and_type T.AspActive = (4, 1)
class_and_type T.AspInactive = (4, 2)
class_and_type T.AspActiveAck = (4, 3)
class_and_type T.AspInactiveAck = (4, 4)
class_and_type T.Cldt = (7, 1)
class_and_type T.Cldr = (7, 2)
class_and_type T.Core = (8, 1)
class_and_type T.Coak = (8, 2)
class_and_type T.Coref = (8, 3)
class_and_type T.Relre = (8, 4)
class_and_type T.Relco = (8, 5)
class_and_type T.Resco = (8, 6)
class_and_type T.Resre = (8, 7)
class_and_type T.Codt = (8, 8)
class_and_type T.Coda = (8, 9)
class_and_type T.Coerr = (8, 10)
class_and_type T.Coit = (8, 11)
class_and_type T.RegReq = (9, 1)
class_and_type T.RegRsp = (9, 2)
class_and_type T.DeregReq = (9, 3)
class_and_type T.DeregRsp = (9, 4)

abbrev pub class_of : MessageType → ℕ
class_of m = (class_and_type m).0

abbrev pub type_of : MessageType → ℕ
type_of m = (class_and_type m).1

abbrev pub message_types : List MessageType
message_types =
    T.Error ∷ T.Notify
    ∷ T.Duna ∷ T.Dava ∷ T.Daud ∷ T.Scon ∷ T.Dupu ∷ T.Drst
    ∷ T.AspUp ∷ T.AspDown ∷ T.Heartbeat ∷ T.AspUpAck ∷ T.AspDownAck ∷ T.HeartbeatAck
    ∷ T.AspActive ∷ T.AspInactive ∷ T.AspActiveAck ∷ T.AspInactiveAck
    ∷ T.Cldt ∷ T.Cldr
    ∷ T.Core ∷ T.Coak ∷ T.Coref ∷ T.Relre ∷ T.Relco ∷ T.Resco ∷ T.Resre ∷ T.Codt ∷ T.Coda ∷ T.Coerr ∷ T.Coit
    ∷ T.RegReq ∷ T.RegRsp ∷ T.DeregReq ∷ T.DeregRsp ∷ []

-- Their pairs as numbers, in the RFC's order (RFC 3868, 3.1.3; `pairs_in_order`).
abbrev pub the_pairs : List (ℕ × ℕ)
the_pairs =
    (0, 0) ∷ (0, 1)
    ∷ (2, 1) ∷ (2, 2) ∷ (2, 3) ∷ (2, 4) ∷ (2, 5) ∷ (2, 6)
    ∷ (3, 1) ∷ (3, 2) ∷ (3, 3) ∷ (3, 4) ∷ (3, 5) ∷ (3, 6)
    ∷ (4, 1) ∷ (4, 2) ∷ (4, 3) ∷ (4, 4)
    ∷ (7, 1) ∷ (7, 2)
    ∷ (8, 1) ∷ (8, 2) ∷ (8, 3) ∷ (8, 4) ∷ (8, 5) ∷ (8, 6) ∷ (8, 7) ∷ (8, 8) ∷ (8, 9) ∷ (8, 10) ∷ (8, 11)
    ∷ (9, 1) ∷ (9, 2) ∷ (9, 3) ∷ (9, 4) ∷ []

-- SUA's message types with their pairs.
abbrev pub sua_kinds : Kinds MessageType
sua_kinds = record { all = message_types; pair_of = class_and_type }

-- The message type of a class and a type; any other pair is refused as 4.
abbrev pub from_class_type : (class type : ℕ) → Outcome MessageType
from_class_type = kind_of sua_kinds

-- How many pairs of a class and a type below these numbers are known.
abbrev pub known_pairs : (classes types : ℕ) → ℕ
known_pairs = known_in sua_kinds
