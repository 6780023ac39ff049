-- `from_class_type` and `class_and_type` are inverse, and there are 23 message types.
use Prim.Native.Nat.{ℕ, ◌+◌, ◌≤◌}
use mathlib.Core.Path.{◌≡◌, refl}
use mathlib.Core.List.{List, map}
use Rattle.bcd.specs.Outcome.{accepted, most}
use Rattle.parameter.specs.Parameter.{Param, run_length}
use Rattle.message.specs.Kinds.{kind_of, known_in}
use Rattle.message.specs.Framed.{message_of, octets_of}
use Rattle.message.proofs.Found.{kind_pair, known_few}
use Rattle.message.proofs.Framing as F
use Rattle.message.proofs.Framing.{octets-read}
use Rattle.m3ua.specs.declared.types.MessageType.{MessageType}
use Rattle.m3ua.specs.declared.types.MessageType.TheVariants as T
use Rattle.m3ua.specs.Form.{Message, read_message, write_message}
use Rattle.m3ua.specs.Types.{class_and_type, message_types, the_pairs, m3ua_kinds, from_class_type}

-- The types in the RFC's order have these pairs.
pub pairs_in_order : map class_and_type message_types ≡ the_pairs
pairs_in_order = refl

-- A type that was found has that pair ..
pub type_of_pair : (c t : ℕ) (m : MessageType) → from_class_type c t ≡ accepted m → (c ≡ (class_and_type m).0) × (t ≡ (class_and_type m).1)
type_of_pair = kind_pair m3ua_kinds

-- .. and each type is found by its pair.
pub pair_of_type : (m : MessageType) → from_class_type (class_and_type m).0 (class_and_type m).1 ≡ accepted m
unfolding kind_of
pair_of_type T.Error = refl
pair_of_type T.Notify = refl
pair_of_type T.Data = refl
pair_of_type T.Duna = refl
pair_of_type T.Dava = refl
pair_of_type T.Daud = refl
pair_of_type T.Scon = refl
pair_of_type T.Dupu = refl
pair_of_type T.Drst = refl
pair_of_type T.AspUp = refl
pair_of_type T.AspDown = refl
pair_of_type T.Heartbeat = refl
pair_of_type T.AspUpAck = refl
pair_of_type T.AspDownAck = refl
pair_of_type T.HeartbeatAck = refl
pair_of_type T.AspActive = refl
pair_of_type T.AspInactive = refl
pair_of_type T.AspActiveAck = refl
pair_of_type T.AspInactiveAck = refl
pair_of_type T.RegReq = refl
pair_of_type T.RegRsp = refl
pair_of_type T.DeregReq = refl
pair_of_type T.DeregRsp = refl

-- From any type and any list within bounds, reading what was written gives that type and that list; and so does whatever was
-- written.
pub message_round_trip :
    (m : MessageType) (ps : List Param) → 8 + run_length ps ≤ most → read_message (octets_of m3ua_kinds m ps) ≡ accepted (message_of m ps)
message_round_trip m ps = octets-read m3ua_kinds m ps (pair_of_type m)

pub written_reads : (m : Message) (os : List ℕ) → write_message m ≡ accepted os → read_message os ≡ accepted m
written_reads m os = F.written_reads m3ua_kinds m os (pair_of_type m.type)

-- There are 23: one for each known pair among all pairs of octets.
pub twenty_three : known_in m3ua_kinds 256 256 ≡ 23
unfolding kind_of
twenty_three = known_few m3ua_kinds refl refl
