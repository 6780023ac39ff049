-- `from_class_type` and `class_and_type` are inverse, and there are 35 message types.
use Prim.Native.Nat.{ℕ, ◌<◌}
use mathlib.Core.Path.{◌≡◌, refl}
use mathlib.Core.List.{[], ◌∷◌, map}
use Rattle.bcd.specs.Outcome.{accepted}
use Rattle.message.specs.declared.types.MessageType.{MessageType}
use Rattle.message.specs.declared.types.MessageType.TheVariants as T
use Rattle.message.specs.Kinds.{kind_of}
use Rattle.message.specs.Types.{class_octet, message_classes, class_and_type, class_of, type_of, message_types, the_pairs, sua_kinds, from_class_type, known_pairs}
use Rattle.message.proofs.Found.{kind_pair, known_few, kind_passes}
use native.Mathlib.Omega.{arith}
use lib.Dec.{ltb}
use borrow.Author.Tests.{ltb-true}

-- The types in the RFC's order have these pairs, and the classes these octets.
pub pairs_in_order : map class_and_type message_types ≡ the_pairs
pairs_in_order = refl

pub classes_in_order : map class_octet message_classes ≡ 0 ∷ 2 ∷ 3 ∷ 4 ∷ 7 ∷ 8 ∷ 9 ∷ []
classes_in_order = refl

-- A type that was found has that pair ..
pub type_of_pair : (c t : ℕ) (m : MessageType) → from_class_type c t ≡ accepted m → (c ≡ class_of m) × (t ≡ type_of m)
type_of_pair = kind_pair sua_kinds

-- .. and each type is found by its pair.
pub pair_of_type : (m : MessageType) → from_class_type (class_of m) (type_of m) ≡ accepted m
unfolding kind_of
pair_of_type T.Error = refl
pair_of_type T.Notify = refl
pair_of_type T.Duna = refl
pair_of_type T.Dava = refl
pair_of_type T.Daud = refl
pair_of_type T.Scon = refl
pair_of_type T.Dupu = refl
pair_of_type T.Drst = refl
pair_of_type T.AspUp = refl
pair_of_type T.AspDown = refl
pair_of_type T.Heartbeat = refl
pair_of_type T.AspUpAck = refl
pair_of_type T.AspDownAck = refl
pair_of_type T.HeartbeatAck = refl
pair_of_type T.AspActive = refl
pair_of_type T.AspInactive = refl
pair_of_type T.AspActiveAck = refl
pair_of_type T.AspInactiveAck = refl
pair_of_type T.Cldt = refl
pair_of_type T.Cldr = refl
pair_of_type T.Core = refl
pair_of_type T.Coak = refl
pair_of_type T.Coref = refl
pair_of_type T.Relre = refl
pair_of_type T.Relco = refl
pair_of_type T.Resco = refl
pair_of_type T.Resre = refl
pair_of_type T.Codt = refl
pair_of_type T.Coda = refl
pair_of_type T.Coerr = refl
pair_of_type T.Coit = refl
pair_of_type T.RegReq = refl
pair_of_type T.RegRsp = refl
pair_of_type T.DeregReq = refl
pair_of_type T.DeregRsp = refl

-- The class and the type of each are octets.
pub class_octet_lem : (m : MessageType) → class_of m < 256
class_octet_lem m = omega (arith, ltb-true (class_of m) 256 (kind_passes sua_kinds _ _ m (λ m. ltb (class_of m) 256) (pair_of_type m) refl))

pub type_octet : (m : MessageType) → type_of m < 256
type_octet m = omega (arith, ltb-true (type_of m) 256 (kind_passes sua_kinds _ _ m (λ m. ltb (type_of m) 256) (pair_of_type m) refl))

-- There are 35: one for each known pair among all pairs of octets. Classes above 9 and types above 11 have none, and the
-- others are counted by computation.
pub thirty_five : known_pairs 256 256 ≡ 35
unfolding kind_of
thirty_five = known_few sua_kinds refl refl
