-- SUA messages: what is known of reading and writing them, whose types are each found by their pair.
use Prim.Native.Nat.{ℕ, ◌+◌, ◌≤◌}
use mathlib.Core.Path.{◌≡◌, refl, ap}
use mathlib.Core.List.{List, ◌++◌, map}
use lib.ListN.{length, drop}
use Rattle.bcd.specs.Outcome.{Outcome, accepted, refused, after, mapped, All, most, Octets}
use Rattle.bcd.proofs.Outcomes.{mapped_inv}
use Rattle.parameter.specs.Parameter.{Param, run_length, Sized, four_in, Fits}
use Rattle.parameter.specs.Walk.{places, valued, parameters}
use Rattle.parameter.specs.Table.{Table, tabulate}
use Rattle.message.specs.declared.types.MessageType.{MessageType}
use Rattle.message.specs.declared.header.CommonHeader.{CommonHeader}
use Rattle.message.specs.Types.{sua_kinds}
use Rattle.message.specs.Framed.{named_by, read_of, places_of}
use Rattle.message.specs.Message.{header_with, read_header, Message, message, read_message, message_places, message_octets, write_message}
use Rattle.message.specs.Listing.{Listing, list_of, listed, record_of, list_message}
use Rattle.message.proofs.Pairs.{pair_of_type, class_octet_lem, type_octet}
use Rattle.message.proofs.Framing as F

module _ (m : MessageType) (ps : List Param) where
  pub message-length : length (message_octets m ps) ≡ 8 + run_length ps
  message-length = F.octets-length sua_kinds m ps

  -- The message length that is written is the true one, also where other octets follow.
  pub message_declared : (rest : List ℕ) → four_in (drop 4 (message_octets m ps ++ rest)) ≡ length (message_octets m ps)
  message_declared = F.octets_declared sua_kinds m ps

  pub message-octets : All Fits ps → 8 + run_length ps ≤ most → Octets (message_octets m ps)
  message-octets = F.octets-octets sua_kinds m ps (class_octet_lem m) (type_octet m)

  -- From any type and any list within bounds, reading what was written gives that type and that list.
  pub message_round_trip : 8 + run_length ps ≤ most → read_message (message_octets m ps) ≡ accepted (message m ps)
  message_round_trip = F.octets-read sua_kinds m ps (pair_of_type m)

  pub message-written : All Sized ps → 8 + run_length ps ≤ most → write_message (message m ps) ≡ accepted (message_octets m ps)
  message-written = F.octets-written sua_kinds m ps

-- What it tells that a message was read.
pub message_inv : (xs : List ℕ) (m : Message) → read_message xs ≡ accepted m → F.HasRead sua_kinds xs m
message_inv = F.read_inv sua_kinds

-- Whatever was written reads back.
pub written_reads : (m : Message) (os : List ℕ) → write_message m ≡ accepted os → read_message os ≡ accepted m
written_reads m os = F.written_reads sua_kinds m os (pair_of_type m.type)

-- The values at the places are the parameters.
pub places-values : (xs : List ℕ) → mapped (map (valued xs)) (message_places xs) ≡ mapped (λ m. m.params) (read_message xs)
places-values = F.places-values sua_kinds

-- What is listed over SUA's types is listed of an SUA message.
pub listed-over :
    (xs : List ℕ) (t : Table) (l : Listing MessageType)
    → l ≡ list_of sua_kinds xs t
    → listed (mapped record_of l.answer) l.table ≡ list_message xs t
unfolding list_message
listed-over xs t l e = ap (λ (l : Listing MessageType). listed (mapped record_of l.answer) l.table) e

-- A message, the places of its parameters, and what is listed, by the record of its header.
after-headed : {A : Type 0} (o : Outcome (MessageType × ℕ)) (f : MessageType → Outcome A) → after o (λ h. f h.0) ≡ after (mapped (λ h. header_with h.0 h.1) o) (λ h. f h.message_type)
after-headed (accepted h) f = refl
after-headed (refused n vs) f = refl

module _ (xs : List ℕ) where
  pub read-headed : read_message xs ≡ after (read_header xs) (λ h. mapped (message h.message_type) (parameters (drop 8 xs)))
  unfolding read_of read_header
  read-headed = after-headed (named_by sua_kinds xs) (λ k. mapped (message k) (parameters (drop 8 xs)))

  pub places-headed : message_places xs ≡ after (read_header xs) (λ h. places xs 8)
  unfolding places_of read_header
  places-headed = after-headed (named_by sua_kinds xs) (λ k. places xs 8)

  pub list-headed :
      (t : Table)
      → list_message xs t
      ≡ listed
      (after (read_header xs) (λ h. mapped (λ n. record { message_type = h.message_type; count = n }) (tabulate (message_places xs) t).answer))
      (tabulate (message_places xs) t).table
  unfolding list_message list_of read_header
  list-headed t = ap (λ o. listed o (tabulate (message_places xs) t).table) (on (named_by sua_kinds xs) (tabulate (message_places xs) t).answer)
    where
      on :
          (o : Outcome (MessageType × ℕ)) (c : Outcome ℕ)
          → mapped record_of (after o (λ h. mapped (λ n. (h.0, n)) c))
          ≡ after (mapped (λ h. header_with h.0 h.1) o) (λ h. mapped (λ n. record { message_type = h.message_type; count = n }) c)
      on (accepted h) (accepted n) = refl
      on (accepted h) (refused m ws) = refl
      on (refused n vs) c = refl

  pub header_within : (h : CommonHeader) → read_header xs ≡ accepted h → length xs ≤ most
  unfolding read_header
  header_within h e = let (k, hk, same) = mapped_inv (λ h. header_with h.0 h.1) (named_by sua_kinds xs) e in (F.named_inv sua_kinds xs k hk).small
