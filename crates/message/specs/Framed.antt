-- Messages under one header, over the message types of any protocol (RFC 3868, 3.1; RFC 4666, 3.1): what is read and written.
use Rattle.std.specs.Prelude.{ℕ, ◌+◌, List, [], ◌∷◌, ◌++◌, length, get_or, drop, leb, eqb}
use Rattle.bcd.specs.Outcome.{Outcome, accepted, refused, after, demand, mapped, each, bounded, most, fit64, Delivered, delivered}
use Rattle.parameter.specs.declared.Place.{Place}
use Rattle.parameter.specs.Parameter.{Param, run_octets, encode_param, writable, four, four_in}
use Rattle.parameter.specs.Walk.{places, parameters}
use Rattle.message.specs.Kinds.{Kinds, kind_of}

-- Version, reserved octet, class, type, message length (RFC 3868, 3.1); the reserved octet is sent as 0.
abbrev pub header_of : {K : Type 0} → Kinds K → (version : ℕ) → K → (len : ℕ) → List ℕ
header_of T version k len = version ∷ 0 ∷ (T.pair_of k).0 ∷ (T.pair_of k).1 ∷ four len

-- The type and the message length that a header names. Refused: 12, 1, 2, 4 (document 01, 'Order'); the version is 1, and the
-- reserved octet is ignored.
unfoldable pub named_by : {K : Type 0} → Kinds K → List ℕ → Outcome (K × ℕ)
named_by T xs =
    bounded xs
    (demand (leb 8 (length xs)) 1 (8 ∷ length xs ∷ [])
    (demand (eqb (get_or xs 0 0) 1) 2 (get_or xs 0 0 ∷ [])
    (mapped (λ k. (k, four_in (drop 4 xs))) (kind_of T (get_or xs 2 0) (get_or xs 3 0)))))

-- A message is its type and its parameters, in wire order (document 01, module 5).
pub record Framed (K : Type 0) : Type 0 where
  pub type : K
  pub params : List Param

-- The message of a type and parameters.
abbrev pub message_of : {K : Type 0} → K → List Param → Framed K
message_of type params = record { type = type; params = params }

-- Reading a message: its header, whose length is ignored, then its parameters (document 01, 'Records on the wire').
unfoldable pub read_of : {K : Type 0} → Kinds K → List ℕ → Outcome (Framed K)
read_of T xs = after (named_by T xs) (λ h. mapped (message_of h.0) (parameters (drop 8 xs)))

-- The places of a message's parameters, counted from its first octet.
unfoldable pub places_of : {K : Type 0} → Kinds K → List ℕ → Outcome (List Place)
places_of T xs = after (named_by T xs) (λ h. places xs 8)

-- The octets of a message's parameters behind its header, whose length counts both (RFC 3868, 3.1.4).
abbrev pub framed_of : {K : Type 0} → Kinds K → K → (params : List ℕ) → List ℕ
framed_of T k os = header_of T 1 k (8 + length os) ++ os

-- The octets of a message: the length counts the header and all parameters with their padding (RFC 3868, 3.1.4).
unfoldable pub octets_of : {K : Type 0} → Kinds K → K → List Param → List ℕ
octets_of T k ps = framed_of T k (run_octets ps)

-- Writing a message: 10 at the first value that is too long, then 12 (document 01, 'Order').
unfoldable pub write_of : {K : Type 0} → Kinds K → Framed K → Outcome (List ℕ)
write_of T m = after (each encode_param m.params) (λ _. writable (octets_of T m.type m.params))

-- How many octets a header and so many octets of parameters take; 12, then 14 where there is less room (document 01, 'Order').
abbrev pub whole_length : (run room : ℕ) → Outcome ℕ
whole_length run room =
    demand (leb (fit64 (8 + run)) most) 12 (fit64 (8 + run) ∷ [])
    (demand (leb (fit64 (8 + run)) room) 14 (fit64 (8 + run) ∷ []) (accepted (fit64 (8 + run))))

-- The header of a message of that length in front of a buffer; a refusal leaves the buffer as it was.
abbrev pub headed_of : {K : Type 0} → Kinds K → K → (total : Outcome ℕ) → List ℕ → Delivered
headed_of T k (accepted total) out = delivered (accepted total) (header_of T 1 k total ++ drop 8 out)
headed_of T k (refused n vs) out = delivered (refused n vs) out
