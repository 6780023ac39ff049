-- Worked messages of M3UA.
use Rattle.std.specs.Prelude.{◌≡◌, ℕ, List, [], ◌∷◌, ◌++◌}
use Rattle.bcd.specs.Outcome.{Outcome, accepted, refused}
use Rattle.parameter.specs.Parameter.{param, words}
use Rattle.m3ua.specs.declared.types.MessageType.TheVariants as T
use Rattle.m3ua.specs.ProtocolData.{Data, data_in, write_data}
use Rattle.m3ua.specs.Form.{settled, read_message, Message}

-- What is given to a call, and what it gives.
pub data Example : Type 0 where
  reads : List ℕ → Outcome Message → Example
  settles : List ℕ → Outcome (List ℕ) → Example
  data_reads : List ℕ → Outcome Data → Example
  data_writes : Data → Outcome (List ℕ) → Example

abbrev pub Holds : Example → Type 0
Holds (reads xs o) = read_message xs ≡ o
Holds (settles xs o) = settled xs ≡ o
Holds (data_reads v o) = data_in v ≡ o
Holds (data_writes d o) = write_data d ≡ o

-- A DATA: routing context 7, then `Hi` from point code 1 to 2, service indicator 3, network indicator 2, message priority 1,
-- signalling link selection 5; and a correlation id.
abbrev pub transfer : List ℕ
transfer =
    words
    (0x01000101 ∷ 0x0000002C
    ∷ 0x00060008 ∷ 0x00000007
    ∷ 0x02100012 ∷ 0x00000001 ∷ 0x00000002 ∷ 0x03020105 ∷ 0x48690000
    ∷ 0x00130008 ∷ 0x00000009 ∷ [])

-- The same, spoilt in all that means nothing: a reserved octet, another length in the header, octets in the padding, three
-- octets at the end.
abbrev pub spoilt : List ℕ
spoilt =
    words
    (0x01FF0101 ∷ 0xFFFFFFFF
    ∷ 0x00060008 ∷ 0x00000007
    ∷ 0x02100012 ∷ 0x00000001 ∷ 0x00000002 ∷ 0x03020105 ∷ 0x4869AABB
    ∷ 0x00130008 ∷ 0x00000009 ∷ [])
    ++ 0xCC ∷ 0xDD ∷ 0xEE ∷ []

-- A hop counter of SUA's, and addresses of SUA's that no address is read from: in M3UA parameters like any other. The last
-- padding is missing.
abbrev pub foreign : List ℕ
foreign = words (0x01000304 ∷ 0x00000000 ∷ 0x01010008 ∷ 0x0000000F ∷ 0x01020005 ∷ 0xAA000000 ∷ 0x01030006 ∷ []) ++ 0xBB ∷ 0xCC ∷ []

abbrev pub foreign_form : List ℕ
foreign_form = words (0x01000304 ∷ 0x00000020 ∷ 0x01010008 ∷ 0x0000000F ∷ 0x01020005 ∷ 0xAA000000 ∷ 0x01030006 ∷ 0xBBCC0000 ∷ [])

-- Its Protocol Data.
abbrev pub greeting : Data
greeting = record {
  originating = 1;
  destination = 2;
  service_indicator = 3;
  network_indicator = 2;
  priority = 1;
  selection = 5;
  payload = 0x48 ∷ 0x69 ∷ [];
}

abbrev pub messages : List Example
messages =
    settles transfer (accepted transfer)
    ∷ settles spoilt (accepted transfer)
    ∷ settles foreign (accepted foreign_form)
    ∷ reads (words (0x01000304 ∷ 0x00000010 ∷ 0x01010008 ∷ 0x0000000F ∷ [])) (accepted (record {
      type = T.AspUpAck;
      params = param 0x0101 (0 ∷ 0 ∷ 0 ∷ 15 ∷ []) ∷ [];
    }))
    -- a Protocol Data of 11 octets; one behind another; and of none
    ∷ settles (words (0x01000101 ∷ 0x00000018 ∷ 0x0210000F ∷ 1 ∷ 2 ∷ 0x03020100 ∷ [])) (refused 6 (0x0210 ∷ 12 ∷ 11 ∷ []))
    ∷ settles (words (0x01000101 ∷ 0x00000028 ∷ 0x02100010 ∷ 1 ∷ 2 ∷ 0x03020105 ∷ 0x0210000F ∷ 1 ∷ 2 ∷ 0x03020100 ∷ []))
    (refused 6 (0x0210 ∷ 12 ∷ 11 ∷ []))
    ∷ settles (words (0x01000101 ∷ 0x0000000C ∷ 0x02100004 ∷ [])) (refused 6 (0x0210 ∷ 12 ∷ 0 ∷ []))
    -- of 12, with no user's data
    ∷ settles (words (0x01000101 ∷ 0x00000018 ∷ 0x02100010 ∷ 1 ∷ 2 ∷ 0x03020105 ∷ []))
    (accepted (words (0x01000101 ∷ 0x00000018 ∷ 0x02100010 ∷ 1 ∷ 2 ∷ 0x03020105 ∷ [])))
    -- a later parameter of length 3 is refused before a short Protocol Data, and so is one that ends behind the octets
    ∷ settles (words (0x01000101 ∷ 0x00000014 ∷ 0x02100008 ∷ 1 ∷ 0x00040003 ∷ [])) (refused 5 (4 ∷ 3 ∷ []))
    ∷ settles (words (0x01000101 ∷ 0x00000014 ∷ 0x02100008 ∷ 1 ∷ 0x00040005 ∷ [])) (refused 6 (4 ∷ 5 ∷ 4 ∷ []))
    -- M3UA has no class 7, and SUA no class 1
    ∷ settles (words (0x01000701 ∷ 0x00000008 ∷ [])) (refused 4 (7 ∷ 1 ∷ []))
    ∷ settles (words (0x02000101 ∷ 0x00000008 ∷ [])) (refused 2 (2 ∷ []))
    ∷ settles (words (0x01000101 ∷ [])) (refused 1 (8 ∷ 4 ∷ []))
    -- Protocol Data alone
    ∷ data_reads (words (1 ∷ 2 ∷ 0x03020105 ∷ []) ++ 0x48 ∷ 0x69 ∷ []) (accepted greeting)
    ∷ data_writes greeting (accepted (words (1 ∷ 2 ∷ 0x03020105 ∷ []) ++ 0x48 ∷ 0x69 ∷ []))
    ∷ data_reads (words (1 ∷ 2 ∷ []) ++ 3 ∷ 2 ∷ 1 ∷ []) (refused 6 (0x0210 ∷ 12 ∷ 11 ∷ []))
    ∷ []
