-- The worked messages: the starred ones of document 01, S1 to S12, messages with both addresses, messages with hop counters, and
-- messages with a title that ran short.
use Rattle.std.specs.Prelude.{ℕ, ◌≡◌, true, List, [], ◌∷◌, ◌++◌, take}
use Rattle.std.specs.Prelude.{None, Some}
use Rattle.bcd.specs.Outcome.{Outcome, accepted, refused}
use Rattle.bcd.specs.Digits.{built_in, read_digits, write_digits}
use Rattle.parameter.specs.Parameter.{param, words}
use Rattle.address.specs.Address.{Address, read_address}
use Rattle.message.specs.declared.types.MessageType.TheVariants as T
use Rattle.message.specs.Message.{Message, message, read_message}
use Rattle.form.specs.Form.{settled}

-- What is given to a call, and what it gives.
pub data Example : Type 0 where
  reads : List ℕ → Outcome Message → Example
  settles : List ℕ → Outcome (List ℕ) → Example
  address_reads : List ℕ → Outcome Address → Example
  digits_read : List ℕ → (count : ℕ) → Outcome (List ℕ) → Example
  digits_write : List ℕ → Outcome (List ℕ) → Example

abbrev pub Holds : Example → Type 0
Holds (reads xs o) = read_message xs ≡ o
Holds (settles xs o) = settled built_in xs ≡ o
Holds (address_reads v o) = read_address built_in v ≡ o
Holds (digits_read xs count o) = read_digits built_in xs count ≡ o
Holds (digits_write cs o) = write_digits built_in cs ≡ o

abbrev pub asp : List ℕ
asp = words (0x01000301 ∷ 0x00000008 ∷ [])

abbrev pub starred : List Example
starred =
    -- S1
    reads asp (accepted (record { type = T.AspUp; params = [] }))
    ∷ settles asp (accepted asp)
    -- S2
    ∷ settles (words (0x01FF0301 ∷ 0x00000000 ∷ [])) (accepted asp)
    -- S3
    ∷ settles (asp ++ 0xAA ∷ 0xBB ∷ 0xCC ∷ []) (accepted asp)
    -- S4
    ∷ settles (asp ++ words (0x00040003 ∷ [])) (refused 5 (4 ∷ 3 ∷ []))
    -- S5
    ∷ reads (asp ++ words (0x00040005 ∷ []) ++ 0x41 ∷ []) (accepted (record { type = T.AspUp; params = record { tag = 4; value = 0x41 ∷ [] } ∷ [] }))
    ∷ settles (asp ++ words (0x00040005 ∷ []) ++ 0x41 ∷ []) (accepted (words (0x01000301 ∷ 0x00000010 ∷ 0x00040005 ∷ 0x41000000 ∷ [])))
    -- S6
    ∷ settles (asp ++ words (0x00040006 ∷ []) ++ 0x41 ∷ []) (refused 6 (4 ∷ 6 ∷ 5 ∷ []))
    -- S7, S8
    ∷ settles (words (0x02000101 ∷ 0x00000008 ∷ [])) (refused 2 (2 ∷ []))
    ∷ settles (words (0x01000101 ∷ 0x00000008 ∷ [])) (refused 4 (1 ∷ 1 ∷ []))
    -- S9
    ∷ settles (take 7 asp) (refused 1 (8 ∷ 7 ∷ []))
    -- S10
    ∷ address_reads (words (0x00020007 ∷ 0x80030008 ∷ 0x00000006 ∷ 0x80030008 ∷ 0x00000008 ∷ []))
    (accepted (record { routing = 2; gt = true; pc = true; ssn = true; title = None; code = None; sub = Some 8; others = [] }))
    -- S11: 123, 123?, 1230; and a CLDT whose source address has the second title
    ∷ digits_read (0x21 ∷ 0xF3 ∷ []) 3 (accepted (0x31 ∷ 0x32 ∷ 0x33 ∷ []))
    ∷ digits_read (0x21 ∷ 0xF3 ∷ []) 4 (accepted (0x31 ∷ 0x32 ∷ 0x33 ∷ 0x3F ∷ []))
    ∷ digits_read (0x21 ∷ 0x03 ∷ []) 9 (accepted (0x31 ∷ 0x32 ∷ 0x33 ∷ 0x30 ∷ []))
    ∷ settles (words (0x01000701 ∷ 0x00000020 ∷ 0x01020018 ∷ 0x00010004 ∷ 0x8001000E ∷ 0x00000004 ∷ 0x04000104 ∷ 0x21F30000 ∷ [])) (refused 9 (0x3F ∷ []))
    -- S12: 1A, 15550142, none
    ∷ digits_write (0x31 ∷ 0x41 ∷ []) (accepted (0xC1 ∷ []))
    ∷ digits_write (0x31 ∷ 0x35 ∷ 0x35 ∷ 0x35 ∷ 0x30 ∷ 0x31 ∷ 0x34 ∷ 0x32 ∷ []) (accepted (0x51 ∷ 0x55 ∷ 0x10 ∷ 0x24 ∷ []))
    ∷ digits_write [] (accepted [])
    ∷ []

-- A CLDT with two addresses, settled: the source has a title and an SSN, the destination a point code and an SSN.
abbrev pub settled_cldt : List ℕ
settled_cldt =
    words
    (0x01000701 ∷ 0x00000040
    ∷ 0x01020020 ∷ 0x00010005 ∷ 0x8001000E ∷ 0x00000004 ∷ 0x03000104 ∷ 0x21030000 ∷ 0x80030008 ∷ 0x00000008
    ∷ 0x01030018 ∷ 0x00020003 ∷ 0x80020008 ∷ 0x00012345 ∷ 0x80030008 ∷ 0x00000006 ∷ [])

-- Messages that mean the same: reserved octets and bits, declared length, filler half, padding and octets behind the last
-- parameter filled as one likes, sub-parameters in another order, an SSN that does not hold, a point code of five octets,
-- a title with an octet more than its count. Each has that one form.
abbrev pub unsettled : List Example
unsettled =
    settles settled_cldt (accepted settled_cldt)
    ∷ settles
    (words
    (0x01FF0701 ∷ 0x00000000
    ∷ 0x01020028 ∷ 0x0001FFFD ∷ 0x80030008 ∷ 0x00000006 ∷ 0x80030008 ∷ 0xAABBCC08 ∷ 0x8001000E ∷ 0xDDEEFF04 ∷ 0x03000104 ∷ 0x21F39999
    ∷ 0x01030019 ∷ 0x0002FFFB ∷ 0x80030008 ∷ 0x11223306 ∷ 0x80020009 ∷ 0x00012345 ∷ 0x77CCCCCC ∷ [])
    ++ 0xAA ∷ 0xBB ∷ [])
    (accepted settled_cldt)
    ∷ settles
    (words
    (0x01070701 ∷ 0xFFFFFFFF
    ∷ 0x01020020 ∷ 0x000100FD ∷ 0x8001000F ∷ 0x12345604 ∷ 0x03000104 ∷ 0x21A35544 ∷ 0x80030008 ∷ 0x77777708
    ∷ 0x01030018 ∷ 0x0002000B ∷ 0x80030008 ∷ 0xFEFEFE06 ∷ 0x80020008 ∷ 0x00012345 ∷ []))
    (accepted settled_cldt)
    ∷ []

-- A CLDT with `Hi`, between two hop counters.
abbrev pub counted : List ℕ
counted = words (0x01000701 ∷ 0x00000020 ∷ 0x01010008 ∷ 0x0000000F ∷ 0x010B0006 ∷ 0x48690000 ∷ 0x01010008 ∷ 0x0000000E ∷ [])

-- Reading gives every hop counter, and no form has one. A hop counter is refused where any parameter is.
abbrev pub counters : List Example
counters =
    reads counted
    (accepted (message T.Cldt (param 0x0101 (0 ∷ 0 ∷ 0 ∷ 15 ∷ []) ∷ param 0x010B (0x48 ∷ 0x69 ∷ []) ∷ param 0x0101 (0 ∷ 0 ∷ 0 ∷ 14 ∷ []) ∷ [])))
    ∷ settles counted (accepted (words (0x01000701 ∷ 0x00000010 ∷ 0x010B0006 ∷ 0x48690000 ∷ [])))
    -- nothing but hop counters: of no octets, and of one octet without its padding
    ∷ settles (words (0x01000701 ∷ 0x00000011 ∷ 0x01010004 ∷ 0x01010005 ∷ []) ++ 0x0F ∷ []) (accepted (words (0x01000701 ∷ 0x00000008 ∷ [])))
    ∷ settles (words (0x01000701 ∷ 0x0000000C ∷ 0x01010008 ∷ [])) (refused 6 (0x0101 ∷ 8 ∷ 4 ∷ []))
    ∷ []

-- A CLDT whose source has a title that declares so many digits and brings the four of 21 03.
abbrev pub declaring : (count : ℕ) → List ℕ
declaring n =
    words (0x01000701 ∷ 0x00000020 ∷ 0x01020018 ∷ 0x00010004 ∷ 0x8001000E ∷ 0x00000004 ∷ [])
    ++ n ∷ 0 ∷ 1 ∷ 4 ∷ words (0x21030000 ∷ [])

-- It settles as one that declares four (document 02, CR 7).
abbrev pub short_titles : List Example
short_titles =
    settles (declaring 4) (accepted (declaring 4))
    ∷ settles (declaring 5) (accepted (declaring 4))
    ∷ settles (declaring 255) (accepted (declaring 4))
    ∷ []
