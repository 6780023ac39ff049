-- A worked day: three members, and a message for each way that a message goes.
use Rattle.std.specs.Prelude.{ℕ, List, [], ◌∷◌, ◌++◌}
use Rattle.parameter.specs.Parameter.{words}
use Rattle.tally.specs.Rows.{Rows, rows}

-- The members 44, 4477 and 1202.
abbrev pub worked_digits : List ℕ
worked_digits = 0x34 ∷ 0x34 ∷ 0x34 ∷ 0x34 ∷ 0x37 ∷ 0x37 ∷ 0x31 ∷ 0x32 ∷ 0x30 ∷ 0x32 ∷ []

abbrev pub worked_lengths : List ℕ
worked_lengths = 2 ∷ 4 ∷ 4 ∷ []

-- A destination with the title 44.
abbrev pub to44 : List ℕ
to44 = words (0x01030018 ∷ 0x00010004 ∷ 0x8001000D ∷ 0x00000004 ∷ 0x02000104 ∷ 0x44000000 ∷ [])

abbrev pub worked_messages : List (List ℕ)
worked_messages =
    -- a CLDT from 1202 to 44770, whose include bit is not set, with data of 2 octets and of 1: 4477
    words
    (0x01000701 ∷ 0x00000048
    ∷ 0x01020018 ∷ 0x00010004 ∷ 0x8001000E ∷ 0x00000004 ∷ 0x04000104 ∷ 0x21200000
    ∷ 0x01030018 ∷ 0x00010000 ∷ 0x8001000F ∷ 0x00000004 ∷ 0x05000104 ∷ 0x44770000
    ∷ 0x010B0006 ∷ 0x48690000 ∷ 0x010B0005 ∷ 0x41000000 ∷ [])
    -- a CLDT to an SSN, with the include bit of a title, and then to 44; no data: unplaced
    ∷ (words (0x01000701 ∷ 0x00000030 ∷ 0x01030010 ∷ 0x00020005 ∷ 0x80030008 ∷ 0x00000006 ∷ []) ++ to44)
    -- a CLDR to 44 with data of 3 octets: unplaced
    ∷ (words (0x01000702 ∷ 0x00000028 ∷ []) ++ to44 ++ words (0x010B0007 ∷ 0x41424300 ∷ []))
    -- a CLDT to 44?, which has no form, with data of 5 octets: refused
    ∷ words
    (0x01000701 ∷ 0x0000002C
    ∷ 0x01030018 ∷ 0x00010004 ∷ 0x8001000E ∷ 0x00000004 ∷ 0x03000104 ∷ 0x440F0000
    ∷ 0x010B0009 ∷ 0x41424344 ∷ 0x45000000 ∷ [])
    -- a CLDT to 44 with data of 1 octet: 44
    ∷ (words (0x01000701 ∷ 0x00000028 ∷ []) ++ to44 ++ words (0x010B0005 ∷ 0x41000000 ∷ []))
    ∷ []

-- 44, 4477, 1202, unplaced, refused.
abbrev pub worked_rows : Rows
worked_rows = rows (1 ∷ 1 ∷ 0 ∷ 2 ∷ 1 ∷ []) (1 ∷ 2 ∷ 0 ∷ 3 ∷ 0 ∷ [])
