-- Worked accounts and worked flat lists, octet by octet.
use Rattle.std.specs.Prelude.{ℕ, List, [], ◌∷◌}
use Rattle.parameter.specs.Parameter.{words}

-- A CLDT whose destination has the title 44, SSN 8 and a sub-parameter 0x8005 of one octet, with the data `Hi`.
abbrev pub worked_message : List ℕ
worked_message =
    words
    (0x01000701 ∷ 0x00000038
    ∷ 0x01030028 ∷ 0x00010005 ∷ 0x8001000D ∷ 0x00000004 ∷ 0x02000104 ∷ 0x44000000 ∷ 0x80030008 ∷ 0x00000008 ∷ 0x80050005 ∷ 0x41000000
    ∷ 0x010B0006 ∷ 0x48690000 ∷ [])

-- Its account: class, type and two parameters ..
abbrev pub worked_account : List ℕ
worked_account =
    7 ∷ 1 ∷ 0 ∷ 0 ∷ 0 ∷ 2
    -- .. the destination, whose value of 36 octets starts at 12: routing on the title, title and SSN included
    ∷ 0x01 ∷ 0x03 ∷ 0 ∷ 0 ∷ 0 ∷ 12 ∷ 0 ∷ 0 ∷ 0 ∷ 36 ∷ 0 ∷ 1 ∷ 5
    -- the title: indicator 4, translation type 0, plan 1, nature 4, two digits; no point code; SSN 8
    ∷ 1 ∷ 4 ∷ 0 ∷ 1 ∷ 4 ∷ 2 ∷ 0x34 ∷ 0x34 ∷ 0 ∷ 1 ∷ 8
    -- one other, at 44 of one octet
    ∷ 0 ∷ 0 ∷ 0 ∷ 1 ∷ 0x80 ∷ 0x05 ∷ 0 ∷ 0 ∷ 0 ∷ 44 ∷ 0 ∷ 0 ∷ 0 ∷ 1
    -- .. and the data, at 52 of two octets
    ∷ 0x01 ∷ 0x0B ∷ 0 ∷ 0 ∷ 0 ∷ 52 ∷ 0 ∷ 0 ∷ 0 ∷ 2
    ∷ []

-- A list of a hop counter and the data `Hi`, and the message of class 7 and type 1 that it is written as.
abbrev pub worked_list : List ℕ
worked_list =
    0x01 ∷ 0x01 ∷ 0 ∷ 0 ∷ 0 ∷ 4 ∷ 0 ∷ 0 ∷ 0 ∷ 15
    ∷ 0x01 ∷ 0x0B ∷ 0 ∷ 0 ∷ 0 ∷ 2 ∷ 0x48 ∷ 0x69
    ∷ []

abbrev pub list_message : List ℕ
list_message = words (0x01000701 ∷ 0x00000018 ∷ 0x01010008 ∷ 0x0000000F ∷ 0x010B0006 ∷ 0x48690000 ∷ [])

-- A DATA of M3UA: routing context 7, and `Hi` from point code 1 to 2, with service indicator 3, network indicator 2, message
-- priority 1 and signalling link selection 5.
abbrev pub data_message : List ℕ
data_message = words (0x01000101 ∷ 0x00000024 ∷ 0x00060008 ∷ 0x00000007 ∷ 0x02100012 ∷ 0x00000001 ∷ 0x00000002 ∷ 0x03020105 ∷ 0x48690000 ∷ [])

-- Its account: class, type and two parameters ..
abbrev pub worked_data_account : List ℕ
worked_data_account =
    1 ∷ 1 ∷ 0 ∷ 0 ∷ 0 ∷ 2
    -- .. the routing context, at 12 of four octets
    ∷ 0x00 ∷ 0x06 ∷ 0 ∷ 0 ∷ 0 ∷ 12 ∷ 0 ∷ 0 ∷ 0 ∷ 4
    -- .. the Protocol Data, at 20 of 14 octets
    ∷ 0x02 ∷ 0x10 ∷ 0 ∷ 0 ∷ 0 ∷ 20 ∷ 0 ∷ 0 ∷ 0 ∷ 14
    -- the point codes, and how it is handled
    ∷ 0 ∷ 0 ∷ 0 ∷ 1 ∷ 0 ∷ 0 ∷ 0 ∷ 2 ∷ 3 ∷ 2 ∷ 1 ∷ 5
    -- the user's data, at 32 of two octets
    ∷ 0 ∷ 0 ∷ 0 ∷ 32 ∷ 0 ∷ 0 ∷ 0 ∷ 2
    ∷ []

-- The list that it is written from.
abbrev pub worked_data_list : List ℕ
worked_data_list =
    0x00 ∷ 0x06 ∷ 0 ∷ 0 ∷ 0 ∷ 4 ∷ 0 ∷ 0 ∷ 0 ∷ 7
    ∷ 0x02 ∷ 0x10 ∷ 0 ∷ 0 ∷ 0 ∷ 14 ∷ 0 ∷ 0 ∷ 0 ∷ 1 ∷ 0 ∷ 0 ∷ 0 ∷ 2 ∷ 3 ∷ 2 ∷ 1 ∷ 5 ∷ 0x48 ∷ 0x69
    ∷ []
