-- Messages that the constructors write, and what two accessors read, from the definitions by computation.
use mathlib.Core.Path.{◌≡◌, refl}
use Rattle.std.specs.Prelude.{None, Some}
use Prim.Native.Nat.{ℕ}
use mathlib.Core.List.{List, [], ◌∷◌}
use Rattle.bcd.specs.Outcome.{accepted}
use Rattle.parameter.specs.Parameter.{words, param_octets, run_octets, encode_param}
use Rattle.parameter.specs.Table.{Table, table, rows, records, record_in, find_param}
use Rattle.address.specs.Address.{pieces, indicator, sub_param, write_address}
use Rattle.address.specs.Records.{with_ssn_pc}
use Rattle.address.specs.Given.{encode_address_as}
use Rattle.message.specs.declared.types.MessageType.TheVariants as M
use Rattle.message.specs.Framed.{octets_of, write_of}
use Rattle.pieces.specs.PointCodes.{codes_octets, codes_in}
use Rattle.message.specs.Constructors.{cldt, cldr, asp_up, info_only, traffic_and_rc, rc_only, heartbeat_like, error_message, notify, snm}
use Rattle.message.specs.Accessors.{data_at, affected_point_codes}

abbrev no_others : Table
no_others = table [] [] []

pub worked :
    (cldt 1 9 (with_ssn_pc 6 1) [] no_others (with_ssn_pc 6 1) [] no_others 5 (Some 15) (1 ∷ [])
    ≡ accepted (
    words
    (0x01000701 ∷ 0x00000060 ∷ 0x00060008 ∷ 0x00000001 ∷ 0x01150008 ∷ 0x00000009 ∷ 0x01020018 ∷ 0x00020003
    ∷ 0x80020008 ∷ 0x00000001 ∷ 0x80030008 ∷ 0x00000006 ∷ 0x01030018 ∷ 0x00020003 ∷ 0x80020008 ∷ 0x00000001
    ∷ 0x80030008 ∷ 0x00000006 ∷ 0x01160008 ∷ 0x00000005 ∷ 0x01010008 ∷ 0x0000000F ∷ 0x010B0005 ∷ 0x01000000 ∷ [])))
    × (error_message 7 (Some 2) (Some (1 ∷ 2 ∷ []))
    ≡ accepted (
    words
    (0x01000000 ∷ 0x00000020 ∷ 0x000C0008 ∷ 0x00000007 ∷ 0x00060008 ∷ 0x00000002 ∷ 0x00070006 ∷ 0x01020000 ∷ [])))
    × (snm M.Duna None (0x012345 ∷ 0xFF012345 ∷ [])
    ≡ accepted (
    words
    (0x01000201 ∷ 0x00000014 ∷ 0x0012000C ∷ 0x00012345 ∷ 0x00012345 ∷ [])))
unfolding write_of octets_of run_octets param_octets encode_param encode_address_as write_address pieces indicator sub_param records rows codes_octets
worked = (refl, refl, refl)

-- What the others write.
pub worked_others :
    (cldr 1 4 9 (with_ssn_pc 6 1) [] no_others (with_ssn_pc 8 2) [] no_others (Some (1 ∷ []))
    ≡ accepted (
    words
    (0x01000702 ∷ 0x00000050 ∷ 0x00060008 ∷ 0x00000001 ∷ 0x01060008 ∷ 0x00000409
    ∷ 0x01020018 ∷ 0x00020003 ∷ 0x80020008 ∷ 0x00000001 ∷ 0x80030008 ∷ 0x00000006
    ∷ 0x01030018 ∷ 0x00020003 ∷ 0x80020008 ∷ 0x00000002 ∷ 0x80030008 ∷ 0x00000008
    ∷ 0x010B0005 ∷ 0x01000000 ∷ [])))
    × (asp_up (Some 7) (Some (0x41 ∷ [])) ≡ accepted (words (0x01000301 ∷ 0x00000018 ∷ 0x00110008 ∷ 0x00000007 ∷ 0x00040005 ∷ 0x41000000 ∷ [])))
    × (info_only M.AspDown (Some (0x41 ∷ [])) ≡ accepted (words (0x01000302 ∷ 0x00000010 ∷ 0x00040005 ∷ 0x41000000 ∷ [])))
    × (traffic_and_rc M.AspActive (Some 2) (Some 1) ≡ accepted (words (0x01000401 ∷ 0x00000018 ∷ 0x000B0008 ∷ 0x00000002 ∷ 0x00060008 ∷ 0x00000001 ∷ [])))
    × (rc_only M.AspInactive (Some 1) ≡ accepted (words (0x01000402 ∷ 0x00000010 ∷ 0x00060008 ∷ 0x00000001 ∷ [])))
    × (heartbeat_like M.Heartbeat (Some (0x41 ∷ [])) ≡ accepted (words (0x01000303 ∷ 0x00000010 ∷ 0x00090005 ∷ 0x41000000 ∷ [])))
    × (notify 0x00010002 (Some 7) (Some 1)
    ≡ accepted (words (0x01000001 ∷ 0x00000020 ∷ 0x000D0008 ∷ 0x00010002 ∷ 0x00110008 ∷ 0x00000007 ∷ 0x00060008 ∷ 0x00000001 ∷ [])))
unfolding write_of octets_of run_octets param_octets encode_param encode_address_as write_address pieces indicator sub_param records rows
worked_others = (refl, refl, refl, refl, refl, refl, refl)

abbrev held : List ℕ
held = words (0x00012345 ∷ 0xFF012346 ∷ [])

-- The accessors of data and point codes, over two records, of which the second has the tag.
pub worked_accessors :
    (data_at held (table (0x010A ∷ 0x010B ∷ []) (0 ∷ 3 ∷ []) (4 ∷ 5 ∷ [])) 2 ≡ accepted (Some (record { tag = 0x010B; start = 3; length = 5 })))
    × (affected_point_codes held (table (0x0011 ∷ 0x0012 ∷ []) (0 ∷ 0 ∷ []) (4 ∷ 8 ∷ [])) 2 ≡ accepted (0x012345 ∷ 0x012346 ∷ []))
unfolding find_param records rows codes_in record_in
worked_accessors = (refl, refl)
