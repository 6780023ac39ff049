-- The accessors on small tables, by computation.
use Prim.Native.Nat.{ℕ}
use mathlib.Core.Path.{◌≡◌, refl}
use Rattle.std.specs.Prelude.{None, Some}
use mathlib.Core.List.{List, [], ◌∷◌}
use Rattle.bcd.specs.Outcome.{accepted, refused}
use Rattle.parameter.specs.Parameter.{two_at}
use Rattle.parameter.specs.Walk.{headed, step_at, steps, places, parameters}
use Rattle.parameter.specs.Table.{table, tabulate, rows, record_in, records, find_param}
use Rattle.address.specs.Address.{piece_in, address_with, address_in, read_address}
use Rattle.address.specs.Listing.{address_places, list_address}
use Rattle.pieces.specs.PointCodes.{codes_in}
use Rattle.message.specs.Accessors.{first_read, routing_context, protocol_class, sccp_cause, data_part, affected_point_codes, list_address_at, address_found, source_address}

-- Three octets, and four.
values : List ℕ
values = 1 ∷ 2 ∷ 3 ∷ 0xFF ∷ 0 ∷ 7 ∷ 9 ∷ []

-- The first routing context has three octets: the second is not looked at.
short-first : routing_context values (table (6 ∷ 6 ∷ []) (0 ∷ 3 ∷ []) (3 ∷ 4 ∷ [])) 2 ≡ accepted None
unfolding values first_read find_param records rows record_in
short-first = refl

class_fourth : protocol_class values (table (6 ∷ 0x0115 ∷ []) (0 ∷ 3 ∷ []) (3 ∷ 4 ∷ [])) 2 ≡ accepted (Some 9)
unfolding values first_read find_param records rows record_in
class_fourth = refl

cause_third_fourth : sccp_cause values (table (0x0106 ∷ []) (3 ∷ []) (4 ∷ [])) 1 ≡ accepted (Some (record { cause_type = 7; cause_value = 9 }))
unfolding values first_read find_param records rows record_in
cause_third_fourth = refl

-- The second record ends behind the values, and the first is asked for.
outside_first : protocol_class values (table (0x0115 ∷ 6 ∷ []) (3 ∷ 4 ∷ []) (4 ∷ 4 ∷ [])) 2 ≡ refused 15 []
unfolding values first_read find_param records rows record_in
outside_first = refl

part_shown : data_part values (table (0x010B ∷ []) (1 ∷ []) (2 ∷ [])) 1 ≡ 2 ∷ 3 ∷ []
unfolding values find_param records rows record_in
part_shown = refl

-- The mask is dropped.
codes-shown : affected_point_codes values (table (0x0012 ∷ []) (3 ∷ []) (4 ∷ [])) 1 ≡ accepted (0x000709 ∷ [])
unfolding values find_param records rows record_in codes_in
codes-shown = refl

-- An address with one other, which starts at the third octet: its other stands at the eleventh, with no octets.
place-moved :
    (source_address (0 ∷ 0 ∷ 0 ∷ 1 ∷ 0 ∷ 0 ∷ 0x80 ∷ 5 ∷ 0 ∷ 4 ∷ []) (table (0x0102 ∷ []) (2 ∷ []) (8 ∷ [])) 1 (table (0 ∷ []) (0 ∷ []) (0 ∷ []))).table
    ≡ table (0x8005 ∷ []) (10 ∷ []) (0 ∷ [])
unfolding
    address_found list_address_at list_address address_places tabulate read_address address_in parameters places steps step_at headed two_at piece_in address_with
    find_param records rows record_in
place-moved = refl
