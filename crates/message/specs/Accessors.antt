-- The accessors of a message: its parameters by name (RFC 3868, 3.9 and 3.10; document 01, module 6). Those but for the point
-- codes are defined in crates/lookup.
use Rattle.std.specs.Prelude.{ℕ, List, []}
use Rattle.std.specs.Prelude.{Option, None, Some}
use Rattle.bcd.specs.Outcome.{Outcome, mapped}
use Rattle.parameter.specs.declared.Place.{Place}
use Rattle.parameter.specs.Walk.{valued}
use Rattle.parameter.specs.Table.{Table, find_param}
use Rattle.pieces.specs.PointCodes.{codes_in}
pub use Rattle.lookup.specs.Accessors.{of_four, read_at, fourth, cause_in, routing_context, protocol_class, sequence_control, ss7_hop_count, sccp_cause, data_at, shown, data_part, moved, source_address, destination_address}
unfoldable pub use Rattle.lookup.specs.Accessors.{first_read, list_address_at, address_found}
pub use Rattle.lookup.specs.Screen.{Handling, handling, screen_of}
unfoldable pub use Rattle.lookup.specs.Contexts.{contexts_in}

-- Affected point codes (RFC 3868, 3.9): those of the first such parameter; none where there is no such parameter.
abbrev pub codes_at : List ℕ → Option Place → List ℕ
codes_at values None = []
codes_at values (Some p) = codes_in (valued values p).value

abbrev pub affected_point_codes : List ℕ → Table → (count : ℕ) → Outcome (List ℕ)
affected_point_codes values t count = mapped (codes_at values) (find_param values t count 0x0012)
