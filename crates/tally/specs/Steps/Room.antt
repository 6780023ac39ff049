-- Rows that have room for what a message adds.
use Rattle.std.specs.Prelude.{◌+◌, ◌^◌, ◌<◌, length, get_or}
use Rattle.tally.specs.declared.place.Gain.{Gain}
use Rattle.tally.specs.Rows.{Rows}

-- The row that gains is there, and its numbers stay within 64 bits.
pub record HasRoom (g : Gain) (r : Rows) : Type 0 where
  pub messages : g.row < length r.messages
  pub octets : g.row < length r.octets
  pub one : get_or r.messages g.row 0 + 1 < 2 ^ 64
  pub more : get_or r.octets g.row 0 + g.octets < 2 ^ 64
