-- What the theorems of this crate give, where that is more than one fact.
use Rattle.std.specs.Prelude.{ℕ, ◌≤◌, ◌≡◌, List, map, length}
use Rattle.bcd.specs.Outcome.{accepted, each}
use Rattle.parameter.specs.Parameter.{Param, round_up, run_octets, encode_param}
use Rattle.parameter.specs.Walk.{valued, parameters}
use Rattle.parameter.specs.Table.{Table, records}
use Rattle.parameter.specs.declared.Place.{Place}

-- Parameters that were read from xs (`reread`): they can be written, take at most the octets read, rounded up to a multiple
-- of 4, and read back the same.
pub record Rewritten (xs : List ℕ) (ps : List Param) : Type 0 where
  pub written : each encode_param ps ≡ accepted (run_octets ps)
  pub room : length (run_octets ps) ≤ round_up (length xs)
  pub again : parameters (run_octets ps) ≡ accepted ps

-- Places stored in a table over some values (`stored-records`): how many there are, and the parameters that a writer takes
-- from the table.
pub record Stored (values : List ℕ) (ps : List Place) (held : Table) (n : ℕ) : Type 0 where
  pub count : n ≡ length ps
  pub params : records values held (length ps) ≡ accepted (map (valued values) ps)
