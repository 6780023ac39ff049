-- What the passes of settling give, apart from the header.
use Rattle.std.specs.Prelude.{ℕ, ◌≤◌, ◌≡◌, List, drop}
use Rattle.bcd.specs.Outcome.{Outcome, accepted, refused, after, each}
use Rattle.parameter.specs.Parameter.{Param, run_length}
use Rattle.parameter.specs.Walk.{parameters}

-- A sum that was accepted, else 0.
abbrev pub sum_of : Outcome ℕ → ℕ
sum_of (accepted n) = n
sum_of (refused number values) = 0

-- The parameters of the form: all are walked before any is settled.
unfoldable pub run_by : (f : Param → Outcome (List Param)) → List ℕ → Outcome (List Param)
run_by f xs = after (parameters (drop 8 xs)) (each f)

-- Parameters of the form that are known, and fit in so many octets.
pub record Placeable (o : Outcome (List Param)) (room : ℕ) : Type 0 where
  pub params : List Param
  pub settles : o ≡ accepted params
  pub fits : run_length params ≤ room
