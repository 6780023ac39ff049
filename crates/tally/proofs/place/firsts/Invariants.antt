-- `tally::place::firsts` meets its contract: the walk has come to a position with what it found.
use mathlib.Core.Path.{◌≡◌}
use Rattle.tally.proofs.Looking.{Looked}
use Rattle.tally.proofs.place.firsts.Given as goal

abbrev pub invariant-loop-place : goal.invariant-loop-place
invariant-loop-place l = (l.place-iterator.bytes.now ≡ l.input) × Looked l.input l.place-iterator.at l.destination l.«data»
