-- The starts up to the loop's row count from the base.
use Rattle.std.proofs.Common.{◌≡◌}
use Rattle.lookup.proofs.Addresses.{moved_front}
use Rattle.lookup.proofs.move_starts.Given as goal

abbrev pub invariant-loop-row : goal.invariant-loop-row
invariant-loop-row l = l.rows ≡ moved_front l.base l.row-index l.initial.rows
