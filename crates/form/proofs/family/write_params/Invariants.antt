-- `form::family::write_params` meets its contract: the loop has written the parameters up to a position.
use mathlib.Core.Path.{◌≡◌}
use Rattle.form.specs.Family.{rewritten}
use Rattle.form.proofs.Written.{Placed}
use Rattle.form.proofs.family.write_params.Given as goal

abbrev pub invariant-loop-place : goal.invariant-loop-place
invariant-loop-place g l = (l.place-iterator.bytes.now ≡ l.input) × Placed (rewritten (g.F.MessageFamily.family l.family)) l.input l.initial.out l.out l.place-iterator.at l.at
