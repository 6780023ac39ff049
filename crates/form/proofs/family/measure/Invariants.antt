-- `form::family::measure` meets its contract: the loop has measured the parameters up to a position.
use mathlib.Core.Path.{◌≡◌}
use Rattle.bcd.specs.Answers.{outcome_of}
use Rattle.form.specs.Family.{rewritten}
use Rattle.form.proofs.Measuring.{Measuring}
use Rattle.form.proofs.family.measure.Given as goal

abbrev pub invariant-loop-place : goal.invariant-loop-place
invariant-loop-place g l = (l.place-iterator.bytes.now ≡ l.input) × Measuring (rewritten (g.F.MessageFamily.family l.family)) l.input l.place-iterator.at (outcome_of l.sum)
