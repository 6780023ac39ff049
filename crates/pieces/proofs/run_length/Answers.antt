-- `pieces::run_length` meets its contract: the loop has measured the first parts.
use Prim.Native.Nat.{◌+◌}
use mathlib.Core.Path.{sym, ap, ◌∙◌}
use native.Mathlib.Omega.{arith}
use lib.ListN.{length}
use Rattle.std.specs.Prelude.{Option, None}
use Rattle.bcd.specs.Outcome.{mapped}
use Rattle.bcd.proofs.Results.{exit_as}
use Rattle.pieces.specs.Parts.{given_written}
use Rattle.pieces.specs.declared.Part.{Part}
use Rattle.pieces.proofs.Running.{Measured, measured_more, measured_stopped}
use Rattle.pieces.proofs.run_length.Goals as goal
use Rattle.pieces.proofs.run_length.Goals.{in-Some+in_ok-length, in_default}

pub returns-in_err-length : goal.returns-in_err-length
returns-in_err-length c =
    exit_as _ _ c.from_residual.ensures.1 _
    (measured_stopped c.loop-part.invariant _ _ None c.loop-part-test.true
    (c.in_err-length.ensures ∙ ap (λ (part : Option Part). mapped length (given_written part)) (sym c.in-Some.is)))

pub loop-part-preserved : goal.loop-part-preserved
loop-part-preserved c =
    elim c.match-part.branch as (λ b. Measured given_written c.args.parts.now (c.loop-part.part-index + 1) c.match-part.total) [
      | in-Some+in_ok-length w ↦
          measured_more c.loop-part.invariant _ _ None c.loop-part-test.true
          (w.in_ok-length.ensures ∙ ap (λ (part : Option Part). mapped length (given_written part)) (sym w.in-Some.is))
          (w.total-is ∙ w.saturating_add-total.ensures)
      | in_default w ↦ measured_more c.loop-part.invariant _ 0 None c.loop-part-test.true (ap (λ (part : Option Part). mapped length (given_written part)) (sym w.in_default.is)) (w.total-is ∙ omega (arith, c.loop-part.invariant.sum))
    ]
