-- `message::SuaMessage::affected_point_codes` meets its contract.
use mathlib.Core.Path.{refl, ap, ◌∙◌}
use Rattle.std.specs.Prelude.{Option}
use Rattle.bcd.specs.Outcome.{Outcome, mapped}
use Rattle.bcd.proofs.Results.{exit}
use Rattle.bcd.proofs.Writing.{untouched}
use Rattle.parameter.specs.declared.Place.{Place}
use Rattle.message.specs.Accessors.{codes_at}
use Rattle.pieces.specs.PointCodes.{store_codes}
use Rattle.pieces.proofs.PointCodes.{store_refused, store_done}
use Rattle.message.proofs.SuaMessage.affected_point_codes.Goals as goal

pub returns-in_err-place : goal.returns-in_err-place
returns-in_err-place c =
    rw (exit _ _ c.from_residual.ensures.1)
    (store_refused _ _ c.args.out.now
    ∙ ap (λ (o : Outcome (Option Place)). store_codes (mapped (codes_at c.args.lent.values.now) o) c.args.out.now) c.in_err-place.ensures)

pub returns-in-None : goal.returns-in-None
returns-in-None c =
    store_done 0 (untouched c.args.out.now) refl
    ∙ ap (λ (o : Outcome (Option Place)). store_codes (mapped (codes_at c.args.lent.values.now) o) c.args.out.now) (rw (c.in-None.is) at c.in_ok-place.ensures)
