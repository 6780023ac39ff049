-- `parameter::frame` meets its contract: the length that was answered is the definition's.
use mathlib.Core.Path.{ap, ◌∙◌}
use native.Mathlib.Omega.{arith}
use Rattle.bcd.specs.Outcome.{delivered}
use Rattle.bcd.proofs.Results.{exit}
use Rattle.parameter.proofs.Encoding.{wire_inv, frame_beyond, frame_short, frame_delivered}
use Rattle.parameter.proofs.frame.Goals as goal

pub returns-in_err-n : goal.returns-in_err-n
returns-in_err-n c =
    ap (λ o. delivered o c.args.out.now) (exit c.from_residual.result _ c.from_residual.ensures.1)
    ∙ frame_beyond c.args.tag c.args.length c.args.out.now _ _ c.in_err-n.ensures

pub returns-then-out-n : goal.returns-then-out-n
returns-then-out-n c =
    let w = wire_inv _ _ _ c.in_ok-n.ensures in
    rw w.1 (frame_short c.args.tag c.args.length c.args.out.now w.0 (omega (arith, w.1, c.if-out-n.true)))

pub surround-requires : goal.surround-requires
surround-requires c =
    let w = wire_inv _ _ _ c.in_ok-n.ensures in
    record { length_le_most_value = w.0; length_bound = omega (arith, w.1, c.if-out-n.false) }

pub returns : goal.returns
returns c =
    let w = wire_inv _ _ _ c.in_ok-n.ensures in
    frame_delivered c.args.tag c.args.length c.args.out.now _ _ w.0 w.1 c.if-out-n.false c.surround.ensures
