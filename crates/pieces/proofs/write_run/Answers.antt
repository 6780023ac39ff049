-- `pieces::write_run` meets its contract.
use Rattle.bcd.proofs.Outcomes.{deliver_too_long}
use Rattle.bcd.proofs.Results.{exit, few_octets, many_octets}
use Rattle.parameter.proofs.Running.{sum_large, sum_exact, sum-writable, sum_refused}
use Rattle.pieces.specs.Parts.{run_written}
use Rattle.pieces.proofs.Running.{placeable}
use Rattle.pieces.proofs.write_run.Goals as goal

pub returns-in_err-total : goal.returns-in_err-total
returns-in_err-total c =
    rw (exit _ _ c.from_residual.ensures.1) (sum_refused (run_written c.args.parts.now) _ _ c.args.out.now c.in_err-total.ensures)

pub returns-in_err-within : goal.returns-in_err-within
returns-in_err-within c =
    let (h, a, b) = many_octets tt _ _ c.in_err-within.ensures in
    rw (exit c.from_residual-in_err-within.result _ c.from_residual-in_err-within.ensures.1, a, b) (sum_large (run_written c.args.parts.now) _ c.in_ok-total.ensures c.args.out.now h)

pub returns-then-out-total : goal.returns-then-out-total
returns-then-out-total c =
    let o = run_written c.args.parts.now in
    rw (sum-writable o _ c.in_ok-total.ensures (few_octets c.in_ok-within.ensures))
    (deliver_too_long o _ c.args.out.now (sum_exact o _ c.in_ok-total.ensures (few_octets c.in_ok-within.ensures)) c.if-out-total.true)

pub put_run-requires : goal.put_run-requires
put_run-requires c =
    let o = run_written c.args.parts.now in
    placeable o _ _ (sum_exact o _ c.in_ok-total.ensures (few_octets c.in_ok-within.ensures)) c.if-out-total.false

pub returns : goal.returns
returns c =
    let o = run_written c.args.parts.now in
    rw (sum-writable o _ c.in_ok-total.ensures (few_octets c.in_ok-within.ensures)) c.put_run.ensures
