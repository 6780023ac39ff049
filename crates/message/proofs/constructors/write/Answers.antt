-- `message::constructors::write` meets its contract: the header, then the parts in the rest of the output.
use mathlib.Core.Path.{refl}
use Rattle.bcd.specs.Outcome.{after}
use Rattle.bcd.proofs.Results.{exit}
use Rattle.parameter.specs.Parameter.{writable}
use Rattle.pieces.specs.Parts.{run_written}
use Rattle.message.specs.Types.{sua_kinds}
use Rattle.message.proofs.Listing.{message_refused, headed_refused, rest_accepted, message-done}
use Rattle.message.proofs.constructors.write.Goals as goal

pub returns-in_err-run_length : goal.returns-in_err-run_length
returns-in_err-run_length c =
    rw (exit _ _ c.from_residual.ensures.1) (message_refused sua_kinds c.args.message_type (run_written c.args.parts.now) _ _ c.args.out.now c.in_err-run_length.ensures)

pub returns-in_err-total : goal.returns-in_err-total
returns-in_err-total c =
    rw (exit _ _ c.from_residual-in_err-total.ensures.1)
    (headed_refused sua_kinds c.args.message_type (run_written c.args.parts.now) _ c.in_ok-run_length.ensures _ _ c.args.out.now _ c.in_err-total.ensures)

pub returns-in_err-write_run : goal.returns-in_err-write_run
returns-in_err-write_run c =
    let o = run_written c.args.parts.now in
    absurd (rest_accepted sua_kinds c.args.message_type o _ c.in_ok-run_length.ensures _ _ _ c.in_ok-total.ensures (after o writable) refl c.in_err-write_run.ensures)

pub returns : goal.returns
returns c =
    let o = run_written c.args.parts.now in
    message-done sua_kinds c.args.message_type o _ c.in_ok-run_length.ensures _ _ _ c.in_ok-total.ensures (after o writable) refl c.in_ok-write_run.ensures
