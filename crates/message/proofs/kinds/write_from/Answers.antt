-- `message::kinds::write_from` meets its contract: the header, then the parameters in the rest of the output.
use mathlib.Core.List.{List}
use Rattle.bcd.specs.Outcome.{Outcome, after, each}
use Rattle.bcd.proofs.Results.{exit}
use Rattle.parameter.specs.Parameter.{Param, encode_param, encode_params}
use Rattle.parameter.specs.Table.{records}
use Rattle.parameter.proofs.Running.{encoded_list}
use Rattle.message.proofs.Listing.{written-framed, message_refused, headed_refused, rest_accepted, message-done}
use Rattle.message.proofs.kinds.write_from.Goals as goal

pub returns-in_err-run : goal.returns-in_err-run
returns-in_err-run g c =
    let m = c.args.kind in
    let listed : Outcome (List Param) = records c.args.lent.values.now c.args.lent.rows.now c.args.count in
    rw (exit _ _ c.from_residual.ensures.1, written-framed g.K.MessageKind.kinds m listed) (message_refused g.K.MessageKind.kinds m (after listed (each encode_param)) _ _ c.args.out.now c.in_err-run.ensures)

pub returns-in_err-total : goal.returns-in_err-total
returns-in_err-total g c =
    let m = c.args.kind in
    let listed : Outcome (List Param) = records c.args.lent.values.now c.args.lent.rows.now c.args.count in
    rw (exit _ _ c.from_residual-in_err-total.ensures.1, written-framed g.K.MessageKind.kinds m listed)
    (headed_refused g.K.MessageKind.kinds m (after listed (each encode_param)) _ c.in_ok-run.ensures _ _ c.args.out.now _ c.in_err-total.ensures)

pub returns-in_err-encode_parameters : goal.returns-in_err-encode_parameters
returns-in_err-encode_parameters g c =
    let listed : Outcome (List Param) = records c.args.lent.values.now c.args.lent.rows.now c.args.count in
    absurd (rest_accepted g.K.MessageKind.kinds c.args.kind (after listed (each encode_param)) _ c.in_ok-run.ensures _ _ _ c.in_ok-total.ensures
    (after listed encode_params) (encoded_list listed) c.in_err-encode_parameters.ensures)

pub returns : goal.returns
returns g c =
    let m = c.args.kind in
    let listed : Outcome (List Param) = records c.args.lent.values.now c.args.lent.rows.now c.args.count in
    rw (written-framed g.K.MessageKind.kinds m listed)
    (message-done g.K.MessageKind.kinds m (after listed (each encode_param)) _ c.in_ok-run.ensures _ _ _ c.in_ok-total.ensures (after listed encode_params) (encoded_list listed)
    c.in_ok-encode_parameters.ensures)
