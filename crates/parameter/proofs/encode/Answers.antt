-- `parameter::encode` meets its contract: the length that was answered is the definition's.
use mathlib.Core.Path.{sym, ◌∙◌}
use native.Mathlib.Omega.{arith}
use Rattle.bcd.proofs.Outcomes.{deliver_too_long}
use Rattle.bcd.proofs.Results.{exit_passed_on}
use Rattle.parameter.specs.Parameter.{param, encode_param}
use Rattle.parameter.proofs.Encoding.{wire_encode, wire_inv, put-delivered}
use Rattle.parameter.proofs.encode.Goals as goal

pub returns-in_err-n : goal.returns-in_err-n
returns-in_err-n c =
    let given = param c.args.tag c.args.value.now in
    exit_passed_on c.from_residual.result _ c.from_residual.ensures.1 (encode_param given) c.args.out.now (c.in_err-n.ensures ∙ sym (wire_encode given))

pub returns-then-out-n : goal.returns-then-out-n
returns-then-out-n c =
    let given = param c.args.tag c.args.value.now in
    deliver_too_long (encode_param given) _ c.args.out.now (c.in_ok-n.ensures ∙ sym (wire_encode given)) c.if-out-n.true

pub put-requires : goal.put-requires
put-requires c =
    let w = wire_inv _ _ _ c.in_ok-n.ensures in
    record { value_len_bound = w.0; value_in_bounds = omega (arith, w.1, c.if-out-n.false) }

pub returns : goal.returns
returns c =
    let w = wire_inv _ _ _ c.in_ok-n.ensures in
    put-delivered (param c.args.tag c.args.value.now) _ _ c.args.out.now w.0 w.1 c.if-out-n.false c.put.ensures
