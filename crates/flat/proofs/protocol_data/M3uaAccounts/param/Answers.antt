-- `flat::protocol_data::M3uaAccounts::param` meets its contract.
use mathlib.Core.Path.{sym, ◌∙◌}
use native.Mathlib.Omega.{arith}
use Rattle.bcd.proofs.Results.{exit}
use Rattle.m3ua.specs.Fields.{fields}
use Rattle.flat.proofs.DataAccount.{payload_short, data_raw, data_told, data_unread}
use Rattle.flat.proofs.protocol_data.M3uaAccounts.param.Goals as goal

pub data-requires : goal.data-requires
data-requires c =
    let short =
    payload_short c.args.input.now c.args.place c.place.ensures (fields c.in_ok-decode.field-0) (omega (arith, c.requires)) (rw c.value.ensures at c.in_ok-decode.ensures) in
    omega (arith, short, c.requires)

pub returns-in_err-decode : goal.returns-in_err-decode
returns-in_err-decode c =
    let t = sym c.is_protocol_data.ensures ∙ c.if-is_protocol_data.true in
    rw (exit _ _ c.from_residual.ensures.1)
    (data_unread c.args.input.now c.args.place c.place.ensures (omega (arith, c.requires)) t _ _ (rw c.value.ensures at c.in_err-decode.ensures))

pub returns-in_ok-decode : goal.returns-in_ok-decode
returns-in_ok-decode c =
    let t = sym c.is_protocol_data.ensures ∙ c.if-is_protocol_data.true in
    data_told c.args.input.now c.args.place c.place.ensures (omega (arith, c.requires)) t (rw c.value.ensures at c.in_ok-decode.ensures) c.«data».ensures

pub returns-else-is_protocol_data : goal.returns-else-is_protocol_data
returns-else-is_protocol_data c = data_raw c.args.input.now c.args.place c.place.ensures (sym c.is_protocol_data.ensures ∙ c.if-is_protocol_data.false)
