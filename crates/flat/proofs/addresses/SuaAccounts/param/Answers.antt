-- `flat::addresses::SuaAccounts::param` meets its contract.
use mathlib.Core.Path.{refl, sym, ap, ◌∙◌}
use native.Mathlib.Omega.{arith}
use lib.ListN.{length}
use Rattle.bcd.proofs.Outcomes.{octets-of}
use Rattle.bcd.proofs.Results.{exit}
use Rattle.flat.proofs.Accounting.{value_short, param_raw, param_read, param_unread}
use Rattle.flat.proofs.addresses.SuaAccounts.param.Goals as goal

pub fields-requires : goal.fields-requires
fields-requires c =
    let xs = c.args.input.now in
    let p = c.args.place in
    let e = c.in_ok-interpret.ensures.value c.in_ok-interpret.field-0 refl ∙ c.value.ensures in
    omega (arith, c.requires, ap length e, value_short xs p)

pub returns-in_err-interpret : goal.returns-in_err-interpret
returns-in_err-interpret c =
    let xs = c.args.input.now in
    let p = c.args.place in
    let t = sym c.is_address.ensures ∙ c.if-is_address.true in
    rw (exit _ _ c.from_residual.ensures.1) (param_unread xs p c.place.ensures (omega (arith, c.requires)) t _ _ (rw c.value.ensures at c.in_err-interpret.ensures.parts))

pub returns-in_ok-interpret : goal.returns-in_ok-interpret
returns-in_ok-interpret c =
    let xs = c.args.input.now in
    let p = c.args.place in
    let t = sym c.is_address.ensures ∙ c.if-is_address.true in
    let o = octets-of xs (λ i. (c.type_inv.input i).fits) in
    let e = c.in_ok-interpret.ensures.value c.in_ok-interpret.field-0 refl ∙ c.value.ensures in
    param_read xs p c.place.ensures o t c.in_ok-interpret.field-0 e c.fields.ensures

pub returns-else-is_address : goal.returns-else-is_address
returns-else-is_address c = param_raw c.args.input.now c.args.place c.place.ensures (sym c.is_address.ensures ∙ c.if-is_address.false)
