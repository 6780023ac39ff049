-- `address::SuaAddress::decode` meets its contract.
use mathlib.Core.Path.{◌≡◌, refl, sym}
use Rattle.bcd.proofs.Results.{exit}
use Rattle.address.proofs.Held.{read-of}
use Rattle.address.proofs.Interpreted.{interpreted_refused}
use Rattle.address.proofs.Tabling.{list_refused, list_known, list_small, list_done}
use Rattle.address.proofs.SuaAddress.decode.Goals as goal

pub returns-in_err-address : goal.returns-in_err-address
returns-in_err-address c =
    let v = c.args.value.now in
    rw (exit c.from_residual.result _ c.from_residual.ensures.1) (list_refused v c.args.rows.now _ _ (interpreted_refused v _ _ c.in_err-address.ensures.parts))

pub returns-then-rows-needed : goal.returns-then-rows-needed
returns-then-rows-needed c =
    let same : c.in_ok-address.address.value.now ≡ c.args.value.now = c.in_ok-address.ensures.value _ refl in
    rw (sym same) (list_small (read-of c.in_ok-address.address) c.args.rows.now c.if-rows-needed.true)

pub returns-in_err-list_others : goal.returns-in_err-list_others
returns-in_err-list_others c =
    let same : c.in_ok-address.address.value.now ≡ c.args.value.now = c.in_ok-address.ensures.value _ refl in
    rw (exit c.from_residual-in_err-list_others.result _ c.from_residual-in_err-list_others.ensures.1, sym same)
    (sym (list_known (read-of c.in_ok-address.address) c.args.rows.now _ c.in_err-list_others.ensures))

pub returns : goal.returns
returns c =
    let same : c.in_ok-address.address.value.now ≡ c.args.value.now = c.in_ok-address.ensures.value _ refl in
    rw (sym same) (list_done (read-of c.in_ok-address.address) c.args.rows.now _ _ _ c.in_ok-list_others.ensures c.record.ensures)
