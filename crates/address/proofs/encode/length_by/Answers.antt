-- `address::encode::length_by` meets its contract.
use Prim.Native.Nat.{ℕ}
use mathlib.Core.Path.{◌≡◌, sym, ap, ◌∙◌}
use mathlib.Core.Bool.{Bool, false}
use mathlib.Core.List.{List, [], map}
use native.Mathlib.Omega.{arith}
use lib.ListN.{take}
use Rattle.bcd.specs.Outcome.{accepted, refused, pick}
use Rattle.bcd.proofs.Results.{exit}
use Rattle.parameter.specs.Walk.{valued}
use Rattle.parameter.specs.Table.{Table, records}
use Rattle.parameter.proofs.Records.{told_outside}
use Rattle.address.specs.Steps.GivenParts.{title_by}
use Rattle.address.proofs.Encoding.{with_outside, with_untitled, with_refused, with_long, with_counted}
use Rattle.address.proofs.encode.length_by.Goals as goal

-- no record reaches outside
inside :
    (values : List ℕ) (rows : Table) (count : ℕ) {r : Bool}
    → records values rows count ≡ pick r (refused 15 []) (accepted (map (valued values) (take count rows)))
    → r ≡ false
    → records values rows count ≡ accepted (map (valued values) (take count rows))
inside values rows count e f = e ∙ ap (λ (r : Bool). pick r (refused 15 []) (accepted (map (valued values) (take count rows)))) f

pub returns-then-outside : goal.returns-then-outside
returns-then-outside c =
    let a = c.args.address.now in
    sym (with_outside c.args.tag (title_by c.args.digits a.global_title) a c.args.others.values.now c.args.others.rows.now 15 []
    (told_outside _ c.outside.result 15 [] _ c.outside.ensures c.if-outside.true))

pub returns-in_err-title_length : goal.returns-in_err-title_length
returns-in_err-title_length c =
    exit c.from_residual.result _ c.from_residual.ensures.1
    ∙ sym (with_untitled c.args.tag _ c.args.address.now c.args.others.values.now c.args.others.rows.now _ (inside _ _ _ c.outside.ensures c.if-outside.false) _ _ (sym c.in_err-title_length.ensures))

pub returns-in_err-parameters_length : goal.returns-in_err-parameters_length
returns-in_err-parameters_length c =
    exit c.from_residual-in_err-parameters_length.result _ c.from_residual-in_err-parameters_length.ensures.1
    ∙ sym (with_refused c.args.tag _ c.args.address.now c.args.others.values.now c.args.others.rows.now _ (inside _ _ _ c.outside.ensures c.if-outside.false) _ (sym c.in_ok-title_length.ensures) _ _ c.in_err-parameters_length.ensures)

pub returns-then-length-gt65531 : goal.returns-then-length-gt65531
returns-then-length-gt65531 c =
    let a = c.args.address.now in
    let code = c.four_length.ensures.value in
    let ssn = c.four_length-2.ensures.value in
    sym (with_long c.args.tag _ a c.args.others.values.now c.args.others.rows.now _ (inside _ _ _ c.outside.ensures c.if-outside.false) _ (sym c.in_ok-title_length.ensures) _ _ c.in_ok-parameters_length.ensures
    (omega (arith, c.saturating_add-length.ensures, c.saturating_add.ensures, code, ssn)) c.if-length-gt65531.true)

pub returns : goal.returns
returns c =
    let a = c.args.address.now in
    let code = c.four_length.ensures.value in
    let ssn = c.four_length-2.ensures.value in
    sym (with_counted c.args.tag _ a c.args.others.values.now c.args.others.rows.now _ (inside _ _ _ c.outside.ensures c.if-outside.false) _ (sym c.in_ok-title_length.ensures) _ _ c.in_ok-parameters_length.ensures
    (omega (arith, c.saturating_add-length.ensures, c.saturating_add.ensures, code, ssn)) c.if-length-gt65531.false)
