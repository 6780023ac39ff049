-- `sccp::value::read` meets its contract.
use mathlib.Core.Path.{refl, sym, ap, ◌∙◌}
use Rattle.bcd.specs.Outcome.{after, mapped}
use Rattle.bcd.proofs.Results.{exit}
use Rattle.address.proofs.Held.{read-of}
use Rattle.address.proofs.Interpreted.{interpreted_refused}
use Rattle.sccp.specs.Sccp.{converts}
use Rattle.sccp.specs.Steps.{address_from, convertible}
use Rattle.sccp.proofs.ValueReading.{not_plain, no_title, no_code, converted}
use Rattle.sccp.proofs.value.read.Goals as goal

pub returns-in_err-address : goal.returns-in_err-address
returns-in_err-address c =
    ap (mapped address_from) (exit _ _ c.from_residual.ensures.1)
    ∙ sym (ap (λ o. after o (convertible converts)) (interpreted_refused c.args.value.now _ _ c.in_err-address.ensures.parts))

pub returns-then-not-plain : goal.returns-then-not-plain
returns-then-not-plain c =
    let a = c.in_ok-address.address in
    rw (← c.in_ok-address.ensures.value a refl) (not_plain (read-of a) (sym c.plain.ensures ∙ c.if-not-plain.true))

pub returns-in_err-title_in : goal.returns-in_err-title_in
returns-in_err-title_in c =
    let a = c.in_ok-address.address in
    ap (mapped address_from) (exit _ _ c.from_residual-in_err-title_in.ensures.1)
    ∙ rw (← c.in_ok-address.ensures.value a refl)
    (no_title (read-of a) (sym c.plain.ensures ∙ c.if-not-plain.false) _ c.in_err-title_in.ensures)

pub returns-in_err-code_in : goal.returns-in_err-code_in
returns-in_err-code_in c =
    let a = c.in_ok-address.address in
    ap (mapped address_from) (exit _ _ c.from_residual-in_err-code_in.ensures.1)
    ∙ rw (← c.in_ok-address.ensures.value a refl)
    (no_code (read-of a) (sym c.plain.ensures ∙ c.if-not-plain.false) c.in_ok-title_in.ensures _ c.in_err-code_in.ensures)

pub returns : goal.returns
returns c =
    let a = c.in_ok-address.address in
    rw (← c.in_ok-address.ensures.value a refl, c.eq.ensures)
    (converted (read-of a) (sym c.plain.ensures ∙ c.if-not-plain.false) c.in_ok-title_in.ensures a.routing a.routed c.in_ok-code_in.ensures c.ssn.ensures)
