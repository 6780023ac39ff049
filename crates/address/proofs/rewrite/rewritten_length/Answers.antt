-- `address::rewrite::rewritten_length` meets its contract.
use mathlib.Core.Path.{◌≡◌, refl, sym, ap, ◌∙◌}
use lib.ListN.{length}
use Rattle.bcd.specs.Outcome.{Outcome, after, mapped}
use Rattle.bcd.specs.Digits.{built_in}
use Rattle.bcd.proofs.Results.{exit}
use Rattle.address.specs.Address.{Address, write_address}
use Rattle.address.specs.declared.interpret.Digits.TheVariants as D
use Rattle.address.proofs.Interpreted.{interpreted_refused}
use Rattle.address.proofs.Unknown.{alike}
use Rattle.address.proofs.Plans.{plan_answered}
use Rattle.address.proofs.rewrite.rewritten_length.Goals as goal

pub returns-in_err-interpret : goal.returns-in_err-interpret
returns-in_err-interpret c =
    exit c.from_residual.result _ c.from_residual.ensures.1
    ∙ sym (ap (λ (o : Outcome Address). mapped length (after o (write_address built_in c.args.tag))) (interpreted_refused c.args.value.now _ _ c.in_err-interpret.ensures.parts))

pub returns : goal.returns
returns c =
    let same : c.in_ok-interpret.field-0.value.now ≡ c.args.value.now = c.in_ok-interpret.ensures.value _ refl in
    rw (sym same) (plan_answered (alike D.Checked) c.args.tag _ _ c.measure.result c.measure.ensures)
