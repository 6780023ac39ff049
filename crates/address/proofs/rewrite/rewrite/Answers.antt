-- `address::rewrite::rewrite` meets its contract.
use mathlib.Core.List.{List}
use Prim.Native.Nat.{ℕ}
use mathlib.Core.Path.{◌≡◌, refl, sym, ap, ◌∙◌}
use Rattle.bcd.specs.Outcome.{Outcome, after, deliver}
use Rattle.bcd.proofs.Outcomes.{deliver_too_long}
use Rattle.bcd.proofs.Results.{exit_delivered}
use Rattle.address.specs.Address.{Address, write_address}
use Rattle.bcd.specs.Digits.{built_in}
use Rattle.address.specs.declared.interpret.Digits.TheVariants as D
use Rattle.address.proofs.Interpreted.{interpreted_refused}
use Rattle.address.proofs.Plans.{plan_length}
use Rattle.address.proofs.Unknown.{alike}
use Rattle.address.proofs.Delivering.{as_read, any_tag}
use Rattle.address.proofs.rewrite.rewrite.Goals as goal

pub returns-in_err-address : goal.returns-in_err-address
returns-in_err-address c =
    exit_delivered c.from_residual.result _ c.from_residual.ensures.1 _ c.args.out.now
    (sym (ap (λ (o : Outcome Address). after o (write_address built_in c.args.tag)) (interpreted_refused c.args.value.now _ _ c.in_err-address.ensures.parts)))

pub returns-in_err-total : goal.returns-in_err-total
returns-in_err-total c =
    let same : c.in_ok-address.address.value.now ≡ c.args.value.now = c.in_ok-address.ensures.value _ refl in
    rw (sym same) (exit_delivered c.from_residual-in_err-total.result _ c.from_residual-in_err-total.ensures.1 _ c.args.out.now (sym c.in_err-total.ensures))

pub returns-then-out-total : goal.returns-then-out-total
returns-then-out-total c =
    let same : c.in_ok-address.address.value.now ≡ c.args.value.now = c.in_ok-address.ensures.value _ refl in
    rw (sym same) (deliver_too_long _ _ c.args.out.now (plan_length (alike D.Checked) c.args.tag c.in_ok-total.ensures) c.if-out-total.true)

pub write-requires-clause-plan : goal.write-requires-clause-plan
write-requires-clause-plan c = as_read c.in_ok-total.ensures

pub returns : goal.returns
returns c =
    let same : c.in_ok-address.address.value.now ≡ c.args.value.now = c.in_ok-address.ensures.value _ refl in
    rw (sym same) (c.write.ensures ∙ ap (λ (o : Outcome (List ℕ)). deliver o c.args.out.now) (any_tag c.args.tag c.in_ok-total.ensures))
