-- `address::interpret::Interpreted::measure` meets its contract.
use native.Mathlib.Omega.{arith}
use Rattle.std.proofs.lemmas.Result.{err_from_is_err_and}
use Rattle.parameter.specs.Parameter.{run_length}
use Rattle.address.specs.Steps.Plan.{digits_by}
use Rattle.address.proofs.Held.{read-of}
use Rattle.address.proofs.Planning.{title_few, others_small, mapped_refused}
use Rattle.address.proofs.Unknown.{alike}
use Rattle.address.proofs.Plans.{plan_unknown, plan_long, plan_made}
use Rattle.address.proofs.interpret.Interpreted.measure.Goals as goal

pub returns-in_err-length : goal.returns-in_err-length
returns-in_err-length c =
    let p = err_from_is_err_and c.from_residual.result c.from_residual.ensures.1 in
    rw (p.1, p.2) (plan_unknown (alike c.args.digits) (read-of c.args.self.now) c.args.tag _ _ (mapped_refused run_length _ c.in_err-length.ensures))

pub overflow_add-length : goal.overflow_add-length
overflow_add-length c =
    let l = title_few (digits_by c.args.digits) (alike c.args.digits).lawful _ _ c.in_ok-length.ensures in
    omega arith

pub overflow_add-length-2 : goal.overflow_add-length-2
overflow_add-length-2 c =
    let l = title_few (digits_by c.args.digits) (alike c.args.digits).lawful _ _ c.in_ok-length.ensures in
    omega (arith, c.four_length.ensures.small)

pub overflow_add-length-3 : goal.overflow_add-length-3
overflow_add-length-3 c =
    let l = title_few (digits_by c.args.digits) (alike c.args.digits).lawful _ _ c.in_ok-length.ensures in
    omega (arith, c.four_length.ensures.small, c.four_length-2.ensures.small)

pub overflow_add-length-4 : goal.overflow_add-length-4
overflow_add-length-4 c =
    let l = title_few (digits_by c.args.digits) (alike c.args.digits).lawful _ _ c.in_ok-length.ensures in
    omega (arith, c.four_length.ensures.small, c.four_length-2.ensures.small, others_small (read-of c.args.self.now).known)

pub returns-then-length-gt65531 : goal.returns-then-length-gt65531
returns-then-length-gt65531 c =
    let l = title_few (digits_by c.args.digits) (alike c.args.digits).lawful _ _ c.in_ok-length.ensures in
    plan_long (alike c.args.digits) (read-of c.args.self.now) c.in_ok-length.field-0 _ c.in_ok-length.ensures
    (rw (c.four_length.ensures.value, c.four_length-2.ensures.value)) c.args.tag c.if-length-gt65531.true
    (omega (arith, c.four_length.ensures.small, c.four_length-2.ensures.small, others_small (read-of c.args.self.now).known))

pub returns : goal.returns
returns c =
    plan_made (alike c.args.digits) (read-of c.args.self.now) c.in_ok-length.field-0 _ c.in_ok-length.ensures
    (rw (c.four_length.ensures.value, c.four_length-2.ensures.value)) c.if-length-gt65531.false
