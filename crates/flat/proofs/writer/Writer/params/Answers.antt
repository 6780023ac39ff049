-- `flat::writer::Writer::params` meets its contract.
use mathlib.Core.Path.{ap, ◌∙◌}
use native.Mathlib.Omega.{arith}
use Rattle.bcd.proofs.Results.{exit}
use Rattle.parameter.specs.declared.Parameters.{Parameters}
use Rattle.parameter.proofs.Reaching.{walk_within, walk_found}
use Rattle.flat.proofs.Going.{going_start, going_ok, going_more, going_refused, going_done, going_stopped, going_out}
use Rattle.flat.proofs.writer.Writer.params.Goals as goal

pub loop-place-init : goal.loop-place-init
loop-place-init g c =
    let i = c.into_iter-place-iterator.ensures.into_iter_gives in
    going_start g.A.Accounts.told c.args.input.now c.args.self.now (omega (arith, c)) (ap (λ (s : Parameters). s.bytes.now) i ∙ c.new-place-items.ensures.bytes) (ap (λ (s : Parameters). s.at) i ∙ c.new-place-items.ensures.at)

pub returns-in_err-place : goal.returns-in_err-place
returns-in_err-place g c =
    let s = rw (c.in_err-place.was) at c.in-Some.ensures.steps in
    rw (exit _ _ c.from_residual.ensures.1) (going_out _ _ c.loop-place.invariant s.1)

pub param-told-requires : goal.param-told-requires
param-told-requires g c =
    let s = rw (c.in_ok-place.was) at c.in-Some.ensures.steps in
    let t = rw c.loop-place.invariant.passed.same at s.1 in
    let f = walk_found c.args.input.now c.loop-place.place-iterator.at t in
    omega (arith, f.inside, walk_within c.args.input.now c.loop-place.place-iterator.at t)

pub loop-place-preserved-then-is_ok : goal.loop-place-preserved-then-is_ok
loop-place-preserved-then-is_ok g c =
    let s = rw (c.in_ok-place.was) at c.in-Some.ensures.steps in
    going_more c.in_ok-place.place _ s.0 s.1 _ (going_ok c.loop-place.told c.if-is_ok.ensures.value c.loop-place.invariant) c.param-told.ensures

pub loop-place-preserved : goal.loop-place-preserved
loop-place-preserved g c =
    let s = rw (c.in_ok-place.was) at c.in-Some.ensures.steps in
    going_refused c.in_ok-place.place _ s.0 s.1 c.loop-place.told c.if-is_ok.ensures.value c.loop-place.invariant

pub returns-in_err-told : goal.returns-in_err-told
returns-in_err-told g c =
    rw (exit _ _ c.from_residual-in_err-told.ensures.1) (going_stopped _ _ (rw c.in_err-told.was at c.loop-place.invariant) c.in-None.ensures.steps.1)

pub returns : goal.returns
returns g c = going_done (rw c.in_ok-told.was at c.loop-place.invariant) c.in-None.ensures.steps.1
