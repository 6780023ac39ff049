-- `address::parts::survey` meets its contract: the loop has kept the parts of the sub-parameters that the walk has come to.
use mathlib.Core.Path.{sym, ap, ◌∙◌, subst}
use Prim.Native.Nat.{ℕ}
use Rattle.bcd.proofs.Results.{exit}
use Rattle.parameter.specs.declared.Parameters.{Parameters}
use Rattle.address.proofs.Surveying.{Surveying, surveying_start, surveying_room, surveying_next, survey_done, survey_refused}
use Rattle.address.proofs.parts.survey.Goals as goal

pub loop-place-init : goal.loop-place-init
loop-place-init c =
    let i = c.into_iter-place-iterator.ensures.into_iter_gives in
    let v = c.args.value.now in (
      ap (λ (s : Parameters). s.bytes.now) i ∙ c.new-place-items.ensures.bytes,
      subst (λ (k : ℕ). Surveying v k c.none-parts.result) (sym (ap (λ (s : Parameters). s.at) i ∙ c.new-place-items.ensures.at)) (surveying_start v _ c.none-parts.ensures),
    )

pub returns-in_err-place : goal.returns-in_err-place
returns-in_err-place c =
    let s = rw (c.in_err-place.was) at c.in-Some.ensures.steps in
    let y = c.loop-place.invariant in
    exit c.from_residual.result _ c.from_residual.ensures.1 ∙ survey_refused y.1 _ _ (rw y.0 at s.1)

pub note-parts-requires-clause-length_bound : goal.note-parts-requires-clause-length_bound
note-parts-requires-clause-length_bound c =
    let s = rw (c.in_ok-place.was) at c.in-Some.ensures.steps in
    let y = c.loop-place.invariant in
    (surveying_room y.1 _ _ (rw y.0 at s.1)).value

pub loop-place-preserved : goal.loop-place-preserved
loop-place-preserved c =
    let s = rw (c.in_ok-place.was) at c.in-Some.ensures.steps in
    let y = c.loop-place.invariant in
    (s.0 ∙ y.0, surveying_next y.1 _ _ (rw y.0 at s.1) _ c.note-parts.ensures)

pub returns : goal.returns
returns c = let y = c.loop-place.invariant in survey_done y.1 (rw y.0 at c.in-None.ensures.steps.1)
