-- `tally::place::firsts` meets its contract: the walk has come to a position with what it found.
use mathlib.Core.Path.{◌≡◌, ◌∙◌}
use native.Mathlib.Omega.{arith}
use Rattle.bcd.proofs.Results.{exit_as}
use Rattle.tally.proofs.Looking.{looked_start, looked_destination, looked_content, looked_other, looked_end, looked_refused}
use Rattle.tally.proofs.place.firsts.Goals as goal

pub loop-place-init : goal.loop-place-init
loop-place-init c =
    let at : c.into_iter-place-iterator.result.at ≡ 8 = cc in
    (cc, rw at (looked_start c.args.input.now))

pub returns-in_err-place : goal.returns-in_err-place
returns-in_err-place c =
    let s = rw c.in_err-place.was at c.in-Some.ensures.steps in
    exit_as c.from_residual.result _ c.from_residual.ensures.1 _ (looked_refused c.loop-place.invariant.1 _ _ (rw c.loop-place.invariant.0 at s.1))

pub loop-place-preserved-in-259 : goal.loop-place-preserved-in-259
loop-place-preserved-in-259 c =
    let s = rw c.in_ok-place.was at c.in-Some.ensures.steps in
    (s.0 ∙ c.loop-place.invariant.0, rw c.or-destination.ensures (looked_destination c.loop-place.invariant.1 _ _ (rw c.loop-place.invariant.0 at s.1) c.in-259.is))

pub loop-place-preserved-in-267 : goal.loop-place-preserved-in-267
loop-place-preserved-in-267 c =
    let s = rw c.in_ok-place.was at c.in-Some.ensures.steps in
    (s.0 ∙ c.loop-place.invariant.0, rw c.or-data.ensures (looked_content c.loop-place.invariant.1 _ _ (rw c.loop-place.invariant.0 at s.1) c.in-267.is))

pub loop-place-preserved : goal.loop-place-preserved
loop-place-preserved c =
    let s = rw c.in_ok-place.was at c.in-Some.ensures.steps in
    (s.0 ∙ c.loop-place.invariant.0, looked_other c.loop-place.invariant.1 _ _ (rw c.loop-place.invariant.0 at s.1) (λ t. omega (arith, c.in_default)) (λ t. omega (arith, c.in_default)))

pub returns : goal.returns
returns c = looked_end c.loop-place.invariant.1 (rw c.loop-place.invariant.0 at c.in-None.ensures.steps.1)
