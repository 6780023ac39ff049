-- `flat::list::list_length` meets its contract.
use mathlib.Core.Path.{◌≡◌, ◌∙◌}
use Rattle.bcd.proofs.Results.{exit}
use Rattle.flat.proofs.Summing.{summed_start, summed_more, summed_all, summed_refused}
use Rattle.flat.proofs.list.list_length.Goals as goal

pub loop-place-init : goal.loop-place-init
loop-place-init c =
    let a : c.into_iter-place-iterator.result.at ≡ 0 = cc in
    (cc, rw a (summed_start c.args.list.now))

pub returns-in_err-place : goal.returns-in_err-place
returns-in_err-place c =
    let i = c.loop-place.invariant in
    let s = rw (c.in_err-place.was, i.0) at c.in-Some.ensures.steps in
    exit c.from_residual.result _ c.from_residual.ensures.1 ∙ summed_refused i.1 _ _ s.1

pub loop-place-preserved : goal.loop-place-preserved
loop-place-preserved c =
    let i = c.loop-place.invariant in
    let s = rw (c.in_ok-place.was, i.0) at c.in-Some.ensures.steps in
    (s.0, summed_more i.1 c.in_ok-place.field-0 c.next.new.self.at _ s.1 c.add-sum.ensures)

pub returns : goal.returns
returns c = let i = c.loop-place.invariant in
    let s = rw i.0 at c.in-None.ensures.steps in
    summed_all i.1 s.1
