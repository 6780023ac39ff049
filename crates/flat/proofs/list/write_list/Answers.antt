-- `flat::list::write_list` meets its contract.
use mathlib.Core.Path.{◌≡◌}
use native.Mathlib.Omega.{arith}
use Rattle.bcd.proofs.Outcomes.{accepted_inj, never}
use Rattle.flat.proofs.FlatWriting.{known, written_start, written_never, written_turn, written-size, written_more, written_all}
use Rattle.flat.proofs.list.write_list.Goals as goal

pub loop-place-init : goal.loop-place-init
loop-place-init c =
    let a : c.into_iter-place-iterator.result.at ≡ 0 = cc in
    (cc, rw a (written_start c.args.list.now c.args.out.now))

pub returns-in_err-place : goal.returns-in_err-place
returns-in_err-place c =
    let i = c.loop-place.invariant in
    let s = rw (c.in_err-place.was, i.0) at c.in-Some.ensures.steps in
    absurd (written_never (known _ _ c.requires) i.1 _ _ s.1)

pub returns-in_err-at : goal.returns-in_err-at
returns-in_err-at c =
    let i = c.loop-place.invariant in
    let s = rw (c.in_ok-place.was, i.0) at c.in-Some.ensures.steps in
    let w = rw c.value.ensures at c.in_err-at.ensures in
    absurd (never (written-size (known _ _ c.requires) i.1 c.in_ok-place.place _ s.1 (omega arith) w))

pub overflow_add-at : goal.overflow_add-at
overflow_add-at c =
    let i = c.loop-place.invariant in
    let s = rw (c.in_ok-place.was, i.0) at c.in-Some.ensures.steps in
    let w = rw c.value.ensures at c.in_ok-at.ensures in
    let l = accepted_inj (written-size (known _ _ c.requires) i.1 c.in_ok-place.place _ s.1 (omega arith) w) in
    omega (arith, c, l, (written_turn (known _ _ c.requires) i.1 c.in_ok-place.place _ s.1).room)

pub loop-place-preserved : goal.loop-place-preserved
loop-place-preserved c =
    let i = c.loop-place.invariant in
    let s = rw (c.in_ok-place.was, i.0) at c.in-Some.ensures.steps in
    let w = rw c.value.ensures at c.in_ok-at.ensures in
    (s.0, written_more (known _ _ c.requires) i.1 c.in_ok-place.place _ s.1 (omega arith) w)

pub returns : goal.returns
returns c = let i = c.loop-place.invariant in
    let s = rw i.0 at c.in-None.ensures.steps in
    written_all (known _ _ c.requires) i.1 s.1
