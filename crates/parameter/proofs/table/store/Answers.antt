-- `parameter::table::store` meets its contract: the walk has come past n parameters, whose places are stored.
use mathlib.Core.Path.{◌≡◌, sym, ap, ◌∙◌}
use native.Mathlib.Omega.{arith}
use lib.ListN.{length}
use Rattle.std.specs.Iterator.Adapters.{enumerate_source, enumerate_count}
use Rattle.bcd.specs.Outcome.{mapped}
use Rattle.bcd.proofs.Outcomes.{never}
use Rattle.bcd.proofs.Writing.{untouched}
use Rattle.parameter.specs.declared.Parameters.{Parameters}
use Rattle.parameter.proofs.Reaching.{passed_none, passed_small, passed_room, passed_refused}
use Rattle.parameter.proofs.Filling.{filling_next, filling_end}
use Rattle.parameter.proofs.table.store.Goals as goal

pub loop-n-init : goal.loop-n-init
loop-n-init c =
    let i = c.into_iter-n-iterator.ensures.into_iter_gives in
    let source : c.into_iter-n-iterator.result.iter ≡ c.new.result = ap enumerate_source i ∙ c.enumerate-n-items.ensures.source in
    let none : c.into_iter-n-iterator.result.count ≡ 0 = ap enumerate_count i ∙ c.enumerate-n-items.ensures.count in
    let w = passed_none c.args.bytes.now c.args.from _ (ap (λ (s : Parameters). s.bytes.now) source ∙ c.new.ensures.bytes) (ap (λ (s : Parameters). s.at) source ∙ c.new.ensures.at) in
    rw none (record { passed = w; begun = untouched c.args.rows.now })

pub returns-in_default : goal.returns-in_default
returns-in_default c =
    let s = rw (c.in_default.is) at c.in-Some.ensures.steps in
    absurd (never (sym (c.requires ∙ ap (mapped length) (passed_refused c.loop-n.invariant.passed _ _ s.0.1))))

pub offset_bounds-rows-n : goal.offset_bounds-rows-n
offset_bounds-rows-n c =
    let s = rw (c.in-Ok.is) at c.in-Some.ensures.steps in
    omega (arith, passed_small c.loop-n.invariant.passed s.0.1, s.1)

pub bounds-rows-n : goal.bounds-rows-n
bounds-rows-n c =
    let s = rw (c.in-Ok.is) at c.in-Some.ensures.steps in
    let room = passed_room c.loop-n.invariant.passed _ c.in-Ok.place c.next.new.self.iter.at c.requires s.0.0 s.0.1 in
    omega (arith, room, s.1, c.loop-n.auto.rows)

pub loop-n-preserved : goal.loop-n-preserved
loop-n-preserved c =
    let s = rw (c.in-Ok.is) at c.in-Some.ensures.steps in
    let room = passed_room c.loop-n.invariant.passed _ c.in-Ok.place c.next.new.self.iter.at c.requires s.0.0 s.0.1 in
    rw (s.1, s.2) (filling_next c.loop-n.invariant c.in-Ok.place c.next.new.self.iter.at room s.0.0 s.0.1)

pub returns : goal.returns
returns c = filling_end c.loop-n.invariant c.requires c.in-None.ensures.steps.0.1
