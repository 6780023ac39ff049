-- `flat::writer::Writer::others` meets its contract: there is nothing but the number, or the walk stores all.
use mathlib.Core.Path.{◌≡◌, sym, ◌∙◌}
use native.Mathlib.Omega.{arith}
use Rattle.bcd.proofs.Outcomes.{never, bounded-within}
use Rattle.parameter.specs.Walk.{places}
use Rattle.parameter.proofs.Reaching.{walk_found, walk_refused}
use Rattle.address.proofs.Others.{count_small}
use Rattle.message.proofs.Headers.{four_bytes}
use Rattle.flat.proofs.Emission.{writes_more}
use Rattle.flat.proofs.Accounting.{whole, others_none}
use Rattle.flat.proofs.OtherPlaces.{listing_start, listing_more, listing_done, other_there, other_none}
use Rattle.flat.proofs.writer.Writer.others.Goals as goal

pub overflow_cast-count : goal.overflow_cast-count
overflow_cast-count c = omega (arith, count_small (whole c.args.it.now).known)

pub returns-then-count-eq0 : goal.returns-then-count-eq0
returns-then-count-eq0 c =
    let r = whole c.args.it.now in
    let n = c.to_be_bytes.ensures ∙ four_bytes c.args.it.now.parts.other_count (omega (arith, count_small r.known)) in
    others_none c.args.base r c.if-count-eq0.true (rw n at c.put.ensures)

pub loop-place-init : goal.loop-place-init
loop-place-init c =
    let a : c.into_iter-place-iterator.result.at ≡ 4 = cc in
    (cc, rw a (listing_start c.args.it.now.value.now c.args.base c.put.new.self (omega (arith, c.put.ensures.behind))))

pub returns-in_default : goal.returns-in_default
returns-in_default c =
    let v = c.args.it.now.value.now in
    let k = (whole c.args.it.now).known in
    let i = c.loop-place.invariant in
    let s = rw (c.in_default.is, i.0) at c.in-Some.ensures.steps in
    absurd (never (sym (sym (bounded-within v (places v 4) k.within) ∙ walk_refused i.1.reached _ _ s.1) ∙ k.walked))

pub overflow_add-start : goal.overflow_add-start
overflow_add-start c =
    let i = c.loop-place.invariant in
    let s = rw (c.in-Ok.is, i.0) at c.in-Some.ensures.steps in
    let f = walk_found c.args.it.now.value.now c.loop-place.place-iterator.at s.1 in
    omega (arith, f.inside, c.requires)

pub place-requires : goal.place-requires
place-requires c =
    let i = c.loop-place.invariant in
    let s = rw (c.in-Ok.is, i.0) at c.in-Some.ensures.steps in
    let f = walk_found c.args.it.now.value.now c.loop-place.place-iterator.at s.1 in
    omega (arith, f.inside, c.requires)

pub loop-place-preserved-then-is_other : goal.loop-place-preserved-then-is_other
loop-place-preserved-then-is_other c =
    let i = c.loop-place.invariant in
    let s = rw (c.in-Ok.is, i.0) at c.in-Some.ensures.steps in
    let t = sym c.is_other.ensures ∙ c.if-is_other.true in
    (s.0, listing_more i.1 c.in-Ok.place _ s.1 (other_there c.args.base c.in-Ok.place t c.place.ensures))

pub loop-place-preserved : goal.loop-place-preserved
loop-place-preserved c =
    let i = c.loop-place.invariant in
    let s = rw (c.in-Ok.is, i.0) at c.in-Some.ensures.steps in
    let t = sym c.is_other.ensures ∙ c.if-is_other.false in
    (s.0, listing_more i.1 c.in-Ok.place _ s.1 (other_none c.loop-place.self c.args.base c.in-Ok.place (omega (arith, c)) t))

pub returns : goal.returns
returns c =
    let i = c.loop-place.invariant in
    let s = rw i.0 at c.in-None.ensures.steps in
    let k = (whole c.args.it.now).known in
    let n = c.to_be_bytes.ensures ∙ four_bytes c.args.it.now.parts.other_count (omega (arith, count_small k)) in
    writes_more (rw n at c.put.ensures) (listing_done i.1 s.1)
