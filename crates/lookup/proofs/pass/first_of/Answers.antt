-- The pass stops at a record that reaches outside; what it has kept at the end is of all records.
use Rattle.std.proofs.Common.{◌≡◌, ◌-◌, ◌∙◌, sym, ap, take, ℕ, List, None, Some, arith}
use Rattle.std.specs.Iterator.Adapters.{rev_source}
use Rattle.std.specs.Slice.Iter.{iter_rest}
use Rattle.bcd.specs.Outcome.{accepted, every}
use Rattle.parameter.specs.declared.Place.{Place}
use Rattle.parameter.proofs.Records.{inside}
use Rattle.lookup.specs.Steps.Pass.{wanted}
use Rattle.lookup.proofs.Passing.{firsts, pass_start, pass_next, pass_outside, pass_all, answer_few, answer_outside, answer_all}
use Rattle.lookup.proofs.pass.first_of.Goals as goal

-- what the iterator begins with
lent :
    {S I : Type 0} (source : S → I) (rest : I → List Place) {s r : S} {i : I} {rows : List Place} (t : List Place) (count : ℕ)
    → s ≡ r
    → source r ≡ i
    → rest i ≡ rows
    → rows ≡ take (count - 0) t
    → rest (source s) ≡ take count t
lent source rest t count a b d e =
    let all : count - 0 ≡ count = omega arith in
    ap (λ s. rest (source s)) a ∙ ap rest b ∙ d ∙ e ∙ ap (λ n. take n t) all

pub returns-in_default : goal.returns-in_default
returns-in_default c = answer_few wanted c.args.lent.values.now c.args.lent.rows.now c.args.count (omega (arith, c.in_default.ensures.lookup))

pub loop-row-init : goal.loop-row-init
loop-row-init c = pass_start c.args.lent.values.now (iter_rest (rev_source c.into_iter-row-iterator.result))

pub loop-row-preserved-in-Some-place_of : goal.loop-row-preserved-in-Some-place_of
loop-row-preserved-in-Some-place_of c =
    pass_next _ c.loop-row.invariant c.in-Some-2.field-0.now c.in-Some-2.ensures.steps
    (Some c.in-Some-place_of.place) c.in-Some-place_of.ensures (sym c.if-not-ends_within.false ∙ c.ends_within.ensures)

pub loop-row-preserved : goal.loop-row-preserved
loop-row-preserved c =
    pass_next _ c.loop-row.invariant c.in-Some-2.field-0.now c.in-Some-2.ensures.steps
    None c.in_default-place_of.ensures (sym c.if-not-ends_within.false ∙ c.ends_within.ensures)

pub returns-then-not-ends_within : goal.returns-then-not-ends_within
returns-then-not-ends_within c =
    let values = c.args.lent.values.now in
    let t = c.args.lent.rows.now in
    let ((low, few, range, long), any) = c.in-Some.ensures.lookup in
    let whole = lent rev_source iter_rest t c.args.count c.into_iter-row-iterator.ensures.into_iter_gives c.rev-row-items.ensures.source c.iter.ensures.rest range in
    answer_outside wanted values t c.args.count few
    (ap (every (inside values)) (sym whole) ∙ pass_outside _ c.loop-row.invariant c.in-Some-2.field-0.now c.in-Some-2.ensures.steps (sym c.if-not-ends_within.true ∙ c.ends_within.ensures))

pub returns : goal.returns
returns c =
    let values = c.args.lent.values.now in
    let t = c.args.lent.rows.now in
    let ((low, few, range, long), any) = c.in-Some.ensures.lookup in
    let whole = lent rev_source iter_rest t c.args.count c.into_iter-row-iterator.ensures.into_iter_gives c.rev-row-items.ensures.source c.iter.ensures.rest range in
    let all = pass_all c.loop-row.invariant c.in-None.ensures.steps.0 ∙ whole in
    ap accepted (c.loop-row.invariant.kept ∙ ap (firsts wanted) all)
    ∙ answer_all wanted values t c.args.count few (ap (every (inside values)) (sym all) ∙ c.loop-row.invariant.inside)
