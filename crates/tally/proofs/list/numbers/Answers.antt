-- `tally::list::numbers` meets its contract: the loop has stored the first i numbers.
use native.Mathlib.Omega.{arith}
use Rattle.tally.proofs.Loading.{lengths_few, stored_next, stored_all}
use Rattle.tally.proofs.list.numbers.Goals as goal

pub loop-i-preserved : goal.loop-i-preserved
loop-i-preserved c =
    let s = c.loop-i.invariant in
    let few = lengths_few _ c.args.lengths.now c.requires.lengths_value in
    rw (c.split_at.ensures.back, c.from.ensures) (stored_next s c.code.result c.loop-i-test.true few (rw (← c.from.ensures, ← c.split_at.ensures.front) c.code.ensures))

pub returns : goal.returns
returns c = stored_all c.loop-i.invariant c.loop-i-test.false (omega arith)
