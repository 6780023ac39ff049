-- The records looked at so far, which stand behind those that are left, lie inside, and the first of them with each tag is
-- kept.
use Rattle.lookup.proofs.Passing.{Passed}
use Rattle.std.specs.Slice.Iter.{iter_rest}
use Rattle.std.specs.Iterator.Adapters.{rev_source}
use Rattle.lookup.proofs.pass.first_of.Given as goal

abbrev pub invariant-loop-row : goal.invariant-loop-row
invariant-loop-row l = Passed l.lent.values.now (iter_rest (rev_source l.initial.row-iterator)) (iter_rest (rev_source l.row-iterator)) l.first
