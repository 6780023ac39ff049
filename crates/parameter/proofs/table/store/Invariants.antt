-- `parameter::table::store` meets its contract: the walk has come past n parameters, whose places are stored.
use Rattle.parameter.proofs.Filling.{Filling}
use Rattle.parameter.proofs.table.store.Given as goal

abbrev pub invariant-loop-n : goal.invariant-loop-n
invariant-loop-n l = Filling l.bytes l.from l.initial.rows l.rows l.n-iterator.count l.n-iterator.iter.bytes.now l.n-iterator.iter.at
