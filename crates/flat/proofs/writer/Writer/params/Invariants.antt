-- `flat::writer::Writer::params` meets its contract: the loop has stored the first n parameters.
use Rattle.bcd.specs.Answers.{outcome_of}
use Rattle.flat.proofs.Going.{Going}
use Rattle.flat.proofs.writer.Writer.params.Given as goal

abbrev pub invariant-loop-place : goal.invariant-loop-place
invariant-loop-place g l = Going g.A.Accounts.told l.input l.initial.self l.n l.place-iterator.bytes.now l.place-iterator.at (outcome_of l.told) l.self
