-- `pieces::run_length` meets its contract: the loop has measured the first parts.
use Rattle.pieces.specs.Parts.{given_written}
use Rattle.pieces.proofs.Running.{Measured}
use Rattle.pieces.proofs.run_length.Given as goal

abbrev pub invariant-loop-part : goal.invariant-loop-part
invariant-loop-part l = Measured given_written l.parts l.part-index l.total
