-- `pieces::put_run` meets its contract: the loop has written the first parts.
use Rattle.pieces.specs.Parts.{given_written}
use Rattle.pieces.proofs.Running.{Running}
use Rattle.pieces.proofs.put_run.Given as goal

abbrev pub invariant-loop-part : goal.invariant-loop-part
invariant-loop-part l = Running given_written l.parts l.initial.out l.out l.part-index l.at
