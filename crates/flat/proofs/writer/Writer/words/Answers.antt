-- `flat::writer::Writer::words` meets its contract.
use native.Mathlib.Omega.{arith}
use Rattle.flat.specs.Line.{words_from}
use Rattle.flat.proofs.Emission.{writes_none}
use Rattle.flat.proofs.Printing.{word_stored}
use Rattle.flat.proofs.writer.Writer.words.Goals as goal

pub loop-i-init : goal.loop-i-init
unfolding words_from
loop-i-init c = writes_none c.args.self.now (omega (arith, c))

pub loop-i-preserved : goal.loop-i-preserved
loop-i-preserved c = word_stored c.args.octets.now c.loop-i.i c.loop-i-test.true c.loop-i.invariant c.space.ensures (rw (c.digit.ensures, c.digit-in-loop-i.ensures) at c.put.ensures)
