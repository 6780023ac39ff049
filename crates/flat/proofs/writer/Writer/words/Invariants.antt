-- `flat::writer::Writer::words` meets its contract: the loop has stored the words of the first i octets.
use lib.ListN.{take}
use Rattle.flat.specs.Line.{words}
use Rattle.flat.specs.Steps.Emitting.{Writes}
use Rattle.flat.proofs.writer.Writer.words.Given as goal

abbrev pub invariant-loop-i : goal.invariant-loop-i
invariant-loop-i l = Writes l.initial.self (words (take l.i l.octets)) l.self
