-- `flat::writer::Writer::refused` meets its contract.
use Rattle.flat.specs.Line.{refused_line}
use Rattle.flat.proofs.Emission.{writes_more}
use Rattle.flat.proofs.writer.Writer.refused.Goals as goal

pub returns : goal.returns
unfolding refused_line
returns c = rw (← c.number.ensures) (writes_more (writes_more c.put.ensures c.decimal.ensures) c.put-2.ensures)
