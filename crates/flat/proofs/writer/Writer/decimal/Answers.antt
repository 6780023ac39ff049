-- `flat::writer::Writer::decimal` meets its contract.
use mathlib.Core.Path.{◌∙◌}
use Rattle.flat.proofs.Lines.{decimal_printed}
use Rattle.flat.proofs.writer.Writer.decimal.Goals as goal

pub returns : goal.returns
returns c = rw (c.as_bytes.ensures.value ∙ c.format.ensures.text ∙ decimal_printed c.args.n c.ranges.n.fits) at c.put.ensures
