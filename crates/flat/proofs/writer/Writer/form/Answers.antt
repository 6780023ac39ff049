-- `flat::writer::Writer::form` meets its contract.
use Rattle.flat.specs.Line.{form_text}
use Rattle.flat.proofs.Emission.{writes_more}
use Rattle.flat.proofs.writer.Writer.form.Goals as goal

pub returns : goal.returns
unfolding form_text
returns c = writes_more (writes_more (writes_more (writes_more c.put.ensures c.decimal.ensures) c.put-2.ensures) c.words.ensures) c.put-3.ensures
