-- `settle::answer` meets its contract: the line of the octets that were read is that of the whole input.
use Rattle.flat.proofs.Program.{printed_cut}
use Rattle.settle.proofs.answer.Goals as goal

pub returns-clause-line : goal.returns-clause-line
returns-clause-line g c =
    printed_cut (g.R.Read.remaining c.args.input) c.in_ok-octets.octets.items _ _ _ c.in_ok-octets.ensures (rw c.deref.ensures.value at c.line.ensures)
