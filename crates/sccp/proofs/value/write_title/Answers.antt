-- `sccp::value::write_title` meets its contract.
use Rattle.sccp.proofs.ValueWriting.{title_written}
use Rattle.sccp.proofs.value.write_title.Goals as goal

pub returns : goal.returns
returns c =
    rw c.in-Some.is
    (title_written c.in-Some.title c.args.out.now _ (rw c.in-Some.is at c.requires) c.copy_from_slice.ensures.after c.put-length.ensures.written c.frame.ensures)
