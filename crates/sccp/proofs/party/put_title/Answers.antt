-- `sccp::party::put_title` meets its contract.
use Rattle.sccp.proofs.PartyWriting.{title_put}
use Rattle.sccp.proofs.party.put_title.Goals as goal

pub returns-clause-written : goal.returns-clause-written
returns-clause-written c = rw c.in-Some.is (title_put c.in-Some.title c.args.out.now _ _ _ (rw c.in-Some.is at c.requires) (rw c.copy_from_slice.ensures.after) c.put.ensures.written)
