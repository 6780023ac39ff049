-- `address::interpret::Interpreted::write_head` meets its contract.
use lib.ListN.{drop}
use Rattle.address.proofs.Delivering.{head_octets_lem}
use Rattle.address.proofs.interpret.Interpreted.write_head.Goals as goal

pub returns : goal.returns
returns c = rw c.copy_from_slice.ensures.after (head_octets_lem c.args.self.now.value.now (drop 4 c.args.out.now) (c.args.self.now.fits 1))
