-- `flat::account::read` meets its contract.
use Rattle.bcd.proofs.Outcomes.{octets-of}
use Rattle.flat.proofs.Accounting.{param_small}
use Rattle.flat.proofs.account.read.Goals as goal

pub read_in-requires : goal.read_in-requires
read_in-requires c = let xs = c.args.input.now in param_small xs (octets-of xs (λ i. (c.type_inv.input i).fits))
