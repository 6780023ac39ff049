-- `flat::account::read_m3ua` meets its contract.
use Rattle.bcd.proofs.Outcomes.{octets-of}
use Rattle.flat.proofs.DataAccount.{data_small}
use Rattle.flat.proofs.account.read_m3ua.Goals as goal

pub read_in-requires : goal.read_in-requires
read_in-requires c = let xs = c.args.input.now in data_small xs (octets-of xs (λ i. (c.type_inv.input i).fits))
