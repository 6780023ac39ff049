-- `address::encode::write_four` meets its contract.
use native.Mathlib.Omega.{arith}
use Rattle.address.proofs.Putting.{none_delivered}
use Rattle.address.proofs.GivenParts.{four_put}
use Rattle.address.proofs.encode.write_four.Goals as goal

pub returns-in-None : goal.returns-in-None
returns-in-None c = rw c.in-None.is (none_delivered c.args.out.now)

pub returns-in-Some : goal.returns-in-Some
returns-in-Some c = rw c.in-Some.is (four_put c.args.tag c.in-Some.octets c.args.out.now (omega arith) c.encode.ensures)
