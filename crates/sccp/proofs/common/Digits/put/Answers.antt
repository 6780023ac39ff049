-- `sccp::common::Digits::put` meets its contract.
use Rattle.sccp.proofs.Copying.{even_put, odd_put}
use Rattle.sccp.proofs.common.Digits.put.Goals as goal
use Rattle.sccp.proofs.common.Digits.put.Goals.{then-self-eq1, else-self-eq1}

pub returns-clause-written : goal.returns-clause-written
returns-clause-written c = elim c.if-self-eq1.branch [
  | then-self-eq1 w ↦ rw w.out-is (odd_put c.args.self c.args.out.now _ c.requires (rw c.copy_from_slice.ensures.after) w.if-self-eq1.true)
  | else-self-eq1 w ↦ rw w.out-is (even_put c.args.self c.args.out.now _ c.requires (rw c.copy_from_slice.ensures.after) w.if-self-eq1.false)
]
