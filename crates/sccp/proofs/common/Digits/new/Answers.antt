-- `sccp::common::Digits::new` meets its contract.
use native.Mathlib.Omega.{arith}
use Rattle.sccp.proofs.Known.{front-length, front_known, front_read, front_unknown}
use Rattle.sccp.proofs.common.Digits.new.Goals as goal

pub invariant_of-result : goal.invariant_of-result
invariant_of-result c =
    let v = c.args.octets.now in
    record {
      few = omega arith;
      whole = front-length v c.args.count _ _ (omega arith) (omega arith) (omega arith);
      known = front_known v c.args.count _ _ (omega arith) (omega arith) (omega arith) _ c.in-Ok.ensures;
    }

pub returns-in-Ok : goal.returns-in-Ok
returns-in-Ok c =
    let v = c.args.octets.now in
    front_read v c.args.count _ _ (omega arith) (omega arith) (omega arith)
    (front_known v c.args.count _ _ (omega arith) (omega arith) (omega arith) _ c.in-Ok.ensures)

pub returns-in-Err : goal.returns-in-Err
returns-in-Err c = front_unknown c.args.octets.now c.args.count _ _ (omega arith) (omega arith) (omega arith) _ c.in-Err.ensures
