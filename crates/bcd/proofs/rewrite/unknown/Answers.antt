-- `bcd::rewrite::unknown` meets its contract: the loop has kept the largest half of the octets before this one.
use Prim.Native.Nat.{◌+◌, ◌*◌, ◌/◌, ◌≤◌}
use mathlib.Core.Path.{◌≡◌}
use native.Mathlib.Omega.{arith}
use lib.ListN.{length}
use lib.Seq.{get_or-take, length-take-le}
use Rattle.bcd.proofs.Rewriting.{Largest, largest_none, largest_octet, largest_low, largest_decides}
use Rattle.bcd.proofs.rewrite.unknown.Goals.{then-n-eq1, else-n-eq1}
use Rattle.bcd.proofs.rewrite.unknown.Goals as goal

pub loop-byte-init : goal.loop-byte-init
loop-byte-init c = largest_none c.args.bytes.now

pub loop-byte-preserved : goal.loop-byte-preserved
loop-byte-preserved c =
    let i = c.loop-byte.byte-index in
    let half : c.args.n / 2 ≤ length c.args.bytes.now = omega (arith, c.requires.n_bound) in
    let octet = get_or-take (c.args.n / 2) c.args.bytes.now i 0 (omega (arith, c.loop-byte-test.true, length-take-le (c.args.n / 2) c.args.bytes.now half)) in
    largest_octet c.args.bytes.now i c.loop-byte.most c.max-most.result c.loop-byte.invariant (omega (arith, c.type_inv.bytes i)) (omega (arith, octet, c.max.ensures, c.max-most.ensures))

pub returns : goal.returns
returns c =
    let i = c.args.n / 2 in
    let half : i ≤ length c.args.bytes.now = omega (arith, c.requires.n_bound) in
    let same : c.loop-byte.byte-index ≡ i = omega (arith, length-take-le i c.args.bytes.now half) in
    let even : Largest c.args.bytes.now (2 * i) c.loop-byte.most = rw same at c.loop-byte.invariant in
    elim c.if-n-eq1.branch [
      | then-n-eq1 w ↦
          let e : 2 * i + 1 ≡ c.args.n = omega arith in
          rw w.most-is (largest_decides c.args.bytes.now c.args.n c.requires.n_bound_2 _ c.requires.n_bound
          (rw (← e) (largest_low c.args.bytes.now i c.loop-byte.most _ even w.max-most-then-n-eq1.ensures)))
      | else-n-eq1 w ↦
          let e : 2 * i ≡ c.args.n = omega arith in
          rw w.most-is (largest_decides c.args.bytes.now c.args.n c.requires.n_bound_2 _ c.requires.n_bound (rw (← e) even))
    ]
