-- `pieces::point_codes::pack_affected_point_codes` meets its contract: the loop has written the first i codes.
use mathlib.Core.Path.{refl}
use native.Mathlib.Omega.{arith}
use lib.Seq.{take_all}
use Rattle.bcd.proofs.Outcomes.{deliver_refused, deliver-short}
use Rattle.bcd.proofs.Writing.{Begun, untouched}
use Rattle.bcd.proofs.Writing.{delivered as begun-delivered}
use Rattle.pieces.specs.PointCodes.{codes_octets}
use Rattle.pieces.proofs.PointCodes.{codes-length, pack_many, pack_few, codes_next}
use Rattle.pieces.proofs.point_codes.pack_affected_point_codes.Goals as goal

pub returns-then-pcs-gt-MOST_CODES : goal.returns-then-pcs-gt-MOST_CODES
returns-then-pcs-gt-MOST_CODES c = rw (pack_many c.args.pcs.now c.if-pcs-gt-MOST_CODES.true) (deliver_refused 10 _ c.args.out.now)

pub returns-then-out-length : goal.returns-then-out-length
returns-then-out-length c = rw (pack_few c.args.pcs.now c.if-pcs-gt-MOST_CODES.false, ← codes-length c.args.pcs.now)
    (deliver-short (codes_octets c.args.pcs.now) c.args.out.now (rw (codes-length c.args.pcs.now) c.if-out-length.true))

pub loop-i-init : goal.loop-i-init
unfolding codes_octets
loop-i-init c = untouched c.args.out.now

pub loop-i-preserved : goal.loop-i-preserved
loop-i-preserved c = codes_next c.args.pcs.now _ c.loop-i.i _ c.loop-i.invariant c.loop-i-test.true (omega arith) (omega arith)
    (rw (c.copy_from_slice.ensures.after, c.to_be_bytes.ensures) refl)

pub returns : goal.returns
returns c = let codes = c.args.pcs.now in
    let b : Begun c.args.out.now (codes_octets codes) c.loop-i.out = rw (take_all c.loop-i.i codes c.loop-i-test.false) at c.loop-i.invariant in
    rw (pack_few codes c.if-pcs-gt-MOST_CODES.false) (begun-delivered _ b (codes-length codes))
