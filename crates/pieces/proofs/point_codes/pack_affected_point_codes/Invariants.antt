-- `pieces::point_codes::pack_affected_point_codes` meets its contract: the loop has written the first i codes.
use lib.ListN.{take}
use Rattle.bcd.proofs.Writing.{Begun}
use Rattle.pieces.specs.PointCodes.{codes_octets}
use Rattle.pieces.proofs.point_codes.pack_affected_point_codes.Given as goal

abbrev pub invariant-loop-i : goal.invariant-loop-i
invariant-loop-i l = Begun l.initial.out (codes_octets (take l.i l.pcs)) l.out
