-- `pieces::point_codes::list_codes` meets its contract: the loop has stored the first i codes.
use lib.ListN.{take}
use Rattle.bcd.proofs.Writing.{Begun}
use Rattle.pieces.specs.PointCodes.{codes_in}
use Rattle.pieces.proofs.point_codes.list_codes.Given as goal

abbrev pub invariant-loop-i : goal.invariant-loop-i
invariant-loop-i l = Begun l.initial.out (take l.i (codes_in l.value)) l.out
