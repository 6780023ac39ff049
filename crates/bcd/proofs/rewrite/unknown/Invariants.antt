-- `bcd::rewrite::unknown` meets its contract: the loop has kept the largest half of the octets before this one.
use Prim.Native.Nat.{◌*◌}
use Rattle.bcd.proofs.Rewriting.{Largest}
use Rattle.bcd.proofs.rewrite.unknown.Given as goal

abbrev pub invariant-loop-byte : goal.invariant-loop-byte
invariant-loop-byte l = Largest l.bytes (2 * l.byte-index) l.most
