-- `bcd::encode_gt_digits` meets its contract: the loop has checked the first 2 k digits and stored their k octets.
use Prim.Native.Nat.{ℕ, ◌*◌}
use mathlib.Core.List.{List, map}
use lib.ListN.{take, replicate}
use Rattle.bcd.specs.Digits.{pack, built_in}
use Rattle.bcd.specs.Steps.{nibble}
use Rattle.bcd.proofs.Writing.{Begun}
use Rattle.bcd.proofs.Writable.{Checked}
use Rattle.bcd.proofs.encode_gt_digits.Given as goal

abbrev pub octets : List ℕ → List ℕ
octets digits = pack (map (nibble built_in) digits)

abbrev pub invariant-loop-k : goal.invariant-loop-k
invariant-loop-k l = Checked built_in l.digits (2 * l.k) × Begun (replicate 128 0) (take l.k (octets l.digits)) l.packed
