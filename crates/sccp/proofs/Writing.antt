-- Parts put one behind the other into a lent buffer, which has room for them.
use Prim.Native.Nat.{ℕ, ◌+◌, ◌-◌, ◌≤◌}
use mathlib.Core.Path.{◌≡◌}
use mathlib.Core.List.{List, ◌++◌}
use native.Mathlib.Omega.{arith}
use borrow.Rule.Slice.PartMut.{mid_of, put_mid}
use lib.ListN.{length, length-append, length-take, length-drop}
use Rattle.bcd.specs.Outcome.{accepted, deliver}
use Rattle.bcd.proofs.Outcomes.{accepted_inj, deliver_buffer, deliver_answer}
use Rattle.bcd.proofs.Writing.{Begun, extend}

-- What a writer that was lent the buffer from a place on put behind what was begun.
pub record Put (out p q d : List ℕ) (at r : ℕ) (last : List ℕ) : Type 0 where
  pub count : r ≡ length q
  pub begun : Begun out (p ++ q) (put_mid at (length d - at) d last)
  pub place : length (p ++ q) ≡ at + r

module _ {out p d : List ℕ} (q : List ℕ) (at : ℕ) (b : Begun out p d) (place : length p ≡ at) (room : at + length q ≤ length out) where
  room-behind : length q ≤ length (mid_of at (length d - at) d)
  room-behind = simp (length-take, length-drop) (omega (arith, b.same))

  pub put-behind :
      (r : ℕ) (last : List ℕ)
      → record { answer = accepted r; buffer = last } ≡ deliver (accepted q) (mid_of at (length d - at) d)
      → Put out p q d at r last
  put-behind r last e =
      let count : r ≡ length q = accepted_inj (deliver_answer q (mid_of at (length d - at) d) room-behind e) in
      let buffer = deliver_buffer q (mid_of at (length d - at) d) room-behind e in
      record {
        count = count;
        begun = extend q last at (length d - at) b place (omega (arith, b.same)) (omega (arith, b.same)) buffer;
        place = rw (length-append p q) (omega arith);
      }
