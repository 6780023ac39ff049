-- The characters of the half octets, from the definitions by computation: which are read, which are written, and no others.
use Prim.Native.Nat.{ℕ, ◌<◌}
use mathlib.Core.Path.{◌≡◌, refl}
use mathlib.Core.Bool.{Bool, true, false, not, ◌||◌}
use mathlib.Core.List.{[], ◌∷◌}
use native.Mathlib.Omega.{arith}
use Rattle.std.specs.Prelude.{Option, None, Some, is_some}
use Rattle.bcd.specs.Outcome.{accepted, refused, among}
use Rattle.bcd.specs.Digits.{built_in, halves, pack, digits_in, read_digits, write_digits}
use Rattle.bcd.specs.Worked.{all_halves, sixteen_read, eighteen, eighteen_written}
use Rattle.bcd.proofs.Below.{below_at}

-- Half octets 0 to 15 read as these characters, and these are written.
pub worked_characters :
    (read_digits built_in all_halves 16 ≡ accepted sixteen_read) × (write_digits built_in eighteen ≡ accepted eighteen_written)
unfolding read_digits digits_in halves write_digits pack
worked_characters = (refl, refl)

none : (o : Option ℕ) → is_some o ≡ false → o ≡ None
none None e = refl
none (Some h) e = let z : ◌≡◌ {A = Bool} true false = cc in let y : ◌≡◌ {A = ℕ} 0 1 = cc in absurd (omega arith)

-- No other octet is.
pub no_other_digit : (c : ℕ) → c < 256 → among c eighteen ≡ false → write_digits built_in (c ∷ []) ≡ refused 9 (c ∷ [])
unfolding write_digits
no_other_digit c small other =
    let test : ℕ → Bool = λ c. among c eighteen || not (is_some (built_in.half c)) in
    rw (none (built_in.half c) (unwritten (among c eighteen) (is_some (built_in.half c)) (below_at 256 test refl c small) other))
  where
    unwritten : (a b : Bool) → a || not b ≡ true → a ≡ false → b ≡ false
    unwritten a true e h = let z : ◌≡◌ {A = Bool} true false = cc in z
    unwritten a false e h = refl
