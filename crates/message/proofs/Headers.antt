-- A header that names a type, read, and its octets.
use Prim.Native.Nat.{ℕ, ◌+◌, ◌*◌, ◌/◌, ◌%◌, ◌^◌, ◌≤◌, ◌<◌}
use mathlib.Core.Path.{◌≡◌, refl, ap, ◌∙◌}
use mathlib.Core.List.{List, [], ◌∷◌}
use native.Mathlib.Omega.{arith}
use borrow.Author.Tests.{le-leb, eq-eqb}
use lib.ListN.{length, get_or, drop}
use lib.Seq.{get_or-drop}
use Rattle.std.specs.Int.{to_be_bytes}
use mir.Syntax.{w32}
use Rattle.bcd.specs.Outcome.{mapped, refused, Octets, most}
use Rattle.bcd.proofs.Outcomes.{bounded-within, bounded_beyond, octets_at}
use Rattle.parameter.specs.Parameter.{two_at, four, four_in}
use Rattle.message.specs.Kinds.{Kinds, kind_of}
use Rattle.message.specs.Framed.{header_of, named_by}

-- The 32-bit number at a position, octet by octet.
pub four-there :
    (xs : List ℕ) (at : ℕ)
    → get_or xs at 0 * 16777216 + get_or xs (at + 1) 0 * 65536 + get_or xs (at + 2) 0 * 256 + get_or xs (at + 3) 0 ≡ four_in (drop at xs)
unfolding two_at
four-there xs at =
    let z : at + 0 ≡ at = omega arith in
    rw (get_or-drop at xs 0 0, get_or-drop at xs 1 0, get_or-drop at xs 2 0, get_or-drop at xs 3 0, z) (omega arith)

-- The octets of a number of 32 bits, the high one first.
pub four_bytes : (n : ℕ) → n < 2 ^ 32 → to_be_bytes w32 n ≡ four n
four_bytes n h =
    let a : n / 16777216 % 256 ≡ n / 65536 / 256 = omega arith in
    let c : n / 256 % 256 ≡ n % 65536 / 256 = omega arith in
    let d : n % 256 ≡ n % 65536 % 256 = omega arith in
    rw (a, c, d) refl

-- The first four octets of a value are those of the number that they are.
pub four_again : (w : List ℕ) → Octets w → get_or w 0 0 ∷ get_or w 1 0 ∷ get_or w 2 0 ∷ get_or w 3 0 ∷ [] ≡ four (four_in w)
unfolding two_at
four_again w o =
    let h1 = octets_at w 1 o in
    let h2 = octets_at w 2 o in
    let h3 = octets_at w 3 o in
    let a : get_or w 0 0 ≡ four_in w / 65536 / 256 = omega arith in
    let b : get_or w 1 0 ≡ four_in w / 65536 % 256 = omega arith in
    let c : get_or w 2 0 ≡ four_in w % 65536 / 256 = omega arith in
    let d : get_or w 3 0 ≡ four_in w % 65536 % 256 = omega arith in
    ap (λ (x : ℕ). x ∷ get_or w 1 0 ∷ get_or w 2 0 ∷ get_or w 3 0 ∷ []) a
    ∙ ap (λ (x : ℕ). four_in w / 65536 / 256 ∷ x ∷ get_or w 2 0 ∷ get_or w 3 0 ∷ []) b
    ∙ ap (λ (x : ℕ). four_in w / 65536 / 256 ∷ four_in w / 65536 % 256 ∷ x ∷ get_or w 3 0 ∷ []) c
    ∙ ap (λ (x : ℕ). four_in w / 65536 / 256 ∷ four_in w / 65536 % 256 ∷ four_in w % 65536 / 256 ∷ x ∷ []) d

module _ {K : Type 0} (T : Kinds K) where
  -- A header in front of too many octets.
  pub header_beyond : (xs : List ℕ) → most < length xs → named_by T xs ≡ refused 12 (length xs ∷ [])
  unfolding named_by
  header_beyond xs h = bounded_beyond xs _ h

  -- A header that names a type, read.
  pub header_typed :
      (xs : List ℕ)
      → length xs ≤ most
      → 8 ≤ length xs
      → get_or xs 0 0 ≡ 1
      → named_by T xs ≡ mapped (λ k. (k, four_in (drop 4 xs))) (kind_of T (get_or xs 2 0) (get_or xs 3 0))
  unfolding named_by
  header_typed xs small h v = bounded-within xs _ small ∙ rw (le-leb 8 (length xs) h, eq-eqb (get_or xs 0 0) 1 v)

  -- The octets of a header, byte by byte.
  pub header_bytes :
      (v : ℕ) (k : K) (n : ℕ)
      → n < 2 ^ 32
      → v ∷ 0 ∷ (T.pair_of k).0 ∷ (T.pair_of k).1 ∷ n / 16777216 % 256 ∷ n / 65536 % 256 ∷ n / 256 % 256 ∷ n % 256 ∷ [] ≡ header_of T v k n
  header_bytes v k n h = ap (λ (os : List ℕ). v ∷ 0 ∷ (T.pair_of k).0 ∷ (T.pair_of k).1 ∷ os) (four_bytes n h)
