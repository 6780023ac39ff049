-- Half octets and octets: lengths, places, and packing undone.
use Prim.Native.Nat.{ℕ, zero, suc, ◌+◌, ◌*◌, ◌/◌, ◌%◌, ◌<◌}
use mathlib.Core.Path.{◌≡◌, refl}
use mathlib.Core.List.{List, [], ◌∷◌, ◌++◌}
use native.Mathlib.Omega.{arith}
use lib.ListN.{length, get_or}
use Rattle.bcd.specs.Outcome.{All, Octets}
use Rattle.bcd.specs.Digits.{halves, pack}

-- each is a half octet
abbrev pub Nibbles : List ℕ → Type 0
Nibbles = All (λ (h : ℕ). h < 16)

pub halves-length : (xs : List ℕ) → length (halves xs) ≡ 2 * length xs
unfolding halves
halves-length [] = refl
halves-length (x ∷ xs) = omega (arith, halves-length xs)

pub halves-nibbles : (xs : List ℕ) → Octets xs → Nibbles (halves xs)
unfolding halves
halves-nibbles [] o = tt
halves-nibbles (x ∷ xs) o = (omega arith, (omega (arith, o.0), halves-nibbles xs o.1))

-- the half octets of an octet, by their places
pub halves_low : (xs : List ℕ) (k : ℕ) → get_or (halves xs) (2 * k) 0 ≡ get_or xs k 0 % 16
unfolding halves
halves_low [] k = refl
halves_low (x ∷ xs) zero = refl
halves_low (x ∷ xs) (suc k) = let e : 2 * suc k ≡ suc (suc (2 * k)) = omega arith in rw e (halves_low xs k)

pub halves_high : (xs : List ℕ) (k : ℕ) → get_or (halves xs) (2 * k + 1) 0 ≡ get_or xs k 0 / 16
unfolding halves
halves_high [] k = refl
halves_high (x ∷ xs) zero = refl
halves_high (x ∷ xs) (suc k) = let e : 2 * suc k + 1 ≡ suc (suc (2 * k + 1)) = omega arith in rw e (halves_high xs k)

-- two half octets to an octet, rounded up
pub pack-length : (hs : List ℕ) → length (pack hs) ≡ (length hs + 1) / 2
unfolding pack
pack-length [] = refl
pack-length (l ∷ []) = refl
pack-length (l ∷ h ∷ hs) = omega (arith, pack-length hs)

pub pack-octets : (hs : List ℕ) → Nibbles hs → Octets (pack hs)
unfolding pack
pack-octets [] o = tt
pack-octets (l ∷ []) o = (omega (arith, o.0), tt)
pack-octets (l ∷ h ∷ hs) o = (omega (arith, o.0, o.1.0), pack-octets hs o.1.1)

-- an octet by its two half octets; beyond an odd last one stands 0
pub pack_at : (hs : List ℕ) (k : ℕ) → get_or (pack hs) k 0 ≡ get_or hs (2 * k + 1) 0 * 16 + get_or hs (2 * k) 0
unfolding pack
pack_at [] k = refl
pack_at (l ∷ []) zero = omega arith
pack_at (l ∷ []) (suc k) =
    let e : 2 * suc k + 1 ≡ suc (suc (2 * k + 1)) = omega arith in
    let f : 2 * suc k ≡ suc (suc (2 * k)) = omega arith in
    rw (e, f) refl
pack_at (l ∷ h ∷ hs) zero = refl
pack_at (l ∷ h ∷ hs) (suc k) =
    let e : 2 * suc k + 1 ≡ suc (suc (2 * k + 1)) = omega arith in
    let f : 2 * suc k ≡ suc (suc (2 * k)) = omega arith in
    rw (e, f) (pack_at hs k)

-- the filler after an odd number of half octets
unfoldable pub filler : List ℕ → List ℕ
filler [] = []
filler (l ∷ []) = 0 ∷ []
filler (l ∷ h ∷ hs) = filler hs

-- what is packed is unpacked, with 0 in the last high half of an odd number
pub halves-pack : (hs : List ℕ) → Nibbles hs → halves (pack hs) ≡ hs ++ filler hs
unfolding halves pack filler
halves-pack [] o = refl
halves-pack (l ∷ []) o =
    let low : l % 16 ≡ l = omega (arith, o.0) in
    let high : l / 16 ≡ 0 = omega (arith, o.0) in
    rw (low, high)
halves-pack (l ∷ h ∷ hs) o =
    let low : (h * 16 + l) % 16 ≡ l = omega (arith, o.0) in
    let high : (h * 16 + l) / 16 ≡ h = omega (arith, o.0) in
    rw (low, high, halves-pack hs o.1.1)
