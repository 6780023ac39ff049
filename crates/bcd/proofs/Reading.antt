-- Digits and octets by their places, as loops reach them, and how many digits are read.
use Prim.Native.Nat.{ℕ, zero, suc, ◌+◌, ◌*◌, ◌/◌, ◌%◌, ◌-◌, ◌≤◌, ◌<◌, min}
use mathlib.Core.Path.{◌≡◌, refl, sym, ap, ap₂, ◌∙◌}
use mathlib.Core.Logic.{⊎_elim}
use mathlib.Core.List.{List, [], ◌∷◌, ◌++◌, map}
use native.Mathlib.Omega.{arith}
use Rattle.std.specs.Simd.{first_chunks}
use lib.ListN.{length, get_or, take, drop, replicate, length-map, length-take, get_or-eq_default}
use lib.Seq.{get_or-take, get_or-drop, take_all}
use Rattle.bcd.specs.Outcome.{accepted, refused, mapped, most}
use Rattle.bcd.specs.Digits.{Alphabet, halves, pack, digits_in, digits_record, read_digits}
use Rattle.bcd.proofs.Outcomes.{le_or_lt, bounded-within, bounded_beyond}
use Rattle.bcd.proofs.Halves.{halves-length, halves_low, halves_high, pack_at}

-- an element of a list that was mapped
pub map_at : (f : ℕ → ℕ) (xs : List ℕ) (i : ℕ) → i < length xs → get_or (map f xs) i 0 ≡ f (get_or xs i 0)
map_at f [] i h = absurd (omega arith)
map_at f (x ∷ xs) zero h = refl
map_at f (x ∷ xs) (suc i) h = map_at f xs i (omega arith)

-- an octet of packed digits: of two, or of the odd last one
pub octet-two :
    (f : ℕ → ℕ) (cs : List ℕ) (k : ℕ)
    → 2 * k + 1 < length cs
    → f (get_or cs (2 * k + 1) 0) * 16 + f (get_or cs (2 * k) 0) ≡ get_or (pack (map f cs)) k 0
octet-two f cs k h =
    sym (pack_at (map f cs) k ∙ ap₂ (λ (a b : ℕ). a * 16 + b) (map_at f cs (2 * k + 1) h) (map_at f cs (2 * k) (omega arith)))

pub octet_one : (f : ℕ → ℕ) (cs : List ℕ) (k : ℕ) → 2 * k < length cs → length cs ≤ 2 * k + 1 → f (get_or cs (2 * k) 0) ≡ get_or (pack (map f cs)) k 0
octet_one f cs k h l =
    let none : get_or (map f cs) (2 * k + 1) 0 ≡ 0 = get_or-eq_default (map f cs) 0 (rw (length-map cs f) l) in
    let one = map_at f cs (2 * k) h in
    sym (pack_at (map f cs) k ∙ omega arith)

-- the pairs of a list and its odd last element, by their places
pair_at : (xs : List ℕ) (n k : ℕ) (d : List ℕ) → k < n → 2 * n ≤ length xs → get_or (first_chunks 2 n xs) k d ≡ get_or xs (2 * k) 0 ∷ get_or xs (2 * k + 1) 0 ∷ []
pair_at xs zero k d h l = absurd (omega arith)
pair_at [] (suc n) k d h l = absurd (omega arith)
pair_at (x ∷ []) (suc n) k d h l = absurd (omega arith)
pair_at (x ∷ y ∷ xs) (suc n) zero d h l = refl
pair_at (x ∷ y ∷ xs) (suc n) (suc k) d h l =
    let e : 2 * suc k + 1 ≡ suc (suc (2 * k + 1)) = omega arith in
    let f : 2 * suc k ≡ suc (suc (2 * k)) = omega arith in
    rw (e, f) (pair_at xs n k d (omega arith) (omega arith))

module _ (xs : List ℕ) (k : ℕ) (pairs : List (List ℕ)) (d : List ℕ) (e : pairs ≡ first_chunks 2 (length xs / 2) xs) (h : k < length xs / 2) where
  pub low_of : get_or (get_or pairs k d) 0 0 ≡ get_or xs (2 * k) 0
  low_of = rw (e, pair_at xs (length xs / 2) k d h (omega arith))

  pub high_of : get_or (get_or pairs k d) 1 0 ≡ get_or xs (2 * k + 1) 0
  high_of = rw (e, pair_at xs (length xs / 2) k d h (omega arith))

pub odd_of : (xs odd : List ℕ) → odd ≡ drop (length xs / 2 * 2) xs → get_or odd 0 0 ≡ get_or xs (2 * (length xs / 2)) 0
odd_of xs odd e =
    let t : length xs / 2 * 2 ≡ 2 * (length xs / 2) = omega arith in
    rw (e, t, get_or-drop (2 * (length xs / 2)) xs 0 0) (let z : 2 * (length xs / 2) + 0 ≡ 2 * (length xs / 2) = omega arith in rw z refl)

-- a half octet: the low one of an octet at an even place, else the high one
pub half_even : (xs : List ℕ) (i : ℕ) → i % 2 ≡ 0 → get_or xs (i / 2) 0 % 16 ≡ get_or (halves xs) i 0
half_even xs i h =
    let e : 2 * (i / 2) ≡ i = omega arith in
    sym (halves_low xs (i / 2)) ∙ ap (λ (j : ℕ). get_or (halves xs) j 0) e

pub half_odd : (xs : List ℕ) (i : ℕ) → (i % 2 ≡ 0 → ⊥) → get_or xs (i / 2) 0 / 16 ≡ get_or (halves xs) i 0
half_odd xs i h =
    let e : 2 * (i / 2) + 1 ≡ i = omega arith in
    sym (halves_high xs (i / 2)) ∙ ap (λ (j : ℕ). get_or (halves xs) j 0) e

-- taking no more than there are
take_min : (n : ℕ) (xs : List ℕ) → take (min n (length xs)) xs ≡ take n xs
take_min n xs =
    ⊎_elim
    (λ h. let e : min n (length xs) ≡ n = omega arith in ap (λ (k : ℕ). take k xs) e)
    (λ h. take_all (min n (length xs)) xs (omega arith) ∙ sym (take_all n xs (omega arith)))
    (le_or_lt n (length xs))

module _ (A : Alphabet) (xs : List ℕ) where
  -- the smaller of the count and twice the octets
  pub digits-length : (count : ℕ) → length (digits_in A xs count) ≡ min count (2 * length xs)
  unfolding digits_in
  digits-length count = rw (length-map (take count (halves xs)) A.char, length-take count (halves xs), halves-length xs)

  pub digits_at : (count i : ℕ) → i < min count (2 * length xs) → get_or (digits_in A xs count) i 0 ≡ A.char (get_or (halves xs) i 0)
  unfolding digits_in
  digits_at count i h =
      let long : i < length (take count (halves xs)) = rw (length-take count (halves xs), halves-length xs) h in
      map_at A.char (take count (halves xs)) i long ∙ ap A.char (get_or-take count (halves xs) i 0 (omega arith))

  pub digits-most : (count : ℕ) → digits_in A xs (min count (2 * length xs)) ≡ digits_in A xs count
  unfolding digits_in
  digits-most count = rw (← halves-length xs) (ap (map A.char) (take_min count (halves xs)))

  -- how many of a count are absent: those beyond twice the octets
  pub absent-octets : (count : ℕ) → count - length (digits_in A xs count) ≡ count - 2 * length xs
  absent-octets count = omega (arith, digits-length count)

  -- reading refuses 12, or gives the digits there are and the number of those that are absent
  pub reading_refused : (count : ℕ) → most < length xs → refused 12 (length xs ∷ []) ≡ mapped (digits_record count) (read_digits A xs count)
  unfolding read_digits
  reading_refused count h = rw (bounded_beyond xs (accepted (digits_in A xs count)) h)

  pub reading_done :
      (count n absent : ℕ) (d : List ℕ)
      → length xs ≤ most
      → n ≡ min count (2 * length xs)
      → absent ≡ count - n
      → d ≡ digits_in A xs n
      → accepted (record { digits = d ++ drop n (replicate 255 0); count = n; absent = absent })
      ≡ mapped (digits_record count) (read_digits A xs count)
  unfolding read_digits
  reading_done count n absent d h e missing done =
      let same : digits_in A xs n ≡ digits_in A xs count = rw e (digits-most count) in
      let l : length (digits_in A xs n) ≡ n = digits-length n ∙ omega arith in
      rw (bounded-within xs (accepted (digits_in A xs count)) h, ← same, done, l, missing)
