-- Digits that are read and written again: each half octet but 15 is written as it was read.
use Prim.Native.Nat.{ℕ, zero, suc, ◌+◌, ◌*◌, ◌/◌, ◌%◌, ◌≤◌, ◌<◌, min, max}
use mathlib.Core.Path.{◌≡◌, refl, sym, ap, ap₂, ◌∙◌}
use mathlib.Core.Logic.{◌⊎◌, inl, inr, ⊎_elim}
use Rattle.std.specs.Prelude.{unwrap_or}
use mathlib.Core.List.{List, [], ◌∷◌, ◌++◌, map}
use native.Mathlib.Omega.{arith}
use borrow.Author.Tests.{eq-eqb, ne_eqb}
use lib.Dec.{lit<, eqb}
use lib.ListN.{length, get_or, take, length-take, length-map, get_or-eq_default}
use lib.Seq.{get_or-take}
use Rattle.bcd.specs.Outcome.{Outcome, accepted, refused, pick, after, mapped, All, most}
use Rattle.bcd.specs.Digits.{halves, pack, characters, built_in, digits_in, read_digits, write_digits}
use Rattle.bcd.specs.Steps.{nibble}
use Rattle.bcd.proofs.Outcomes.{accepted_inj, le_or_lt, bounded-within, bounded_beyond}
use Rattle.bcd.proofs.Halves.{halves-length, halves_low, halves_high, pack-length}
use Rattle.bcd.proofs.Characters.{built_in_lawful, built_in-written, built_in-distinct}
use Rattle.bcd.proofs.Writable.{nibbles, some_bad, all_good, write_inv}
use Rattle.bcd.proofs.Reading.{digits-most}
use Rattle.bcd.proofs.Digits.{Back, nibbles_back}

-- a half octet below 15 is written as it was read; any other number reads as ?
back : (h : ℕ) → h < 15 → Back built_in h
back h l = built_in-written h (omega arith) (λ e. let z = built_in-distinct h 15 (omega arith) (lit< tt) e in omega arith)

question : (h : ℕ) → 15 ≤ h → built_in.char h ≡ 0x3F
question h l = ⊎_elim (λ k. let e : h ≡ 15 = omega arith in ap built_in.char e) (λ k. get_or-eq_default characters 0x3F k) (le_or_lt h 15)

-- the first m half octets are all below 15
abbrev pub Known : List ℕ → ℕ → Type 0
Known xs m = (j : ℕ) → j < m → get_or (halves xs) j 0 < 15

pub known_none : (xs : List ℕ) → Known xs 0
known_none xs j h = absurd (omega arith)

-- one octet more, and the low half of one more
pub known-octet : (xs : List ℕ) (i : ℕ) → Known xs (2 * i) → get_or xs i 0 % 16 < 15 → get_or xs i 0 / 16 < 15 → Known xs (2 * (i + 1))
known-octet xs i k low high j h =
    ⊎_elim (λ l. ⊎_elim (λ m. let e : j ≡ 2 * i = omega arith in rw (e, halves_low xs i) low)
    (λ m. let e : j ≡ 2 * i + 1 = omega arith in rw (e, halves_high xs i) high)
    (le_or_lt j (2 * i))) (λ l. k j l) (le_or_lt (2 * i) j)

pub known_low : (xs : List ℕ) (i : ℕ) → Known xs (2 * i) → get_or xs i 0 % 16 < 15 → Known xs (2 * i + 1)
known_low xs i k low j h =
    ⊎_elim (λ l. let e : j ≡ 2 * i = omega arith in rw (e, halves_low xs i) low) (λ l. k j l) (le_or_lt (2 * i) j)

-- one of the first m half octets is 15, or more
pub record Unknown (xs : List ℕ) (m : ℕ) : Type 0 where
  place : ℕ
  inside : place < m
  fifteen : 15 ≤ get_or (halves xs) place 0

-- h tells whether one of the first m half octets is 15, as the largest of them does
abbrev pub Largest : List ℕ → ℕ → ℕ → Type 0
Largest xs m h = ((h < 15) × Known xs m) ⊎ ((h ≡ 15) × Unknown xs m)

pub largest_none : (xs : List ℕ) → Largest xs 0 0
largest_none xs = inl (lit< tt, known_none xs)

pub largest_octet :
    (xs : List ℕ) (i h r : ℕ)
    → Largest xs (2 * i) h
    → get_or xs i 0 < 256
    → r ≡ max (max h (get_or xs i 0 % 16)) (get_or xs i 0 / 16)
    → Largest xs (2 * (i + 1)) r
largest_octet xs i h r s small f =
    ⊎_elim
    (λ known. ⊎_elim (λ low. inr (omega arith, record { place = 2 * i; inside = omega arith; fifteen = rw (halves_low xs i) low }))
    (λ low. ⊎_elim
    (λ high. inr (omega arith, record { place = 2 * i + 1; inside = omega arith; fifteen = rw (halves_high xs i) high }))
    (λ high. inl (omega arith, known-octet xs i known.1 low high))
    (le_or_lt 15 (get_or xs i 0 / 16)))
    (le_or_lt 15 (get_or xs i 0 % 16)))
    (λ found. inr (omega arith, record { place = found.1.place; inside = omega (arith, found.1.inside); fifteen = found.1.fifteen }))
    s

pub largest_low : (xs : List ℕ) (i h r : ℕ) → Largest xs (2 * i) h → r ≡ max h (get_or xs i 0 % 16) → Largest xs (2 * i + 1) r
largest_low xs i h r s f =
    ⊎_elim
    (λ known. ⊎_elim (λ low. inr (omega arith, record { place = 2 * i; inside = omega arith; fifteen = rw (halves_low xs i) low }))
    (λ low. inl (omega arith, known_low xs i known.1 low))
    (le_or_lt 15 (get_or xs i 0 % 16)))
    (λ found. inr (omega arith, record { place = found.1.place; inside = omega (arith, found.1.inside); fifteen = found.1.fifteen }))
    s

backs : (hs : List ℕ) → ((j : ℕ) → j < length hs → get_or hs j 0 < 15) → All (Back built_in) hs
backs [] k = tt
backs (h ∷ hs) k = (back h (k 0 (omega arith)), backs hs (λ j l. k (suc j) (omega arith)))

refuses : (hs : List ℕ) (j : ℕ) → j < length hs → 15 ≤ get_or hs j 0 → nibbles built_in (map built_in.char hs) ≡ refused 9 (0x3F ∷ [])
refuses [] j l b = absurd (omega arith)
refuses (h ∷ hs) zero l b = rw (question h b)
refuses (h ∷ hs) (suc j) l b = ⊎_elim (λ k. rw (question h k)) (λ k. rw (back h k, refuses hs j (omega arith) b)) (le_or_lt 15 h)

module _ (xs : List ℕ) (n : ℕ) (small : n ≤ 255) where
  few : length (map built_in.char (take n (halves xs))) ≤ 255
  few = rw (length-map (take n (halves xs)) built_in.char, length-take n (halves xs)) (omega arith)

  pub known_written : n ≤ 2 * length xs → Known xs n → write_digits built_in (digits_in built_in xs n) ≡ accepted (pack (take n (halves xs)))
  unfolding digits_in
  known_written l k =
      all_good built_in _ (take n (halves xs)) few
      (nibbles_back built_in (take n (halves xs)) (backs (take n (halves xs))
      (λ j h. let i : j < n = omega (arith, length-take n (halves xs)) in rw (get_or-take n (halves xs) j 0 i) (k j i))))

  pub unknown_refused : (j : ℕ) → n ≤ 2 * length xs → j < n → 15 ≤ get_or (halves xs) j 0 → write_digits built_in (digits_in built_in xs n) ≡ refused 9 (0x3F ∷ [])
  unfolding digits_in
  unknown_refused j l h b =
      some_bad built_in _ 9 (0x3F ∷ []) few
      (refuses (take n (halves xs)) j (rw (length-take n (halves xs), halves-length xs) (omega arith)) (rw (get_or-take n (halves xs) j 0 h) b))

  pub largest_decides :
      (h : ℕ)
      → n ≤ 2 * length xs
      → Largest xs n h
      → write_digits built_in (digits_in built_in xs n) ≡ pick (eqb h 15) (refused 9 (0x3F ∷ [])) (accepted (pack (take n (halves xs))))
  largest_decides h l s =
      let R = refused 9 (0x3F ∷ []) in
      let A = accepted (pack (take n (halves xs))) in
      ⊎_elim
      (λ known. known_written l known.1 ∙ sym (ap (λ b. pick b R A) (ne_eqb h 15 (λ e. omega (arith, known.0, e)))))
      (λ found. unknown_refused found.1.place l found.1.inside found.1.fifteen ∙ sym (ap (λ b. pick b R A) (eq-eqb h 15 found.0)))
      s

-- digits read and written again, 12 first
pub rewrite_beyond : (xs : List ℕ) (count : ℕ) → most < length xs → after (read_digits built_in xs count) (write_digits built_in) ≡ refused 12 (length xs ∷ [])
unfolding read_digits
rewrite_beyond xs count h = rw (bounded_beyond xs (accepted (digits_in built_in xs count)) h)

pub rewrite_within :
    (xs : List ℕ) (count n : ℕ)
    → length xs ≤ most
    → n ≡ min count (2 * length xs)
    → after (read_digits built_in xs count) (write_digits built_in) ≡ write_digits built_in (digits_in built_in xs n)
unfolding read_digits
rewrite_within xs count n h e =
    ap (λ (o : Outcome (List ℕ)). after o (write_digits built_in)) (bounded-within xs (accepted (digits_in built_in xs count)) h)
    ∙ ap (write_digits built_in) (sym (digits-most built_in xs count) ∙ ap (digits_in built_in xs) (sym e))

pub halves-packed : (xs : List ℕ) (n : ℕ) → n ≤ 2 * length xs → length (pack (take n (halves xs))) ≡ (n + 1) / 2
halves-packed xs n h = pack-length (take n (halves xs)) ∙ ap (λ (k : ℕ). (k + 1) / 2) (rw (length-take n (halves xs), halves-length xs) (omega arith))

-- Digits that were read and can be written are written as the half octets that were read ..
pub rewritten_octets : (xs : List ℕ) (n : ℕ) (os : List ℕ) → write_digits built_in (digits_in built_in xs n) ≡ accepted os → os ≡ pack (take n (halves xs))
unfolding digits_in
rewritten_octets xs n os e =
    let hs = take n (halves xs) in
    let g = write_inv built_in built_in_lawful (map built_in.char hs) (length os) (sym (ap (mapped length) e)) in
    accepted_inj (sym e ∙ g.octets ∙ ap (λ l. accepted (pack l)) (same hs g.digits))
  where
    same : (hs : List ℕ) → All (λ (c : ℕ). nibble built_in c ≤ 15) (map built_in.char hs) → map (nibble built_in) (map built_in.char hs) ≡ hs
    same [] d = refl
    same (h ∷ hs) d =
        let low : h < 15 =
        ⊎_elim (λ l. let z : 16 ≤ 15 = rw (ap (nibble built_in) (question h l)) at d.0 in absurd (omega arith)) (λ l. l) (le_or_lt 15 h) in
        ap₂ ◌∷◌ (ap (λ o. unwrap_or o 16) (back h low)) (same hs d.1)

-- .. which are the octets themselves, but for an odd last high half.
pub octets_even : (m : ℕ) (xs : List ℕ) → m ≤ length xs → pack (take (2 * m) (halves xs)) ≡ take m xs
unfolding pack halves
octets_even zero xs h = refl
octets_even (suc m) [] h = absurd (omega arith)
octets_even (suc m) (x ∷ xs) h =
    let e : 2 * suc m ≡ suc (suc (2 * m)) = omega arith in
    let same : x / 16 * 16 + x % 16 ≡ x = omega arith in
    rw (e, same, octets_even m xs (omega arith))

pub octets_odd : (m : ℕ) (xs : List ℕ) → m < length xs → pack (take (2 * m + 1) (halves xs)) ≡ take m xs ++ (get_or xs m 0 % 16 ∷ [])
unfolding pack halves
octets_odd m [] h = absurd (omega arith)
octets_odd zero (x ∷ xs) h = refl
octets_odd (suc m) (x ∷ xs) h =
    let e : 2 * suc m + 1 ≡ suc (suc (2 * m + 1)) = omega arith in
    let same : x / 16 * 16 + x % 16 ≡ x = omega arith in
    rw (e, same, octets_odd m xs (omega arith))
