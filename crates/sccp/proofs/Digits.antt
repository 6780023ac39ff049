-- The digits of a party address: read ones are written as the octets that they stood in, and written ones are read back.
use Prim.Native.Nat.{ℕ, zero, suc, ◌+◌, ◌-◌, ◌*◌, ◌/◌, ◌%◌, ◌≤◌, ◌<◌}
use mathlib.Core.Path.{◌≡◌, refl, sym, ap, ◌∙◌, subst}
use mathlib.Core.Bool.{true, ◌&&◌}
use mathlib.Core.Logic.{⊎_elim}
use mathlib.Core.List.{List, [], ◌∷◌, ◌++◌}
use native.Mathlib.Omega.{arith}
use borrow.Author.Tests.{le-leb, leb-true, eqb-true}
use lib.Dec.{leb, eqb}
use lib.ListN.{length, get_or, take, length-take}
use lib.Seq.{get_or-append-add}
use Rattle.bcd.specs.Outcome.{accepted, Octets}
use Rattle.bcd.specs.Digits.{halves, pack, built_in, digits_in, write_digits}
use Rattle.bcd.proofs.Outcomes.{accepted_inj, never, after_inv, demand_inv, all_take}
use Rattle.bcd.proofs.Below.{both}
use Rattle.bcd.proofs.Tests.{chosen}
use Rattle.bcd.proofs.Halves.{halves-length, halves-nibbles, halves-pack, filler}
use Rattle.bcd.proofs.Characters.{built_in_lawful}
use Rattle.bcd.proofs.Reading.{digits-length}
use Rattle.bcd.proofs.Rewriting.{rewritten_octets}
use Rattle.bcd.proofs.Digits.{read_at_most, read-written-read}
use Rattle.address.proofs.Titles.{digit-octets}
use Rattle.sccp.specs.Sccp.{known, digit_count, digits_of}
use Rattle.sccp.proofs.Known.{known_written, written_known}

-- The number of digits tells the encoding scheme and the number of octets, and is told by them.
pub record Counted (scheme n count : ℕ) : Type 0 where
  pub by : scheme ≡ 2 - count % 2
  pub octets : n ≡ (count + 1) / 2

pub count_inv : (scheme n count : ℕ) → digit_count scheme n ≡ accepted count → Counted scheme n count
count_inv scheme n count e =
    ⊎_elim
    (λ (s, e).
    let (some, same) = demand_inv (leb 1 n) _ _ _ e in
    let odd = accepted_inj same in
    record { by = omega (arith, leb-true 1 n some); octets = omega (arith, leb-true 1 n some) })
    (λ (_, e). ⊎_elim
    (λ (s, e). let even = accepted_inj e in record { by = omega arith; octets = omega arith })
    (λ (_, e). absurd (never e))
    (chosen scheme 2 _ _ e))
    (chosen scheme 1 _ _ e)

pub counts : (count : ℕ) → digit_count (2 - count % 2) ((count + 1) / 2) ≡ accepted count
counts count = go (count % 2) refl
  where
    go : (r : ℕ) → count % 2 ≡ r → digit_count (2 - r) ((count + 1) / 2) ≡ accepted count
    go zero h = let e : 2 * ((count + 1) / 2) ≡ count = omega arith in ap accepted e
    go (suc zero) h =
        let e : 2 * ((count + 1) / 2) - 1 ≡ count = omega arith in
        rw (le-leb 1 ((count + 1) / 2) (omega arith)) (ap accepted e)
    go (suc (suc r)) h = absurd (omega arith)

-- What digits that were read tell.
pub record HasDigits (scheme : ℕ) (xs ds : List ℕ) : Type 0 where
  pub count : ℕ
  pub counted : Counted scheme (length xs) count
  pub few : count ≤ 255
  pub filler : get_or (halves xs) count 0 ≡ 0
  pub known : known (digits_in built_in xs count) ≡ true
  pub digits : digits_in built_in xs count ≡ ds

pub digits_inv : (scheme : ℕ) (xs ds : List ℕ) → digits_of scheme xs ≡ accepted ds → HasDigits scheme xs ds
unfolding digits_of
digits_inv scheme xs ds e =
    let (count, hc, e1) = after_inv (digit_count scheme (length xs)) _ e in
    let (tests, same) =
    demand_inv (leb count 255 && (eqb (get_or (halves xs) count 0) 0 && known (digits_in built_in xs count))) _ _ _ e1 in
    let (few, more) = both (leb count 255) _ tests in
    let (empty, k) = both (eqb (get_or (halves xs) count 0) 0) _ more in
    record {
      count = count;
      counted = count_inv scheme (length xs) count hc;
      few = leb-true count 255 few;
      filler = eqb-true _ 0 empty;
      known = k;
      digits = accepted_inj same;
    }

-- Octets are their half octets, but for a last one of 0.
pub packed_back :
    (xs : List ℕ) (count : ℕ)
    → length xs ≡ (count + 1) / 2
    → get_or (halves xs) count 0 ≡ 0
    → pack (take count (halves xs)) ≡ xs
unfolding pack halves
packed_back [] zero l f = refl
packed_back [] (suc c) l f = absurd (omega arith)
packed_back (x ∷ xs) zero l f = absurd (omega arith)
packed_back (x ∷ []) (suc zero) l f = let e : x % 16 ≡ x = omega arith in ap (λ (x : ℕ). x ∷ []) e
packed_back (x ∷ y ∷ xs) (suc zero) l f = absurd (omega arith)
packed_back (x ∷ xs) (suc (suc c)) l f =
    let same : x / 16 * 16 + x % 16 ≡ x = omega arith in
    rw (same, packed_back xs c (omega arith) f)

-- Digits that were read, and are then written: the same scheme and the same octets.
pub record DigitsBack (scheme : ℕ) (xs ds : List ℕ) : Type 0 where
  pub by : scheme ≡ 2 - length ds % 2
  pub writes : write_digits built_in ds ≡ accepted xs
  pub known : known ds ≡ true

pub digits_back : (scheme : ℕ) (xs ds : List ℕ) → Octets xs → digits_of scheme xs ≡ accepted ds → DigitsBack scheme xs ds
digits_back scheme xs ds o e =
    let h = digits_inv scheme xs ds e in
    let l = digits-length built_in xs h.count in
    let c = h.counted in
    subst (DigitsBack scheme xs) h.digits (record {
      by = omega (arith, c.by, c.octets);
      writes = known_written xs h.count (omega (arith, c.octets)) h.few h.known ∙ ap accepted (packed_back xs h.count c.octets h.filler);
      known = h.known;
    })

filler-first : (hs : List ℕ) → get_or (filler hs) 0 0 ≡ 0
unfolding filler
filler-first [] = refl
filler-first (l ∷ []) = refl
filler-first (l ∷ h ∷ hs) = filler-first hs

-- Behind the digits that are written stands 0, or nothing.
filler-written :
    (ys : List ℕ) (n : ℕ) (os : List ℕ)
    → Octets ys
    → write_digits built_in (digits_in built_in ys n) ≡ accepted os
    → get_or (halves os) (length (digits_in built_in ys n)) 0 ≡ 0
filler-written ys n os o e =
    let hs = take n (halves ys) in
    let small = all_take (λ (h : ℕ). h < 16) n (halves ys) (halves-nibbles ys o) in
    let long : length (digits_in built_in ys n) ≡ length hs + 0 =
    omega (arith, digits-length built_in ys n, length-take n (halves ys), halves-length ys) in
    ap (λ (os : List ℕ). get_or (halves os) (length (digits_in built_in ys n)) 0) (rewritten_octets ys n os e)
    ∙ ap (λ (hs : List ℕ). get_or hs (length (digits_in built_in ys n)) 0) (halves-pack hs small)
    ∙ ap (λ (i : ℕ). get_or (hs ++ filler hs) i 0) long
    ∙ get_or-append-add hs (filler hs) 0 0
    ∙ filler-first hs

-- Digits that were read from any octets, and that are written, are read back.
module _
    (ys : List ℕ) (n : ℕ) (ds os : List ℕ)
    (o : Octets ys)
    (same : ds ≡ digits_in built_in ys n)
    (e : write_digits built_in ds ≡ accepted os) where
  writes : write_digits built_in (digits_in built_in ys n) ≡ accepted os
  writes = ap (write_digits built_in) (sym same) ∙ e

  pub digits_again : digits_in built_in os (length ds) ≡ ds
  digits_again =
      ap (λ (ds : List ℕ). digits_in built_in os (length ds)) same ∙ read-written-read built_in built_in_lawful ys n os o writes ∙ sym same

  pub digits-read_back : n ≤ 255 → digits_of (2 - length ds % 2) os ≡ accepted ds
  unfolding digits_of
  digits-read_back h =
      let d = digit-octets built_in built_in_lawful ds os e in
      let few : length ds ≤ 255 = omega (arith, ap length same, read_at_most built_in ys n h) in
      let empty : get_or (halves os) (length ds) 0 ≡ 0 =
      ap (λ (ds : List ℕ). get_or (halves os) (length ds) 0) same ∙ filler-written ys n os o writes in
      rw (d.count, counts (length ds), le-leb (length ds) 255 few, empty, digits_again, written_known ds os e)
