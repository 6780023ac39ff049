-- Digits without ?, which are those that are written.
use Prim.Native.Nat.{ℕ, zero, suc, ◌+◌, ◌*◌, ◌/◌, ◌%◌, ◌≤◌, ◌<◌, min}
use mathlib.Core.Path.{◌≡◌, refl, sym, ap, ◌∙◌, subst}
use mathlib.Core.Bool.{Bool, true, false, not}
use mathlib.Core.Logic.{⊎_elim}
use mathlib.Core.List.{List, [], ◌∷◌, map}
use native.Mathlib.Omega.{arith}
use borrow.Author.Tests.{ne_eqb, eqb-false}
use lib.Dec.{lit<, leb, eqb}
use lib.ListN.{length, get_or, take, get_or-eq_default}
use lib.Seq.{get_or-take, length-take-le}
use Rattle.std.specs.Prelude.{Some, None}
use Rattle.bcd.specs.Outcome.{Outcome, accepted, pick, after, mapped}
use Rattle.bcd.specs.Answers.{refusal_of}
use Rattle.bcd.specs.declared.error.Refusal.{Refusal}
use Rattle.bcd.specs.Digits.{halves, pack, characters, built_in, digits_in, read_digits, written, write_digits, KnownDigits}
use Rattle.bcd.proofs.Outcomes.{never, mapped_inv, demand_inv, bounded-within, each_inv, le_or_lt}
use Rattle.bcd.proofs.Below.{both}
use Rattle.bcd.proofs.Reading.{digits-most}
use Rattle.bcd.proofs.Rewriting as Rewriting
use Rattle.bcd.proofs.Rewriting.{Known}
use Rattle.bcd.proofs.Writable.{nibbles}
use Rattle.sccp.specs.Sccp.{known}

pub known-digits : (cs : List ℕ) → known cs ≡ true → KnownDigits cs
known-digits [] e = tt
known-digits (c ∷ cs) e = let (n, k) = both (not (eqb c 0x3F)) (known cs) e in (first (eqb c 0x3F) refl n, known-digits cs k)
  where
    first : (b : Bool) → eqb c 0x3F ≡ b → not b ≡ true → c ≡ 0x3F → ⊥
    first true h n = let z : ◌≡◌ {A = ℕ} 0 1 = cc in absurd (omega arith)
    first false h n = eqb-false c 0x3F h

pub digits-known : (cs : List ℕ) → KnownDigits cs → known cs ≡ true
digits-known [] k = refl
digits-known (c ∷ cs) k = rw (ne_eqb c 0x3F k.0) (digits-known cs k.1)

digit-known : (c : ℕ) (hs : List ℕ) → written c (built_in.half c) ≡ accepted hs → c ≡ 0x3F → ⊥
digit-known c hs e q = never (sym (ap (λ (c : ℕ). written c (built_in.half c)) q) ∙ e)

nibbles-known : (cs hs : List ℕ) → nibbles built_in cs ≡ accepted hs → KnownDigits cs
nibbles-known [] hs e = tt
nibbles-known (c ∷ cs) hs e =
    let (us, vs, hu, hv, j) = each_inv (λ c. written c (built_in.half c)) c cs hs e in
    (digit-known c us hu, nibbles-known cs vs hv)

-- What is written has no ? ..
pub written_known : (cs os : List ℕ) → write_digits built_in cs ≡ accepted os → known cs ≡ true
unfolding write_digits
written_known cs os e =
    let (few, packed) = demand_inv (leb (length cs) 255) _ _ _ e in
    let (hs, hn, same) = mapped_inv pack (nibbles built_in cs) packed in
    digits-known cs (nibbles-known cs hs hn)

-- .. and what has none is written, as the half octets that it was read from.
question : (h : ℕ) → 15 ≤ h → built_in.char h ≡ 0x3F
question h l =
    ⊎_elim (λ k. let e : h ≡ 15 = omega arith in ap built_in.char e) (λ k. get_or-eq_default characters 0x3F k) (le_or_lt h 15)

low : (h : ℕ) → (built_in.char h ≡ 0x3F → ⊥) → h < 15
low h n = ⊎_elim (λ l. absurd (n (question h l))) (λ l. l) (le_or_lt 15 h)

lows : (hs : List ℕ) → KnownDigits (map built_in.char hs) → (j : ℕ) → get_or hs j 0 < 15
lows [] k j = lit< tt
lows (h ∷ hs) k zero = low h k.0
lows (h ∷ hs) k (suc j) = lows hs k.1 j

known-halves : (xs : List ℕ) (n : ℕ) → known (digits_in built_in xs n) ≡ true → Known xs n
unfolding digits_in
known-halves xs n k j h =
    let l = lows (take n (halves xs)) (known-digits (digits_in built_in xs n) k) j in
    subst (λ (h : ℕ). h < 15) (get_or-take n (halves xs) j 0 h) l

pub known_written :
    (xs : List ℕ) (n : ℕ)
    → n ≤ 2 * length xs
    → n ≤ 255
    → known (digits_in built_in xs n) ≡ true
    → write_digits built_in (digits_in built_in xs n) ≡ accepted (pack (take n (halves xs)))
known_written xs n l h k = Rewriting.known_written xs n h l (known-halves xs n k)

-- The half octets of a front are those of the whole.
pub halves-front : (n m : ℕ) (xs : List ℕ) → n ≤ 2 * m → take n (halves (take m xs)) ≡ take n (halves xs)
unfolding halves
halves-front zero m xs h = refl
halves-front (suc n) zero xs h = absurd (omega arith)
halves-front (suc n) (suc m) [] h = refl
halves-front (suc zero) (suc m) (x ∷ xs) h = refl
halves-front (suc (suc n)) (suc m) (x ∷ xs) h = ap (λ l. x % 16 ∷ x / 16 ∷ l) (halves-front n m xs (omega arith))

-- Digits that are measured over the octets that they take have no ?, and those that are refused have one.
module _ (xs : List ℕ) (count n k : ℕ) (few : count ≤ 255) (as-many : n ≡ min count (2 * length xs)) (halved : k ≡ (n + 1) / 2) where
  abbrev front : List ℕ
  front = take k xs

  abbrev digits : List ℕ
  digits = digits_in built_in xs count

  pub front-length : length front ≡ (n + 1) / 2
  front-length = length-take-le k xs (omega arith) ∙ halved

  front-digits : digits_in built_in front n ≡ digits
  unfolding digits_in
  front-digits =
      ap (map built_in.char) (halves-front n k xs (omega arith))
      ∙ ap (digits_in built_in xs) as-many
      ∙ digits-most built_in xs count

  measured : after (read_digits built_in front n) (write_digits built_in) ≡ write_digits built_in (digits_in built_in front n)
  unfolding read_digits
  measured =
      ap (λ (o : Outcome (List ℕ)). after o (write_digits built_in))
      (bounded-within front (accepted (digits_in built_in front n)) (omega (arith, front-length)))

  pub front_known :
      (m : ℕ)
      → accepted m ≡ mapped length (after (read_digits built_in front n) (write_digits built_in))
      → known (digits_in built_in front n) ≡ true
  front_known m e =
      let (os, w, l) = mapped_inv length (write_digits built_in (digits_in built_in front n)) (ap (mapped length) (sym measured) ∙ sym e) in
      written_known (digits_in built_in front n) os w

  pub front_read : known (digits_in built_in front n) ≡ true → Some (digits_in built_in front n) ≡ pick (known digits) (Some digits) None
  front_read e = let k : known digits ≡ true = rw front-digits at e in rw k (ap Some front-digits)

  pub front_unknown :
      (r : Refusal)
      → refusal_of r ≡ mapped length (after (read_digits built_in front n) (write_digits built_in))
      → None ≡ pick (known digits) (Some digits) None
  front_unknown r e = go (known digits) refl
    where
      go : (b : Bool) → known digits ≡ b → None ≡ pick b (Some digits) None
      go true h =
          let k : known (digits_in built_in front n) ≡ true = ap known front-digits ∙ h in
          absurd (never {A = ℕ} (e ∙ ap (mapped length) (measured ∙ known_written front n (omega (arith, front-length)) (omega arith) k)))
      go false h = refl
