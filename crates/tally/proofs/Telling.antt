-- Members that the numbers of the first digits tell: those that the digits begin with.
use Prim.Native.Nat.{ℕ, zero, suc, ◌+◌, ◌-◌, ◌*◌, ◌≤◌, ◌<◌}
use mathlib.Core.Path.{◌≡◌, refl, sym, ap, ap₂, ◌∙◌}
use mathlib.Core.Bool.{true}
use mathlib.Core.List.{List, [], ◌∷◌, map, head-eq_of_cons-eq, tail-eq_of_cons-eq, nil≢cons}
use native.Mathlib.Omega.{arith}
use lib.ListN.{length, get_or, take, length-map}
use lib.Seq.{take-take, length-take-le}
use Rattle.bcd.specs.Digits.{built_in, halves}
use Rattle.bcd.proofs.Outcomes.{all_take}
use Rattle.bcd.proofs.Halves.{Nibbles, halves-length}
use Rattle.bcd.proofs.Characters.{built_in-distinct, char_decimal}
use Rattle.bcd.proofs.Below.{both}
use Rattle.tally.specs.Members.{between, every, begins}
use Rattle.tally.specs.Steps.Codes.{code, values}
use Rattle.tally.proofs.Codes.{code_inj, values-nibbles}
use Rattle.tally.proofs.Starts.{halves_small}
use Rattle.tally.proofs.Lists.{between_inv}
use Rattle.tally.proofs.Beginning.{begins-take, take_begins, begins-length}

pub take-map : {A B : Type 0} (f : A → B) (n : ℕ) (xs : List A) → take n (map f xs) ≡ map f (take n xs)
take-map f zero xs = refl
take-map f (suc n) [] = refl
take-map f (suc n) (x ∷ xs) = ap (λ l. f x ∷ l) (take-map f n xs)

-- Decimal characters and their half octets.
decimal_chars : (p : List ℕ) → every (between 0x30 0x39) p ≡ true → map built_in.char (values p) ≡ p
decimal_chars [] e = refl
decimal_chars (c ∷ cs) e =
    let (l, r) = both (between 0x30 0x39 c) (every (between 0x30 0x39) cs) e in
    let (low, high) = between_inv 0x30 0x39 c l in
    let back : 48 + (c - 0x30) ≡ c = omega arith in
    ap₂ ◌∷◌ (sym (char_decimal (c - 0x30) (omega arith)) ∙ back) (decimal_chars cs r)

chars_inj : (xs ys : List ℕ) → Nibbles xs → Nibbles ys → map built_in.char xs ≡ map built_in.char ys → xs ≡ ys
chars_inj [] [] a b e = refl
chars_inj [] (y ∷ ys) a b e = absurd (nil≢cons e)
chars_inj (x ∷ xs) [] a b e = absurd (nil≢cons (sym e))
chars_inj (x ∷ xs) (y ∷ ys) a b e =
    ap₂ ◌∷◌ (built_in-distinct x y a.0 b.0 (head-eq_of_cons-eq e)) (chars_inj xs ys a.1 b.1 (tail-eq_of_cons-eq e))

module _ (p hs : List ℕ) (d : every (between 0x30 0x39) p ≡ true) (small : Nibbles hs) where
  first_small : Nibbles (take (length p) hs)
  first_small = all_take (λ (h : ℕ). h < 16) (length p) hs small

  code-begins : code (values p) ≡ code (take (length p) hs) → begins p (map built_in.char hs) ≡ true
  code-begins e =
      let v = code_inj (values p) (take (length p) hs) (values-nibbles p d) first_small e in
      take_begins p (map built_in.char hs) (take-map built_in.char (length p) hs ∙ ap (map built_in.char) (sym v) ∙ decimal_chars p d)

  begins-code : begins p (map built_in.char hs) ≡ true → code (values p) ≡ code (take (length p) hs)
  begins-code e =
      ap code
      (chars_inj (values p) (take (length p) hs) (values-nibbles p d) first_small
      (decimal_chars p d ∙ sym (begins-take p (map built_in.char hs) e) ∙ take-map built_in.char (length p) hs))

-- The numbers of at most n first half octets.
pub record Firsts (first : List ℕ) (n : ℕ) (hs : List ℕ) : Type 0 where
  pub small : Nibbles hs
  pub long : length hs ≡ n
  pub numbers : (k : ℕ) → k ≤ n → get_or first k 0 ≡ code (take k hs)

-- They tell whether the digits begin with a prefix.
module _ {first hs : List ℕ} {n : ℕ} (f : Firsts first n hs) (p : List ℕ) (d : every (between 0x30 0x39) p ≡ true) where
  pub told-begins : length p ≤ n → get_or first (length p) 0 ≡ code (values p) → begins p (map built_in.char hs) ≡ true
  told-begins l e = code-begins p hs d f.small (sym e ∙ f.numbers (length p) l)

  pub begins-told : begins p (map built_in.char hs) ≡ true → (length p ≤ n) × (get_or first (length p) 0 ≡ code (values p))
  begins-told e =
      let l : length p ≤ n = omega (arith, begins-length p (map built_in.char hs) e, length-map hs built_in.char, f.long) in
      (l, f.numbers (length p) l ∙ sym (begins-code p hs d f.small e))

-- As a loop has stored them, of the first n half octets of octets.
pub firsts_here :
    {first : List ℕ} (xs : List ℕ) (n : ℕ)
    → ((i : ℕ) → get_or xs i 0 < 256)
    → n ≤ 2 * length xs
    → ((k : ℕ) → k ≤ n → get_or first k 0 ≡ code (take k (halves xs)))
    → Firsts first n (take n (halves xs))
firsts_here xs n octets h numbers = record {
  small = all_take (λ (h : ℕ). h < 16) n (halves xs) (halves_small xs octets);
  long = length-take-le n (halves xs) (rw (halves-length xs) h);
  numbers = λ k l. numbers k l ∙ ap code (sym (take-take k n (halves xs) l));
}
