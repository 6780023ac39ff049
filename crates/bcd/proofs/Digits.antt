-- The laws of digits, over any lawful alphabet, and of the built-in characters.
use Prim.Native.Nat.{ℕ, ◌*◌, ◌≤◌, ◌<◌, min}
use mathlib.Core.Path.{◌≡◌, refl, sym, ap, ap₂, ◌∙◌}
use mathlib.Core.Logic.{◌↔◌}
use Rattle.std.specs.Prelude.{Option, None, Some, unwrap_or}
use mathlib.Core.List.{List, [], ◌∷◌, ◌++◌, map}
use native.Mathlib.Omega.{arith}
use lib.ListN.{length, get_or, take, length-map}
use lib.Seq.{take_at, ext_get_or}
use Rattle.bcd.specs.Outcome.{Outcome, accepted, refused, mapped, each, All, Octets}
use Rattle.bcd.specs.Digits.{Alphabet, Lawful, halves, pack, written, fold, built_in, digits_in, write_digits, SameCharacters, KnownDigits}
use Rattle.bcd.specs.Steps.{nibble}
use Rattle.bcd.proofs.Outcomes.{accepted_inj, all_take}
use Rattle.bcd.proofs.Halves.{Nibbles, halves-nibbles, halves-pack, filler}
use Rattle.bcd.proofs.Characters.{built_in_lawful, built_in-written, built_in-distinct, half_fold, char_half, fold-written}
use Rattle.bcd.proofs.Writable.{nibbles, all_good, write_inv}
use Rattle.bcd.proofs.Reading.{digits-length, digits_at}

-- What reading gives never exceeds the count, which is at most 255.
pub read_at_most : (A : Alphabet) (xs : List ℕ) (count : ℕ) → count ≤ 255 → length (digits_in A xs count) ≤ 255
read_at_most A xs count h = omega (arith, digits-length A xs count)

-- f of a character is what its half octet, if it has one, reads as
abbrev pub Reads : Alphabet → (ℕ → ℕ) → ℕ → Type 0
Reads A f c = (h : ℕ) → A.half c ≡ Some h → A.char h ≡ f c

module _ (A : Alphabet) (L : Lawful A) where
  half_nibble : (c : ℕ) → nibble A c ≤ 15 → A.half c ≡ Some (nibble A c)
  half_nibble c h = go (A.half c) h
    where
      go : (o : Option ℕ) → unwrap_or o 16 ≤ 15 → o ≡ Some (unwrap_or o 16)
      go None h = absurd (omega arith)
      go (Some k) h = refl

  nibbles_small : (cs : List ℕ) → All (λ (c : ℕ). nibble A c ≤ 15) cs → Nibbles (map (nibble A) cs)
  nibbles_small [] h = tt
  nibbles_small (c ∷ cs) h = (omega (arith, h.0), nibbles_small cs h.1)

  chars_nibbles : (f : ℕ → ℕ) (cs : List ℕ) → All (Reads A f) cs → All (λ (c : ℕ). nibble A c ≤ 15) cs → map A.char (map (nibble A) cs) ≡ map f cs
  chars_nibbles f [] r h = refl
  chars_nibbles f (c ∷ cs) r h = ap₂ ◌∷◌ (r.0 (nibble A c) (half_nibble c h.0)) (chars_nibbles f cs r.1 h.1)

  -- Digits that are written read back as their half octets do.
  pub written_read : (f : ℕ → ℕ) (cs os : List ℕ) → All (Reads A f) cs → write_digits A cs ≡ accepted os → digits_in A os (length cs) ≡ map f cs
  unfolding digits_in
  written_read f cs os r e =
      let g = write_inv A L cs (length os) (sym (ap (mapped length) e)) in
      let hs = map (nibble A) cs in
      let octets : os ≡ pack hs = accepted_inj (sym e ∙ g.octets) in
      let unpacked : halves os ≡ hs ++ filler hs = ap halves octets ∙ halves-pack hs (nibbles_small cs g.digits) in
      ap (map A.char) (ap (take (length cs)) unpacked ∙ take_at hs (filler hs) (length cs) (length-map cs (nibble A)))
      ∙ chars_nibbles f cs r g.digits

  chars_read : (hs : List ℕ) → Nibbles hs → All (Reads A (λ c. c)) (map A.char hs)
  chars_read [] n = tt
  chars_read (h ∷ hs) n = ((λ k e. ap A.char (L.back h k n.0 e)), chars_read hs n.1)

  map_id : (xs : List ℕ) → map (λ x. x) xs ≡ xs
  map_id [] = refl
  map_id (x ∷ xs) = ap (λ l. x ∷ l) (map_id xs)

  -- Digits that were read, from any octets and with any count, and that can be written, are read back the same.
  pub read-written-read :
      (xs : List ℕ) (count : ℕ) (os : List ℕ)
      → Octets xs
      → write_digits A (digits_in A xs count) ≡ accepted os
      → digits_in A os (length (digits_in A xs count)) ≡ digits_in A xs count
  unfolding digits_in
  read-written-read xs count os o e =
      let hs = take count (halves xs) in
      written_read (λ c. c) (map A.char hs) os (chars_read hs (all_take (λ (h : ℕ). h < 16) count (halves xs) (halves-nibbles xs o))) e
      ∙ map_id (map A.char hs)

module _ (A : Alphabet) where
  -- Two octet strings give the same digits exactly when their half octets read as the same characters.
  pub same_digits : (xs ys : List ℕ) (count : ℕ) → (digits_in A xs count ≡ digits_in A ys count) ↔ SameCharacters A xs ys count
  same_digits xs ys count = (to, from)
    where
      lx : length (digits_in A xs count) ≡ min count (2 * length xs)
      lx = digits-length A xs count

      ly : length (digits_in A ys count) ≡ min count (2 * length ys)
      ly = digits-length A ys count

      to : digits_in A xs count ≡ digits_in A ys count → SameCharacters A xs ys count
      to e =
          let l : min count (2 * length xs) ≡ min count (2 * length ys) = sym lx ∙ ap length e ∙ ly in
          (l, λ i h. sym (digits_at A xs count i h) ∙ ap (λ (ds : List ℕ). get_or ds i 0) e ∙ digits_at A ys count i (omega arith))

      from : SameCharacters A xs ys count → digits_in A xs count ≡ digits_in A ys count
      from s =
          ext_get_or 0 (digits_in A xs count) (digits_in A ys count) (lx ∙ s.0 ∙ sym ly)
          (λ i h.
          let k : i < min count (2 * length xs) = rw (← lx) h in
          digits_at A xs count i k ∙ s.1 i k ∙ sym (digits_at A ys count i (rw (← s.0) k)))

-- Half octets whose characters are written as those half octets.
abbrev pub Back : Alphabet → ℕ → Type 0
Back A h = A.half (A.char h) ≡ Some h

pub nibbles_back : (A : Alphabet) (hs : List ℕ) → All (Back A) hs → nibbles A (map A.char hs) ≡ accepted hs
nibbles_back A [] b = refl
nibbles_back A (h ∷ hs) b = rw (b.0, nibbles_back A hs b.1)

-- Digits that were read and have no ? are written: as the half octets that were read.
pub read-written :
    (xs : List ℕ) (count : ℕ)
    → Octets xs
    → count ≤ 255
    → KnownDigits (digits_in built_in xs count)
    → write_digits built_in (digits_in built_in xs count) ≡ accepted (pack (take count (halves xs)))
unfolding digits_in
read-written xs count o h q =
    all_good built_in (digits_in built_in xs count) (take count (halves xs)) (read_at_most built_in xs count h)
    (nibbles_back built_in (take count (halves xs)) (back (take count (halves xs)) (all_take (λ (h : ℕ). h < 16) count (halves xs) (halves-nibbles xs o)) q))
  where
    back : (hs : List ℕ) → Nibbles hs → KnownDigits (map built_in.char hs) → All (Back built_in) hs
    back [] n q = tt
    back (h ∷ hs) n q = (built_in-written h n.0 q.0, back hs n.1 q.1)

-- The characters being all different, octet strings give the same digits exactly when their first half octets are the same.
pub same-halves :
    (xs ys : List ℕ) (count : ℕ)
    → Octets xs
    → Octets ys
    → (digits_in built_in xs count ≡ digits_in built_in ys count) ↔ (take count (halves xs) ≡ take count (halves ys))
unfolding digits_in
same-halves xs ys count o p =
    (same (take count (halves xs)) (take count (halves ys)) (small xs o) (small ys p), ap (map built_in.char))
  where
    small : (zs : List ℕ) → Octets zs → Nibbles (take count (halves zs))
    small zs o = all_take (λ (h : ℕ). h < 16) count (halves zs) (halves-nibbles zs o)

    same : (hs ks : List ℕ) → Nibbles hs → Nibbles ks → map built_in.char hs ≡ map built_in.char ks → hs ≡ ks
    same [] [] n m e = refl
    same [] (k ∷ ks) n m e = let z : ◌≡◌ {A = ℕ} 0 1 = cc in absurd (omega arith)
    same (h ∷ hs) [] n m e = let z : ◌≡◌ {A = ℕ} 0 1 = cc in absurd (omega arith)
    same (h ∷ hs) (k ∷ ks) n m e =
        let first : built_in.char h ≡ built_in.char k = cc in
        let rest : map built_in.char hs ≡ map built_in.char ks = cc in
        ap₂ ◌∷◌ (built_in-distinct h k n.0 m.0 first) (same hs ks n.1 m.1 rest)

each_map : {A B C : Type 0} (f : B → Outcome (List C)) (g : A → Outcome (List C)) (h : A → B) → ((a : A) → f (h a) ≡ g a) → (xs : List A) → each f (map h xs) ≡ each g xs
each_map f g h e [] = refl
each_map f g h e (x ∷ xs) = rw (e x, each_map f g h e xs)

-- Capitals change nothing but the characters: they are written as the small letters are, refusals included ..
pub fold_writes : (cs : List ℕ) → write_digits built_in (map fold cs) ≡ write_digits built_in cs
unfolding write_digits
fold_writes cs = rw (length-map cs fold, each_map (λ c. written c (built_in.half c)) (λ c. written c (built_in.half c)) fold one cs)
  where
    go : (c : ℕ) (o : Option ℕ) → built_in.half c ≡ o → written (fold c) o ≡ written c o
    go c None e = ap (λ (k : ℕ). refused 9 (k ∷ [])) (fold-written c e)
    go c (Some h) e = refl

    one : (c : ℕ) → written (fold c) (built_in.half (fold c)) ≡ written c (built_in.half c)
    one c = ap (written (fold c)) (half_fold c) ∙ go c (built_in.half c) refl

-- .. and are read back as the small letters.
pub fold_reads : (cs os : List ℕ) → write_digits built_in cs ≡ accepted os → digits_in built_in os (length cs) ≡ map fold cs
fold_reads cs os e = written_read built_in built_in_lawful fold cs os (every cs) e
  where
    every : (cs : List ℕ) → All (Reads built_in fold) cs
    every [] = tt
    every (c ∷ cs) = (char_half c, every cs)
