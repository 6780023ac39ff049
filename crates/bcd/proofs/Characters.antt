-- Characters in a list by their places, and the built-in characters, by tests that are computed over all of them.
use Prim.Native.Nat.{ℕ, suc, ◌+◌, ◌-◌, ◌≤◌, ◌<◌}
use mathlib.Core.Path.{◌≡◌, refl, sym, ap, ◌∙◌}
use mathlib.Core.Bool.{Bool, true, false, ◌&&◌, ◌||◌}
use mathlib.Core.Logic.{◌⊎◌, ⊎_elim}
use Rattle.std.specs.Prelude.{Option, None, Some, option_map, unwrap_or}
use mathlib.Core.List.{List, [], ◌∷◌}
use native.Mathlib.Omega.{arith}
use lib.ListN.{length, get_or, take, get_or-eq_default}
use lib.Seq.{get_or-take}
use lib.Dec.{leb, eqb}
use borrow.Author.Tests.{le-leb, lt-leb, leb-true, eqb-true}
use Rattle.bcd.specs.Outcome.{pick}
use Rattle.bcd.specs.Digits.{Lawful, characters, fold, place, built_in}
use Rattle.bcd.specs.Steps.{nibble}
use Rattle.bcd.proofs.Outcomes.{le_or_lt}
use Rattle.bcd.proofs.Below.{all_below, both, below_at}

-- a place is below the list's length, and the character stands there
pub place_at : (c : ℕ) (xs : List ℕ) (h d : ℕ) → place c xs ≡ Some h → (h < length xs) × (get_or xs h d ≡ c)
place_at c [] h d e = let z : ◌≡◌ {A = ℕ} 0 1 = cc in absurd (omega arith)
place_at c (x ∷ xs) h d e = first (λ k p. place_at c xs k d p) (eqb c x) refl e
  where
    Behind : Type 0
    Behind = (k : ℕ) → place c xs ≡ Some k → (k < length xs) × (get_or xs k d ≡ c)

    later : Behind → (o : Option ℕ) → place c xs ≡ o → option_map suc o ≡ Some h → (h < length (x ∷ xs)) × (get_or (x ∷ xs) h d ≡ c)
    later b None p q = let z : ◌≡◌ {A = ℕ} 0 1 = cc in absurd (omega arith)
    later b (Some k) p q =
        let s : suc k ≡ h = cc in
        let (small, there) = b k p in
        rw (← s) (omega arith, there)

    first : Behind → (t : Bool) → eqb c x ≡ t → pick t (Some 0) (option_map suc (place c xs)) ≡ Some h → (h < length (x ∷ xs)) × (get_or (x ∷ xs) h d ≡ c)
    first b true t q = let z : 0 ≡ h = cc in rw (← z) (omega arith, sym (eqb-true c x t))
    first b false t q = later b (place c xs) refl q

-- a half octet from its number, or 16 for none
given_some : (o : Option ℕ) (h : ℕ) → unwrap_or o 16 ≡ h → h < 16 → o ≡ Some h
given_some None h e l = absurd (omega arith)
given_some (Some k) h e l = ap Some e

-- the second of two tests, where the first does not hold
otherwise : (a b : Bool) → a || b ≡ true → (a ≡ true → ⊥) → b ≡ true
otherwise true b e h = absurd (h refl)
otherwise false b e h = e

-- a number that a key is tested for is that key
key : (c k : ℕ) (b : Bool) → eqb c k || b ≡ true → (c ≡ k → ⊥) → b ≡ true
key c k b e h = otherwise (eqb c k) b e (λ t. h (eqb-true c k t))

-- characters that stand one after the other, as their half octets do from h on
pub nibble_run :
    (first h n : ℕ)
    → all_below n (λ i. eqb (i + h) (nibble built_in (i + first))) ≡ true
    → (c : ℕ)
    → first ≤ c
    → c < first + n
    → c - first + h ≡ nibble built_in c
nibble_run first h n all c low high =
    let e : c - first + first ≡ c = omega arith in
    eqb-true _ _ (below_at n (λ i. eqb (i + h) (nibble built_in (i + first))) all (c - first) (omega arith)) ∙ ap (nibble built_in) e

-- a number that is not in a range
beside : (a b c : ℕ) → (c < a) ⊎ (b < c) → leb a c && leb c b ≡ true → ⊥
beside a b c out e =
    let (l, h) = both (leb a c) (leb c b) e in
    let low = leb-true a c l in
    let high = leb-true c b h in
    ⊎_elim (λ below. omega arith) (λ above. omega arith) out

-- the built-in characters are a lawful alphabet
pub built_in_lawful : Lawful built_in
built_in_lawful = record { small = small; back = back }
  where
    small : (c h : ℕ) → built_in.half c ≡ Some h → h < 16
    small c h e = let (l, there) = place_at (fold c) (take 15 characters) h 0 e in omega arith

    back : (h k : ℕ) → h < 16 → built_in.half (built_in.char h) ≡ Some k → k ≡ h
    back h k l e =
        let test : ℕ → Bool = λ i. eqb 16 (nibble built_in (built_in.char i)) || eqb (nibble built_in (built_in.char i)) i in
        let n : nibble built_in (built_in.char h) ≡ k = ap (λ o. unwrap_or o 16) e in
        let s = small (built_in.char h) k e in
        let unwritten : 16 ≡ nibble built_in (built_in.char h) → ⊥ = λ z. omega arith in
        sym n ∙ eqb-true _ _ (otherwise _ _ (below_at 16 test refl h l) (λ t. unwritten (eqb-true 16 _ t)))

-- each of them but ? is written
pub built_in-written : (h : ℕ) → h < 16 → (built_in.char h ≡ 0x3F → ⊥) → built_in.half (built_in.char h) ≡ Some h
built_in-written h l q =
    let test : ℕ → Bool = λ i. eqb (built_in.char i) 0x3F || eqb (nibble built_in (built_in.char i)) i in
    given_some _ h (eqb-true _ _ (otherwise _ _ (below_at 16 test refl h l) (λ t. q (eqb-true _ _ t)))) l

-- and they are all different
pub built_in-distinct : (h k : ℕ) → h < 16 → k < 16 → built_in.char h ≡ built_in.char k → h ≡ k
built_in-distinct h k lh lk e =
    let number : ℕ → ℕ = λ c. unwrap_or (place c characters) 16 in
    let test : ℕ → Bool = λ i. eqb (number (built_in.char i)) i in
    sym (eqb-true _ _ (below_at 16 test refl h lh)) ∙ ap number e ∙ eqb-true _ _ (below_at 16 test refl k lk)

-- the digits 0 to 9, and ? for every number past the letters
pub char_decimal : (h : ℕ) → h ≤ 9 → 48 + h ≡ built_in.char h
char_decimal h l = eqb-true _ _ (below_at 10 (λ i. eqb (48 + i) (built_in.char i)) refl h (omega arith))

pub char_other : (h : ℕ) → 15 ≤ h → 63 ≡ built_in.char h
char_other h l =
    ⊎_elim
    (λ large. sym (get_or-eq_default characters 0x3F large))
    (λ small. let e : 15 ≡ h = omega arith in ap built_in.char e)
    (le_or_lt 16 h)

-- folding is done once
fold_small : (c : ℕ) → c < 0x41 → fold c ≡ c
fold_small c h = rw (lt-leb 0x41 c h)

fold_large : (c : ℕ) → 0x43 < c → fold c ≡ c
fold_large c h = let e : 0x41 ≤ c = omega arith in rw (le-leb 0x41 c e, lt-leb c 0x43 h)

fold_capital : (c : ℕ) → 0x41 ≤ c → c ≤ 0x43 → fold c ≡ c + 32
fold_capital c h k = rw (le-leb 0x41 c h, le-leb c 0x43 k)

pub fold-fold : (c : ℕ) → fold (fold c) ≡ fold c
fold-fold c =
    ⊎_elim
    (λ low. ⊎_elim
    (λ high. let e = fold_capital c low high in ap fold e ∙ fold_large (c + 32) (omega arith) ∙ sym e)
    (λ high. let e = fold_large c high in ap fold e)
    (le_or_lt c 0x43))
    (λ low. let e = fold_small c low in ap fold e)
    (le_or_lt 0x41 c)

-- a capital is written as its small letter is
pub half_fold : (c : ℕ) → built_in.half (fold c) ≡ built_in.half c
half_fold c = ap (λ k. place k (take 15 characters)) (fold-fold c)

-- what is written reads as it was, but for folding
pub char_half : (c h : ℕ) → built_in.half c ≡ Some h → built_in.char h ≡ fold c
char_half c h e =
    let (l, there) = place_at (fold c) (take 15 characters) h 0x3F e in
    sym (get_or-take 15 characters h 0x3F (omega arith)) ∙ there

-- a character that is folded is written
pub fold-written : (c : ℕ) → built_in.half c ≡ None → fold c ≡ c
fold-written c e =
    ⊎_elim
    (λ low. ⊎_elim
    (λ high. let z : 16 ≡ nibble built_in c = sym (ap (λ o. unwrap_or o 16) e) in absurd (written (c - 0x41) (omega arith) (let s : c - 0x41 + 0x41 ≡ c = omega arith in rw s z)))
    (λ high. fold_large c high)
    (le_or_lt c 0x43))
    (λ low. fold_small c low)
    (le_or_lt 0x41 c)
  where
    written : (i : ℕ) → i < 3 → 16 ≡ nibble built_in (i + 0x41) → ⊥
    written i h z =
        let t : leb (nibble built_in (i + 0x41)) 15 ≡ true = below_at 3 (λ j. leb (nibble built_in (j + 0x41)) 15) refl i h in
        let l = leb-true (nibble built_in (i + 0x41)) 15 t in
        omega arith
