-- The laws of decimal digits and of words.
use Prim.Native.Nat.{ℕ, zero, suc, ◌+◌, ◌-◌, ◌*◌, ◌/◌, ◌%◌, ◌^◌, ◌≤◌, ◌<◌}
use mathlib.Core.Path.{◌≡◌, refl, sym, ap, ◌∙◌}
use mathlib.Core.Bool.{Bool, true, false, ◌&&◌}
use mathlib.Core.Logic.{⊎_elim}
use mathlib.Core.List.{List, [], ◌∷◌, ◌++◌, append_assoc, append-nil}
use native.Mathlib.Omega.{arith}
use native.Mathlib.Numerals.{add-one}
use lib.ListN.{length, get_or, take, length-append}
use lib.Seq.{take-suc, length-take-le}
use lib.Dec.{ltb, eqb}
use borrow.Author.Tests.{lt-ltb, le-ltb, eq-eqb, ne_eqb}
use Rattle.std.specs.Fmt as Fmt
use Rattle.std.proofs.lemmas.Fmt.{decimal_by_steps}
use Rattle.bcd.specs.Outcome.{pick}
use Rattle.bcd.proofs.Outcomes.{le_or_lt}
use Rattle.flat.specs.Line.{digit, decimal_in, decimal, hex, space, words_from, words}

-- more steps than suffice change nothing
enough : (k j n : ℕ) → n ≤ k → n ≤ j → decimal_in k n ≡ decimal_in j n
unfolding decimal_in
enough zero zero n h l = refl
enough zero (suc j) n h l = rw (lt-ltb n 10 (omega arith))
enough (suc k) zero n h l = rw (lt-ltb n 10 (omega arith))
enough (suc k) (suc j) n h l =
    ⊎_elim (λ (m : 10 ≤ n). rw (le-ltb n 10 m, enough k j (n / 10) (omega arith) (omega arith))) (λ (m : n < 10). rw (lt-ltb n 10 m)) (le_or_lt 10 n)

pub decimal_one : (n : ℕ) → n < 10 → decimal n ≡ digit n ∷ []
unfolding decimal decimal_in
decimal_one n h = enough n (suc n) n (omega arith) (omega arith) ∙ rw (lt-ltb n 10 h)

pub decimal_more : (n : ℕ) → 10 ≤ n → decimal n ≡ decimal (n / 10) ++ (digit (n % 10) ∷ [])
unfolding decimal decimal_in
decimal_more n h =
    enough n (suc n) n (omega arith) (omega arith)
    ∙ rw (le-ltb n 10 h) (ap (λ (l : List ℕ). l ++ (digit (n % 10) ∷ [])) (enough n (n / 10) (n / 10) (omega arith) (omega arith)))

pub decimal_longer : (n : ℕ) → 10 ≤ n → length (decimal n) ≡ length (decimal (n / 10)) + 1
decimal_longer n h = rw (decimal_more n h, length-append)

-- it is what std's `{}` writes
pub decimal_printed : (n : ℕ) → n < 2 ^ 64 → Fmt.decimal n ≡ decimal n
decimal_printed =
    decimal_by_steps (λ m ds. ds ≡ decimal m)
    (λ m l. sym (decimal_one m l ∙ digit_plain m l))
    (λ m ds h e. ap (λ (l : List ℕ). l ++ ((48 + m % 10) ∷ [])) e ∙ sym (decimal_more m h ∙ ap (λ (l : List ℕ). decimal (m / 10) ++ l) (digit_plain (m % 10) (omega arith))))
  where
    digit_plain : (d : ℕ) → d < 10 → digit d ∷ [] ≡ (48 + d) ∷ []
    digit_plain d h = rw (lt-ltb d 10 h)

-- how many digits there are at most, below a power of ten and for any number
pub decimal-digits : (k n : ℕ) → length (decimal (n / 10)) ≤ k → length (decimal n) ≤ k + 1
decimal-digits k n h =
    ⊎_elim (λ (m : 10 ≤ n). omega (arith, decimal_longer n m)) (λ (m : n < 10). omega (arith, ap length (decimal_one n m))) (le_or_lt 10 n)

shorter : (k n : ℕ) → n ≤ k → length (decimal n) ≤ 1 + n / 10
shorter zero n h = omega (arith, ap length (decimal_one n (omega arith)))
shorter (suc k) n h =
    ⊎_elim (λ (m : 10 ≤ n). omega (arith, decimal_longer n m, shorter k (n / 10) (omega arith)))
    (λ (m : n < 10). omega (arith, ap length (decimal_one n m)))
    (le_or_lt 10 n)

pub decimal-short : (n : ℕ) → length (decimal n) ≤ 1 + n / 10
decimal-short n = shorter n n (omega arith)

-- the space before an octet
pub space_inside : (i : ℕ) → (i % 4 ≡ 0 → ⊥) → space i ≡ []
space_inside i h = told (ltb 0 i)
  where
    told : (t : Bool) → ◌≡◌ {A = List ℕ} (pick (t && eqb (i % 4) 0) (0x20 ∷ []) []) []
    told true = rw (ne_eqb (i % 4) 0 h)
    told false = refl

pub space-between : (i : ℕ) → 0 < i → i % 4 ≡ 0 → space i ≡ 0x20 ∷ []
space-between i h e = rw (lt-ltb 0 i h, eq-eqb (i % 4) 0 e)

-- of the octets up to a place, each fourth has one
pub space-length : (i : ℕ) → length (space (suc i)) + i / 4 ≡ suc i / 4
space-length i =
    ⊎_elim (λ (m : 1 ≤ suc i % 4). omega (arith, ap length (space_inside (suc i) (λ e. omega arith))))
    (λ (m : suc i % 4 < 1). omega (arith, ap length (space-between (suc i) (omega arith) (omega arith))))
    (le_or_lt 1 (suc i % 4))

-- one octet more
words_from_more : (i : ℕ) (xs : List ℕ) (x : ℕ) → words_from i (xs ++ (x ∷ [])) ≡ words_from i xs ++ (space (i + length xs) ++ hex x)
unfolding words_from
words_from_more i [] x = let e : i + 0 ≡ i = omega arith in rw (e, append-nil)
words_from_more i (y ∷ xs) x =
    let e : suc i + length xs ≡ i + suc (length xs) = omega arith in
    ap (λ (l : List ℕ). space i ++ hex y ++ l) (words_from_more (suc i) xs x ∙ ap (λ (n : ℕ). words_from (suc i) xs ++ (space n ++ hex x)) e)
    ∙ sym (append_assoc (space i ++ hex y) (words_from (suc i) xs) (space (i + suc (length xs)) ++ hex x))

-- how long they are
words_from_length : (i : ℕ) (xs : List ℕ) → length (words_from (suc i) xs) + i / 4 ≡ 2 * length xs + (i + length xs) / 4
unfolding words_from
words_from_length i [] = omega arith
words_from_length i (x ∷ xs) =
    let e : length (space (suc i) ++ hex x ++ words_from (suc (suc i)) xs) ≡ length (space (suc i)) + 2 + length (words_from (suc (suc i)) xs) =
    rw (length-append, length-append) in
    omega (arith, e, space-length i, words_from_length (suc i) xs)

pub words-length : (xs : List ℕ) → length (words xs) ≡ 2 * length xs + (length xs - 1) / 4
unfolding words_from
words-length [] = refl
words-length (x ∷ xs) = let e : length (hex x ++ words_from 1 xs) ≡ 2 + length (words_from 1 xs) = rw length-append in omega (arith, e, words_from_length 0 xs)

-- a form's octets gone through from the front
pub words_more : (xs : List ℕ) (i : ℕ) → i < length xs → words (take (i + 1) xs) ≡ words (take i xs) ++ space i ++ hex (get_or xs i 0)
words_more xs i h =
    let t : take (i + 1) xs ≡ take i xs ++ (get_or xs i 0 ∷ []) = rw add-one (take-suc xs i 0 h) in
    let n : 0 + length (take i xs) ≡ i = omega (arith, length-take-le i xs (omega arith)) in
    ap words t ∙ words_from_more 0 (take i xs) (get_or xs i 0)
    ∙ ap (λ (k : ℕ). words (take i xs) ++ (space k ++ hex (get_or xs i 0))) n
    ∙ sym (append_assoc (words (take i xs)) (space i) (hex (get_or xs i 0)))
