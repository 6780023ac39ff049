-- Prefixes as numbers: two prefixes have the same number only if they are the same.
use Prim.Native.Nat.{ℕ, ◌+◌, ◌-◌, ◌*◌, ◌^◌, ◌≤◌, ◌<◌}
use mathlib.Core.Path.{◌≡◌, refl, sym, ap, ap₂, ◌∙◌}
use mathlib.Core.Logic.{⊎_elim}
use mathlib.Core.Bool.{Bool, true, false, not, ◌&&◌, ◌||◌, and-false, or-false}
use mathlib.Core.List.{List, [], ◌∷◌, ◌++◌, map}
use native.Mathlib.Omega.{arith}
use native.Mathlib.Numerals.{add-one}
use native.Mathlib.Nat.{pow-suc, pow-le-pow_right}
use lib.Dec.{lit<, eqb}
use lib.ListN.{length, get_or, take, drop, length-map, take-append-drop}
use lib.Seq.{take-suc, take-take}
use borrow.Author.Tests.{eq-eqb, eqb-true}
use Rattle.bcd.specs.Outcome.{among}
use Rattle.bcd.proofs.Outcomes.{le_or_lt}
use Rattle.bcd.proofs.Halves.{Nibbles}
use Rattle.bcd.proofs.Below.{both}
use Rattle.bcd.proofs.Tests.{agree, among-append}
use Rattle.tally.specs.Members.{between, every, same, distinct}
use Rattle.tally.specs.Steps.Codes.{code_from, code, values, codes, unlike}
use Rattle.tally.proofs.Lists.{between_inv}
use Rattle.tally.proofs.Beginning.{same_true, same_self}

-- the number of half octets goes on from that of the first ones
pub code-append : (n : ℕ) (hs ks : List ℕ) → code_from n (hs ++ ks) ≡ code_from (code_from n hs) ks
code-append n [] ks = refl
code-append n (h ∷ hs) ks = code-append (n * 16 + h) hs ks

grows : (n : ℕ) (hs : List ℕ) → n ≤ code_from n hs
grows n [] = omega arith
grows n (h ∷ hs) = omega (arith, grows (n * 16 + h) hs)

-- of two lists the longer has the larger number
longer : (m n : ℕ) (hs ks : List ℕ) → Nibbles hs → m < n * 16 → length hs < length ks → code_from m hs < code_from n ks
longer m n [] [] a l h = absurd (omega arith)
longer m n [] (k ∷ ks) a l h = omega (arith, grows (n * 16 + k) ks)
longer m n (x ∷ hs) [] a l h = absurd (omega arith)
longer m n (x ∷ hs) (k ∷ ks) a l h = longer (m * 16 + x) (n * 16 + k) hs ks a.1 (omega (arith, a.0)) (omega arith)

level : (m n : ℕ) (hs ks : List ℕ) → Nibbles hs → Nibbles ks → length hs ≡ length ks → code_from m hs ≡ code_from n ks → (m ≡ n) × (hs ≡ ks)
level m n [] [] a b h e = (e, refl)
level m n [] (k ∷ ks) a b h e = absurd (omega arith)
level m n (x ∷ hs) [] a b h e = absurd (omega arith)
level m n (x ∷ hs) (k ∷ ks) a b h e =
    let t = level (m * 16 + x) (n * 16 + k) hs ks a.1 b.1 (omega arith) e in
    let head : x ≡ k = omega (arith, a.0, b.0, t.0) in
    (omega (arith, a.0, b.0, t.0), ap₂ ◌∷◌ head t.1)

pub code_inj : (hs ks : List ℕ) → Nibbles hs → Nibbles ks → code hs ≡ code ks → hs ≡ ks
unfolding code
code_inj hs ks a b e =
    ⊎_elim
    (λ l. ⊎_elim
    (λ m. (level 1 1 hs ks a b (omega arith) e).1)
    (λ m. absurd (omega (arith, longer 1 1 hs ks a (lit< tt) m)))
    (le_or_lt (length ks) (length hs)))
    (λ m. absurd (omega (arith, longer 1 1 ks hs b (lit< tt) m)))
    (le_or_lt (length hs) (length ks))

-- decimal characters and their half octets
pub values-nibbles : (p : List ℕ) → every (between 0x30 0x39) p ≡ true → Nibbles (values p)
values-nibbles [] e = tt
values-nibbles (c ∷ p) e =
    let t = both (between 0x30 0x39 c) (every (between 0x30 0x39) p) e in
    (omega (arith, between_inv 0x30 0x39 c t.0), values-nibbles p t.1)

values_inj : (p q : List ℕ) → every (between 0x30 0x39) p ≡ true → every (between 0x30 0x39) q ≡ true → values p ≡ values q → p ≡ q
values_inj [] [] a b e = refl
values_inj [] (d ∷ q) a b e = let z : ◌≡◌ {A = ℕ} 0 1 = cc in absurd (omega arith)
values_inj (c ∷ p) [] a b e = let z : ◌≡◌ {A = ℕ} 0 1 = cc in absurd (omega arith)
values_inj (c ∷ p) (d ∷ q) a b e =
    let s = both (between 0x30 0x39 c) (every (between 0x30 0x39) p) a in
    let t = both (between 0x30 0x39 d) (every (between 0x30 0x39) q) b in
    let h : c - 0x30 ≡ d - 0x30 = cc in
    let r : values p ≡ values q = cc in
    let head : c ≡ d = omega (arith, between_inv 0x30 0x39 c s.0, between_inv 0x30 0x39 d t.0) in
    ap₂ ◌∷◌ head (values_inj p q s.1 t.1 r)

pub prefix_same :
    (p q : List ℕ)
    → every (between 0x30 0x39) p ≡ true
    → every (between 0x30 0x39) q ≡ true
    → eqb (code (values q)) (code (values p)) ≡ same p q
prefix_same p q a b =
    agree (eqb (code (values q)) (code (values p))) (same p q)
    (λ e.
    let s = values_inj p q a b (sym (code_inj (values q) (values p) (values-nibbles q b) (values-nibbles p a) (eqb-true (code (values q)) (code (values p)) e))) in
    ap (same p) (sym s) ∙ same_self p)
    (λ e. eq-eqb (code (values q)) (code (values p)) (ap (λ (l : List ℕ). code (values l)) (sym (same_true p q e))))

-- no two prefixes are the same where no two of their numbers are
pub codes-distinct : (ps : List (List ℕ)) → every (every (between 0x30 0x39)) ps ≡ true → unlike (codes ps) ≡ distinct ps
codes-distinct [] e = refl
codes-distinct (p ∷ ps) e =
    let t = both (every (between 0x30 0x39) p) (every (every (between 0x30 0x39)) ps) e in
    ap₂ ◌&&◌ (none p ps t.0 t.1) (codes-distinct ps t.1)
  where
    not_or : (a b : Bool) → not (a || b) ≡ (not a && not b)
    not_or true b = refl
    not_or false b = refl

    none :
        (p : List ℕ) (qs : List (List ℕ))
        → every (between 0x30 0x39) p ≡ true
        → every (every (between 0x30 0x39)) qs ≡ true
        → not (among (code (values p)) (codes qs)) ≡ every (λ q. not (same p q)) qs
    none p [] a e = refl
    none p (q ∷ qs) a e =
        let t = both (every (between 0x30 0x39) q) (every (every (between 0x30 0x39)) qs) e in
        not_or (eqb (code (values q)) (code (values p))) (among (code (values p)) (codes qs))
        ∙ ap₂ ◌&&◌ (ap not (prefix_same p q a t.0)) (none p qs a t.1)

-- no two of the first i are the same, and the next is not among them
unlike-append : (ns : List ℕ) (n : ℕ) → unlike (ns ++ (n ∷ [])) ≡ (unlike ns && not (among n ns))
unlike-append [] n = refl
unlike-append (m ∷ ns) n =
    rw (among-append m ns (n ∷ []), unlike-append ns n, or-false (eqb n m), turned n m)
    (sides (among m ns) (eqb m n) (unlike ns) (among n ns))
  where
    turned : (m n : ℕ) → eqb m n ≡ eqb n m
    turned m n = agree (eqb m n) (eqb n m) (λ e. eq-eqb n m (sym (eqb-true m n e))) (λ e. eq-eqb m n (sym (eqb-true n m e)))

    sides : (a e u c : Bool) → (not (a || e) && (u && not c)) ≡ (not a && u && not (e || c))
    sides true e u c = refl
    sides false true u c = sym (and-false u)
    sides false false u c = refl

pub unlike_next : (ns : List ℕ) (i : ℕ) → i < length ns → unlike (take (i + 1) ns) ≡ (unlike (take i ns) && not (among (get_or ns i 0) (take i ns)))
unlike_next ns i h = rw (add-one, take-suc ns i 0 h) (unlike-append (take i ns) (get_or ns i 0))

unlike-front : (ms ns : List ℕ) → unlike ms ≡ false → unlike (ms ++ ns) ≡ false
unlike-front [] ns e = let z : ◌≡◌ {A = ℕ} 0 1 = cc in absurd (omega arith)
unlike-front (m ∷ ms) ns e =
    rw (among-append m ms ns) (fronts (among m ms) (among m ns) (unlike ms) (unlike (ms ++ ns)) (unlike-front ms ns) e)
  where
    fronts : (a b u v : Bool) → (u ≡ false → v ≡ false) → (not a && u) ≡ false → (not (a || b) && v) ≡ false
    fronts true b u v f e = refl
    fronts false true u v f e = refl
    fronts false false u v f e = f e

-- a number among those before it
pub unlike_not : (ns : List ℕ) (i n : ℕ) → i < n → n ≤ length ns → among (get_or ns i 0) (take i ns) ≡ true → unlike (take n ns) ≡ false
unlike_not ns i n h k e =
    let front : take (i + 1) (take n ns) ≡ take (i + 1) ns = take-take (i + 1) n ns (omega arith) in
    let f : unlike (take (i + 1) (take n ns)) ≡ false = rw (front, unlike_next ns i (omega arith), e) (and-false (unlike (take i ns))) in
    ap unlike (sym (take-append-drop (i + 1) (take n ns))) ∙ unlike-front (take (i + 1) (take n ns)) (drop (i + 1) (take n ns)) f

-- the number of the first i half octets, which leaves room in 64 bits for one more
abbrev pub Coded : List ℕ → ℕ → ℕ → Type 0
Coded hs i n = (n ≡ code (take i hs)) × (n < 2 * 16 ^ i)

pub coded_none : (hs : List ℕ) → Coded hs 0 1
unfolding code
coded_none hs = (refl, lit< tt)

pub coded_next : (hs : List ℕ) (i n h : ℕ) → i < length hs → h < 16 → h ≡ get_or hs i 0 → Coded hs i n → Coded hs (i + 1) (n * 16 + h)
unfolding code
coded_next hs i n h l k e c = (
  rw (add-one, take-suc hs i 0 l, code-append 1 (take i hs) (get_or hs i 0 ∷ [])) (ap (λ (m : ℕ). m * 16 + h) c.0 ∙ ap (λ (m : ℕ). code_from 1 (take i hs) * 16 + m) e),
  rw (add-one, pow-suc) (omega (arith, c.1)),
)

pub coded_most : (hs : List ℕ) (i n : ℕ) → i ≤ 14 → Coded hs i n → n < 2 * 16 ^ 14
coded_most hs i n h c = omega (arith, c.1, pow-le-pow_right {n = 16} (lit< tt) h)

-- Members of decimal digits, beside their lengths and their numbers.
pub record Kept (ps : List (List ℕ)) (lengths held : List ℕ) : Type 0 where
  pub sizes : lengths ≡ map length ps
  pub numbers : take (length ps) held ≡ codes ps
  pub decimal : every (every (between 0x30 0x39)) ps ≡ true

-- as many lengths as members
pub kept_count : {ps : List (List ℕ)} {lengths held : List ℕ} → Kept ps lengths held → length lengths ≡ length ps
kept_count {ps} k = ap length k.sizes ∙ length-map ps length
