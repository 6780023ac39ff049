-- Digits that are written: how far a check has come, and what is written in the end.
use Prim.Native.Nat.{ℕ, ◌+◌, ◌/◌, ◌≤◌, ◌<◌}
use mathlib.Core.Path.{◌≡◌, refl, sym, ap, ap₂, ◌∙◌}
use Rattle.std.specs.Prelude.{Option, None, Some, unwrap_or}
use mathlib.Core.List.{List, [], ◌∷◌, ◌++◌, map, map-append}
use native.Mathlib.Omega.{arith}
use native.Mathlib.Numerals.{add-one}
use lib.ListN.{length, get_or, take, length-map}
use lib.Seq.{take-suc, take_all}
use lib.Dec.{leb}
use borrow.Author.Tests.{le-leb, lt-leb}
use Rattle.bcd.specs.Outcome.{Outcome, accepted, refused, mapped, each, All}
use Rattle.bcd.specs.Digits.{Alphabet, Lawful, pack, written, write_digits}
use Rattle.bcd.specs.Steps.{nibble, Packed}
use Rattle.bcd.proofs.Outcomes.{accepted_inj, never, mapped_inv, demand_inv, each_inv, each_more, each_stopped}
use Rattle.bcd.proofs.Halves.{pack-length}

-- the half octets that characters are written as, or the first refusal
abbrev pub nibbles : Alphabet → List ℕ → Outcome (List ℕ)
nibbles A = each (λ c. written c (A.half c))

-- what a character that is written tells of its number
written_inv : (A : Alphabet) → Lawful A → (c : ℕ) (hs : List ℕ) → written c (A.half c) ≡ accepted hs → (nibble A c ≤ 15) × (nibble A c ∷ [] ≡ hs)
written_inv A L c hs e = go (A.half c) refl e
  where
    go : (o : Option ℕ) → A.half c ≡ o → written c o ≡ accepted hs → (unwrap_or o 16 ≤ 15) × (unwrap_or o 16 ∷ [] ≡ hs)
    go None p e = absurd (never e)
    go (Some k) p e = (omega (arith, L.small c k p), accepted_inj e)

module _ (A : Alphabet) (cs : List ℕ) where
  -- 11 before all else
  pub too_many : 255 < length cs → write_digits A cs ≡ refused 11 (length cs ∷ [])
  unfolding write_digits
  too_many h = rw (lt-leb (length cs) 255 h)

  few : length cs ≤ 255 → write_digits A cs ≡ mapped pack (nibbles A cs)
  unfolding write_digits
  few h = rw (le-leb (length cs) 255 h)

  pub some_bad : (n : ℕ) (vs : List ℕ) → length cs ≤ 255 → nibbles A cs ≡ refused n vs → write_digits A cs ≡ refused n vs
  some_bad n vs h e = few h ∙ ap (mapped pack) e

  pub all_good : (hs : List ℕ) → length cs ≤ 255 → nibbles A cs ≡ accepted hs → write_digits A cs ≡ accepted (pack hs)
  all_good hs h e = few h ∙ ap (mapped pack) e

-- the first i characters are written
abbrev pub Checked : Alphabet → List ℕ → ℕ → Type 0
Checked A cs i = nibbles A (take i cs) ≡ accepted (map (nibble A) (take i cs))

module _ (A : Alphabet) (L : Lawful A) (cs : List ℕ) (i : ℕ) (h : i < length cs) (so_far : Checked A cs i) where
  -- one more
  pub checked_more : (v : ℕ) → accepted (v ∷ []) ≡ written (get_or cs i 0) (A.half (get_or cs i 0)) → (v ≤ 15) × (v ≡ nibble A (get_or cs i 0)) × Checked A cs (i + 1)
  checked_more v good =
      let (small, same) = written_inv A L (get_or cs i 0) (v ∷ []) (sym good) in
      let one : nibble A (get_or cs i 0) ≡ v = cc in
      let e : take (i + 1) cs ≡ take i cs ++ (get_or cs i 0 ∷ []) = rw add-one (take-suc cs i 0 h) in (
        omega arith,
        sym one,
        each_more (λ c. written c (A.half c)) cs i 0 _ _ h so_far (sym good ∙ ap accepted (sym same))
            ∙ ap accepted (sym (ap (map (nibble A)) e ∙ map-append (nibble A) (take i cs) (get_or cs i 0 ∷ []))),
      )

  -- the first that is no digit
  pub checked_bad : (n : ℕ) (vs : List ℕ) → length cs ≤ 255 → refused n vs ≡ written (get_or cs i 0) (A.half (get_or cs i 0)) → write_digits A cs ≡ refused n vs
  checked_bad n vs small bad = some_bad A cs n vs small (each_stopped (λ c. written c (A.half c)) cs i 0 _ n vs h so_far (sym bad))

-- all of them
pub checked_all : (A : Alphabet) (cs : List ℕ) (i : ℕ) → Checked A cs i → length cs ≤ i → length cs ≤ 255 → write_digits A cs ≡ accepted (pack (map (nibble A) cs))
checked_all A cs i so_far h small = all_good A cs _ small (rw (take_all i cs h) at so_far)

pub packed-length : (A : Alphabet) (cs : List ℕ) → length (pack (map (nibble A) cs)) ≡ (length cs + 1) / 2
packed-length A cs = rw (pack-length (map (nibble A) cs), length-map cs (nibble A))

-- digits that were packed: a refusal, and octets that stand in front of a buffer
pub packed_bad : {A : Alphabet} {cs d : List ℕ} {n : ℕ} {vs : List ℕ} → write_digits A cs ≡ refused n vs → Packed A cs (refused n vs) d
packed_bad e = record { counted = sym (ap (mapped length) e); octets = sym e }

pub packed_good : {A : Alphabet} {cs os d : List ℕ} (n : ℕ) → write_digits A cs ≡ accepted os → length os ≡ n → take n d ≡ os → Packed A cs (accepted n) d
packed_good n e l t = record { counted = ap accepted (sym l) ∙ sym (ap (mapped length) e); octets = ap accepted t ∙ sym e }

pub packed_count : {A : Alphabet} {cs d : List ℕ} {n : ℕ} → Packed A cs (accepted n) d → length (take n d) ≡ n
packed_count p = accepted_inj (ap (mapped length) p.octets ∙ sym p.counted)

-- what digits that are written tell of themselves
pub record Good (A : Alphabet) (cs : List ℕ) (n : ℕ) : Type 0 where
  pub digits : All (λ (c : ℕ). nibble A c ≤ 15) cs
  pub count : n ≡ (length cs + 1) / 2
  pub octets : write_digits A cs ≡ accepted (pack (map (nibble A) cs))

nibbles_inv : (A : Alphabet) → Lawful A → (cs hs : List ℕ) → nibbles A cs ≡ accepted hs → All (λ (c : ℕ). nibble A c ≤ 15) cs × (map (nibble A) cs ≡ hs)
nibbles_inv A L [] hs e = (tt, accepted_inj e)
nibbles_inv A L (c ∷ cs) hs e =
    let (us, vs, hu, hv, j) = each_inv (λ c. written c (A.half c)) c cs hs e in
    let (good, one) = written_inv A L c us hu in
    let (rest, more) = nibbles_inv A L cs vs hv in
    ((good, rest), ap₂ ◌++◌ one more ∙ j)

pub write_inv : (A : Alphabet) → Lawful A → (cs : List ℕ) (n : ℕ) → accepted n ≡ mapped length (write_digits A cs) → Good A cs n
unfolding write_digits
write_inv A L cs n e =
    let (os, w, k) = mapped_inv length (write_digits A cs) (sym e) in
    let (few, p) = demand_inv (leb (length cs) 255) 11 _ _ w in
    let (hs, h, j) = mapped_inv pack (nibbles A cs) p in
    let (good, same) = nibbles_inv A L cs hs h in
    let octets : pack (map (nibble A) cs) ≡ os = ap pack same ∙ j in
    record { digits = good; count = sym k ∙ ap length (sym octets) ∙ packed-length A cs; octets = w ∙ ap accepted (sym octets) }
