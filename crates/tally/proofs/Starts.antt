-- The numbers of the first half octets, as a loop stores them.
use Prim.Native.Nat.{ℕ, ◌+◌, ◌*◌, ◌^◌, ◌≤◌, ◌<◌}
use mathlib.Core.Path.{◌≡◌, sym, subst, ◌∙◌}
use mathlib.Core.Logic.{⊎_elim}
use mathlib.Core.List.{List}
use native.Mathlib.Omega.{arith}
use lib.ListN.{length, get_or, set, length-set}
use Rattle.std.proofs.lemmas.List.{get_or-set_same, get_or-set_other}
use Rattle.bcd.specs.Digits.{halves}
use Rattle.bcd.proofs.Outcomes.{le_or_lt, octets-of, all_at}
use Rattle.bcd.proofs.Halves.{Nibbles, halves-nibbles, halves-length}
use Rattle.tally.proofs.Codes.{Coded, coded_none, coded_next, coded_most}

pub halves_small : (xs : List ℕ) → ((i : ℕ) → get_or xs i 0 < 256) → Nibbles (halves xs)
halves_small xs h = halves-nibbles xs (octets-of xs h)

pub half_small : (xs : List ℕ) → ((i : ℕ) → get_or xs i 0 < 256) → (i : ℕ) → i < 2 * length xs → get_or (halves xs) i 0 < 16
half_small xs h i l = all_at (λ (h : ℕ). h < 16) (halves xs) i 0 (halves_small xs h) (rw (halves-length xs) l)

-- The numbers of at most i half octets are stored.
pub record Started (hs : List ℕ) (i : ℕ) (first : List ℕ) : Type 0 where
  pub room : length first ≡ 16
  pub all : (k : ℕ) → k ≤ i → Coded hs k (get_or first k 0)

pub started_none : (hs first : List ℕ) → length first ≡ 16 → get_or first 0 0 ≡ 1 → Started hs 0 first
started_none hs first r e = record {
  room = r;
  all = λ k h.
      let z : 0 ≡ k = omega arith in
      subst (λ (k : ℕ). Coded hs k (get_or first k 0)) z (subst (Coded hs 0) (sym e) (coded_none hs));
}

module _ {hs first : List ℕ} {i : ℕ} (s : Started hs i first) where
  pub started_most : i ≤ 14 → get_or first i 0 < 2 * 16 ^ 14
  started_most h = coded_most hs i (get_or first i 0) h (s.all i (omega arith))

  pub started_next : (h : ℕ) → i < 15 → i < length hs → h < 16 → h ≡ get_or hs i 0 → Started hs (i + 1) (set first (i + 1) (get_or first i 0 * 16 + h))
  started_next h l m n e =
      let v = get_or first i 0 * 16 + h in
      let here : get_or (set first (i + 1) v) (i + 1) 0 ≡ v = get_or-set_same first (i + 1) v 0 (omega (arith, s.room)) in
      record {
        room = length-set first (i + 1) v ∙ s.room;
        all = λ k j.
            ⊎_elim
            (λ (o : k ≤ i). subst (Coded hs k) (sym (get_or-set_other first (i + 1) k v 0 (λ z. omega arith))) (s.all k o))
            (λ (o : i < k).
            let z : i + 1 ≡ k = omega arith in
            subst (λ (k : ℕ). Coded hs k (get_or (set first (i + 1) v) k 0)) z (subst (Coded hs (i + 1)) (sym here) (coded_next hs i (get_or first i 0) h m n e (s.all i (omega arith)))))
            (le_or_lt k i);
      }
