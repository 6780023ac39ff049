-- A member list that is lent, cut into its members one after the other.
use Prim.Native.Nat.{ℕ, zero, suc, ◌+◌, ◌≤◌, ◌<◌}
use mathlib.Core.Path.{◌≡◌, refl, sym, ap, ap₂, ◌∙◌}
use mathlib.Core.Bool.{Bool, true, false, ◌&&◌, and-false}
use mathlib.Core.List.{List, [], ◌∷◌, ◌++◌, map, append_assoc, append-nil}
use native.Mathlib.Omega.{arith}
use lib.Dec.{eqb}
use lib.ListN.{length, get_or, set, take, drop, length-drop, length-set, drop_of_length-le}
use lib.Seq.{length-take-le, drop-drop}
use borrow.Author.Tests.{eqb-true}
use Rattle.std.specs.List.{sum}
use Rattle.std.proofs.lemmas.List.{take_more_set, drop_more}
use Rattle.bcd.proofs.Below.{both}
use Rattle.tally.specs.Members.{between, every, members, distinct, valid_lengths, valid_members}
use Rattle.tally.specs.Steps.Codes.{code, values, codes, unlike, Numbered}
use Rattle.tally.proofs.Lists.{between_inv, every_take, every_drop, sum_cons}
use Rattle.tally.proofs.Codes.{Kept, codes-distinct}

pub members-length : (ds ns : List ℕ) → length (members ds ns) ≡ length ns
unfolding members
members-length ds [] = refl
members-length ds (n ∷ ns) = ap suc (members-length (drop n ds) ns)

-- each begins where those before it end
pub codes_at :
    (ds ns : List ℕ) (i : ℕ)
    → i < length ns
    → get_or (codes (members ds ns)) i 0 ≡ code (values (take (get_or ns i 0) (drop (sum (take i ns)) ds)))
unfolding members
codes_at ds [] i h = absurd (omega arith)
codes_at ds (n ∷ ns) zero h = refl
codes_at ds (n ∷ ns) (suc i) h =
    let at : n + sum (take i ns) ≡ sum (n ∷ take i ns) = omega (arith, sum_cons n (take i ns)) in
    codes_at (drop n ds) ns i (omega arith)
    ∙ ap (λ (l : List ℕ). code (values (take (get_or ns i 0) l))) (drop-drop (sum (take i ns)) n ds)
    ∙ ap (λ (m : ℕ). code (values (take (get_or ns i 0) (drop m ds)))) at

members_sizes : (ds ns : List ℕ) → sum ns ≤ length ds → ns ≡ map length (members ds ns)
unfolding members
members_sizes ds [] h = refl
members_sizes ds (n ∷ ns) h =
    ap₂ ◌∷◌ (sym (length-take-le n ds (omega (arith, sum_cons n ns)))) (members_sizes (drop n ds) ns (rw length-drop (omega (arith, sum_cons n ns))))

pub members-every : (test : ℕ → Bool) (ds ns : List ℕ) → every test ds ≡ true → every (every test) (members ds ns) ≡ true
unfolding members
members-every test ds [] e = refl
members-every test ds (n ∷ ns) e =
    rw (every_take test n ds e) (members-every test (drop n ds) ns (every_drop test n ds e))

-- what the lengths' rule says
pub record Lengths (n : ℕ) (ns : List ℕ) : Type 0 where
  pub some : 1 ≤ length ns
  pub few : length ns ≤ 64
  pub short : every (between 1 15) ns ≡ true
  pub all : sum ns ≡ n

pub lengths_inv : (n : ℕ) (ns : List ℕ) → valid_lengths n ns ≡ true → Lengths n ns
lengths_inv n ns e =
    let t = both (between 1 64 (length ns)) (every (between 1 15) ns && eqb (sum ns) n) e in
    let b = between_inv 1 64 (length ns) t.0 in
    let s = both (every (between 1 15) ns) (eqb (sum ns) n) t.1 in
    record { some = b.0; few = b.1; short = s.0; all = eqb-true (sum ns) n s.1 }

pub lengths_few : (n : ℕ) (ns : List ℕ) → valid_lengths n ns ≡ true → length ns ≤ 64
lengths_few n ns e = (lengths_inv n ns e).few

-- the numbers of the first i members are stored, and what is left of the characters and lengths gives the others
pub record Stored (ds ns : List ℕ) (i : ℕ) (rest held : List ℕ) : Type 0 where
  pub told : take i held ++ codes (members rest (drop i ns)) ≡ codes (members ds ns)
  pub fits : sum (drop i ns) ≡ length rest
  pub decimal : every (between 0x30 0x39) rest ≡ true
  pub room : length held ≡ 64

module _ {ds ns rest held : List ℕ} {i : ℕ} (s : Stored ds ns i rest held) where
  pub stored_next :
      (n : ℕ)
      → i < length ns
      → length ns ≤ 64
      → n ≡ code (values (take (get_or ns i 0) rest))
      → Stored ds ns (i + 1) (drop (get_or ns i 0) rest) (set held i n)
  unfolding members
  stored_next n h k e =
      let left = drop_more ns i 0 h in
      record {
        told = rw (take_more_set held i n (omega (arith, s.room)), append_assoc, e) (ap (λ ms. take i held ++ codes (members rest ms)) (sym left) ∙ s.told);
        fits = rw length-drop (omega (arith, s.fits, ap sum left, sum_cons (get_or ns i 0) (drop (i + 1) ns)));
        decimal = every_drop (between 0x30 0x39) (get_or ns i 0) rest s.decimal;
        room = length-set held i n ∙ s.room;
      }

  pub stored_all : length ns ≤ i → i ≤ length ns → take (length ns) held ≡ codes (members ds ns)
  unfolding members
  stored_all h k =
      let e : length ns ≡ i = omega arith in
      let none : drop i ns ≡ [] = drop_of_length-le ns h in
      rw e (sym (append-nil (take i held)) ∙ ap (λ ms. take i held ++ codes (members rest ms)) (sym none) ∙ s.told)

-- whether a list keeps the rules: by the lengths, the characters, and the numbers stored
pub load_lengths : (ds ns : List ℕ) → valid_lengths (length ds) ns ≡ false → false ≡ valid_members ds ns
unfolding valid_members
load_lengths ds ns e = rw e

pub load_digits : (ds ns : List ℕ) → every (between 0x30 0x39) ds ≡ false → false ≡ valid_members ds ns
unfolding valid_members
load_digits ds ns e = rw e (sym (and-false (valid_lengths (length ds) ns)))

pub load_distinct :
    (ds ns : List ℕ)
    → valid_lengths (length ds) ns ≡ true
    → every (between 0x30 0x39) ds ≡ true
    → unlike (codes (members ds ns)) ≡ valid_members ds ns
unfolding valid_members
load_distinct ds ns l d =
    rw (l, d) (codes-distinct (members ds ns) (members-every (between 0x30 0x39) ds ns d))

-- The same, as a call goes.
pub loaded :
    (ds ns : List ℕ) {held : List ℕ} {lengths decimal unalike : Bool}
    → lengths ≡ valid_lengths (length ds) ns
    → lengths ≡ true
    → decimal ≡ every (between 0x30 0x39) ds
    → decimal ≡ true
    → held ≡ codes (members ds ns)
    → unalike ≡ unlike held
    → unalike ≡ valid_members ds ns
loaded ds ns l lt d dt h u = u ∙ ap unlike h ∙ load_distinct ds ns (sym l ∙ lt) (sym d ∙ dt)

-- Of a list that keeps the rules the members, their lengths and the numbers stored belong together.
module _ {ds ns held : List ℕ} (n : Numbered ds ns held) where
  pub listed : Lengths (length ds) ns × (every (between 0x30 0x39) ds ≡ true)
  unfolding valid_members
  listed =
      let t = both (valid_lengths (length ds) ns) (every (between 0x30 0x39) ds && distinct (members ds ns)) n.valid in
      (lengths_inv (length ds) ns t.0, (both (every (between 0x30 0x39) ds) (distinct (members ds ns)) t.1).0)

  pub kept : Kept (members ds ns) ns held
  kept = record {
    sizes = members_sizes ds ns (omega (arith, listed.0.all));
    numbers = rw members-length n.same;
    decimal = members-every (between 0x30 0x39) ds ns listed.1;
  }
