-- The laws of messages that are counted one after the other, whatever each of them adds.
use Prim.Native.Nat.{ℕ, suc, ◌+◌, ◌≤◌}
use mathlib.Core.Path.{◌≡◌, refl, sym, ap, ap₂, subst, ◌∙◌}
use mathlib.Core.Bool.{true}
use mathlib.Core.List.{List, [], ◌∷◌, ◌++◌, Permᴰ}
use native.Mathlib.Omega.{arith}
use lib.ListN.{length}
use Rattle.bcd.specs.Outcome.{All}
use Rattle.parameter.specs.Parameter.{most_value}
use Rattle.tally.specs.declared.place.Gain.{Gain}
use Rattle.tally.specs.Rows.{Rows, rows, no_rows, within, gained}
use Rattle.tally.specs.Facts.{Near, plus}
use Rattle.tally.proofs.Raising.{length-raised, raised-raised, get_d_raised, raised_sums, sums_zeros, within-raised}

-- Lists in another order, and in two parts.
pub all_order : {A : Type 0} (P : A → Type 0) {xs ys : List A} → Permᴰ xs ys → All P xs → All P ys
all_order P Permᴰ.nil h = h
all_order P (Permᴰ.cons e p) h = (subst P e h.0, all_order P p h.1)
all_order P (Permᴰ.swap e f) h = (subst P f h.1.0, (subst P e h.0, h.1.1))
all_order P (Permᴰ.trans p q) h = all_order P q (all_order P p h)

pub length_order : {A : Type 0} {xs ys : List A} → Permᴰ xs ys → length xs ≡ length ys
length_order Permᴰ.nil = refl
length_order (Permᴰ.cons e p) = ap suc (length_order p)
length_order (Permᴰ.swap e f) = refl
length_order (Permᴰ.trans p q) = length_order p ∙ length_order q

pub all_split : {A : Type 0} (P : A → Type 0) (xs ys : List A) → All P (xs ++ ys) → All P xs × All P ys
all_split P [] ys h = (tt, h)
all_split P (x ∷ xs) ys h = let (f, b) = all_split P xs ys h.1 in ((h.0, f), b)

-- Rows of a number of members, none with over 65,531 octets for each of its messages.
pub record Sound (members : ℕ) (r : Rows) : Type 0 where
  pub messages : length r.messages ≡ members + 2
  pub octets : length r.octets ≡ members + 2
  pub covered : within r.messages r.octets ≡ true

pub gained_sound : (n : ℕ) (g : Gain) (r : Rows) → g.octets ≤ most_value → Sound n r → Sound n (gained g r)
gained_sound n g r h s = record {
  messages = length-raised g.row 1 r.messages ∙ s.messages;
  octets = length-raised g.row g.octets r.octets ∙ s.octets;
  covered = within-raised g.row g.octets r.messages r.octets h s.covered;
}

pub gained-gained : (g h : Gain) (r : Rows) → gained g (gained h r) ≡ gained h (gained g r)
gained-gained g h r = ap₂ rows (raised-raised g.row 1 h.row 1 r.messages) (raised-raised g.row g.octets h.row h.octets r.octets)

pub gained_near : (g h : Gain) (r : Rows) → g.octets ≤ most_value → h.octets ≤ most_value → Near (gained g r) (gained h r)
gained_near g h r lg lh = record {
  messages = λ i. omega (arith, get_d_raised g.row 1 r.messages i, get_d_raised h.row 1 r.messages i);
  octets = λ i. omega (arith, get_d_raised g.row g.octets r.octets i, get_d_raised h.row h.octets r.octets i);
}

pub gained-plus : (g : Gain) (r s : Rows) → gained g (plus r s) ≡ plus r (gained g s)
unfolding plus
gained-plus g r s = ap₂ rows (raised_sums g.row 1 r.messages s.messages) (raised_sums g.row g.octets r.octets s.octets)

pub plus_none : (n : ℕ) (r : Rows) → Sound n r → plus r (no_rows n) ≡ r
unfolding plus
plus_none n r s = ap₂ rows (sums_zeros (n + 2) r.messages s.messages) (sums_zeros (n + 2) r.octets s.octets)

module _ (add : List ℕ → Gain) where
  -- The rows after messages.
  abbrev pub counted : List (List ℕ) → Rows → Rows
  counted [] r = r
  counted (xs ∷ ms) r = counted ms (gained (add xs) r)

  pub counted-append : (ms ks : List (List ℕ)) (r : Rows) → counted (ms ++ ks) r ≡ counted ks (counted ms r)
  counted-append [] ks r = refl
  counted-append (xs ∷ ms) ks r = counted-append ms ks (gained (add xs) r)

  -- One message more, first or last.
  pub counted-gained : (ms : List (List ℕ)) (g : Gain) (r : Rows) → counted ms (gained g r) ≡ gained g (counted ms r)
  counted-gained [] g r = refl
  counted-gained (xs ∷ ms) g r = ap (counted ms) (gained-gained (add xs) g r) ∙ counted-gained ms g (gained (add xs) r)

  pub counted_middle :
      (before behind : List (List ℕ)) (x : List ℕ) (r : Rows)
      → counted (before ++ x ∷ behind) r ≡ gained (add x) (counted behind (counted before r))
  counted_middle before behind x r = counted-append before (x ∷ behind) r ∙ counted-gained behind (add x) (counted before r)

  pub counted_order : {ms ks : List (List ℕ)} → Permᴰ ms ks → (r : Rows) → counted ms r ≡ counted ks r
  counted_order Permᴰ.nil r = refl
  counted_order (Permᴰ.cons {b = y} {l₁ = ms} e p) r = ap (λ x. counted ms (gained (add x) r)) e ∙ counted_order p (gained (add y) r)
  counted_order (Permᴰ.swap {a = x} {b = y} {l = ms} e f) r =
      ap (counted ms) (gained-gained (add y) (add x) r ∙ ap₂ (λ x y. gained (add x) (gained (add y) r)) e f)
  counted_order (Permᴰ.trans p q) r = counted_order p r ∙ counted_order q r

  pub counted-plus : (ms : List (List ℕ)) (r s : Rows) → counted ms (plus r s) ≡ plus r (counted ms s)
  counted-plus [] r s = refl
  counted-plus (xs ∷ ms) r s = ap (counted ms) (gained-plus (add xs) r s) ∙ counted-plus ms r (gained (add xs) s)

  -- Two parts, each counted from rows at 0.
  pub counted-parts :
      (n : ℕ) (ms ks : List (List ℕ))
      → Sound n (counted ms (no_rows n))
      → counted (ms ++ ks) (no_rows n) ≡ plus (counted ms (no_rows n)) (counted ks (no_rows n))
  counted-parts n ms ks s =
      counted-append ms ks (no_rows n)
      ∙ ap (counted ks) (sym (plus_none n (counted ms (no_rows n)) s))
      ∙ counted-plus ks (counted ms (no_rows n)) (no_rows n)
