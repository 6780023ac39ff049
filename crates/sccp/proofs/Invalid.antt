-- Octets that are no party address are refused as 18 with no values, and as nothing else.
use Prim.Native.Nat.{ℕ, ◌%◌, ◌/◌}
use mathlib.Core.Path.{◌≡◌, sym}
use mathlib.Core.Bool.{Bool, true, false, ◌&&◌}
use mathlib.Core.List.{List, [], ◌∷◌}
use lib.Dec.{leb, eqb}
use lib.ListN.{length, get_or}
use Rattle.bcd.specs.Outcome.{Outcome, accepted, refused, pick, after, demand, mapped}
use Rattle.bcd.specs.Digits.{halves, built_in, digits_in}
use Rattle.bcd.proofs.Outcomes.{never}
use Rattle.address.specs.Address.{bit}
use Rattle.sccp.specs.Sccp.{known, code_in, sub_in, digit_count, digits_of, title_in, nothing_left, title_by, sccp_in}

-- An outcome is refused, if at all, as k with no values.
abbrev pub Refuses : {A : Type 0} → ℕ → Outcome A → Type 0
Refuses k o = (n : ℕ) (vs : List ℕ) → o ≡ refused n vs → (n ≡ k) × (vs ≡ [])

module _ {A : Type 0} (k : ℕ) where
  pub refuses_not : (a : A) → Refuses k (accepted a)
  refuses_not a n vs e = absurd (never (sym e))

  pub refuses_as : Refuses {A = A} k (refused k [])
  refuses_as n vs e = ((cc), (cc))

  pub refuses_demand : (t : Bool) (o : Outcome A) → Refuses k o → Refuses k (demand t k [] o)
  refuses_demand true o h = h
  refuses_demand false o h = refuses_as

  pub refuses_pick : (t : Bool) (o q : Outcome A) → Refuses k o → Refuses k q → Refuses k (pick t o q)
  refuses_pick true o q h i = h
  refuses_pick false o q h i = i

module _ {A B : Type 0} (k : ℕ) where
  pub refuses_after : (o : Outcome A) (f : A → Outcome B) → Refuses k o → ((a : A) → Refuses k (f a)) → Refuses k (after o f)
  refuses_after (accepted a) f h i = i a
  refuses_after (refused m ws) f h i = λ n vs e. h n vs (cc)

  pub refuses_mapped : (f : A → B) (o : Outcome A) → Refuses k o → Refuses k (mapped f o)
  refuses_mapped f (accepted a) h = refuses_not k (f a)
  refuses_mapped f (refused m ws) h = λ n vs e. h n vs (cc)

code-invalid : (b : Bool) (xs : List ℕ) → Refuses 18 (code_in b xs)
code-invalid false xs = refuses_not 18 _
code-invalid true [] = refuses_as 18
code-invalid true (x ∷ []) = refuses_as 18
code-invalid true (low ∷ high ∷ xs) = refuses_demand 18 (leb high 63) _ (refuses_not 18 _)

sub-invalid : (b : Bool) (xs : List ℕ) → Refuses 18 (sub_in b xs)
sub-invalid false xs = refuses_not 18 _
sub-invalid true [] = refuses_as 18
sub-invalid true (n ∷ xs) = refuses_not 18 _

count_invalid : (scheme n : ℕ) → Refuses 18 (digit_count scheme n)
count_invalid scheme n =
    refuses_pick 18 (eqb scheme 1) _ _ (refuses_demand 18 (leb 1 n) _ (refuses_not 18 _))
    (refuses_pick 18 (eqb scheme 2) _ _ (refuses_not 18 _) (refuses_as 18))

digits-invalid : (scheme : ℕ) (xs : List ℕ) → Refuses 18 (digits_of scheme xs)
unfolding digits_of
digits-invalid scheme xs =
    refuses_after 18 (digit_count scheme (length xs)) _ (count_invalid scheme (length xs))
    (λ count.
    refuses_demand 18 (leb count 255 && (eqb (get_or (halves xs) count 0) 0 && known (digits_in built_in xs count))) _ (refuses_not 18 _))

title_invalid : (xs : List ℕ) → Refuses 18 (title_in xs)
title_invalid [] = refuses_as 18
title_invalid (x ∷ []) = refuses_as 18
title_invalid (x ∷ y ∷ []) = refuses_as 18
title_invalid (tt ∷ plan ∷ nature ∷ xs) =
    refuses_demand 18 (leb nature 127) _ (refuses_mapped 18 _ (digits_of (plan % 16) xs) (digits-invalid (plan % 16) xs))

none_invalid : (xs : List ℕ) → Refuses 18 (nothing_left xs)
none_invalid [] = refuses_not 18 _
none_invalid (x ∷ xs) = refuses_as 18

by-invalid : (i : ℕ) (xs : List ℕ) → Refuses 18 (title_by i xs)
by-invalid i xs =
    refuses_pick 18 (eqb i 0) _ _ (none_invalid xs) (refuses_pick 18 (eqb i 4) _ _ (title_invalid xs) (refuses_as 18))

pub sccp_invalid : (xs : List ℕ) (n : ℕ) (vs : List ℕ) → sccp_in xs ≡ refused n vs → (n ≡ 18) × (vs ≡ [])
unfolding sccp_in
sccp_invalid [] = refuses_as 18
sccp_invalid (i ∷ xs) =
    refuses_demand 18 (leb i 127) _
    (refuses_after 18 (code_in (bit 1 i) xs) _ (code-invalid (bit 1 i) xs) (λ code.
    refuses_after 18 (sub_in (bit 2 i) code.1) _ (sub-invalid (bit 2 i) code.1) (λ sub.
    refuses_mapped 18 _ (title_by (i / 4 % 16) sub.1) (by-invalid (i / 4 % 16) sub.1))))
