-- What depends on a parameter's tag, by the tags' numbers: which parameters are addresses, and which are left out (RFC 3868, 3.10.1 to
-- 3.10.3).
use Prim.Native.Nat.{ℕ}
use mathlib.Core.Path.{◌≡◌, refl, sym, ◌∙◌}
use mathlib.Core.Bool.{Bool, true, false}
use mathlib.Core.List.{List, [], ◌∷◌}
use mathlib.Core.Logic.{◌⊎◌, ◌↔◌, ⊎_elim, inl, inr}
use native.Mathlib.Omega.{arith}
use lib.Dec.{eqb}
use borrow.Author.Tests.{eqb-true, eq-eqb}
use Rattle.bcd.specs.Outcome.{Outcome, accepted, mapped, pick}
use Rattle.bcd.specs.Digits.{Alphabet}
use Rattle.bcd.proofs.Outcomes.{accepted_inj, mapped_inv}
use Rattle.parameter.specs.Parameter.{Param, param}
use Rattle.address.specs.Address.{address_in, rewrite_address}
use Rattle.form.specs.Form.{is_address, is_hop_counter, settled_param, raw, address, part_in}

-- The addresses are the source address and the destination address.
pub address_tags : (tag : ℕ) → (is_address tag ≡ true) ↔ ((tag ≡ 0x0102) ⊎ (tag ≡ 0x0103))
address_tags tag = (to (eqb tag 0x0102) (eqb tag 0x0103) refl refl, ⊎_elim (λ e. rw e) (λ e. rw e))
  where
    to : (a b : Bool) → eqb tag 0x0102 ≡ a → eqb tag 0x0103 ≡ b → is_address tag ≡ true → (tag ≡ 0x0102) ⊎ (tag ≡ 0x0103)
    to true b h k e = inl (eqb-true tag 0x0102 h)
    to false true h k e = inr (eqb-true tag 0x0103 k)
    to false false h k e = let z : ◌≡◌ {A = Bool} true false = cc in let y : ◌≡◌ {A = ℕ} 0 1 = cc in absurd (omega arith)

-- The hop counter is one tag.
pub counter_tag : (tag : ℕ) → (is_hop_counter tag ≡ true) ↔ (tag ≡ 0x0101)
counter_tag tag = (eqb-true tag 0x0101, eq-eqb tag 0x0101)

-- No hop counter is an address.
pub counter_no_address : (tag : ℕ) → is_hop_counter tag ≡ true → is_address tag ≡ false
counter_no_address tag h = rw ((counter_tag tag).0 h)

pub address_no_counter : (tag : ℕ) → is_address tag ≡ true → is_hop_counter tag ≡ false
address_no_counter tag h = on (is_hop_counter tag) refl
  where
    on : (c : Bool) → is_hop_counter tag ≡ c → c ≡ false
    on true k = sym h ∙ counter_no_address tag k
    on false k = refl

no_cons : {A : Type 0} {x : A} {xs : List A} → ◌≡◌ {A = List A} (x ∷ xs) [] → ⊥
no_cons e = let z : ◌≡◌ {A = ℕ} 0 1 = cc in omega arith

-- What gives one element of an address, and of any other parameter one or, where it is a hop counter, none.
module _ {B C : Type 0} (tag : ℕ) (one : C → B) (o : Outcome C) (x : B) where
  abbrev given : Outcome (List B)
  given = pick (is_address tag) (mapped (λ c. one c ∷ []) o) (accepted (pick (is_hop_counter tag) [] (x ∷ [])))

  none_given : (given ≡ accepted []) ↔ (tag ≡ 0x0101)
  none_given = (to (is_address tag) (is_hop_counter tag) refl refl, (λ e. rw e))
    where
      to : (a c : Bool) → is_address tag ≡ a → is_hop_counter tag ≡ c → given ≡ accepted [] → tag ≡ 0x0101
      to a true h k e = (counter_tag tag).0 k
      to true false h k e = let (c, hc, z) = mapped_inv (λ c. one c ∷ []) o (rw h at e) in absurd (no_cons z)
      to false false h k e = absurd (no_cons (accepted_inj (rw (h, k) at e)))

module _ (A : Alphabet) (p : Param) where
  -- A parameter is left out of the form exactly where its tag is 0x0101 ..
  pub left_out : (settled_param A p ≡ accepted []) ↔ (p.tag ≡ 0x0101)
  unfolding settled_param
  left_out = none_given p.tag (param p.tag) (rewrite_address A p.tag p.value) p

  -- .. and there alone it means nothing.
  pub means_nothing : (part_in A p ≡ accepted []) ↔ (p.tag ≡ 0x0101)
  unfolding part_in
  means_nothing = none_given p.tag (address p.tag) (address_in A p.value) (raw p)
