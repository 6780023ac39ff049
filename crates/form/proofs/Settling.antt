-- What the definition of the settled form says, for any octets: what a parameter gives, what a form does not depend on, what
-- it is read as, and the steps read, replace, encode.
use Prim.Native.Nat.{ℕ, ◌+◌, ◌≤◌}
use mathlib.Core.Path.{◌≡◌, refl, sym, ap, ◌∙◌, subst}
use mathlib.Core.Bool.{Bool, true, false}
use mathlib.Core.List.{List, [], ◌∷◌, ◌++◌}
use lib.ListN.{length}
use Rattle.bcd.specs.Outcome.{Outcome, accepted, refused, pick, after, mapped, each, All, most}
use Rattle.bcd.specs.Digits.{Alphabet}
use Rattle.bcd.proofs.Outcomes.{accepted_inj, mapped_inv, each_inv, all_append}
use Rattle.parameter.specs.Parameter.{Param, param}
use Rattle.parameter.specs.Padding.{Holds}
use Rattle.address.specs.Address.{rewrite_address}
use Rattle.message.specs.Types.{sua_kinds}
use Rattle.message.specs.Message.{Message, message, read_message}
use Rattle.form.specs.Form.{is_address, is_hop_counter, settled_param, settled}
use Rattle.form.specs.HopCounters.{Kept, without_hop_counters}
use Rattle.form.proofs.Tags.{counter_no_address, address_no_counter}
use Rattle.form.proofs.Ignored as I

module _ (A : Alphabet) where
  module _ (p : Param) where
    -- An address is read and written again.
    pub settled-address :
        is_address p.tag ≡ true
        → settled_param A p ≡ mapped (λ w. param p.tag w ∷ []) (rewrite_address A p.tag p.value)
    unfolding settled_param
    settled-address h = rw h

    -- Any other is left out or stays.
    pub settled_other : (c : Bool) → is_address p.tag ≡ false → is_hop_counter p.tag ≡ c → settled_param A p ≡ accepted (pick c [] (p ∷ []))
    unfolding settled_param
    settled_other c h k = rw (h, k)

    pub settled_counter : is_hop_counter p.tag ≡ true → settled_param A p ≡ accepted []
    settled_counter h = settled_other true (counter_no_address p.tag h) h

    param-kept : (qs : List Param) → settled_param A p ≡ accepted qs → All Kept qs
    param-kept qs e = on (is_address p.tag) (is_hop_counter p.tag) refl refl
      where
        on : (t c : Bool) → is_address p.tag ≡ t → is_hop_counter p.tag ≡ c → All Kept qs
        on true c h k =
            let (w, hw, same) = mapped_inv (λ w. param p.tag w ∷ []) (rewrite_address A p.tag p.value) (sym (settled-address h) ∙ e) in
            subst (All Kept) same (address_no_counter p.tag h, tt)
        on false true h k = subst (All Kept) (accepted_inj (sym (settled_other true h k) ∙ e)) tt
        on false false h k = subst (All Kept) (accepted_inj (sym (settled_other false h k) ∙ e)) (k, tt)

  params-kept : (ps qs : List Param) → each (settled_param A) ps ≡ accepted qs → All Kept qs
  params-kept [] qs e = subst (All Kept) (accepted_inj e) tt
  params-kept (p ∷ ps) qs e =
      let (us, vs, hu, hv, j) = each_inv (settled_param A) p ps qs e in
      subst (All Kept) j (all_append Kept us vs (param-kept p us hu) (params-kept ps vs hv))

  -- The parameters without the hop counters give the same.
  without_counters : (ps : List Param) → each (settled_param A) (without_hop_counters ps) ≡ each (settled_param A) ps
  without_counters [] = refl
  without_counters (p ∷ ps) = on (is_hop_counter p.tag) refl (without_counters ps)
    where
      nothing : (o : Outcome (List Param)) → o ≡ mapped (λ zs. [] ++ zs) o
      nothing (accepted zs) = refl
      nothing (refused n vs) = refl

      on :
          (c : Bool)
          → is_hop_counter p.tag ≡ c
          → each (settled_param A) (without_hop_counters ps) ≡ each (settled_param A) ps
          → each (settled_param A) (pick c (without_hop_counters ps) (p ∷ without_hop_counters ps)) ≡ each (settled_param A) (p ∷ ps)
      on true h same =
          same
          ∙ nothing (each (settled_param A) ps)
          ∙ sym (ap (λ o. after o (λ ys. mapped (λ zs. ys ++ zs) (each (settled_param A) ps))) (settled_counter p h))
      on false h same = ap (λ o. after (settled_param A p) (λ ys. mapped (λ zs. ys ++ zs) o)) same

  -- Messages that are read the same have the same form.
  pub by_reading : (xs ys : List ℕ) → read_message xs ≡ read_message ys → settled A xs ≡ settled A ys
  by_reading = I.by_reading sua_kinds (settled_param A)

  module _ (v r c t a b d e : ℕ) where
    -- The reserved octet is in no form.
    pub reserved_ignored :
        (s : ℕ) (rest : List ℕ) → settled A (v ∷ r ∷ c ∷ t ∷ a ∷ b ∷ d ∷ e ∷ rest) ≡ settled A (v ∷ s ∷ c ∷ t ∷ a ∷ b ∷ d ∷ e ∷ rest)
    reserved_ignored = I.reserved_ignored sua_kinds (settled_param A) v r c t a b d e

    -- The declared length is in no form.
    pub length_ignored :
        (i j k l : ℕ) (rest : List ℕ)
        → settled A (v ∷ r ∷ c ∷ t ∷ a ∷ b ∷ d ∷ e ∷ rest) ≡ settled A (v ∷ r ∷ c ∷ t ∷ i ∷ j ∷ k ∷ l ∷ rest)
    length_ignored = I.length_ignored sua_kinds (settled_param A) v r c t a b d e

    -- What the padding holds, whether the last padding is there, and under four octets after the last parameter are in no
    -- form: only the run of parameters that the octets behind the header hold.
    pub padding_ignored :
        {ps : List Param} {os qs : List ℕ}
        → Holds ps os
        → Holds ps qs
        → 8 + length os ≤ most
        → 8 + length qs ≤ most
        → settled A (v ∷ r ∷ c ∷ t ∷ a ∷ b ∷ d ∷ e ∷ os) ≡ settled A (v ∷ r ∷ c ∷ t ∷ a ∷ b ∷ d ∷ e ∷ qs)
    padding_ignored = I.padding_ignored sua_kinds (settled_param A) v r c t a b d e

  module _ (xs : List ℕ) where
    -- A form is read as the message's type and its parameters, each address among them read and written again, and the hop
    -- counters left out.
    pub form_read :
        (f : List ℕ)
        → settled A xs ≡ accepted f
        → (m : Message) × (ps : List Param)
        × (read_message xs ≡ accepted m)
        × (each (settled_param A) m.params ≡ accepted ps)
        × (read_message f ≡ accepted (message m.type ps))
    form_read = I.form_read sua_kinds (settled_param A) xs

    -- No parameter of a form is a hop counter.
    pub no_hop_counters : (f : List ℕ) → settled A xs ≡ accepted f → (m : Message) × (read_message f ≡ accepted m) × All Kept m.params
    no_hop_counters f e = let (m, ps, hm, hp, hf) = form_read f e in (message m.type ps, hf, params-kept m.params ps hp)

  -- Messages that are read as one type, and whose parameters give the same, have the same form or the same refusal.
  pub settled_alike :
      (xs ys : List ℕ) (m n : Message)
      → read_message xs ≡ accepted m
      → read_message ys ≡ accepted n
      → m.type ≡ n.type
      → each (settled_param A) m.params ≡ each (settled_param A) n.params
      → settled A xs ≡ settled A ys
  settled_alike = I.settled_alike sua_kinds (settled_param A)

  -- The hop counters are in no form: messages that are read as one type, and as one list of parameters apart from these, have
  -- the same form or the same refusal.
  pub counters_ignored :
      (xs ys : List ℕ) (m n : Message)
      → read_message xs ≡ accepted m
      → read_message ys ≡ accepted n
      → m.type ≡ n.type
      → without_hop_counters m.params ≡ without_hop_counters n.params
      → settled A xs ≡ settled A ys
  counters_ignored xs ys m n hm hn t e =
      settled_alike xs ys m n hm hn t (sym (without_counters m.params) ∙ ap (each (settled_param A)) e ∙ without_counters n.params)
