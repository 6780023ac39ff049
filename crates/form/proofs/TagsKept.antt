-- The tags of a form, and of a meaning: those of the message's parameters in wire order, without every 0x0101.
use Prim.Native.Nat.{ℕ}
use mathlib.Core.Path.{◌≡◌, refl, sym, ap, ap₂, ◌∙◌}
use mathlib.Core.Bool.{Bool, true, false, not}
use mathlib.Core.List.{List, [], ◌∷◌, ◌++◌, map, map-append}
use native.Mathlib.Omega.{arith}
use lib.Dec.{eqb}
use borrow.Author.Tests.{ne_eqb}
use Rattle.std.specs.List.{filter}
use Rattle.std.proofs.lemmas.List.Elements.{filter-append}
use Rattle.bcd.specs.Outcome.{Outcome, accepted, each, pick}
use Rattle.bcd.specs.Digits.{Alphabet}
use Rattle.bcd.proofs.Outcomes.{accepted_inj, after_inv, mapped_inv, each_inv}
use Rattle.parameter.specs.Parameter.{Param, param}
use Rattle.address.specs.Address.{address_in, rewrite_address}
use Rattle.message.specs.Message.{Message, message, read_message}
use Rattle.form.specs.Family.{meaning_by}
use Rattle.form.specs.Form.{is_address, is_hop_counter, settled_param, settled, Part, raw, address, part_tag, part_in, Meaning, meaning}
use Rattle.form.proofs.Tags.{counter_tag, address_no_counter}
use Rattle.form.proofs.Settling.{settled-address, settled_other, form_read}

-- every tag but the hop counter's
abbrev kept : ℕ → Bool
kept tag = not (eqb tag 0x0101)

-- Where each parameter gives its tag, or nothing, a list gives the tags that are kept.
tags_each :
    {B : Type 0} (f : Param → Outcome (List B)) (tag_of : B → ℕ)
    → ((p : Param) (qs : List B) → f p ≡ accepted qs → map tag_of qs ≡ filter kept (p.tag ∷ []))
    → (ps : List Param) (qs : List B)
    → each f ps ≡ accepted qs
    → map tag_of qs ≡ filter kept (map (λ (p : Param). p.tag) ps)
tags_each f tag_of one [] qs e = ap (map tag_of) (sym (accepted_inj e))
tags_each f tag_of one (p ∷ ps) qs e =
    let (us, vs, hu, hv, j) = each_inv f p ps qs e in
    ap (map tag_of) (sym j)
    ∙ map-append tag_of us vs
    ∙ ap₂ ◌++◌ (one p us hu) (tags_each f tag_of one ps vs hv)
    ∙ sym (filter-append kept (p.tag ∷ []) (map (λ (p : Param). p.tag) ps))

-- a tag alone, with the test for hop counters
single : (tag : ℕ) (c : Bool) → is_hop_counter tag ≡ c → filter kept (tag ∷ []) ≡ pick c [] (tag ∷ [])
single tag true h = let e : tag ≡ 0x0101 = (counter_tag tag).0 h in rw e
single tag false h = rw (ne_eqb tag 0x0101 (λ e. let z : ◌≡◌ {A = Bool} true false = sym ((counter_tag tag).1 e) ∙ h in let y : ◌≡◌ {A = ℕ} 0 1 = cc in omega arith))

module _ {B : Type 0} (tag_of : B → ℕ) (x : B) where
  picked : (c : Bool) → map tag_of (pick c [] (x ∷ [])) ≡ pick c [] (tag_of x ∷ [])
  picked true = refl
  picked false = refl

  -- what is accepted is the one element or none
  other_tag : (c : Bool) (qs : List B) → accepted (pick c [] (x ∷ [])) ≡ accepted qs → is_hop_counter (tag_of x) ≡ c → map tag_of qs ≡ filter kept (tag_of x ∷ [])
  other_tag c qs e k = ap (map tag_of) (sym (accepted_inj e)) ∙ picked c ∙ sym (single (tag_of x) c k)

  address_tag : (qs : List B) → x ∷ [] ≡ qs → is_address (tag_of x) ≡ true → map tag_of qs ≡ filter kept (tag_of x ∷ [])
  address_tag qs e h = other_tag false qs (ap accepted e) (address_no_counter (tag_of x) h)

module _ (A : Alphabet) where
  settled_tag : (p : Param) (qs : List Param) → settled_param A p ≡ accepted qs → map (λ (q : Param). q.tag) qs ≡ filter kept (p.tag ∷ [])
  settled_tag p qs e = on (is_address p.tag) refl
    where
      on : (t : Bool) → is_address p.tag ≡ t → map (λ (q : Param). q.tag) qs ≡ filter kept (p.tag ∷ [])
      on true h =
          let (w, hw, same) = mapped_inv (λ w. param p.tag w ∷ []) (rewrite_address A p.tag p.value) (sym (settled-address A p h) ∙ e) in
          address_tag (λ q. q.tag) (param p.tag w) qs same h
      on false h = other_tag (λ q. q.tag) p _ qs (sym (settled_other A p _ h refl) ∙ e) refl

  meant_tag : (p : Param) (qs : List Part) → part_in A p ≡ accepted qs → map part_tag qs ≡ filter kept (p.tag ∷ [])
  unfolding part_in
  meant_tag p qs e = on (is_address p.tag) refl
    where
      on : (t : Bool) → is_address p.tag ≡ t → map part_tag qs ≡ filter kept (p.tag ∷ [])
      on true h =
          let (a, ha, same) = mapped_inv (λ a. address p.tag a ∷ []) (address_in A p.value) (rw h at e) in
          address_tag part_tag (address p.tag a) qs same h
      on false h = other_tag part_tag (raw p) _ qs (rw h at e) refl

  -- A form has the tags of its message in order, but for every 0x0101: no other is dropped, altered, added or moved.
  pub form_tags :
      (xs f : List ℕ) (m : Message)
      → settled A xs ≡ accepted f
      → read_message xs ≡ accepted m
      → (n : Message)
      × (read_message f ≡ accepted n)
      × (map (λ (p : Param). p.tag) n.params ≡ filter (λ tag. not (eqb tag 0x0101)) (map (λ (p : Param). p.tag) m.params))
  form_tags xs f m e r =
      let (k, ps, hk, hp, hf) = form_read A xs f e in
      let same : k ≡ m = accepted_inj (sym hk ∙ r) in
      (message k.type ps, hf, tags_each (settled_param A) (λ q. q.tag) settled_tag k.params ps hp ∙ ap (λ (m : Message). filter kept (map (λ (p : Param). p.tag) m.params)) same)

  -- So has its meaning.
  pub meaning_tags :
      (xs : List ℕ) (w : Meaning) (m : Message)
      → meaning A xs ≡ accepted w
      → read_message xs ≡ accepted m
      → map part_tag w.parts ≡ filter (λ tag. not (eqb tag 0x0101)) (map (λ (p : Param). p.tag) m.params)
  unfolding meaning_by
  meaning_tags xs w m e r =
      let (k, hk, hm) = after_inv (read_message xs) _ e in
      let (ps, hp, same) = mapped_inv (λ ps. record { type = k.type; parts = ps }) (each (part_in A) k.params) hm in
      let read : k ≡ m = accepted_inj (sym hk ∙ r) in
      ap (λ (w : Meaning). map part_tag w.parts) (sym same)
      ∙ tags_each (part_in A) part_tag meant_tag k.params ps hp
      ∙ ap (λ (m : Message). filter kept (map (λ (p : Param). p.tag) m.params)) read
