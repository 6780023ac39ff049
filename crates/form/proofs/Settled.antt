-- Demand 3, for any octets and any lawful alphabet.
use Prim.Native.Nat.{ℕ, ◌+◌, ◌≤◌}
use mathlib.Core.Path.{◌≡◌, refl, sym, ◌∙◌}
use mathlib.Core.Bool.{Bool, true, false}
use mathlib.Core.Logic.{◌⊎◌, ◌↔◌}
use mathlib.Core.List.{List, [], ◌∷◌, ◌++◌}
use native.Mathlib.Omega.{arith}
use lib.ListN.{length, drop}
use Rattle.bcd.specs.Outcome.{accepted, refused, after, All, Octets, most}
use Rattle.bcd.specs.Digits.{Alphabet, Lawful}
use Rattle.bcd.proofs.Outcomes.{never, after_inv, mapped_inv}
use Rattle.parameter.specs.Parameter.{Param, round_up, run_length, four_in}
use Rattle.address.specs.Address.{Address, address_in, write_address, rewrite_address}
use Rattle.message.specs.Types.{sua_kinds}
use Rattle.message.specs.Message.{Message, read_message, write_message}
use Rattle.form.specs.Form.{is_address, settled_param, settled, Meaning, meaning}
use Rattle.form.specs.HasForm.{Settles, FirstRefused}
use Rattle.form.specs.Family.{rewritten, settled_of}
use Rattle.form.specs.Laws.{sua, sua_lawful, param-rewritten}
use Rattle.form.proofs.Forms as F
use Rattle.form.proofs.Forms.{settled-same}
use Rattle.form.proofs.Refusals as R
use Rattle.form.proofs.Refusals.{mapped_refuses, after_refuses, Accepts, all_iff}
use Rattle.form.proofs.Settling.{settled_other}

-- The form is the family's.
pub of_family : (A : Alphabet) (xs : List ℕ) → settled A xs ≡ settled_of sua_kinds (sua A) xs
of_family A = settled-same sua_kinds (settled_param A) (rewritten (sua A)) (param-rewritten A)

module _ (A : Alphabet) (L : Lawful A) where
  module _ (xs f : List ℕ) (o : Octets xs) (e : settled A xs ≡ accepted f) where
    framed : settled_of sua_kinds (sua A) xs ≡ accepted f
    framed = sym (of_family A xs) ∙ e

    -- Read back: a form means what the message meant, and it is read, with its addresses, without refusal.
    pub read_back : (meaning A f ≡ meaning A xs) × ((m : Meaning) × (meaning A f ≡ accepted m))
    read_back = F.read_back sua_kinds (sua A) (sua_lawful A L) xs f o framed

    pub form_octets : Octets f
    form_octets = F.form_octets sua_kinds (sua A) (sua_lawful A L) xs f o framed

    -- Again: a form is its own form.
    pub again : settled A f ≡ accepted f
    again = of_family A f ∙ F.again sua_kinds (sua A) (sua_lawful A L) xs f o framed

    -- Length: that of the header, and the padded lengths of the parameters that reading the form gives.
    pub form_length : (m : Message) × (read_message f ≡ accepted m) × (length f ≡ 8 + run_length m.params)
    form_length = F.form_length sua_kinds (sua A) (sua_lawful A L) xs f o framed

    -- A form is what encoding gives of the message that it is read as.
    pub form_encodes : (m : Message) × (read_message f ≡ accepted m) × (write_message m ≡ accepted f)
    form_encodes = F.form_encodes sua_kinds (sua A) (sua_lawful A L) xs f o framed

    -- Room: a form is never longer than the octets given, rounded up to a multiple of 4, nor than the most that may be given.
    pub form_room : (length f ≤ round_up (length xs)) × (length f ≤ most)
    form_room = F.form_room sua_kinds (sua A) (sua_lawful A L) xs f o framed

    -- The message length in a form is the true one, also where other octets follow.
    pub form_declared : (rest : List ℕ) → four_in (drop 4 (f ++ rest)) ≡ length f
    form_declared = F.form_declared sua_kinds (sua A) (sua_lawful A L) xs f o framed

  -- Equal: two forms are equal exactly where the messages mean the same.
  pub equal :
      (xs ys f g : List ℕ)
      → Octets xs
      → Octets ys
      → settled A xs ≡ accepted f
      → settled A ys ≡ accepted g
      → (f ≡ g) ↔ (meaning A xs ≡ meaning A ys)
  equal xs ys f g o q e d = F.equal sua_kinds (sua A) (sua_lawful A L) xs ys f g o q (framed xs f o e) (framed ys g q d)

module _ (A : Alphabet) where
  settles : (p : Param) → Accepts (settled_param A) p ↔ Settles A p
  unfolding settled_param rewrite_address
  settles p = on (is_address p.tag) refl
    where
      on : (t : Bool) → is_address p.tag ≡ t → Accepts (settled_param A) p ↔ Settles A p
      on true h = (
        (λ (qs, e) _.
            let (w, hw, j) = mapped_inv _ (after (address_in A p.value) (write_address A p.tag)) (rw h at e) in
            let (a, ha, d) = after_inv (address_in A p.value) _ hw in
            (a, ha, (w, d))),
        (λ s. let (a, ha, (w, hw)) = s h in (record { tag = p.tag; value = w } ∷ [], rw (h, ha, hw))),
      )
      on false h = ((λ _ t. let z : ◌≡◌ {A = ℕ} 0 1 = cc in absurd (omega arith)), (λ s. (_, settled_other A p _ h refl)))

  module _ (L : Lawful A) (xs : List ℕ) (o : Octets xs) where
    -- Which messages have a form: those that are read, and each of whose addresses is read and written again.
    pub has_form :
        ((f : List ℕ) × (settled A xs ≡ accepted f)) ↔ ((m : Message) × (read_message xs ≡ accepted m) × All (Settles A) m.params)
    has_form =
        let (to, from) = R.has_form sua_kinds (sua A) (sua_lawful A L) (settled_param A) (param-rewritten A) xs o in
        let each : (m : Message) → All (Accepts (settled_param A)) m.params ↔ All (Settles A) m.params =
        λ m. all_iff (Accepts (settled_param A)) (Settles A) settles m.params in (
          (λ w. let (m, hm, h) = to w in (m, hm, (each m).0 h)),
          (λ (m, hm, h). from (m, hm, (each m).1 h)),
        )

    -- Settling refuses as reading does, or else as the first address in wire order that is not read, or not written again.
    pub refusals :
        (n : ℕ) (vs : List ℕ)
        → (settled A xs ≡ refused n vs)
        ↔ ((read_message xs ≡ refused n vs)
        ⊎ ((m : Message) × (read_message xs ≡ accepted m) × FirstRefused (settled_param A) m.params n vs))
    refusals = R.refusals sua_kinds (sua A) (sua_lawful A L) (settled_param A) (param-rewritten A) xs o

  -- A parameter is refused where it is an address: as its reading is, or else as its writing is.
  pub param_refusals :
      (p : Param) (n : ℕ) (vs : List ℕ)
      → (settled_param A p ≡ refused n vs)
      ↔ ((is_address p.tag ≡ true)
      × ((address_in A p.value ≡ refused n vs)
      ⊎ ((a : Address) × (address_in A p.value ≡ accepted a) × (write_address A p.tag a ≡ refused n vs))))
  unfolding settled_param rewrite_address
  param_refusals p n vs = on (is_address p.tag) refl
    where
      Address_refused : Type 0
      Address_refused =
          (address_in A p.value ≡ refused n vs)
          ⊎ ((a : Address) × (address_in A p.value ≡ accepted a) × (write_address A p.tag a ≡ refused n vs))

      on : (t : Bool) → is_address p.tag ≡ t → (settled_param A p ≡ refused n vs) ↔ ((is_address p.tag ≡ true) × Address_refused)
      on true h =
          let one : List ℕ → List Param = λ w. record { tag = p.tag; value = w } ∷ [] in
          let (a, b) = mapped_refuses one (after (address_in A p.value) (write_address A p.tag)) n vs in
          let (c, d) = after_refuses (address_in A p.value) (write_address A p.tag) n vs in
          ((λ e. (h, c (a (rw h at e)))), (λ (_, w). rw h (b (d w))))
      on false h = ((λ e. absurd (never (sym e ∙ settled_other A p _ h refl))), (λ (t, _). let z : ◌≡◌ {A = ℕ} 0 1 = cc in absurd (omega arith)))
