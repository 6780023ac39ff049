-- Demand 3 for M3UA, for any octets, from the one argument of families.
use Prim.Native.Nat.{ℕ, ◌+◌, ◌≤◌, ◌<◌}
use mathlib.Core.Path.{◌≡◌, refl, sym, ap, ap₂, ◌∙◌}
use mathlib.Core.Bool.{Bool, true, false}
use mathlib.Core.Logic.{◌⊎◌, ◌↔◌}
use mathlib.Core.List.{List, [], ◌∷◌, ◌++◌}
use lib.ListN.{length}
use borrow.Author.Tests.{eq-eqb, eqb-true, le-leb, lt-leb}
use Rattle.bcd.specs.Outcome.{Outcome, accepted, refused, after, each, All, Octets, most}
use Rattle.bcd.proofs.Outcomes.{accepted_inj, never, after_inv, mapped_inv, each_inv}
use Rattle.parameter.specs.Parameter.{Param, round_up, run_length}
use Rattle.parameter.specs.Padding.{Holds}
use Rattle.parameter.specs.Table.{Table}
use Rattle.message.specs.Standing.{ListsOf}
use Rattle.message.specs.Framed.{message_of}
use Rattle.form.specs.Family.{meaning_by, rewritten}
use Rattle.form.specs.HasForm.{FirstRefused}
use Rattle.form.proofs.Forms as F
use Rattle.form.proofs.Refusals as R
use Rattle.form.proofs.Refusals.{Accepts, all_iff}
use Rattle.form.proofs.Ignored as I
use Rattle.m3ua.specs.Types.{m3ua_kinds}
use Rattle.m3ua.specs.ProtocolData.{Data, data_of, data_in}
use Rattle.m3ua.specs.Form.{Message, read_message, write_message, is_protocol_data, checked, m3ua, settled, Meaning, meaning, Whole}
use Rattle.m3ua.specs.Laws.{checked_same, m3ua_lawful}
use Rattle.m3ua.proofs.Data.{data_inv}

-- Two forms are equal exactly where the messages mean the same: type and, in wire order, each tag with its value.
pub equal :
    (xs ys f g : List ℕ)
    → Octets xs
    → Octets ys
    → settled xs ≡ accepted f
    → settled ys ≡ accepted g
    → (f ≡ g) ↔ (meaning xs ≡ meaning ys)
equal = F.equal m3ua_kinds m3ua m3ua_lawful

module _ (xs f : List ℕ) (o : Octets xs) (e : settled xs ≡ accepted f) where
  -- A form means what the message meant, and it is read, with its Protocol Data, without refusal.
  pub read_back : (meaning f ≡ meaning xs) × ((m : Meaning) × (meaning f ≡ accepted m))
  read_back = F.read_back m3ua_kinds m3ua m3ua_lawful xs f o e

  -- A form is its own form: settling it is refused only as 14.
  pub again : settled f ≡ accepted f
  again = F.again m3ua_kinds m3ua m3ua_lawful xs f o e

  -- A form has the octets of the header and the padded lengths of the parameters that reading it gives.
  pub form_length : (m : Message) × (read_message f ≡ accepted m) × (length f ≡ 8 + run_length m.params)
  form_length = F.form_length m3ua_kinds m3ua m3ua_lawful xs f o e

  -- A form is never longer than the octets given, rounded up to a multiple of 4, nor than the most that may be given, so that
  -- 12 never refuses it.
  pub form_room : (length f ≤ round_up (length xs)) × (length f ≤ most)
  form_room = F.form_room m3ua_kinds m3ua m3ua_lawful xs f o e

  -- A form is what encoding gives of the message that it is read as.
  pub form_encodes : (m : Message) × (read_message f ≡ accepted m) × (write_message m ≡ accepted f)
  form_encodes = F.form_encodes m3ua_kinds m3ua m3ua_lawful xs f o e

  -- Reading a form into any table is refused only as 13, and the records that it stores are the form's parameters.
  pub form_listed : (m : Message) × (read_message f ≡ accepted m) × ((t : Table) → ListsOf m3ua_kinds f m t)
  form_listed = F.form_listed m3ua_kinds m3ua m3ua_lawful xs f o e

-- What is settled of a parameter is the parameter.
rewritten_same : (p : Param) (qs : List Param) → rewritten m3ua p ≡ accepted qs → p ∷ [] ≡ qs
rewritten_same p qs e = go (checked p) refl e
  where
    go : (r : Outcome (List Param)) → checked p ≡ r → after r (each m3ua.write) ≡ accepted qs → p ∷ [] ≡ qs
    go (refused n vs) h e = absurd (never e)
    go (accepted ms) h e = accepted_inj (ap (each m3ua.write) (checked_same p ms h) ∙ e)

params_same : (ps qs : List Param) → each (rewritten m3ua) ps ≡ accepted qs → ps ≡ qs
params_same [] qs e = accepted_inj e
params_same (p ∷ ps) qs e =
    let (us, vs, hu, hv, j) = each_inv (rewritten m3ua) p ps qs e in
    ap₂ (λ us vs. us ++ vs) (rewritten_same p us hu) (params_same ps vs hv) ∙ j

-- A form is read as the message itself: nothing is dropped or rewritten.
pub form_same : (xs f : List ℕ) → settled xs ≡ accepted f → (m : Message) × (read_message xs ≡ accepted m) × (read_message f ≡ accepted m)
form_same xs f e =
    let (m, ps, hm, hp, hf) = I.form_read m3ua_kinds (rewritten m3ua) xs f e in
    (m, hm, hf ∙ ap (λ ps. accepted (message_of m.type ps)) (sym (params_same m.params ps hp)))

each_checked : (ps qs : List Param) → each checked ps ≡ accepted qs → ps ≡ qs
each_checked [] qs e = accepted_inj e
each_checked (p ∷ ps) qs e =
    let (us, vs, hu, hv, j) = each_inv checked p ps qs e in
    ap₂ (λ us vs. us ++ vs) (checked_same p us hu) (each_checked ps vs hv) ∙ j

-- A message means its type and its parameters.
pub meaning_same :
    (xs : List ℕ) (w : Meaning)
    → meaning xs ≡ accepted w
    → (m : Message) × (read_message xs ≡ accepted m) × (w ≡ record { type = m.type; parts = m.params })
unfolding meaning_by
meaning_same xs w e =
    let (m, hm, e1) = after_inv (read_message xs) _ e in
    let (ps, hp, j) = mapped_inv _ (each checked m.params) e1 in
    (m, hm, sym j ∙ ap (λ ps. record { type = m.type; parts = ps }) (sym (each_checked m.params ps hp)))

-- Protocol Data of twelve octets is read, and no shorter one.
pub data_read : (v : List ℕ) → 12 ≤ length v → data_in v ≡ accepted (data_of v)
unfolding data_in
data_read v h = rw (le-leb 12 (length v) h) refl

pub data_refused : (v : List ℕ) → length v < 12 → data_in v ≡ refused 6 (0x0210 ∷ 12 ∷ length v ∷ [])
unfolding data_in
data_refused v h = rw (lt-leb 12 (length v) h) refl

whole : (p : Param) (ms : List Param) → checked p ≡ accepted ms → Whole p
unfolding checked
whole p ms e t =
    let (d, hd, same) = mapped_inv (λ (d : Data). p ∷ []) (data_in p.value) (rw (eq-eqb p.tag 0x0210 t) at e) in
    (data_inv p.value d hd).enough

whole_stays : (p : Param) → Whole p → checked p ≡ accepted (p ∷ [])
unfolding checked
whole_stays p w = on (is_protocol_data p.tag) refl
  where
    on : (t : Bool) → is_protocol_data p.tag ≡ t → checked p ≡ accepted (p ∷ [])
    on true h = rw (h, data_read p.value (w (eqb-true p.tag 0x0210 h))) refl
    on false h = rw h refl

settles : (p : Param) → Accepts (rewritten m3ua) p ↔ Whole p
settles p = (
  (λ (qs, e). let (ms, hm, hw) = after_inv (checked p) (each m3ua.write) e in whole p ms hm),
  (λ w. (p ∷ [], ap (λ o. after o (each m3ua.write)) (whole_stays p w))),
)

-- A message has a form exactly where it is read and every Protocol Data has 12 octets or more.
pub has_form :
    (xs : List ℕ)
    → Octets xs
    → ((f : List ℕ) × (settled xs ≡ accepted f)) ↔ ((m : Message) × (read_message xs ≡ accepted m) × All Whole m.params)
has_form xs o =
    let (to, from) = R.has_form m3ua_kinds m3ua m3ua_lawful (rewritten m3ua) (λ p. refl) xs o in
    let each : (m : Message) → All (Accepts (rewritten m3ua)) m.params ↔ All Whole m.params =
    λ m. all_iff (Accepts (rewritten m3ua)) Whole settles m.params in (
      (λ w. let (m, hm, h) = to w in (m, hm, (each m).0 h)),
      (λ (m, hm, h). from (m, hm, (each m).1 h)),
    )

-- Settling refuses as reading does, or else as the first parameter in wire order that is not read: Protocol Data under 12
-- octets, as 6.
pub refusals :
    (xs : List ℕ)
    → Octets xs
    → (n : ℕ) (vs : List ℕ)
    → (settled xs ≡ refused n vs)
    ↔ ((read_message xs ≡ refused n vs)
    ⊎ ((m : Message) × (read_message xs ≡ accepted m) × FirstRefused (rewritten m3ua) m.params n vs))
refusals = R.refusals m3ua_kinds m3ua m3ua_lawful (rewritten m3ua) (λ p. refl)

pub short_refused : (p : Param) → p.tag ≡ 0x0210 → length p.value < 12 → rewritten m3ua p ≡ refused 6 (0x0210 ∷ 12 ∷ length p.value ∷ [])
unfolding checked
short_refused p t h = rw (eq-eqb p.tag 0x0210 t, data_refused p.value h) refl

-- The reserved octet, the declared length, what the padding holds, whether the last padding is there, and under four octets
-- after the last parameter are in no form.
module _ (v r c t a b d e : ℕ) where
  pub reserved_ignored : (s : ℕ) (rest : List ℕ) → settled (v ∷ r ∷ c ∷ t ∷ a ∷ b ∷ d ∷ e ∷ rest) ≡ settled (v ∷ s ∷ c ∷ t ∷ a ∷ b ∷ d ∷ e ∷ rest)
  reserved_ignored = I.reserved_ignored m3ua_kinds (rewritten m3ua) v r c t a b d e

  pub length_ignored :
      (i j k l : ℕ) (rest : List ℕ) → settled (v ∷ r ∷ c ∷ t ∷ a ∷ b ∷ d ∷ e ∷ rest) ≡ settled (v ∷ r ∷ c ∷ t ∷ i ∷ j ∷ k ∷ l ∷ rest)
  length_ignored = I.length_ignored m3ua_kinds (rewritten m3ua) v r c t a b d e

  pub padding_ignored :
      {ps : List Param} {os qs : List ℕ}
      → Holds ps os
      → Holds ps qs
      → 8 + length os ≤ most
      → 8 + length qs ≤ most
      → settled (v ∷ r ∷ c ∷ t ∷ a ∷ b ∷ d ∷ e ∷ os) ≡ settled (v ∷ r ∷ c ∷ t ∷ a ∷ b ∷ d ∷ e ∷ qs)
  padding_ignored = I.padding_ignored m3ua_kinds (rewritten m3ua) v r c t a b d e
