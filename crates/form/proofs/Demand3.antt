-- Demand 3 with the built-in characters, for any octets.
use Prim.Native.Nat.{ℕ, ◌+◌, ◌≤◌, ◌<◌}
use mathlib.Core.Path.{◌≡◌, sym, ◌∙◌}
use mathlib.Core.Logic.{◌↔◌}
use mathlib.Core.List.{List, [], ◌∷◌}
use lib.ListN.{length, drop}
use Rattle.bcd.specs.Outcome.{accepted, All, Octets, most}
use Rattle.bcd.specs.Digits.{built_in}
use Rattle.bcd.proofs.Outcomes.{accepted_inj, all_drop}
use Rattle.bcd.proofs.Characters.{built_in_lawful}
use Rattle.parameter.specs.Parameter.{Param, round_up, run_length, Fits}
use Rattle.parameter.specs.Table.{Table}
use Rattle.parameter.proofs.Reading.{parameters-fit}
use Rattle.address.proofs.Writable.{writes_exactly}
use Rattle.message.specs.Message.{Message, read_message, write_message}
use Rattle.message.specs.Standing.{ListsAs}
use Rattle.message.proofs.Standing.{message-listed}
use Rattle.message.proofs.Messages.{message_inv}
use Rattle.form.specs.Form.{settled, Meaning, meaning}
use Rattle.form.specs.HasForm.{Settles, Clean}
use Rattle.form.specs.HopCounters.{without_hop_counters}
use Rattle.form.specs.Standing.{AllStand}
use Rattle.form.proofs.Settling.{no_hop_counters, counters_ignored}
use Rattle.form.proofs.Settled as S
use Rattle.form.proofs.Standing.{meaning_stands}

fit : (xs : List ℕ) (m : Message) → Octets xs → read_message xs ≡ accepted m → All Fits m.params
fit xs m o h = parameters-fit (drop 8 xs) m.params (all_drop (λ x. x < 256) 8 xs o) (message_inv xs m h).walked

-- Two forms are equal exactly where the messages mean the same.
pub equal :
    (xs ys f g : List ℕ)
    → Octets xs
    → Octets ys
    → settled built_in xs ≡ accepted f
    → settled built_in ys ≡ accepted g
    → (f ≡ g) ↔ (meaning built_in xs ≡ meaning built_in ys)
equal = S.equal built_in built_in_lawful

module _ (xs f : List ℕ) (o : Octets xs) (e : settled built_in xs ≡ accepted f) where
  -- A form means what the message meant, and it is read, with its addresses, without refusal.
  pub read_back : (meaning built_in f ≡ meaning built_in xs) × ((m : Meaning) × (meaning built_in f ≡ accepted m))
  read_back = S.read_back built_in built_in_lawful xs f o e

  -- A form is its own form: settling it is refused only as 14.
  pub again : settled built_in f ≡ accepted f
  again = S.again built_in built_in_lawful xs f o e

  -- A form has the octets of the header and the padded lengths of the parameters that reading it gives.
  pub form_length : (m : Message) × (read_message f ≡ accepted m) × (length f ≡ 8 + run_length m.params)
  form_length = S.form_length built_in built_in_lawful xs f o e

  -- A form is never longer than the octets given, rounded up to a multiple of 4, nor than the most that may be given, so that
  -- 12 never refuses it.
  pub form_room : (length f ≤ round_up (length xs)) × (length f ≤ most)
  form_room = S.form_room built_in built_in_lawful xs f o e

  -- A form is what encoding gives of the message that it is read as.
  pub form_encodes : (m : Message) × (read_message f ≡ accepted m) × (write_message m ≡ accepted f)
  form_encodes = S.form_encodes built_in built_in_lawful xs f o e

  -- Reading a form into any table is refused only as 13, and the records that it stores are the form's parameters.
  pub form_listed : (m : Message) × (read_message f ≡ accepted m) × ((t : Table) → ListsAs f m t)
  form_listed = let (m, hm, l) = form_length in (m, hm, λ t. message-listed f m t hm)

  -- Each of these is a parameter of the meaning; or an address, which reading its value into a record and any table stands
  -- for. That is refused only as 13.
  pub form_stands :
      (m : Message) × (w : Meaning) × (read_message f ≡ accepted m) × (meaning built_in xs ≡ accepted w) × AllStand m.params w.parts
  form_stands =
      let (same, (w, hw)) = read_back in
      let octets = S.form_octets built_in built_in_lawful xs f o e in
      let (m, hm, kept) = no_hop_counters built_in xs f e in
      (m, w, hm, sym same ∙ hw, meaning_stands f m w hm (fit f m octets hm) kept hw)

clean : (p : Param) → Fits p → Settles built_in p ↔ Clean p
clean p f = (
  (λ s t. let (a, ha, w) = s t in let (k, l) = (writes_exactly p.tag p.value a f.octets ha).0 w in (a, ha, k, l)),
  (λ c t. let (a, ha, k, l) = c t in (a, ha, (writes_exactly p.tag p.value a f.octets ha).1 (k, l))),
)

all_clean : (ps : List Param) → All Fits ps → All (Settles built_in) ps ↔ All Clean ps
all_clean [] fs = ((λ h. h), (λ h. h))
all_clean (p ∷ ps) fs = (
  (λ h. ((clean p fs.0).0 h.0, (all_clean ps fs.1).0 h.1)),
  (λ h. ((clean p fs.0).1 h.0, (all_clean ps fs.1).1 h.1)),
)

-- A message has a form exactly where it is read and all its parameters are clean.
pub has_form :
    (xs : List ℕ)
    → Octets xs
    → ((f : List ℕ) × (settled built_in xs ≡ accepted f)) ↔ ((m : Message) × (read_message xs ≡ accepted m) × All Clean m.params)
has_form xs o = (
  (λ w. let (m, hm, h) = (S.has_form built_in built_in_lawful xs o).0 w in (m, hm, (all_clean m.params (fit xs m o hm)).0 h)),
  (λ (m, hm, h). (S.has_form built_in built_in_lawful xs o).1 (m, hm, (all_clean m.params (fit xs m o hm)).1 h)),
)

-- Two messages that have a form, of one type, whose parameters without the hop counters are the same list, have the same form.
pub hop_counter_free :
    (xs ys f g : List ℕ) (m n : Message)
    → settled built_in xs ≡ accepted f
    → settled built_in ys ≡ accepted g
    → read_message xs ≡ accepted m
    → read_message ys ≡ accepted n
    → m.type ≡ n.type
    → without_hop_counters m.params ≡ without_hop_counters n.params
    → f ≡ g
hop_counter_free xs ys f g m n e d hm hn t same = accepted_inj (sym e ∙ counters_ignored built_in xs ys m n hm hn t same ∙ d)
