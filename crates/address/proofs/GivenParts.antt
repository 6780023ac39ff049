-- The parts of an address that is given by its record: what a title takes on the wire, and each part's octets.
use Prim.Native.Nat.{ℕ, ◌+◌, ◌-◌, ◌≤◌, ◌<◌}
use mathlib.Core.Path.{◌≡◌, refl, sym, ap, ◌∙◌}
use mathlib.Core.Bool.{Bool, true, false}
use Rattle.std.specs.Prelude.{Option, None, Some, option_map}
use mathlib.Core.List.{List, [], ◌∷◌, append-nil}
use native.Mathlib.Omega.{arith}
use borrow.Author.Tests.{le-leb, lt-leb, leb-true}
use borrow.Rule.Slice.PartMut.{mid_of, put_mid}
use lib.Dec.{leb}
use lib.ListN.{length, take, drop, length-take, length-drop}
use lib.Seq.{length-take-le}
use Rattle.bcd.specs.Outcome.{Outcome, accepted, refused, after, demand, mapped, each, Delivered, deliver}
use Rattle.bcd.specs.Digits.{built_in, write_digits}
use Rattle.bcd.proofs.Outcomes.{accepted_inj, never, mapped_inv, deliver_refused, deliver_buffer, deliver_answer}
use Rattle.bcd.proofs.Writing.{extend, delivered}
use Rattle.bcd.proofs.Characters.{built_in_lawful}
use Rattle.parameter.specs.Parameter.{Param, param, padded_length, param_octets, run_octets, run_length, frame_param, encode_param}
use Rattle.parameter.proofs.RoundTrip.{octets-length}
use Rattle.parameter.proofs.Encoding.{frame_known}
use Rattle.parameter.proofs.InPlace.{framed-there}
use Rattle.address.specs.Address.{Title, write_title, title, present, sub_param}
use Rattle.address.specs.Records.{title_of, title_given, part_given}
use Rattle.address.specs.Lengths.{title_length}
use Rattle.address.specs.Given.{given_param}
use Rattle.address.specs.Steps.GivenParts.{given_title, title_room, title_by, Roomed}
use Rattle.address.specs.declared.GlobalTitle.{GlobalTitle}
use Rattle.address.specs.declared.interpret.Digits.{Digits}
use Rattle.address.specs.declared.interpret.Digits.TheVariants as D
use Rattle.address.proofs.Planning.{each_one, title_sized, title_few}
use Rattle.address.proofs.Putting.{one_encoded}
use Rattle.address.proofs.Copying.{lent_length}
use Rattle.address.proofs.Lending.{lent_refused, lent_accepted, front_kept}
use Rattle.address.proofs.TitleRecords.{record_size}

-- None takes nothing.
pub no_title : (digits : Digits) → accepted 0 ≡ title_by digits None
unfolding run_length
no_title D.Checked = refl
no_title D.Unchecked = refl

-- What it takes: 11, 9, or the length of its sub-parameter.
module _ (g : GlobalTitle) where
  pub title_many : (digits : Digits) → 255 < g.count → refused 11 (g.count ∷ []) ≡ title_by digits (Some g)
  title_many D.Checked h = rw (lt-leb g.count 255 h)
  title_many D.Unchecked h = rw (lt-leb g.count 255 h)

  title_taken : g.count ≤ 255 → given_title (Some g) ≡ sub_param built_in (title (title_of g))
  title_taken h = rw (le-leb g.count 255 h)

  pub title_counted :
      (o : Outcome ℕ)
      → g.count ≤ 255
      → o ≡ mapped length (write_digits built_in (take g.count g.digits))
      → mapped (λ n. padded_length (8 + n)) o ≡ mapped run_length (given_title (Some g))
  title_counted o h k = ap (mapped (λ n. padded_length (8 + n))) k ∙ sym (title_sized built_in (title_of g)) ∙ sym (ap (mapped run_length) (title_taken h))

-- An address takes its title's record where the sub-parameters do, and these are the title's.
pub title_accepts :
    {X : Type 0} (x : X) (o : Option GlobalTitle) (qs : List Param)
    → given_title o ≡ accepted qs
    → (mapped (λ (t : Option Title). x) (part_given o) ≡ accepted x) × (each (sub_param built_in) (present title (option_map title_of o)) ≡ accepted qs)
title_accepts {X} x (Some g) qs e = go (leb g.count 255) e
  where
    go :
        (t : Bool)
        → after (demand t 11 (g.count ∷ []) (accepted (title_of g))) (λ t. sub_param built_in (title t)) ≡ accepted qs
        → (mapped (λ (t : Option Title). x) (mapped Some (demand t 11 (g.count ∷ []) (accepted (title_of g)))) ≡ accepted x)
        × (each (sub_param built_in) (present title (Some (title_of g))) ≡ accepted qs)
    go true e = (refl, each_one (sub_param built_in) (title (title_of g)) ∙ e)
    go false e = absurd (never e)
title_accepts x None qs e = (refl, e)

-- Or refused, by the count or by what follows.
pub title_refuses :
    {X Y : Type 0} (x : X) (f : X → Outcome Y) (o : Option GlobalTitle) (n : ℕ) (vs : List ℕ)
    → given_title o ≡ refused n vs
    → (each (sub_param built_in) (present title (option_map title_of o)) ≡ refused n vs → f x ≡ refused n vs)
    → after (mapped (λ (t : Option Title). x) (part_given o)) f ≡ refused n vs
title_refuses {X} {Y} x f (Some g) n vs e k = go (leb g.count 255) e
  where
    go :
        (t : Bool)
        → after (demand t 11 (g.count ∷ []) (accepted (title_of g))) (λ t. sub_param built_in (title t)) ≡ refused n vs
        → after (mapped (λ (t : Option Title). x) (mapped Some (demand t 11 (g.count ∷ []) (accepted (title_of g))))) f ≡ refused n vs
    go true e = k (each_one (sub_param built_in) (title (title_of g)) ∙ e)
    go false e = let a : 11 ≡ n = cc in let b : g.count ∷ [] ≡ vs = cc in rw (a, b)
title_refuses x f None n vs e k = absurd (never (sym e))

-- It takes at most 140 octets.
pub title_small : (o : Option GlobalTitle) (n : ℕ) → accepted n ≡ mapped run_length (given_title o) → n ≤ 140
title_small o n e =
    let (qs, h, l) = mapped_inv run_length (given_title o) (sym e) in
    title_few built_in built_in_lawful (option_map title_of o) n (e ∙ ap (mapped run_length) (h ∙ sym (title_accepts o o qs h).1))

-- Its count is not above 255 where it is accepted.
title_few_of : (g : GlobalTitle) (qs : List Param) → given_title (Some g) ≡ accepted qs → g.count ≤ 255
title_few_of g qs e = go (leb g.count 255) refl e
  where
    go : (t : Bool) → leb g.count 255 ≡ t → after (demand t 11 (g.count ∷ []) (accepted (title_of g))) (λ t. sub_param built_in (title t)) ≡ accepted qs → g.count ≤ 255
    go true h e = leb-true g.count 255 h
    go false h e = absurd (never e)

-- Its value in one sub-parameter.
title_wrapped : (g : GlobalTitle) → given_title (Some g) ≡ mapped (λ v. param 0x8001 v ∷ []) (after (title_given g) (write_title built_in))
unfolding sub_param
title_wrapped g = go (leb g.count 255)
  where
    go : (t : Bool) → after (demand t 11 (g.count ∷ []) (accepted (title_of g))) (λ t. sub_param built_in (title t)) ≡ mapped (λ v. param 0x8001 v ∷ []) (after (demand t 11 (g.count ∷ []) (accepted (title_of g))) (write_title built_in))
    go true = refl
    go false = refl

-- Where it can be written, it takes what its count tells.
pub title_roomed : (o : Option GlobalTitle) → (qs : List Param) → given_title o ≡ accepted qs → title_room o ≡ accepted (run_length qs)
unfolding run_length
title_roomed (Some g) qs e =
    let few = title_few_of g qs e in
    let (w, hw, one) = mapped_inv (λ v. param 0x8001 v ∷ []) (after (title_given g) (write_title built_in)) (sym (title_wrapped g) ∙ e) in
    rw (le-leb g.count 255 few) (ap accepted (omega (arith, record_size g few w hw, ap run_length one)))
title_roomed None qs e = ap (λ qs. accepted (run_length qs)) (accepted_inj e)

-- Room for it.
pub title_room_lem : (g : GlobalTitle) (out : List ℕ) → Roomed (title_room (Some g)) out → (g.count ≤ 255) × (padded_length (title_length (title_of g)) ≤ length out)
title_room_lem g out y = go (leb g.count 255) refl y.known
  where
    go : (t : Bool) → leb g.count 255 ≡ t → demand t 11 (g.count ∷ []) (accepted (padded_length (title_length (title_of g)))) ≡ accepted y.takes → (g.count ≤ 255) × (padded_length (title_length (title_of g)) ≤ length out)
    go true h e = (leb-true g.count 255 h, omega (arith, accepted_inj e, y.room))
    go false h e = absurd (never e)

module _ (g : GlobalTitle) (out : List ℕ) (few : g.count ≤ 255) (room : padded_length (title_length (title_of g)) ≤ length out) where
  abbrev lent : List ℕ
  lent = mid_of 4 (length out - 4) out

  value_room : (w : List ℕ) → after (title_given g) (write_title built_in) ≡ accepted w → length w ≤ length lent
  value_room w e = omega (arith, record_size g few w e, lent_length out 4)

  pub title_declined :
      (last : List ℕ) {n : ℕ} {vs : List ℕ}
      → record { answer = refused n vs; buffer = last } ≡ deliver (after (title_given g) (write_title built_in)) lent
      → record { answer = refused n vs; buffer = put_mid 4 (length out - 4) out last } ≡ deliver (mapped run_octets (given_title (Some g))) out
  title_declined last {n} {vs} e =
      let (bad, same) = lent_refused (after (title_given g) (write_title built_in)) 4 (length out - 4) out e value_room in
      let known : mapped run_octets (given_title (Some g)) ≡ refused n vs = ap (mapped run_octets) (title_wrapped g ∙ ap (mapped (λ v. param 0x8001 v ∷ [])) bad) in
      ap (λ (d : List ℕ). record { answer = refused n vs; buffer = d }) same
      ∙ deliver_refused n vs out
      ∙ ap (λ (o : Outcome (List ℕ)). deliver o out) (sym known)

  -- Its value in place: how many octets it has.
  pub title_counted_in :
      (n : ℕ) (last : List ℕ)
      → record { answer = accepted n; buffer = last } ≡ deliver (after (title_given g) (write_title built_in)) lent
      → n ≡ title_length (title_of g)
  title_counted_in n last e =
      let (w, hw) = lent_accepted (after (title_given g) (write_title built_in)) lent e in
      accepted_inj (deliver_answer w lent (value_room w hw) (e ∙ ap (λ (o : Outcome (List ℕ)). deliver o lent) hw)) ∙ record_size g few w hw

  -- And framed.
  pub title_put :
      (n : ℕ) (last : List ℕ) {q : Outcome ℕ} {d : List ℕ}
      → record { answer = accepted n; buffer = last } ≡ deliver (after (title_given g) (write_title built_in)) lent
      → record { answer = q; buffer = d } ≡ deliver (frame_param 0x8001 n (put_mid 4 (length out - 4) out last)) (put_mid 4 (length out - 4) out last)
      → record { answer = q; buffer = d } ≡ deliver (mapped run_octets (given_title (Some g))) out
  unfolding run_octets
  title_put n last {q} {d} e frame =
      let (w, hw) = lent_accepted (after (title_given g) (write_title built_in)) lent e in
      let l = record_size g few w hw in
      let digits : length (take g.count g.digits) ≤ 255 = omega (arith, length-take g.count g.digits) in
      let m : n ≡ length w = title_counted_in n last e ∙ sym l in
      let held = deliver_buffer w lent (value_room w hw) (e ∙ ap (λ (o : Outcome (List ℕ)). deliver o lent) hw) in
      let same = frame ∙ ap (λ (i : ℕ). deliver (frame_param 0x8001 i (put_mid 4 (length out - 4) out last)) (put_mid 4 (length out - 4) out last)) m in
      let begun = framed-there 0x8001 w out last d (omega arith) (omega arith) held same in
      let one : Param = param 0x8001 w in
      let known : mapped run_octets (given_title (Some g)) ≡ accepted (param_octets one) =
      ap (mapped run_octets) (title_wrapped g ∙ ap (mapped (λ v. param 0x8001 v ∷ [])) hw) ∙ ap accepted (append-nil (param_octets one)) in
      let held_in = put_mid 4 (length out - 4) out last in
      let behind = extend w last 4 (length out - 4) (front_kept out 4 (omega arith)) (length-take-le 4 out (omega arith)) (omega arith) (omega arith) held in
      let framed : Param = param 0x8001 (take (length w) (drop 4 held_in)) in
      let whole : length (take (length w) (drop 4 held_in)) ≡ length w = length-take-le (length w) (drop 4 held_in) (omega (arith, length-drop 4 held_in, behind.same)) in
      let size : length (param_octets framed) ≡ padded_length n = octets-length framed ∙ ap padded_length whole ∙ ap padded_length (sym m) in
      let answer : q ≡ accepted (padded_length n) =
      deliver_answer (param_octets framed) held_in (omega (arith, behind.same)) (same ∙ ap (λ (o : Outcome (List ℕ)). deliver o held_in) (frame_known 0x8001 (length w) held_in (omega arith) (omega (arith, behind.same)))) ∙ ap accepted size in
      ap (λ (q : Outcome ℕ). record { answer = q; buffer = d }) answer
      ∙ delivered (padded_length n) begun (octets-length one ∙ ap padded_length (sym m))
      ∙ ap (λ (o : Outcome (List ℕ)). deliver o out) (sym known)

-- A sub-parameter of four octets.
pub four_put :
    (tag : ℕ) (value out : List ℕ) {d : Delivered}
    → length value ≡ 4
    → d ≡ deliver (encode_param (param tag value)) out
    → d ≡ deliver (accepted (run_octets (given_param tag (Some value)))) out
four_put tag value out l e = one_encoded (param tag value) out (omega arith) e
