-- An address value that was planned, written again as a parameter.
use Prim.Native.Nat.{ℕ, ◌-◌, ◌≤◌, ◌<◌}
use mathlib.Core.Path.{◌≡◌, refl, sym, ap, ◌∙◌}
use mathlib.Core.List.{List, [], ◌∷◌, ◌++◌}
use native.Mathlib.Omega.{arith}
use lib.ListN.{length, take, drop, length-append, length-take, length-drop}
use borrow.Rule.Slice.PartMut.{mid_of, put_mid, same_len_mid}
use Rattle.bcd.specs.Outcome.{Outcome, accepted, refused, after, mapped, deliver}
use Rattle.bcd.specs.Digits.{built_in}
use Rattle.bcd.proofs.Outcomes.{accepted_inj, never, deliver_buffer, deliver_answer, deliver_too_long}
use Rattle.bcd.proofs.Writing.{delivered}
use Rattle.parameter.specs.Parameter.{param, padded_length, most_value, param_octets, frame_param, encode_param, wire_length}
use Rattle.parameter.proofs.RoundTrip.{octets-length}
use Rattle.parameter.proofs.Encoding.{wire_within, encode_within, frame_known}
use Rattle.parameter.proofs.InPlace.{framed-there}
use Rattle.address.specs.Address.{read_address, write_address}
use Rattle.address.specs.Again.{with_unknown, parameter_again}
use Rattle.address.specs.Steps.Plan.{wire_of, Plan}
use Rattle.address.specs.declared.interpret.Digits.TheVariants as D
use Rattle.address.specs.declared.parts.Parts.{Parts}
use Rattle.address.proofs.Plans.{plan_octets, wire_length_lem}
use Rattle.address.proofs.Unknown.{alike}
use Rattle.address.proofs.Copying.{lent_length}

-- What refuses the value's reading, or its writing, refuses the parameter.
pub again_unread :
    (tag : ℕ) (v : List ℕ) (n : ℕ) (vs : List ℕ) → read_address built_in v ≡ refused n vs → parameter_again tag v ≡ refused n vs
unfolding parameter_again
again_unread tag v n vs e = ap (λ o. after (after o (write_address with_unknown tag)) (λ w. encode_param (param tag w))) e

pub again_refused :
    (tag : ℕ) (v : List ℕ) (n : ℕ) (vs : List ℕ)
    → after (read_address built_in v) (write_address with_unknown tag) ≡ refused n vs
    → parameter_again tag v ≡ refused n vs
unfolding parameter_again
again_refused tag v n vs e = ap (λ o. after o (λ w. encode_param (param tag w))) e

module _ {v : List ℕ} {s : Parts} {n : ℕ} (tag : ℕ) (p : Plan with_unknown v s n) where
  abbrev w : List ℕ
  w = wire_of v p.params

  size : length w ≡ n
  size = wire_length_lem v p.params ∙ p.size

  again : parameter_again tag v ≡ accepted (param_octets (param tag w))
  unfolding parameter_again
  again =
      ap (λ o. after o (λ w. encode_param (param tag w))) (plan_octets (alike D.Unchecked) tag p)
      ∙ encode_within (param tag w) (omega (arith, size, p.fits))

  -- Its length on the wire is not refused.
  pub again_wire : {m : ℕ} {vs : List ℕ} → refused m vs ≡ wire_length tag n → ⊥
  again_wire e = never (e ∙ wire_within tag n (omega (arith, p.fits)))

  again_total : {total : ℕ} → accepted total ≡ wire_length tag n → total ≡ padded_length n
  again_total e = accepted_inj (e ∙ wire_within tag n (omega (arith, p.fits)))

  pub again_short :
      (total : ℕ) (out : List ℕ)
      → accepted total ≡ wire_length tag n
      → length out < total
      → record { answer = refused 14 (total ∷ []); buffer = out } ≡ deliver (parameter_again tag v) out
  again_short total out e short =
      let l : length (param_octets (param tag w)) ≡ total = octets-length (param tag w) ∙ omega (arith, size, again_total e) in
      deliver_too_long (parameter_again tag v) total out (ap accepted (sym l) ∙ sym (ap (mapped length) again)) short

  module _ (total : ℕ) (out : List ℕ) (e : accepted total ≡ wire_length tag n) (room : total ≤ length out) where
    pub again_head : 4 ≤ length out
    again_head = omega (arith, again_total e, room)

    pub again_lent : n ≤ length (mid_of 4 (length out - 4) out)
    again_lent = omega (arith, lent_length out 4, again_total e, room)

    -- The value, written at the fifth octet without its tag.
    module _ (answer : Outcome ℕ) (last : List ℕ) (k : record { answer = answer; buffer = last } ≡ deliver (after (read_address built_in v) (write_address with_unknown 0)) (mid_of 4 (length out - 4) out)) where
      abbrev lent : List ℕ
      lent = mid_of 4 (length out - 4) out

      abbrev front : List ℕ
      front = put_mid 4 (length out - 4) out last

      written : (answer ≡ accepted (length w)) × (last ≡ w ++ drop (length w) lent)
      written =
          let fits : length w ≤ length lent = omega (arith, size, again_lent) in
          let k' = k ∙ ap (λ o. deliver o lent) (plan_octets (alike D.Unchecked) 0 p) in
          (deliver_answer w lent fits k', deliver_buffer w lent fits k')

      pub again_never : {m : ℕ} {vs : List ℕ} → answer ≡ refused m vs → ⊥
      again_never r = never (sym r ∙ written.0)

      front_length : length front ≡ length out
      front_length =
          same_len_mid 4 (length out - 4) out last (rw (written.1, length-append, length-drop) (omega (arith, size, again_lent, lent_length out 4)))

      -- Framed there, it is the parameter.
      pub again_placed : (a : Outcome ℕ) (d : List ℕ) → record { answer = a; buffer = d } ≡ deliver (frame_param tag n front) front → record { answer = a; buffer = d } ≡ deliver (parameter_again tag v) out
      again_placed a d f =
          let small : length w ≤ most_value = omega (arith, size, p.fits) in
          let fits : padded_length (length w) ≤ length out = omega (arith, size, again_total e, room) in
          let f' : record { answer = a; buffer = d } ≡ deliver (frame_param tag (length w) front) front = rw size f in
          let stored = take (length w) (drop 4 front) in
          let sized : length stored ≡ length w = rw (length-take, length-drop) (omega (arith, front_length, fits)) in
          let l = octets-length (param tag w) in
          let l' : length (param_octets (param tag stored)) ≡ padded_length (length w) = octets-length (param tag stored) ∙ ap padded_length sized in
          let known : a ≡ accepted (length (param_octets (param tag w))) =
          deliver_answer (param_octets (param tag stored)) front (omega (arith, l', front_length, fits))
          (f' ∙ ap (λ o. deliver o front) (frame_known tag (length w) front small (omega (arith, front_length, fits))))
          ∙ ap accepted (l' ∙ sym l) in
          ap (λ (a : Outcome ℕ). record { answer = a; buffer = d }) known
          ∙ delivered (length (param_octets (param tag w))) (framed-there tag w out last d small fits written.1 f') refl
          ∙ ap (λ o. deliver o out) (sym again)
