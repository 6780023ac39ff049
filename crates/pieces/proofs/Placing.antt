-- A part of a message: what it takes, and its value written at the fifth octet of a buffer and framed there.
use Prim.Native.Nat.{ℕ, ◌-◌, ◌*◌, ◌≤◌, ◌<◌}
use mathlib.Core.Path.{◌≡◌, sym, ap, ◌∙◌}
use mathlib.Core.List.{List, [], ◌∷◌, ◌++◌}
use mathlib.Core.Logic.{⊎_elim}
use native.Mathlib.Omega.{arith}
use lib.Dec.{leb}
use lib.ListN.{length, take, drop, length-append, length-take, length-drop}
use borrow.Author.Tests.{leb-true}
use borrow.Rule.Slice.PartMut.{mid_of, put_mid}
use Rattle.bcd.specs.Outcome.{Outcome, accepted, refused, after, mapped, deliver}
use Rattle.bcd.proofs.Outcomes.{accepted_inj, never, le_or_lt, after_inv, demand_inv, deliver_buffer, deliver_answer}
use Rattle.bcd.proofs.Writing.{delivered}
use Rattle.parameter.specs.Parameter.{padded_length, most_value, param_octets, encode_param, wire_length, frame_param, param}
use Rattle.parameter.proofs.RoundTrip.{octets-length}
use Rattle.parameter.proofs.Encoding.{wire_encode, wire_within, encode_within, encode_beyond, framed-length, frame_known}
use Rattle.parameter.proofs.InPlace.{framed-there}
use Rattle.pieces.specs.PointCodes.{most_codes, pack_codes}
use Rattle.pieces.specs.Parts.{number, octet, affected, Placeable}
use Rattle.pieces.proofs.PointCodes.{codes-length, pack_few, pack_many}
use Rattle.pieces.proofs.Running.{lent_length}

-- What a part takes.
pub number_taken : (tag n : ℕ) → mapped length (encode_param (number tag n)) ≡ accepted 8
number_taken tag n = wire_encode (number tag n) ∙ wire_within tag 4 (omega arith)

pub octet_taken : (tag n : ℕ) → mapped length (encode_param (octet tag n)) ≡ accepted 8
octet_taken tag n = wire_encode (octet tag n) ∙ wire_within tag 4 (omega arith)

pub codes_taken : (codes : List ℕ) → mapped length (encode_param (affected codes)) ≡ wire_length 0x0012 (4 * length codes)
codes_taken codes = wire_encode (affected codes) ∙ ap (wire_length 0x0012) (codes-length codes)

-- A value that is written, as a parameter.
abbrev pub as_param : ℕ → Outcome (List ℕ) → Outcome (List ℕ)
as_param tag o = after o (λ w. encode_param (param tag w))

pub value_taken : (tag : ℕ) (o : Outcome (List ℕ)) (n : ℕ) → accepted n ≡ mapped length o → wire_length tag n ≡ mapped length (as_param tag o)
value_taken tag (accepted w) n e = let k : n ≡ length w = cc in rw k (sym (wire_encode (param tag w)))
value_taken tag (refused m vs) n e = absurd (never (sym e))

pub codes_param : (codes : List ℕ) → as_param 0x0012 (pack_codes codes) ≡ encode_param (affected codes)
codes_param codes = ⊎_elim few many (le_or_lt (length codes) most_codes)
  where
    few : length codes ≤ most_codes → as_param 0x0012 (pack_codes codes) ≡ encode_param (affected codes)
    few h = ap (as_param 0x0012) (pack_few codes h)

    many : most_codes < length codes → as_param 0x0012 (pack_codes codes) ≡ encode_param (affected codes)
    many h =
        ap (as_param 0x0012) (pack_many codes h)
        ∙ sym (encode_beyond (affected codes) (omega (arith, codes-length codes)) ∙ ap (λ (n : ℕ). refused 10 (0x0012 ∷ n ∷ [])) (codes-length codes))

module _ (tag : ℕ) (o : Outcome (List ℕ)) (out : List ℕ) (h : Placeable (as_param tag o) (length out)) where
  -- A value for which, as a parameter, there is room.
  pub record There : Type 0 where
    pub value : List ℕ
    pub known : o ≡ accepted value
    pub size : length value ≤ most_value
    pub room : padded_length (length value) ≤ length out

  pub there : There
  unfolding encode_param
  there =
      let (w, hw, e) = after_inv o _ h.encoded in
      let (test, e1) = demand_inv (leb (length w) most_value) 10 _ _ e in
      record {
        value = w;
        known = hw;
        size = leb-true (length w) most_value test;
        room = omega (arith, h.fits, ap length (accepted_inj e1), octets-length (param tag w));
      }

  abbrev lent : List ℕ
  lent = mid_of 4 (length out - 4) out

  module _ {a : Outcome ℕ} {last : List ℕ} (e : record { answer = a; buffer = last } ≡ deliver o lent) where
    put : record { answer = a; buffer = last } ≡ deliver (accepted there.value) lent
    put = e ∙ ap (λ (o : Outcome (List ℕ)). deliver o lent) there.known

    fits : length there.value ≤ length lent
    fits = omega (arith, there.room, lent_length out 4)

    pub answer_known : a ≡ accepted (length there.value)
    answer_known = deliver_answer there.value lent fits put

    abbrev held : List ℕ
    held = put_mid 4 (length out - 4) out last

    placed : last ≡ there.value ++ drop (length there.value) lent
    placed = deliver_buffer there.value lent fits put

    held_length : length held ≡ length out
    held_length =
        let l : length last ≡ length lent = rw (placed, length-append, length-drop) (omega (arith, fits)) in
        simp (length-append, length-take, length-drop) (omega (arith, l, lent_length out 4, there.room))

    -- Framed there, it is delivered.
    pub value_put :
        (n : ℕ) {b : Outcome ℕ} {d : List ℕ}
        → accepted n ≡ a
        → record { answer = b; buffer = d } ≡ deliver (frame_param tag n held) held
        → record { answer = b; buffer = d } ≡ deliver (as_param tag o) out
    value_put n {b} {d} is k =
        let w = there.value in
        let p = param tag w in
        let l : n ≡ length w = accepted_inj (is ∙ answer_known) in
        let room : padded_length n ≤ length held = omega (arith, there.room, held_length, l) in
        let small : n ≤ most_value = omega (arith, there.size, l) in
        let framed = param_octets (param tag (take n (drop 4 held))) in
        let size : length framed ≡ padded_length n = octets-length (param tag (take n (drop 4 held))) ∙ ap padded_length (framed-length n held room) in
        let told : b ≡ accepted (length framed) =
        deliver_answer framed held (omega (arith, size, room)) (k ∙ ap (λ (o : Outcome (List ℕ)). deliver o held) (frame_known tag n held small room)) in
        let begun = framed-there tag w out last d there.size there.room placed (k ∙ ap (λ (n : ℕ). deliver (frame_param tag n held) held) l) in
        ap (λ (b : Outcome ℕ). record { answer = b; buffer = d }) told
        ∙ delivered (length framed) begun (omega (arith, size, l, octets-length p))
        ∙ ap (λ (o : Outcome (List ℕ)). deliver o out) (sym (ap (as_param tag) there.known ∙ encode_within p there.size))
