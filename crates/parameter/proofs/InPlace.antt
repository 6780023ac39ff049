-- A value that a writer put at the fifth octet of a buffer, with tag, length and padding put round it.
use Prim.Native.Nat.{ℕ, ◌+◌, ◌-◌, ◌≤◌}
use mathlib.Core.Path.{◌≡◌, refl, sym, ap, ◌∙◌, subst}
use mathlib.Core.List.{List, ◌++◌, append_assoc}
use native.Mathlib.Omega.{arith}
use lib.ListN.{length, take, drop, length-append, take-append-drop}
use lib.Seq.{take_at, drop_at, drop-append-add, drop-drop, length-take-le}
use borrow.Rule.Slice.PartMut.{mid_of, put_mid}
use Rattle.bcd.specs.Outcome.{Outcome, accepted, deliver}
use Rattle.bcd.proofs.Outcomes.{deliver_buffer}
use Rattle.bcd.proofs.Writing.{Begun, begin, extend, extend_all}
use Rattle.parameter.specs.Parameter.{Param, param, padded_length, most_value, param_octets, frame_param}
use Rattle.parameter.proofs.RoundTrip.{octets-length}
use Rattle.parameter.proofs.Encoding.{frame_known}

-- The octets of w stand at the fifth octet of a buffer.
module _ (out w lent : List ℕ) (room : 4 + length w ≤ length out) (begun : Begun out (take 4 out ++ w) lent) where
  lent_prefix : length (take 4 out ++ w) ≡ 4 + length w
  lent_prefix = rw (length-append (take 4 out) w, length-take-le 4 out (omega arith))

  lent-value : take (length w) (drop 4 lent) ≡ w
  lent-value =
      let l = length-take-le 4 out (omega arith) in
      let rest = drop (length (take 4 out ++ w)) out in
      ap (λ (d : List ℕ). take (length w) (drop 4 d)) (begun.holds ∙ append_assoc (take 4 out) w rest)
      ∙ ap (take (length w)) (drop_at (take 4 out) (w ++ rest) 4 l)
      ∙ take_at w rest (length w) refl

  lent_beyond : (k : ℕ) → 4 + length w ≤ k → drop k lent ≡ drop k out
  lent_beyond k h =
      let p = take 4 out ++ w in
      let lp = lent_prefix in
      let sum : k ≡ length p + (k - length p) = omega arith in
      ap (drop k) begun.holds
      ∙ ap (λ (i : ℕ). drop i (p ++ drop (length p) out)) sum
      ∙ drop-append-add p (drop (length p) out) (k - length p)
      ∙ drop-drop (k - length p) (length p) out
      ∙ ap (λ (i : ℕ). drop i out) (sym sum)

-- The first four octets of a buffer as they were.
front : (out : List ℕ) → 4 ≤ length out → Begun out (take 4 out) out
front out h =
    let l = length-take-le 4 out h in
    begin out (take 4 out) out (omega arith) (sym (take-append-drop 4 out) ∙ ap (λ (k : ℕ). take 4 out ++ drop k out) (sym l))

-- Put there and surrounded, they are one parameter in front of what the buffer held.
pub surrounded :
    (tag : ℕ) (w out last d : List ℕ)
    → padded_length (length w) ≤ length out
    → last ≡ w
    → d ≡ param_octets (param tag (take (length w) (drop 4 (put_mid 4 (4 + length w - 4) out last)))) ++ drop (padded_length (length w)) (put_mid 4 (4 + length w - 4) out last)
    → d ≡ param_octets (param tag w) ++ drop (padded_length (length w)) out
surrounded tag w out last d room same e =
    let lent = put_mid 4 (4 + length w - 4) out last in
    let at4 : 4 + length w ≤ length out = omega arith in
    let size : length last ≡ 4 + length w - 4 = ap length same ∙ omega arith in
    let whole = extend_all last 4 (4 + length w - 4) (front out (omega arith)) (length-take-le 4 out (omega arith)) (omega arith) size in
    let b : Begun out (take 4 out ++ w) lent = subst (λ (v : List ℕ). Begun out (take 4 out ++ v) lent) same whole in
    e
    ∙ ap (λ (x : List ℕ). param_octets (param tag x) ++ drop (padded_length (length w)) lent) (lent-value out w lent at4 b)
    ∙ ap (λ (x : List ℕ). param_octets (param tag w) ++ x) (lent_beyond out w lent at4 b (padded_length (length w)) (omega arith))

-- Framed there by one that was lent the buffer from there on, they are one parameter in front of what the buffer held.
pub framed-there :
    (tag : ℕ) (w out last d : List ℕ) {a : Outcome ℕ}
    → length w ≤ most_value
    → padded_length (length w) ≤ length out
    → last ≡ w ++ drop (length w) (mid_of 4 (length out - 4) out)
    → record { answer = a; buffer = d } ≡ deliver (frame_param tag (length w) (put_mid 4 (length out - 4) out last)) (put_mid 4 (length out - 4) out last)
    → Begun out (param_octets (record { tag = tag; value = w })) d
framed-there tag w out last d small room le k =
    let q : Param = record { tag = tag; value = w } in
    let lent = put_mid 4 (length out - 4) out last in
    let at4 : 4 + length w ≤ length out = omega arith in
    let b = extend w last 4 (length out - 4) (front out (omega arith)) (length-take-le 4 out (omega arith)) (omega arith) (omega arith) le in
    let ll : length lent ≡ length out = b.same in
    let frame : frame_param tag (length w) lent ≡ accepted (param_octets q) =
    frame_known tag (length w) lent small (omega arith) ∙ ap (λ (x : List ℕ). accepted (param_octets (record { tag = tag; value = x }))) (lent-value out w lent at4 b) in
    let l = octets-length q in
    let held : d ≡ param_octets q ++ drop (length (param_octets q)) lent = deliver_buffer (param_octets q) lent (omega arith) (k ∙ ap (λ o. deliver o lent) frame) in
    begin out (param_octets q) d (omega arith) (held ∙ ap (λ (x : List ℕ). param_octets q ++ x) (lent_beyond out w lent at4 b (length (param_octets q)) (omega arith)))
