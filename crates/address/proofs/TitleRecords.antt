-- Titles read into records, and records written.
use Prim.Native.Nat.{ℕ, ◌+◌, ◌-◌, ◌/◌, ◌≤◌, ◌<◌}
use mathlib.Core.Path.{◌≡◌, refl, sym, ap, ◌∙◌}
use mathlib.Core.List.{List, [], ◌∷◌, ◌++◌}
use native.Mathlib.Omega.{arith}
use borrow.Author.Tests.{le-leb, lt-leb}
use lib.ListN.{length, get_or, take, drop, length-drop}
use lib.Seq.{take-append_seam, length-take-le}
use borrow.Rule.Slice.PartMut.{mid_of, put_mid}
use Rattle.bcd.specs.Outcome.{Outcome, accepted, refused, after, mapped, most, deliver}
use Rattle.bcd.specs.Digits.{built_in, digits_in, digits_record, read_digits, write_digits}
use Rattle.bcd.specs.declared.GtDigits.{GtDigits}
use Rattle.bcd.proofs.Outcomes.{accepted_inj, never, bounded-within, bounded_beyond, mapped_inv, deliver_refused, deliver_buffer}
use Rattle.bcd.proofs.Writing.{extend, delivered}
use Rattle.bcd.proofs.Characters.{built_in_lawful}
use Rattle.bcd.proofs.Writable.{write_inv}
use Rattle.address.specs.Address.{Title, title_in, read_title, title_octets, write_title}
use Rattle.address.specs.Records.{title_of, title_given, title_record}
use Rattle.address.specs.Titles.{zeros, record_of}
use Rattle.address.specs.Absent.{absent_at}
use Rattle.address.specs.Lengths.{title_length}
use Rattle.address.specs.declared.GlobalTitle.{GlobalTitle}
use Rattle.address.proofs.Copying.{lent_length}
use Rattle.address.proofs.Lending.{lent_refused, lent_accepted, refusal_same, short-first, front_kept, front-written}

-- Reading a title: 12, 1, or the record.
module _ (v : List ℕ) where
  abbrev recorded : Title → GlobalTitle
  recorded = record_of (absent_at built_in v)

  pub title_beyond : most < length v → refused 12 (length v ∷ []) ≡ mapped recorded (read_title built_in v)
  unfolding read_title
  title_beyond h = rw (bounded_beyond v (title_in built_in v) h)

  module _ (within : length v ≤ most) where
    pub title_few : length v < 8 → refused 1 (8 ∷ length v ∷ []) ≡ mapped recorded (read_title built_in v)
    unfolding read_title title_in
    title_few h = rw (bounded-within v (title_in built_in v) within, lt-leb 8 (length v) h)

    module _ (long : 8 ≤ length v) where
      abbrev digits : List ℕ
      digits = digits_in built_in (drop 8 v) (get_or v 4 0)

      abbrev read_so : Outcome GtDigits
      read_so = mapped (digits_record (get_or v 4 0)) (read_digits built_in (drop 8 v) (get_or v 4 0))

      digits-known : read_so ≡ accepted (digits_record (get_or v 4 0) digits)
      unfolding read_digits
      digits-known = ap (mapped (digits_record (get_or v 4 0))) (bounded-within (drop 8 v) (accepted digits) (omega (arith, length-drop 8 v)))

      pub title_done :
          (read : GtDigits)
          → accepted read ≡ read_so
          → accepted (title_record (get_or v 3 0) (get_or v 5 0) (get_or v 6 0) (get_or v 7 0) read.digits read.count read.absent)
          ≡ mapped recorded (read_title built_in v)
      unfolding read_title title_in
      title_done read e =
          let all : read ≡ digits_record (get_or v 4 0) digits = accepted_inj (e ∙ digits-known) in
          rw (bounded-within v (title_in built_in v) within, le-leb 8 (length v) long, all)

      pub title_never : {X : Type 0} (n : ℕ) (vs : List ℕ) → refused n vs ≡ read_so → X
      title_never n vs e = absurd (never (e ∙ digits-known))

-- Writing a record: 11, 9, 14, or its octets.
pub record_many : (g : GlobalTitle) (out : List ℕ) → 255 < g.count → record { answer = refused 11 (g.count ∷ []); buffer = out } ≡ deliver (after (title_given g) (write_title built_in)) out
record_many g out h = rw (lt-leb g.count 255 h) (deliver_refused 11 (g.count ∷ []) out)

module _ (g : GlobalTitle) (few : g.count ≤ 255) where
  abbrev cs : List ℕ
  cs = take g.count g.digits

  given : after (title_given g) (write_title built_in) ≡ mapped (title_octets (title_of g)) (write_digits built_in cs)
  unfolding write_title
  given = rw (le-leb g.count 255 few)

  -- How many octets there are, where the digits can be written.
  digits-size : (os : List ℕ) → write_digits built_in cs ≡ accepted os → length os ≡ (length cs + 1) / 2
  digits-size os e = omega (arith, (write_inv built_in built_in_lawful cs (length os) (sym (ap (mapped length) e))).count)

  pub record_size : (w : List ℕ) → after (title_given g) (write_title built_in) ≡ accepted w → length w ≡ title_length (title_of g)
  record_size w e =
      let (os, ho, made) = mapped_inv (title_octets (title_of g)) (write_digits built_in cs) (sym given ∙ e) in
      omega (arith, digits-size os ho, ap length made)

-- Its digits are those that the count tells.
pub digits_taken : (g : GlobalTitle) → g.count ≤ length g.digits → length (take g.count g.digits) ≡ g.count
digits_taken g h = length-take-le g.count g.digits h

module _ (g : GlobalTitle) (few : g.count ≤ 255) (long : 255 ≤ length g.digits) where
  taken : length (cs g few) ≡ g.count
  taken = digits_taken g (omega arith)

  size : (os : List ℕ) → write_digits built_in (cs g few) ≡ accepted os → length os ≡ (g.count + 1) / 2
  size os e = omega (arith, taken, digits-size g few os e)

  module _ (out : List ℕ) where
    pub record_short :
        {answer : Outcome ℕ}
        → answer ≡ after (mapped length (write_digits built_in (cs g few))) (λ (n : ℕ). refused 14 ((8 + (g.count + 1) / 2) ∷ []))
        → length out < 8 + (g.count + 1) / 2
        → record { answer = answer; buffer = out } ≡ deliver (after (title_given g) (write_title built_in)) out
    record_short e h =
        let os = write_digits built_in (cs g few) in
        let w = after (title_given g) (write_title built_in) in
        let short : Outcome ℕ = refused 14 ((8 + (g.count + 1) / 2) ∷ []) in
        let same = refusal_same length os short ∙ sym (refusal_same (title_octets (title_of g)) os short) ∙ ap (λ (o : Outcome (List ℕ)). after o (λ (v : List ℕ). short)) (sym (given g few)) ∙ sym (refusal_same length w short) in
        short-first w (8 + (g.count + 1) / 2) out (e ∙ same) (λ v k. omega (arith, taken, record_size g few v k)) h

    -- The digits are written first, and the rest in front of them.
    module _ (room : 8 + (g.count + 1) / 2 ≤ length out) where
      abbrev lent : List ℕ
      lent = mid_of 8 (length out - 8) out

      digits-room : (os : List ℕ) → write_digits built_in (cs g few) ≡ accepted os → length os ≤ length lent
      digits-room os e = omega (arith, size os e, lent_length out 8)

      pub record_refused :
          (last : List ℕ) {n : ℕ} {vs : List ℕ}
          → record { answer = refused n vs; buffer = last } ≡ deliver (write_digits built_in (cs g few)) lent
          → record { answer = refused n vs; buffer = put_mid 8 (length out - 8) out last } ≡ deliver (after (title_given g) (write_title built_in)) out
      record_refused last {n} {vs} e =
          let (bad, same) = lent_refused (write_digits built_in (cs g few)) 8 (length out - 8) out e digits-room in
          ap (λ (d : List ℕ). record { answer = refused n vs; buffer = d }) same
          ∙ deliver_refused n vs out
          ∙ ap (λ (o : Outcome (List ℕ)). deliver o out) (sym (given g few ∙ ap (mapped (title_octets (title_of g))) bad))

      abbrev front : List ℕ
      front = 0 ∷ 0 ∷ 0 ∷ g.gti ∷ g.count ∷ g.translation_type ∷ g.numbering_plan ∷ g.nature_of_address ∷ []

      pub record_put :
          (n : ℕ) (last d : List ℕ)
          → record { answer = accepted n; buffer = last } ≡ deliver (write_digits built_in (cs g few)) lent
          → d ≡ front ++ drop 8 (put_mid 8 (length out - 8) out last)
          → record { answer = accepted (8 + (g.count + 1) / 2); buffer = d } ≡ deliver (after (title_given g) (write_title built_in)) out
      record_put n last d e h =
          let (os, w) = lent_accepted (write_digits built_in (cs g few)) lent e in
          let fits = digits-room os w in
          let l = lent_length out 8 in
          let put = deliver_buffer os lent fits (e ∙ ap (λ (o : Outcome (List ℕ)). deliver o lent) w) in
          let eight = length-take-le 8 out (omega arith) in
          let behind = extend os last 8 (length out - 8) (front_kept out 8 (omega arith)) eight (omega arith) (omega arith) put in
          let x = front-written (take 8 out) os front d 8 behind eight refl h in
          let same : front ++ os ≡ title_octets (title_of g) os = rw taken in
          delivered (8 + (g.count + 1) / 2) x (omega (arith, size os w))
          ∙ ap (λ w. deliver (accepted w) out) same
          ∙ ap (λ (o : Outcome (List ℕ)). deliver o out) (sym (given g few ∙ ap (mapped (title_octets (title_of g))) w))

-- The record of a title stands for that title.
pub record_back : (absent : ℕ) (t : Title) → title_of (record_of absent t) ≡ t
record_back absent t = ap (λ ds. record { gti = t.gti; tt = t.tt; np = t.np; noa = t.noa; digits = ds }) (take-append_seam t.digits (drop (length t.digits) zeros))
