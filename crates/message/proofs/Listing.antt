-- A message read into a lent table, and written from one, over any message types.
use Prim.Native.Nat.{ℕ, ◌+◌, ◌-◌, ◌≤◌, ◌<◌}
use mathlib.Core.Path.{◌≡◌, refl, sym, ap, ◌∙◌}
use mathlib.Core.Logic.{⊎_elim}
use mathlib.Core.List.{List, [], ◌∷◌, ◌++◌}
use native.Mathlib.Omega.{arith}
use lib.ListN.{length, drop, length-take, length-drop}
use borrow.Author.Tests.{le-leb, lt-leb}
use borrow.Rule.Slice.PartMut.{mid_of, put_mid}
use Rattle.bcd.specs.Outcome.{Outcome, accepted, refused, after, mapped, each, most, bounded, fit64, Delivered, delivered, deliver}
use Rattle.bcd.proofs.Outcomes.{accepted_inj, never, le_or_lt, mapped_inv, bounded-within, deliver_refused, deliver_too_long, deliver_buffer, deliver_answer}
use Rattle.bcd.proofs.Writing.{Begun, begin, extend}
use Rattle.bcd.proofs.Writing.{delivered as written-delivered}
use Rattle.parameter.specs.Parameter.{Param, run_octets, encode_param, writable}
use Rattle.parameter.specs.Walk.{places}
use Rattle.parameter.specs.Table.{Table, Tabulated, tabulate}
use Rattle.parameter.proofs.RoundTrip.{encode_inv}
use Rattle.parameter.proofs.Running.{sum-writable}
use Rattle.message.specs.Kinds.{Kinds}
use Rattle.message.specs.Framed.{header_of, named_by, message_of, places_of, framed_of, octets_of, write_of, whole_length, headed_of}
use Rattle.message.specs.Listing.{listing, list_of}
use Rattle.message.proofs.Framing.{named_inv}

abbrev answer_of : Delivered → Outcome ℕ
answer_of d = d.answer

abbrev buffer_of : Delivered → List ℕ
buffer_of d = d.buffer

-- The length of the whole.
module _ (run room : ℕ) where
  pub whole_large : most < fit64 (8 + run) → whole_length run room ≡ refused 12 (fit64 (8 + run) ∷ [])
  whole_large h = rw (lt-leb (fit64 (8 + run)) most h)

  pub whole_beyond : fit64 (8 + run) ≤ most → room < fit64 (8 + run) → whole_length run room ≡ refused 14 (fit64 (8 + run) ∷ [])
  whole_beyond h k = rw (le-leb (fit64 (8 + run)) most h, lt-leb (fit64 (8 + run)) room k)

  pub whole_fits : fit64 (8 + run) ≤ most → fit64 (8 + run) ≤ room → whole_length run room ≡ accepted (fit64 (8 + run))
  whole_fits h k = rw (le-leb (fit64 (8 + run)) most h, le-leb (fit64 (8 + run)) room k)

module _ {K : Type 0} (T : Kinds K) where
  -- Reading

  pub list_refused : (xs : List ℕ) (t : Table) (n : ℕ) (vs : List ℕ) → named_by T xs ≡ refused n vs → listing (refused n vs) t ≡ list_of T xs t
  unfolding list_of places_of tabulate
  list_refused xs t n vs e = rw e

  pub named_within : (xs : List ℕ) (h : K × ℕ) → named_by T xs ≡ accepted h → length xs ≤ most
  named_within xs h e = (named_inv T xs h e).small

  pub list_stored :
      (xs : List ℕ) (t : Table) (h : K × ℕ) (stored : Tabulated)
      → named_by T xs ≡ accepted h
      → stored ≡ tabulate (bounded xs (places xs 8)) t
      → listing (mapped (λ n. (h.0, n)) stored.answer) stored.table ≡ list_of T xs t
  unfolding list_of places_of
  list_stored xs t h stored e k =
      let w : tabulate (bounded xs (places xs 8)) t ≡ tabulate (places xs 8) t = ap (λ o. tabulate o t) (bounded-within xs (places xs 8) (named_within xs h e)) in
      rw (e, ← (k ∙ w))

  -- Writing

  pub framed-length : (m : K) (os : List ℕ) → length (framed_of T m os) ≡ 8 + length os
  framed-length m os = omega arith

  pub written-framed :
      (m : K) (r : Outcome (List Param))
      → after r (λ ps. write_of T (message_of m ps)) ≡ after (after r (each encode_param)) (λ os. writable (framed_of T m os))
  unfolding write_of octets_of
  written-framed m (refused n vs) = refl
  written-framed m (accepted ps) = go (each encode_param ps) refl
    where
      go : (o : Outcome (List ℕ)) → each encode_param ps ≡ o → after o (λ _. writable (framed_of T m (run_octets ps))) ≡ after o (λ os. writable (framed_of T m os))
      go (refused n vs) e = refl
      go (accepted os) e = ap (λ (os : List ℕ). writable (framed_of T m os)) (encode_inv ps os e).run

  -- o is the parameters' octets or a refusal, and their length or the largest number of 64 bits was answered
  module _ (m : K) (o : Outcome (List ℕ)) (run total : ℕ) (e : accepted run ≡ mapped (λ (os : List ℕ). fit64 (length os)) o) (t : total ≡ fit64 (8 + run)) where
    abbrev message : Outcome (List ℕ)
    message = after o (λ os. writable (framed_of T m os))

    measured : (os : List ℕ) × (o ≡ accepted os) × (fit64 (length os) ≡ run)
    measured = mapped_inv (λ (os : List ℕ). fit64 (length os)) o (sym e)

    pub message_large : (out : List ℕ) → most < total → record { answer = refused 12 (total ∷ []); buffer = out } ≡ deliver message out
    message_large out h =
        let (os, a, k) = measured in
        let l = framed-length m os in
        let large : most < length (framed_of T m os) = omega arith in
        let same : fit64 (length (framed_of T m os)) ≡ total = omega arith in
        let w : refused 12 (total ∷ []) ≡ writable (framed_of T m os) = rw (lt-leb (length (framed_of T m os)) most large, same) in
        deliver_refused 12 (total ∷ []) out ∙ ap (λ o. deliver o out) (w ∙ sym (ap (λ o. after o (λ os. writable (framed_of T m os))) a))

    pub message-known : total ≤ most → (os : List ℕ) × (o ≡ accepted os) × (message ≡ accepted (framed_of T m os)) × (total ≡ 8 + length os)
    message-known h =
        let (os, a, k) = measured in
        let l = framed-length m os in
        let small : length (framed_of T m os) ≤ most = omega arith in
        let w : writable (framed_of T m os) ≡ accepted (framed_of T m os) = rw (le-leb (length (framed_of T m os)) most small) in
        (os, a, ap (λ o. after o (λ os. writable (framed_of T m os))) a ∙ w, omega arith)

    pub message-counted : total ≤ most → accepted total ≡ mapped length message
    message-counted h =
        let (os, a, w, n) = message-known h in
        ap accepted (n ∙ sym (framed-length m os)) ∙ sym (ap (mapped length) w)

  pub message_refused :
      (m : K) (o : Outcome (List ℕ)) (n : ℕ) (vs out : List ℕ)
      → refused n vs ≡ mapped (λ (os : List ℕ). fit64 (length os)) o
      → record { answer = refused n vs; buffer = out } ≡ deliver (after o (λ os. writable (framed_of T m os))) out
  message_refused m (accepted os) n vs out e = absurd (never e)
  message_refused m (refused k ws) n vs out e = let a : n ≡ k = cc in let b : vs ≡ ws = cc in rw (a, b) (deliver_refused k ws out)

  -- What a header that was written leaves.
  pub record Headed (m : K) (run total : ℕ) (out d : List ℕ) : Type 0 where
    pub size : total ≡ fit64 (8 + run)
    pub small : total ≤ most
    pub room : total ≤ length out
    pub front : d ≡ header_of T 1 m total ++ drop 8 out

  pub headed_known :
      (m : K) (run total : ℕ) (out d : List ℕ)
      → delivered (accepted total) d ≡ headed_of T m (whole_length run (length out)) out
      → Headed m run total out d
  headed_known m run total out d k = ⊎_elim within beyond (le_or_lt (fit64 (8 + run)) most)
    where
      beyond : most < fit64 (8 + run) → Headed m run total out d
      beyond h = absurd (never (sym (ap answer_of (k ∙ ap (λ w. headed_of T m w out) (whole_large run (length out) h)))))

      within : fit64 (8 + run) ≤ most → Headed m run total out d
      within h = ⊎_elim fits short (le_or_lt (fit64 (8 + run)) (length out))
        where
          short : length out < fit64 (8 + run) → Headed m run total out d
          short l = absurd (never (sym (ap answer_of (k ∙ ap (λ w. headed_of T m w out) (whole_beyond run (length out) h l)))))

          fits : fit64 (8 + run) ≤ length out → Headed m run total out d
          fits l =
              let e = k ∙ ap (λ w. headed_of T m w out) (whole_fits run (length out) h l) in
              let same : total ≡ fit64 (8 + run) = accepted_inj (ap answer_of e) in
              record {
                size = same;
                small = omega arith;
                room = omega arith;
                front = rw same (ap buffer_of e);
              }

  -- A header that is refused is the message's refusal.
  module _ (m : K) (o : Outcome (List ℕ)) (run : ℕ) (e : accepted run ≡ mapped (λ (os : List ℕ). fit64 (length os)) o) where
    pub headed_refused :
        (n : ℕ) (vs out d : List ℕ)
        → delivered (refused n vs) d ≡ headed_of T m (whole_length run (length out)) out
        → record { answer = refused n vs; buffer = d } ≡ deliver (after o (λ os. writable (framed_of T m os))) out
    headed_refused n vs out d k = ⊎_elim within beyond (le_or_lt (fit64 (8 + run)) most)
      where
        Goal : Type 0
        Goal = record { answer = refused n vs; buffer = d } ≡ deliver (after o (λ os. writable (framed_of T m os))) out

        beyond : most < fit64 (8 + run) → Goal
        beyond h = k ∙ ap (λ w. headed_of T m w out) (whole_large run (length out) h) ∙ message_large m o run (fit64 (8 + run)) e refl out h

        within : fit64 (8 + run) ≤ most → Goal
        within h = ⊎_elim fits short (le_or_lt (fit64 (8 + run)) (length out))
          where
            short : length out < fit64 (8 + run) → Goal
            short l =
                k ∙ ap (λ w. headed_of T m w out) (whole_beyond run (length out) h l)
                ∙ deliver_too_long _ _ out (message-counted m o run (fit64 (8 + run)) e refl h) l

            fits : fit64 (8 + run) ≤ length out → Goal
            fits l = absurd (never (ap answer_of (k ∙ ap (λ w. headed_of T m w out) (whole_fits run (length out) h l))))

    -- behind a header, the parameters in the rest of the buffer
    module _ (total : ℕ) (out d : List ℕ) (k : delivered (accepted total) d ≡ headed_of T m (whole_length run (length out)) out) (q : Outcome (List ℕ)) (same : q ≡ after o writable) where
      head : Headed m run total out d
      head = headed_known m run total out d k

      known : (os : List ℕ) × (o ≡ accepted os) × (after o (λ os. writable (framed_of T m os)) ≡ accepted (framed_of T m os)) × (total ≡ 8 + length os)
      known = message-known m o run total e head.size head.small

      listed : q ≡ accepted known.0
      listed = same ∙ sum-writable o run e (omega (arith, head.size, head.small)) ∙ known.1

      begun : Begun out (header_of T 1 m total) d
      begun = begin out (header_of T 1 m total) d (omega (arith, head.room, known.3)) head.front

      lent : length (mid_of 8 (length d - 8) d) ≡ length d - 8
      lent = rw (length-take (length d - 8) (drop 8 d), length-drop 8 d) (omega arith)

      pub rest_accepted : {last : List ℕ} {n : ℕ} {vs : List ℕ} → record { answer = refused n vs; buffer = last } ≡ deliver q (mid_of 8 (length d - 8) d) → ⊥
      rest_accepted rest =
          never (deliver_answer known.0 (mid_of 8 (length d - 8) d) (omega (arith, lent, begun.same, head.room, known.3)) (rest ∙ ap (λ o. deliver o (mid_of 8 (length d - 8) d)) listed))

      pub message-done :
          {b : Outcome ℕ} {last : List ℕ}
          → record { answer = b; buffer = last } ≡ deliver q (mid_of 8 (length d - 8) d)
          → record { answer = accepted total; buffer = put_mid 8 (length d - 8) d last } ≡ deliver (after o (λ os. writable (framed_of T m os))) out
      message-done {b} {last} rest =
          let os = known.0 in
          let n = known.3 in
          let b2 =
          extend os last 8 (length d - 8) begun refl (omega (arith, begun.same, head.room, n)) (omega (arith, begun.same, head.room, n))
          (deliver_buffer os (mid_of 8 (length d - 8) d) (omega (arith, lent, begun.same, head.room, n)) (rest ∙ ap (λ o. deliver o (mid_of 8 (length d - 8) d)) listed)) in
          let frame : header_of T 1 m total ++ os ≡ framed_of T m os = ap (λ (k : ℕ). header_of T 1 m k ++ os) n in
          rw known.2 (written-delivered total b2 (omega (arith, n)) ∙ ap (λ (w : List ℕ). deliver (accepted w) out) frame)

  -- Where there is room for a header, it is not refused.
  pub header_room : (m : K) (total : ℕ) (out : List ℕ) {d : List ℕ} {n : ℕ} {vs : List ℕ} → 8 ≤ length out → record { answer = refused n vs; buffer = d } ≡ deliver (accepted (header_of T 1 m total)) out → ⊥
  header_room m total out room head = never (deliver_answer (header_of T 1 m total) out room head)

  -- A message of too many octets.
  pub header_large :
      (m : K) (run total : ℕ) (out : List ℕ)
      → total ≡ fit64 (8 + run)
      → most < total
      → delivered (refused 12 (total ∷ [])) out ≡ headed_of T m (whole_length run (length out)) out
  header_large m run total out t h =
      ap (λ (n : ℕ). delivered (refused 12 (n ∷ [])) out) t ∙ sym (ap (λ w. headed_of T m w out) (whole_large run (length out) (omega (arith, t, h))))

  -- The header written is the definition's.
  pub header_put :
      (m : K) (run total : ℕ) (out d : List ℕ) {a : Outcome ℕ}
      → total ≡ fit64 (8 + run)
      → total ≤ most
      → total ≤ length out
      → record { answer = a; buffer = d } ≡ deliver (accepted (header_of T 1 m total)) out
      → delivered (accepted total) d ≡ headed_of T m (whole_length run (length out)) out
  header_put m run total out d t small fits put =
      let whole : whole_length run (length out) ≡ accepted total = rw t (whole_fits run (length out) (omega arith) (omega arith)) in
      let front = deliver_buffer (header_of T 1 m total) out (omega arith) put in
      rw whole (ap (delivered (accepted total)) front)
