-- The laws of one call, and of a day of calls as messages that are counted.
use Prim.Native.Nat.{ℕ, zero, suc, ◌+◌, ◌≤◌, ◌<◌}
use mathlib.Core.Path.{◌≡◌, refl, sym, ap, ◌∙◌}
use mathlib.Core.Bool.{Bool, true, false, ◌&&◌}
use mathlib.Core.List.{List, [], ◌∷◌}
use native.Mathlib.Omega.{arith}
use lib.ListN.{length, get_or, length-replicate, replicate}
use lib.Dec.{eqb}
use borrow.Author.Tests.{eq-eqb, eqb-true, lt-ltb}
use Rattle.std.specs.List.{sum}
use Rattle.bcd.specs.Outcome.{accepted, refused, after, All, Octets}
use Rattle.bcd.proofs.Outcomes.{accepted_inj, never, octets-of}
use Rattle.bcd.proofs.Below.{both}
use Rattle.tally.specs.declared.place.Gain.{Gain}
use Rattle.tally.specs.Members.{members, valid_members}
use Rattle.tally.specs.Rows.{Rows, no_rows, most_messages, within, valid_rows, gained}
use Rattle.tally.specs.Tally.{placed, Tallied, tallied, tally, day}
use Rattle.tally.specs.Facts.{whole_day}
use Rattle.tally.specs.Steps.Room.{HasRoom}
use Rattle.tally.proofs.Lists.{sum_cons, below_sum}
use Rattle.tally.proofs.Rules.{valid_rows_lem}
use Rattle.tally.proofs.Loading.{members-length}
use Rattle.tally.proofs.Raising.{sum-raised}
use Rattle.tally.proofs.Placing.{placed_row, placed-octets}
use Rattle.tally.proofs.Counting.{Sound, gained_sound, counted}

pub row_within : (ds ns xs : List ℕ) → (placed (members ds ns) xs).row < length ns + 2
row_within ds ns xs = omega (arith, placed_row (members ds ns) xs, members-length ds ns)

-- Rows that can gain a message.
module _ (n : ℕ) (r : Rows) where
  pub sound_valid : Sound n r → sum r.messages < most_messages → valid_rows n r ≡ true
  unfolding valid_rows
  sound_valid s h = rw (
    eq-eqb (length r.messages) (n + 2) s.messages,
    eq-eqb (length r.octets) (n + 2) s.octets,
    lt-ltb (sum r.messages) most_messages h,
  ) s.covered

  pub valid_length : valid_rows n r ≡ true → length r.messages ≡ n + 2
  unfolding valid_rows
  valid_length h = eqb-true (length r.messages) (n + 2) (both (eqb (length r.messages) (n + 2)) _ h).0

pub none_sound : (n : ℕ) → Sound n (no_rows n)
none_sound n = record {
  messages = length-replicate (n + 2) 0;
  octets = length-replicate (n + 2) 0;
  covered = covered (n + 2);
}
  where
    covered : (k : ℕ) → within (replicate k 0) (replicate k 0) ≡ true
    covered zero = refl
    covered (suc k) = covered k

pub none_sum : (n : ℕ) → sum (replicate n 0) ≡ 0
none_sum zero = refl
none_sum (suc n) = omega (arith, none_sum n, sum_cons 0 (replicate n 0))

module _ (ds ns : List ℕ) where
  -- What a message adds under the list.
  abbrev pub adds : List ℕ → Gain
  adds = placed (members ds ns)

  -- The list and the rows are valid.
  abbrev pub usable : Rows → Bool
  usable held = valid_members ds ns && valid_rows (length ns) held

  -- A call that is refused, and one that is not.
  pub call_refused : (xs : List ℕ) (held : Rows) → usable held ≡ false → tally ds ns xs held ≡ tallied (refused 16 []) held
  unfolding tally
  call_refused xs held h = rw h

  pub call_counts : (xs : List ℕ) (held : Rows) → usable held ≡ true → tally ds ns xs held ≡ tallied (accepted (adds xs).row) (gained (adds xs) held)
  unfolding tally
  call_counts xs held h = rw h

  pub call_gains :
      (xs : List ℕ) (held : Rows) (g : Gain)
      → usable held ≡ true
      → g ≡ adds xs
      → tally ds ns xs held ≡ tallied (accepted g.row) (gained g held)
  call_gains xs held g h e = call_counts xs held h ∙ ap (λ (g : Gain). tallied (accepted g.row) (gained g held)) (sym e)

  pub day_next :
      (xs : List ℕ) (ms : List (List ℕ)) (held : Rows)
      → usable held ≡ true
      → day ds ns (xs ∷ ms) held ≡ day ds ns ms (gained (adds xs) held)
  day_next xs ms held h =
      ap (λ (t : Tallied). after t.answer (λ row. day ds ns ms t.rows)) (call_counts xs held h)

  pub day_inv :
      (xs : List ℕ) (ms : List (List ℕ)) (held r : Rows)
      → day ds ns (xs ∷ ms) held ≡ accepted r
      → (usable held ≡ true) × (day ds ns ms (gained (adds xs) held) ≡ accepted r)
  day_inv xs ms held r e = told (usable held) refl
    where
      told : (t : Bool) → usable held ≡ t → (usable held ≡ true) × (day ds ns ms (gained (adds xs) held) ≡ accepted r)
      told true h = (h, sym (day_next xs ms held h) ∙ e)
      told false h =
          absurd (never (sym (ap (λ (t : Tallied). after t.answer (λ row. day ds ns ms t.rows)) (call_refused xs held h)) ∙ e))

  -- A day that is accepted has counted its messages.
  pub day-counted : (ms : List (List ℕ)) (held r : Rows) → day ds ns ms held ≡ accepted r → r ≡ counted adds ms held
  day-counted [] held r e = sym (accepted_inj e)
  day-counted (xs ∷ ms) held r e = day-counted ms (gained (adds xs) held) r (day_inv xs ms held r e).1

  pub day-sum : (ms : List (List ℕ)) (held r : Rows) → day ds ns ms held ≡ accepted r → sum r.messages ≡ sum held.messages + length ms
  day-sum [] held r e = omega (arith, ap (λ (r : Rows). sum r.messages) (accepted_inj e))
  day-sum (xs ∷ ms) held r e =
      let (h, more) = day_inv xs ms held r e in
      let size = valid_length (length ns) held (both (valid_members ds ns) _ h).1 in
      let one = sum-raised (adds xs).row 1 held.messages (omega (arith, row_within ds ns xs)) in
      omega (arith, day-sum ms (gained (adds xs) held) r more)

  module _ (v : valid_members ds ns ≡ true) where
    -- A day from rows that have room for its messages is accepted.
    pub day_accepted :
        (ms : List (List ℕ)) (held : Rows)
        → All Octets ms
        → Sound (length ns) held
        → sum held.messages + length ms ≤ most_messages
        → (day ds ns ms held ≡ accepted (counted adds ms held)) × Sound (length ns) (counted adds ms held)
    day_accepted [] held o s h = (refl, s)
    day_accepted (xs ∷ ms) held o s h =
        let u : usable held ≡ true = rw (v, sound_valid (length ns) held s (omega arith)) in
        let more = gained_sound (length ns) (adds xs) held (placed-octets (members ds ns) xs o.0) s in
        let one = sum-raised (adds xs).row 1 held.messages (omega (arith, row_within ds ns xs)) in
        let (e, t) = day_accepted ms (gained (adds xs) held) o.1 more (omega arith) in
        (day_next xs ms held u ∙ e, t)

    pub whole_accepted :
        (ms : List (List ℕ))
        → All Octets ms
        → length ms ≤ most_messages
        → (whole_day ds ns ms ≡ accepted (counted adds ms (no_rows (length ns)))) × Sound (length ns) (counted adds ms (no_rows (length ns)))
    whole_accepted ms o few = day_accepted ms (no_rows (length ns)) o (none_sound (length ns)) (omega (arith, none_sum (length ns + 2)))

-- Valid rows have room for what a message adds.
pub has_room :
    (ds ns xs : List ℕ) (r : Rows)
    → ((i : ℕ) → get_or xs i 0 < 256)
    → valid_rows (length ns) r ≡ true
    → HasRoom (placed (members ds ns) xs) r
has_room ds ns xs r octets valid =
    let g = placed (members ds ns) xs in
    let o = (valid_rows_lem (length ns) r).0 valid in
    let row = row_within ds ns xs in
    let few = below_sum g.row r.messages in
    let covered = o.covered g.row in
    let short = placed-octets (members ds ns) xs (octets-of xs octets) in
    record {
      messages = omega (arith, row, o.messages);
      octets = omega (arith, row, o.octets);
      one = omega (arith, few, o.few);
      more = omega (arith, few, o.few, covered, short);
    }
