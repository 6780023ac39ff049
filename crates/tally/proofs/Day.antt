-- The theorems of the day tally (document 02, CR 1).
use Prim.Native.Nat.{ℕ, ◌+◌, ◌≤◌}
use mathlib.Core.Path.{◌≡◌, refl, sym, ap, ap₂, subst₂, ◌∙◌}
use mathlib.Core.Bool.{Bool, true, false, and-false}
use mathlib.Core.Logic.{◌⊎◌, ⊎_elim}
use mathlib.Core.List.{List, [], ◌∷◌, ◌++◌, map, flatten, Permᴰ}
use native.Mathlib.Omega.{arith}
use lib.ListN.{length, length-append}
use Rattle.std.specs.List.{sum}
use Rattle.bcd.specs.Outcome.{accepted, refused, All, Octets}
use Rattle.bcd.proofs.Outcomes.{never}
use Rattle.tally.specs.Members.{members, valid_members}
use Rattle.tally.specs.Rows.{Rows, no_rows, most_messages, valid_rows}
use Rattle.tally.specs.Tally.{Tallied, tallied, tally}
use Rattle.tally.specs.Facts.{whole_day, Near, plus, total}
use Rattle.tally.proofs.Placing.{placed-octets}
use Rattle.tally.proofs.Counting.{all_order, length_order, all_split, gained_near, counted, counted_middle, counted_order, counted-parts}
use Rattle.tally.proofs.Calls.{none_sum, adds, usable, call_refused, call_counts, day-counted, day-sum, whole_accepted}

module _ (ds ns xs : List ℕ) (held : Rows) where
  -- An invalid list and invalid rows are refused as 16 whatever the message is, and the rows stay as they were.
  pub list_first : (valid_members ds ns ≡ false) ⊎ (valid_rows (length ns) held ≡ false) → tally ds ns xs held ≡ tallied (refused 16 []) held
  list_first = ⊎_elim (λ h. call_refused ds ns xs held (rw h)) (λ h. call_refused ds ns xs held (rw h (and-false (valid_members ds ns))))

  -- A call that refuses refuses as 16, and leaves the rows as they were.
  pub refused_unaltered : (n : ℕ) (vs : List ℕ) → (tally ds ns xs held).answer ≡ refused n vs → tally ds ns xs held ≡ tallied (refused 16 []) held
  refused_unaltered n vs e = told (usable ds ns held) refl
    where
      told : (t : Bool) → usable ds ns held ≡ t → tally ds ns xs held ≡ tallied (refused 16 []) held
      told true h = absurd (never (sym e ∙ ap (λ (t : Tallied). t.answer) (call_counts ds ns xs held h)))
      told false h = call_refused ds ns xs held h

module _ (ds ns : List ℕ) where
  -- The messages of the rows add up to the messages of the day.
  pub adds_up : (ms : List (List ℕ)) (r : Rows) → whole_day ds ns ms ≡ accepted r → sum r.messages ≡ length ms
  adds_up ms r e = omega (arith, day-sum ds ns ms (no_rows (length ns)) r e, none_sum (length ns + 2))

  -- One message put for another moves no row by more than one message and 65,531 octets.
  pub swap :
      (before behind : List (List ℕ)) (x y : List ℕ) (r s : Rows)
      → Octets x
      → Octets y
      → whole_day ds ns (before ++ x ∷ behind) ≡ accepted r
      → whole_day ds ns (before ++ y ∷ behind) ≡ accepted s
      → Near r s
  swap before behind x y r s ox oy hr hs =
      let none = no_rows (length ns) in
      let others = counted (adds ds ns) behind (counted (adds ds ns) before none) in
      subst₂ Near
      (sym (day-counted ds ns (before ++ x ∷ behind) none r hr ∙ counted_middle (adds ds ns) before behind x none))
      (sym (day-counted ds ns (before ++ y ∷ behind) none s hs ∙ counted_middle (adds ds ns) before behind y none))
      (gained_near (adds ds ns x) (adds ds ns y) others (placed-octets (members ds ns) x ox) (placed-octets (members ds ns) y oy))

  -- Under a valid list.
  module _ (v : valid_members ds ns ≡ true) where
    module _ (ms : List (List ℕ)) (o : All Octets ms) (few : length ms ≤ most_messages) where
      -- No call of a day refuses, and the rows stay two more than the members.
      pub never_refused :
          (r : Rows)
          × (whole_day ds ns ms ≡ accepted r)
          × (length r.messages ≡ length ns + 2)
          × (length r.octets ≡ length ns + 2)
      never_refused = let (e, s) = whole_accepted ds ns v ms o few in (_, e, s.messages, s.octets)

      -- Any other order of the messages gives the same rows.
      pub any_order : (ks : List (List ℕ)) → Permᴰ ms ks → whole_day ds ns ks ≡ whole_day ds ns ms
      any_order ks p =
          let (e, s) = whole_accepted ds ns v ms o few in
          let (f, t) = whole_accepted ds ns v ks (all_order Octets p o) (omega (arith, length_order p)) in
          f ∙ sym (e ∙ ap accepted (counted_order (adds ds ns) p (no_rows (length ns))))

    -- A day can be tallied in parts: its rows are the rows of the parts, each from rows at 0, added up.
    pub in_parts :
        (parts : List (List (List ℕ)))
        → All Octets (flatten parts)
        → length (flatten parts) ≤ most_messages
        → (rs : List Rows)
        × (map (whole_day ds ns) parts ≡ map accepted rs)
        × (whole_day ds ns (flatten parts) ≡ accepted (total (length ns) rs))
    unfolding flatten total
    in_parts [] o few = ([], refl, refl)
    in_parts (part ∷ parts) o few =
        let (here, behind) = all_split Octets part (flatten parts) o in
        let size = length-append part (flatten parts) in
        let (rs, apart, rest) = in_parts parts behind (omega arith) in
        let (e, s) = whole_accepted ds ns v part here (omega arith) in
        let (f, t) = whole_accepted ds ns v (part ++ flatten parts) o few in
        let r = counted (adds ds ns) part (no_rows (length ns)) in
        let sums = counted-parts (adds ds ns) (length ns) part (flatten parts) s in
        let others = day-counted ds ns (flatten parts) (no_rows (length ns)) (total (length ns) rs) rest in
        (r ∷ rs, ap₂ (λ o os. o ∷ os) e apart, f ∙ ap accepted (sums ∙ ap (plus r) (sym others)))
