-- What a table holds after places were stored in it, or were refused.
use Prim.Native.Nat.{ℕ, ◌+◌, ◌≤◌, ◌<◌}
use mathlib.Core.Path.{◌≡◌, refl, sym, ap, ◌∙◌}
use mathlib.Core.List.{List, [], ◌∷◌, append-nil}
use native.Mathlib.Omega.{arith}
use borrow.Author.Tests.{le-leb, lt-leb}
use lib.ListN.{length, set, drop_of_length-le}
use Rattle.bcd.specs.Outcome.{Outcome, accepted, refused, mapped, bounded}
use Rattle.bcd.proofs.Outcomes.{accepted_inj, never}
use Rattle.parameter.specs.declared.Place.{Place}
use Rattle.bcd.proofs.Writing.{Begun, store}
use Rattle.parameter.specs.Table.{Table, over, tabulate}
use Rattle.parameter.specs.Walk.{ended, found, step_at, places}
use Rattle.parameter.proofs.Reaching.{Passed, passed_next, passed_end}

pub tabulate-short : (ps : List Place) (t : Table) → length t < length ps → record { answer = refused 13 (length ps ∷ []); table = t } ≡ tabulate (accepted ps) t
unfolding tabulate
tabulate-short ps t h = rw (lt-leb (length ps) (length t) h)

pub tabulate_fits : (ps : List Place) (t : Table) → length ps ≤ length t → record { answer = accepted (length ps); table = over ps t } ≡ tabulate (accepted ps) t
unfolding tabulate
tabulate_fits ps t h = rw (le-leb (length ps) (length t) h)

-- places stored in front of the others are what the table holds
pub table_filled :
    (o : Outcome (List Place)) (ps : List Place) (n : ℕ) (t held : Table)
    → o ≡ accepted ps
    → length ps ≡ n
    → n ≤ length t
    → held ≡ over ps t
    → record { answer = accepted n; table = held } ≡ tabulate o t
table_filled o ps n t held e l room same = rw (e, same, ← l) (tabulate_fits ps t (omega arith))

-- what the count says of the table: too small, or refused
pub table_small :
    (o : Outcome (List Place)) (n : ℕ) (t : Table)
    → accepted n ≡ mapped length o
    → length t < n
    → record { answer = refused 13 (n ∷ []); table = t } ≡ tabulate o t
table_small (accepted ps) n t e h = let k : n ≡ length ps = accepted_inj e in rw k (tabulate-short ps t (omega arith))
table_small (refused m vs) n t e h = absurd (never (sym e))

pub table_refused :
    (o : Outcome (List Place)) (m : ℕ) (vs : List ℕ) (t : Table)
    → refused m vs ≡ mapped length o
    → record { answer = refused m vs; table = t } ≡ tabulate o t
unfolding tabulate
table_refused (accepted ps) m vs t e = absurd (never e)
table_refused (refused k ws) m vs t e = let a : m ≡ k = cc in let b : vs ≡ ws = cc in rw (a, b)

-- A walk by the iterator, past n parameters, whose places are stored from the front.
pub record Filling (xs : List ℕ) (from : ℕ) (out d : Table) (n : ℕ) (left : List ℕ) (at : ℕ) : Type 0 where
  pub passed : Passed xs from n left at
  pub begun : Begun out passed.reached.done d

module _ {xs left : List ℕ} {from n at : ℕ} {out d : Table} (f : Filling xs from out d n left at) where
  pub filling_next :
      {later : List ℕ} (p : Place) (next : ℕ)
      → n < length out
      → later ≡ left
      → accepted (found p next) ≡ bounded left (step_at left at)
      → Filling xs from out (set d n p) (n + 1) later next
  filling_next p next room same e =
      record { passed = passed_next f.passed p next same e; begun = store n p f.begun (sym f.passed.counted) room }

  -- all rows hold what the walk found
  pub filling_end : accepted (length out) ≡ mapped length (bounded xs (places xs from)) → accepted ended ≡ bounded left (step_at left at) → accepted d ≡ bounded xs (places xs from)
  filling_end known e =
      let all = passed_end f.passed e in
      let long : length out ≡ length f.passed.reached.done = accepted_inj (known ∙ ap (mapped length) all) in
      let whole : d ≡ f.passed.reached.done = f.begun.holds ∙ rw (drop_of_length-le out {i = length f.passed.reached.done} (omega (arith, long)), append-nil) refl in
      ap accepted whole ∙ sym all
