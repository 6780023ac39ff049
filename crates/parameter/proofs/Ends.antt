-- What comes behind the end of a walk, and behind a refusal: the end.
use Prim.Native.Nat.{ℕ}
use mathlib.Core.Path.{◌≡◌, refl, sym, ap₂, ◌∙◌}
use mathlib.Core.List.{List}
use native.Mathlib.Omega.{arith}
use Rattle.std.specs.Prelude.{Option, None, Some, Result, Ok, Err}
use Rattle.bcd.specs.Outcome.{Outcome, accepted, bounded}
use Rattle.bcd.specs.declared.error.Refusal.{Refusal}
use Rattle.bcd.proofs.Outcomes.{never, bounded-within}
use Rattle.parameter.specs.declared.Place.{Place}
use Rattle.parameter.specs.Walk.{Walked, ended, found, step_at}
use Rattle.parameter.specs.Items.{GivesBy, Gives}
use Rattle.parameter.proofs.Walking.{step_end}

unlike : {p : Place} {next : ℕ} → ◌≡◌ {A = Outcome Walked} (accepted (found p next)) (accepted ended) → ⊥
unlike e = let z : ◌≡◌ {A = ℕ} 0 1 = cc in omega arith

-- Where a step finds the end, so does the iterator.
module _ (step : List ℕ → ℕ → Outcome Walked) where
  at_end :
      (xs : List ℕ) (at : ℕ) (r : Option (Result Place Refusal)) (left : List ℕ) (next : ℕ)
      → accepted ended ≡ step xs at
      → GivesBy step xs at r left next
      → r ≡ None
  at_end xs at None left next e g = refl
  at_end xs at (Some (Ok p)) left next e g = absurd (unlike (g.1 ∙ sym e))
  at_end xs at (Some (Err r)) left next e g = absurd (never (g.1 ∙ sym e))

  -- Behind the end comes the end again, whatever the steps are.
  pub end_again :
      (xs : List ℕ) (at : ℕ) (left : List ℕ) (next : ℕ) (r : Option (Result Place Refusal)) (last : List ℕ) (behind : ℕ)
      → GivesBy step xs at None left next
      → GivesBy step left next r last behind
      → r ≡ None
  end_again xs at left next r last behind g h = at_end left next r last behind (g.1 ∙ ap₂ step (sym g.0) (sym g.2)) h

-- Behind a refusal comes the end: it is the last item.
pub refusal_last :
    (xs : List ℕ) (at : ℕ) (e : Refusal) (left : List ℕ) (next : ℕ) (r : Option (Result Place Refusal)) (last : List ℕ) (behind : ℕ)
    → Gives xs at (Some (Err e)) left next
    → Gives left next r last behind
    → r ≡ None
refusal_last xs at e left next r last behind g h =
    let end : bounded left (step_at left next) ≡ accepted ended =
    bounded-within left _ (omega (arith, g.0)) ∙ step_end left next (omega (arith, g.0)) in
    at_end (λ xs at. bounded xs (step_at xs at)) left next r last behind (sym end) h
