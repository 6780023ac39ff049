-- What the iterator over a run of parameters gives.
use Rattle.std.specs.Prelude.{ℕ, ◌≡◌, ◌+◌, ◌-◌, List, length, Option, None, Some, Result, Ok, Err}
use Rattle.bcd.specs.Outcome.{Outcome, accepted, bounded}
use Rattle.bcd.specs.Answers.{refusal_of}
use Rattle.bcd.specs.declared.error.Refusal.{Refusal}
use Rattle.parameter.specs.declared.Place.{Place}
use Rattle.parameter.specs.Walk.{Walked, ended, found, step_at}

-- An item is what a step finds at the position, and the position moves on. At the end all stays as it is, so that the end comes
-- again; after a refusal the position stays and no octets are left.
abbrev pub GivesBy :
    (step : List ℕ → ℕ → Outcome Walked) (xs : List ℕ) (at : ℕ)
    → Option (Result Place Refusal)
    → (left : List ℕ) (next : ℕ)
    → Type 0
GivesBy step xs at None left next = (left ≡ xs) × (accepted ended ≡ step xs at) × (next ≡ at)
GivesBy step xs at (Some (Ok p)) left next = (left ≡ xs) × (accepted (found p next) ≡ step xs at)
GivesBy step xs at (Some (Err r)) left next = (length left ≡ 0) × (refusal_of r ≡ step xs at) × (next ≡ at)

-- By the steps of a walk over parameters; 12, then 5 or 6.
abbrev pub Gives : (xs : List ℕ) (at : ℕ) → Option (Result Place Refusal) → (left : List ℕ) (next : ℕ) → Type 0
Gives = GivesBy (λ xs at. bounded xs (step_at xs at))

-- No more items come than this.
abbrev pub Left : List ℕ → ℕ → ℕ
Left xs at = length xs + (length xs - at)
