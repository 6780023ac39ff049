-- What a walk over a flat list gives, record by record.
use Rattle.std.specs.Prelude.{ℕ, ◌+◌, ◌≤◌, List, length, Option, None, Some, Result, Ok, Err}
use Rattle.bcd.specs.Outcome.{Outcome, accepted, refused}
use Rattle.bcd.specs.Answers.{refusal_of}
use Rattle.bcd.specs.declared.error.Refusal.{Refusal}
use Rattle.parameter.specs.declared.Place.{Place}
use Rattle.parameter.specs.Walk.{Walked, ended, found}
use Rattle.parameter.specs.Items.{GivesBy}
use Rattle.flat.specs.Flat.{flat_step}

-- The end of the list, or a record's place; the next record starts behind the value.
abbrev pub entry_of : Result (Option Place) Refusal → Outcome Walked
entry_of (Ok None) = accepted ended
entry_of (Ok (Some p)) = accepted (found p (p.start + p.length))
entry_of (Err r) = refusal_of r

-- What the iterator gives, by the records of the list; 15.
abbrev pub Gives : (xs : List ℕ) (at : ℕ) → Option (Result Place Refusal) → (left : List ℕ) (next : ℕ) → Type 0
Gives = GivesBy flat_step

-- Octets that are known, and fit in so many places.
abbrev pub ListFits : Outcome (List ℕ) → (room : ℕ) → Type 0
ListFits (accepted os) room = length os ≤ room
ListFits (refused n vs) room = ⊥
