-- Which outcome each answer of the code is (document 01, 'Choosing the form by place', last paragraph).
use Rattle.std.specs.Prelude.{ℕ, Option, None, Some, Result, Ok, Err}
use Rattle.bcd.specs.Outcome.{Outcome, accepted}
use Rattle.bcd.specs.Answers.{refusal_of}
use Rattle.bcd.specs.declared.error.Refusal.{Refusal}
use Rattle.parameter.specs.Walk.{Walked, ended, found, Taken}
use Rattle.parameter.specs.declared.Place.{Place}
use Rattle.parameter.specs.declared.Cursor.{Cursor}

-- A step of the cursor: the end of the run, or a parameter with the cursor moved on.
abbrev pub step_of : Result (Option (Place × Cursor)) Refusal → Outcome Walked
step_of (Ok None) = accepted ended
step_of (Ok (Some x)) = accepted (found x.0 x.1.at)
step_of (Err r) = refusal_of r

-- One parameter read: its place, and how many octets it took.
abbrev pub one_of : Result (Place × ℕ) Refusal → Outcome Taken
one_of (Ok x) = accepted (record { place = x.0; consumed = x.1 })
one_of (Err r) = refusal_of r
