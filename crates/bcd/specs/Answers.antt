-- The number and the values of each case of the code's answers: document 01's ('Choosing the form by place', last paragraph)
-- up to 15, then document 02's.
use Rattle.std.specs.Prelude.{ℕ, List, [], ◌∷◌, Result, Ok, Err}
use Rattle.bcd.specs.Outcome.{Outcome, accepted, refused}
use Rattle.bcd.specs.declared.error.Refusal.{Refusal}
use Rattle.bcd.specs.declared.error.Refusal.TheVariants as R

-- Each refusal's number, and the values returned with it in the documents' order.
abbrev pub numbered : Refusal → ℕ × List ℕ
numbered (R.TooShort expected actual) = (1, expected ∷ actual ∷ [])
numbered (R.InvalidVersion octet) = (2, octet ∷ [])
numbered (R.InvalidMessageClass octet) = (3, octet ∷ [])
numbered (R.InvalidMessageType class type) = (4, class ∷ type ∷ [])
numbered (R.InvalidParameter tag length) = (5, tag ∷ length ∷ [])
numbered (R.ParameterTooShort tag expected actual) = (6, tag ∷ expected ∷ actual ∷ [])
numbered (R.MissingParameter tag) = (7, tag ∷ [])
numbered (R.InvalidRoutingIndicator indicator) = (8, indicator ∷ [])
numbered (R.InvalidBcdDigit octet) = (9, octet ∷ [])
numbered (R.ValueTooLong tag length) = (10, tag ∷ length ∷ [])
numbered (R.TooManyDigits count) = (11, count ∷ [])
numbered (R.TooManyOctets length) = (12, length ∷ [])
numbered (R.TableTooSmall count) = (13, count ∷ [])
numbered (R.OutputTooSmall length) = (14, length ∷ [])
numbered R.OutsideSlice = (15, [])
numbered R.InvalidTally = (16, [])
numbered R.UnconvertibleAddress = (17, [])
numbered R.InvalidSccpAddress = (18, [])

abbrev pub refusal_of : {A : Type 0} → Refusal → Outcome A
refusal_of r = refused (numbered r).0 (numbered r).1

-- A result of the code as the documents say it.
abbrev pub outcome_of : {A : Type 0} → Result A Refusal → Outcome A
outcome_of (Ok a) = accepted a
outcome_of (Err r) = refusal_of r
