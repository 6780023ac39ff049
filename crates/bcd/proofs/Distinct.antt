-- Distinct refusals, and distinct results, have distinct outcomes: a contract through `outcome_of` says all that one on
-- the result itself would.
use Prim.Native.Nat.{ℕ}
use mathlib.Core.Path.{◌≡◌, refl, sym, ap, ap₂, ◌∙◌}
use mathlib.Core.List.{List, [], ◌∷◌}
use lib.ListN.{get_or}
use Rattle.std.specs.Prelude.{Result, Ok, Err}
use Rattle.bcd.specs.Answers.{numbered, refusal_of, outcome_of}
use Rattle.bcd.specs.declared.error.Refusal.{Refusal}
use Rattle.bcd.specs.declared.error.Refusal.TheVariants as R
use Rattle.bcd.proofs.Outcomes.{accepted_inj, never}

-- the refusal of a number, given its values
abbrev kinds : List (List ℕ → Refusal)
kinds =
    (λ vs. R.OutsideSlice)
    ∷ (λ vs. R.TooShort (get_or vs 0 0) (get_or vs 1 0))
    ∷ (λ vs. R.InvalidVersion (get_or vs 0 0))
    ∷ (λ vs. R.InvalidMessageClass (get_or vs 0 0))
    ∷ (λ vs. R.InvalidMessageType (get_or vs 0 0) (get_or vs 1 0))
    ∷ (λ vs. R.InvalidParameter (get_or vs 0 0) (get_or vs 1 0))
    ∷ (λ vs. R.ParameterTooShort (get_or vs 0 0) (get_or vs 1 0) (get_or vs 2 0))
    ∷ (λ vs. R.MissingParameter (get_or vs 0 0))
    ∷ (λ vs. R.InvalidRoutingIndicator (get_or vs 0 0))
    ∷ (λ vs. R.InvalidBcdDigit (get_or vs 0 0))
    ∷ (λ vs. R.ValueTooLong (get_or vs 0 0) (get_or vs 1 0))
    ∷ (λ vs. R.TooManyDigits (get_or vs 0 0))
    ∷ (λ vs. R.TooManyOctets (get_or vs 0 0))
    ∷ (λ vs. R.TableTooSmall (get_or vs 0 0))
    ∷ (λ vs. R.OutputTooSmall (get_or vs 0 0))
    ∷ (λ vs. R.OutsideSlice)
    ∷ (λ vs. R.InvalidTally)
    ∷ (λ vs. R.UnconvertibleAddress)
    ∷ (λ vs. R.InvalidSccpAddress)
    ∷ []

abbrev named : ℕ → List ℕ → Refusal
named n vs = get_or kinds n (λ vs. R.OutsideSlice) vs

named_back : (r : Refusal) → named (numbered r).0 (numbered r).1 ≡ r
named_back (R.TooShort e a) = refl
named_back (R.InvalidVersion v) = refl
named_back (R.InvalidMessageClass c) = refl
named_back (R.InvalidMessageType c t) = refl
named_back (R.InvalidParameter t l) = refl
named_back (R.ParameterTooShort t e a) = refl
named_back (R.MissingParameter t) = refl
named_back (R.InvalidRoutingIndicator i) = refl
named_back (R.InvalidBcdDigit d) = refl
named_back (R.ValueTooLong t l) = refl
named_back (R.TooManyDigits n) = refl
named_back (R.TooManyOctets n) = refl
named_back (R.TableTooSmall n) = refl
named_back (R.OutputTooSmall n) = refl
named_back R.OutsideSlice = refl
named_back R.InvalidTally = refl
named_back R.UnconvertibleAddress = refl
named_back R.InvalidSccpAddress = refl

pub refusals_distinct : {A : Type 0} (r s : Refusal) → refusal_of {A = A} r ≡ refusal_of s → r ≡ s
refusals_distinct {A} r s e =
    let n : (numbered r).0 ≡ (numbered s).0 = cc in
    let v : (numbered r).1 ≡ (numbered s).1 = cc in
    sym (named_back r) ∙ ap₂ named n v ∙ named_back s

pub outcomes_distinct : {A : Type 0} (r s : Result A Refusal) → outcome_of r ≡ outcome_of s → r ≡ s
outcomes_distinct (Ok a) (Ok b) e = ap Ok (accepted_inj e)
outcomes_distinct (Ok a) (Err s) e = absurd (never (sym e))
outcomes_distinct (Err r) (Ok b) e = absurd (never e)
outcomes_distinct (Err r) (Err s) e = ap Err (refusals_distinct r s e)
