-- The numbers of an answer, and a report that gets them.
use Prim.Native.Nat.{ℕ, ◌≤◌, ◌<◌, min}
use mathlib.Core.Path.{◌≡◌, refl}
use mathlib.Core.List.{List, ◌++◌}
use mathlib.Core.Logic.{⊎_elim}
use native.Mathlib.Omega.{arith}
use lib.ListN.{length, take, drop, drop_of_length-le}
use lib.Seq.{take_all}
use Rattle.bcd.specs.declared.error.Refusal.{Refusal}
use Rattle.bcd.specs.declared.error.Refusal.TheVariants as R
use Rattle.bcd.specs.Answers.{numbered}
use Rattle.bcd.specs.Outcome.{Outcome, accepted, refused}
use Rattle.bcd.proofs.Outcomes.{le_or_lt}
use Rattle.report.specs.Report.{numbers, reported}

-- A refusal's number has at most two decimal digits.
pub number_small : (r : Refusal) → (numbered r).0 < 100
number_small (R.TooShort expected actual) = omega arith
number_small (R.InvalidVersion octet) = omega arith
number_small (R.InvalidMessageClass octet) = omega arith
number_small (R.InvalidMessageType class type) = omega arith
number_small (R.InvalidParameter tag length) = omega arith
number_small (R.ParameterTooShort tag expected actual) = omega arith
number_small (R.MissingParameter tag) = omega arith
number_small (R.InvalidRoutingIndicator indicator) = omega arith
number_small (R.InvalidBcdDigit octet) = omega arith
number_small (R.ValueTooLong tag length) = omega arith
number_small (R.TooManyDigits count) = omega arith
number_small (R.TooManyOctets length) = omega arith
number_small (R.TableTooSmall count) = omega arith
number_small (R.OutputTooSmall length) = omega arith
number_small R.OutsideSlice = omega arith
number_small R.InvalidTally = omega arith
number_small R.UnconvertibleAddress = omega arith
number_small R.InvalidSccpAddress = omega arith

pub numbers-length : (o : Outcome ℕ) → length (numbers o) ≡ 4
numbers-length (accepted n) = refl
numbers-length (refused n vs) = refl

-- as many numbers as the report has places for are stored
pub all_stored :
    (o : Outcome ℕ) (ns held : List ℕ) (count : ℕ)
    → ns ≡ numbers o
    → count ≡ min (length held) 4
    → take count ns ++ drop count held ≡ reported o held
unfolding reported
all_stored o ns held count e k = rw e (⊎_elim four fewer (le_or_lt 4 (length held)))
  where
    l : length (numbers o) ≡ 4
    l = numbers-length o

    four : 4 ≤ length held → take count (numbers o) ++ drop count held ≡ take (length held) (numbers o) ++ drop 4 held
    four m =
        let n : count ≡ 4 = omega arith in
        rw (n, take_all 4 (numbers o) (omega (arith, l)), take_all (length held) (numbers o) (omega (arith, l))) refl

    fewer : length held < 4 → take count (numbers o) ++ drop count held ≡ take (length held) (numbers o) ++ drop 4 held
    fewer m =
        let n : count ≡ length held = omega arith in
        let self : length held ≤ length held = omega arith in
        let few : length held ≤ 4 = omega arith in
        rw (n, drop_of_length-le held self, drop_of_length-le held few) refl
