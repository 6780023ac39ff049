-- What an entry for another language returns, and the report that it fills.
use Rattle.std.specs.Prelude.{ℕ, List, [], ◌∷◌, ◌++◌, length, get_or, take, drop}
use Rattle.bcd.specs.Outcome.{Outcome, accepted, refused, Delivered}

-- An answer as four numbers: 0, the count, 0 and 0; or document 01's number of the refusal and its values, of which there
-- are at most three, with zeros behind them.
abbrev pub numbers : Outcome ℕ → List ℕ
numbers (accepted n) = 0 ∷ n ∷ 0 ∷ 0 ∷ []
numbers (refused number values) = number ∷ get_or values 0 0 ∷ get_or values 1 0 ∷ get_or values 2 0 ∷ []

-- What an entry returns, what the output holds and what the report holds.
pub record Entered : Type 0 where
  pub number : ℕ
  pub buffer : List ℕ
  pub report : List ℕ

abbrev pub entered : (number : ℕ) → (buffer report : List ℕ) → Entered
entered number buffer report = record { number = number; buffer = buffer; report = report }

-- The report gets the numbers in its first four places, as many of them as it has; the first number is returned.
unfoldable pub reported : Outcome ℕ → List ℕ → List ℕ
reported o held = take (length held) (numbers o) ++ drop 4 held

abbrev pub enter : Delivered → List ℕ → Entered
enter d held = record { number = get_or (numbers d.answer) 0 0; buffer = d.buffer; report = reported d.answer held }
