-- What the entry of a tally returns, and what the rows and the report then hold.
use Rattle.std.specs.Prelude.{ℕ, List, get_or}
use Rattle.report.specs.Report.{numbers, reported}
use Rattle.tally.specs.Rows.{Rows}
use Rattle.tally.specs.Tally.{Tallied}

pub record EnteredRows : Type 0 where
  pub number : ℕ
  pub rows : Rows
  pub report : List ℕ

abbrev pub entered_rows : (number : ℕ) → Rows → (report : List ℕ) → EnteredRows
entered_rows number rows report = record { number = number; rows = rows; report = report }

-- The report gets the answer's numbers, as of every entry; the first number is returned.
abbrev pub enter_rows : Tallied → (report : List ℕ) → EnteredRows
enter_rows t held = entered_rows (get_or (numbers t.answer) 0 0) t.rows (reported t.answer held)
