-- Parameters that are the same but for how many digits titles declare beyond those that they bring (document 02, CR 7).
use Rattle.std.specs.Prelude.{◌≡◌, ◌⊎◌, true, List}
use Rattle.bcd.specs.Outcome.{AllPairs}
use Rattle.bcd.specs.Digits.{Alphabet}
use Rattle.parameter.specs.Parameter.{Param}
use Rattle.address.specs.Absent.{BringTheSame}
use Rattle.form.specs.Form.{is_address}

-- One tag and one value; or, of an address, values that bring the same.
abbrev pub SameParam : Alphabet → Param → Param → Type 0
SameParam A p q = (p.tag ≡ q.tag) × ((p.value ≡ q.value) ⊎ ((is_address p.tag ≡ true) × BringTheSame A p.value q.value))

-- One for each, in order.
abbrev pub SameParams : Alphabet → List Param → List Param → Type 0
SameParams A = AllPairs (SameParam A)
