-- A form's parameters beside the parts of a meaning: what reading a form into lent tables gives.
use Rattle.std.specs.Prelude.{◌≡◌, List}
use Rattle.bcd.specs.Outcome.{AllPairs}
use Rattle.parameter.specs.Parameter.{Param}
use Rattle.parameter.specs.Table.{Table}
use Rattle.address.specs.Standing.{ListsAs}
use Rattle.form.specs.Form.{Part, raw, address}

-- A parameter is the one of the meaning; or its value is an address, which reading into a record and any table stands for,
-- unless the table is too small.
abbrev pub Stands : Param → Part → Type 0
Stands p (raw q) = p ≡ q
Stands p (address tag a) = (p.tag ≡ tag) × ((t : Table) → ListsAs p.value a t)

-- One parameter for each part, in order.
abbrev pub AllStand : List Param → List Part → Type 0
AllStand = AllPairs Stands
