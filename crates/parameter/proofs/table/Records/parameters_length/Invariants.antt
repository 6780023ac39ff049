-- `parameter::table::Records::parameters_length` meets its contract: the records before this one are measured.
use mathlib.Core.List.{map}
use lib.ListN.{take}
use Rattle.parameter.specs.Walk.{valued}
use Rattle.parameter.proofs.Running.{Measured}
use Rattle.parameter.proofs.table.Records.parameters_length.Given as goal

abbrev pub invariant-loop-row : goal.invariant-loop-row
invariant-loop-row l = Measured (map (valued l.self.values.now) (take l.count l.self.rows.now)) l.row-index l.total
