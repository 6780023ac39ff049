-- `parameter::table::Records::write_run` meets its contract: the records before this one are written.
use mathlib.Core.List.{map}
use lib.ListN.{take}
use Rattle.parameter.specs.Walk.{valued}
use Rattle.parameter.proofs.Running.{Ready, Running}
use Rattle.parameter.proofs.table.Records.write_run.Given as goal

abbrev pub invariant-loop-row : goal.invariant-loop-row
invariant-loop-row l =
    Ready l.self.values.now l.self.rows.now l.count l.total
    × Running (map (valued l.self.values.now) (take l.count l.self.rows.now)) l.initial.out l.out l.row-index l.at
