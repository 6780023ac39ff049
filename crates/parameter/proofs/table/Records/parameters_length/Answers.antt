-- `parameter::table::Records::parameters_length` meets its contract: the records before this one are measured.
use mathlib.Core.Path.{sym, ◌∙◌}
use Prim.Native.Nat.{◌<◌}
use native.Mathlib.Omega.{arith}
use Rattle.bcd.proofs.Results.{exit}
use Rattle.parameter.specs.Table.{records}
use Rattle.parameter.proofs.Records.{told_outside, told-held, held_rows, held-length}
use Rattle.parameter.proofs.Running.{measured_start, measured_row, measured_refused, measured_all}
use Rattle.parameter.proofs.table.Records.parameters_length.Goals as goal

pub returns-then-outside : goal.returns-then-outside
returns-then-outside c =
    let e = told_outside (records c.args.self.values.now c.args.self.rows.now c.args.count) _ _ _ _ c.outside.ensures c.if-outside.true in
    rw e

pub slice_bounds-row-items-end : goal.slice_bounds-row-items-end
slice_bounds-row-items-end c =
    sym (held_rows (told-held c.args.self.values.now c.args.self.rows.now c.args.count _ _ _ c.outside.ensures c.if-outside.false))

pub loop-row-init : goal.loop-row-init
loop-row-init c = measured_start _

pub returns-in_err-wire_length : goal.returns-in_err-wire_length
returns-in_err-wire_length c =
    let k = told-held c.args.self.values.now c.args.self.rows.now c.args.count _ _ _ c.outside.ensures c.if-outside.false in
    let h : c.loop-row.row-index < c.args.count = omega (arith, held_rows k, c.loop-row-test.true) in
    exit c.from_residual.result _ c.from_residual.ensures.1 ∙ measured_refused k c.loop-row.invariant h _ _ c.in_err-wire_length.ensures

pub loop-row-preserved : goal.loop-row-preserved
loop-row-preserved c =
    let k = told-held c.args.self.values.now c.args.self.rows.now c.args.count _ _ _ c.outside.ensures c.if-outside.false in
    let h : c.loop-row.row-index < c.args.count = omega (arith, held_rows k, c.loop-row-test.true) in
    measured_row k c.loop-row.invariant h _ _ c.in_ok-wire_length.ensures c.saturating_add-total.ensures

pub returns : goal.returns
returns c =
    let k = told-held c.args.self.values.now c.args.self.rows.now c.args.count _ _ _ c.outside.ensures c.if-outside.false in
    rw k.known (measured_all c.loop-row.invariant (omega (arith, held-length k, held_rows k, c.loop-row-test.false)))
