-- `parameter::table::Records::write_run` meets its contract: the records before this one are written.
use mathlib.Core.Path.{sym}
use Prim.Native.Nat.{◌-◌, ◌<◌}
use native.Mathlib.Omega.{arith}
use lib.ListN.{length, get_or, take, drop, length-take, length-drop}
use Rattle.parameter.proofs.Records.{nowhere, held_rows, held-length}
use Rattle.parameter.proofs.Running.{ready, running_start, running_turn, running_next, running_all, part_of, part_length}
use Rattle.parameter.proofs.table.Records.write_run.Goals as goal

pub slice_bounds-row-items-end : goal.slice_bounds-row-items-end
slice_bounds-row-items-end c =
    let y = ready c.args.self.values.now c.args.self.rows.now c.args.count c.args.total c.requires.total_value in
    sym (held_rows y.held)

pub loop-row-init : goal.loop-row-init
loop-row-init c = (ready c.args.self.values.now c.args.self.rows.now c.args.count c.args.total c.requires.total_value, running_start _ c.args.out.now)

pub put-requires : goal.put-requires
put-requires c =
    let y = c.loop-row.invariant.0 in
    let i = c.loop-row.row-index in
    let h : i < c.args.count = omega (arith, held_rows y.held, c.loop-row-test.true) in
    let t = running_turn y c.loop-row.invariant.1 c.requires.total_in_bounds h in
    let row = get_or (take c.args.count c.args.self.rows.now) i nowhere in
    let l = part_length row.start row.length c.args.self.values.now t.inside in
    let o = length-take (length c.loop-row.out - c.loop-row.at) (drop c.loop-row.at c.loop-row.out) in
    let d = length-drop c.loop-row.at c.loop-row.out in
    record { value_len_bound = omega (arith, l, t.small); value_in_bounds = omega (arith, l, o, d, t.room) }

pub overflow_add-at : goal.overflow_add-at
overflow_add-at c =
    let y = c.loop-row.invariant.0 in
    let i = c.loop-row.row-index in
    let h : i < c.args.count = omega (arith, held_rows y.held, c.loop-row-test.true) in
    let t = running_turn y c.loop-row.invariant.1 c.requires.total_in_bounds h in
    omega (arith, t.room, t.small)

pub loop-row-preserved : goal.loop-row-preserved
loop-row-preserved c =
    let y = c.loop-row.invariant.0 in
    let i = c.loop-row.row-index in
    let h : i < c.args.count = omega (arith, held_rows y.held, c.loop-row-test.true) in
    let row = get_or (take c.args.count c.args.self.rows.now) i nowhere in
    (y, running_next y c.loop-row.invariant.1 c.requires.total_in_bounds h _ _ _ (part_of row.start row.length c.args.self.values.now) (omega arith) c.put.ensures)

pub returns : goal.returns
returns c =
    let y = c.loop-row.invariant.0 in
    rw y.held.known (running_all c.loop-row.invariant.1 y.octets y.all c.args.total (omega (arith, held-length y.held, held_rows y.held, c.loop-row-test.false)) y.size)
