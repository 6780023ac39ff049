-- `sccp::value::write` meets its contract: the buffer after each part.
use native.Mathlib.Omega.{arith}
use borrow.Author.Rules.{rules}
use Rattle.address.proofs.Numbers.{code_never, coded, sub_never, subbed}
use Rattle.sccp.proofs.ValueWriting.{value_short, title_never, titled, value_done}
use Rattle.sccp.proofs.value.write.Goals as goal

pub returns-then-out-length : goal.returns-then-out-length
returns-then-out-length c = rw c.value_length-length.ensures (value_short c.args.address c.args.out.now (omega arith))

pub returns-in_err-code_place : goal.returns-in_err-code_place
returns-in_err-code_place c = title_never c.args.address c.args.out.now (omega arith) c.write_head.ensures c.in_err-code_place.ensures

pub overflow_add-code_place : goal.overflow_add-code_place
overflow_add-code_place c =
    let x = titled c.args.address c.args.out.now (omega arith) c.write_head.ensures c.in_ok-code_place.ensures in
    omega (arith, x.room)

pub slice_bounds-write_four-count : goal.slice_bounds-write_four-count
slice_bounds-write_four-count c =
    let x = titled c.args.address c.args.out.now (omega arith) c.write_head.ensures c.in_ok-code_place.ensures in
    omega (arith, x.room, x.stands.begun.same)

pub slice_bounds-write_four-start : goal.slice_bounds-write_four-start
slice_bounds-write_four-start c =
    let x = titled c.args.address c.args.out.now (omega arith) c.write_head.ensures c.in_ok-code_place.ensures in
    omega (arith, x.room, x.stands.begun.same)

pub returns-in_err-ssn_place : goal.returns-in_err-ssn_place
returns-in_err-ssn_place c =
    let x = titled c.args.address c.args.out.now (omega arith) c.write_head.ensures c.in_ok-code_place.ensures in
    code_never c.args.address.point_code c.args.address.ssn x.stands x.room (search rules) c.in_err-ssn_place.ensures

pub overflow_add-ssn_place : goal.overflow_add-ssn_place
overflow_add-ssn_place c =
    let x = titled c.args.address c.args.out.now (omega arith) c.write_head.ensures c.in_ok-code_place.ensures in
    let y = coded c.args.address.point_code c.args.address.ssn x.stands x.room (search rules) c.in_ok-ssn_place.ensures in
    omega (arith, x.room, y.count)

pub slice_bounds-write_four-count-2 : goal.slice_bounds-write_four-count-2
slice_bounds-write_four-count-2 c =
    let x = titled c.args.address c.args.out.now (omega arith) c.write_head.ensures c.in_ok-code_place.ensures in
    let y = coded c.args.address.point_code c.args.address.ssn x.stands x.room (search rules) c.in_ok-ssn_place.ensures in
    omega (arith, x.room, y.count, y.begun.same)

pub slice_bounds-write_four-start-2 : goal.slice_bounds-write_four-start-2
slice_bounds-write_four-start-2 c =
    let x = titled c.args.address c.args.out.now (omega arith) c.write_head.ensures c.in_ok-code_place.ensures in
    let y = coded c.args.address.point_code c.args.address.ssn x.stands x.room (search rules) c.in_ok-ssn_place.ensures in
    omega (arith, x.room, y.count, y.begun.same)

pub returns-in_err-write_four : goal.returns-in_err-write_four
returns-in_err-write_four c =
    let x = titled c.args.address c.args.out.now (omega arith) c.write_head.ensures c.in_ok-code_place.ensures in
    sub_never c.args.address.point_code c.args.address.ssn x.stands x.room (search rules) c.in_ok-ssn_place.ensures (search rules) c.in_err-write_four.ensures

pub overflow_add-result : goal.overflow_add-result
overflow_add-result c =
    let x = titled c.args.address c.args.out.now (omega arith) c.write_head.ensures c.in_ok-code_place.ensures in
    let y = coded c.args.address.point_code c.args.address.ssn x.stands x.room (search rules) c.in_ok-ssn_place.ensures in
    let z = subbed c.args.address.point_code c.args.address.ssn x.stands x.room (search rules) c.in_ok-ssn_place.ensures (search rules) c.in_ok-write_four.ensures in
    omega (arith, x.room, y.count, z.count)

pub returns : goal.returns
returns c =
    value_done c.args.address c.args.out.now (omega arith) c.write_head.ensures c.in_ok-code_place.ensures (search rules) c.in_ok-ssn_place.ensures (search rules) c.in_ok-write_four.ensures
