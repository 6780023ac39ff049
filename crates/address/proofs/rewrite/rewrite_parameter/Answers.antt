-- `address::rewrite::rewrite_parameter` meets its contract: measured, then written at the fifth octet and framed.
use mathlib.Core.Path.{◌≡◌, refl, sym}
use Rattle.bcd.proofs.Results.{exit_delivered}
use Rattle.address.proofs.Interpreted.{interpreted_refused}
use Rattle.address.proofs.Reframing.{again_unread, again_refused, again_wire, again_short, again_head, again_lent, again_never, again_placed}
use Rattle.address.proofs.rewrite.rewrite_parameter.Goals as goal

pub returns-in_err-address : goal.returns-in_err-address
returns-in_err-address c =
    exit_delivered c.from_residual.result _ c.from_residual.ensures.1 _ c.args.out.now
    (sym (again_unread c.args.tag c.args.value.now _ _ (interpreted_refused c.args.value.now _ _ c.in_err-address.ensures.parts)))

pub returns-in_err-length : goal.returns-in_err-length
returns-in_err-length c =
    let same : c.in_ok-address.address.value.now ≡ c.args.value.now = c.in_ok-address.ensures.value _ refl in
    rw (sym same)
    (exit_delivered c.from_residual-in_err-length.result _ c.from_residual-in_err-length.ensures.1 _ c.args.out.now
    (sym (again_refused c.args.tag _ _ _ c.in_err-length.ensures)))

pub returns-in_err-total : goal.returns-in_err-total
returns-in_err-total c = absurd (again_wire c.args.tag c.in_ok-length.ensures c.in_err-total.ensures)

pub returns-then-out-total : goal.returns-then-out-total
returns-then-out-total c =
    let same : c.in_ok-address.address.value.now ≡ c.args.value.now = c.in_ok-address.ensures.value _ refl in
    rw (sym same) (again_short c.args.tag c.in_ok-length.ensures _ c.args.out.now c.in_ok-total.ensures c.if-out-total.true)

pub slice_bounds-write-count : goal.slice_bounds-write-count
slice_bounds-write-count c = again_head c.args.tag c.in_ok-length.ensures _ c.args.out.now c.in_ok-total.ensures c.if-out-total.false

pub slice_bounds-write-start : goal.slice_bounds-write-start
slice_bounds-write-start c = again_head c.args.tag c.in_ok-length.ensures _ c.args.out.now c.in_ok-total.ensures c.if-out-total.false

pub write-requires-clause-total_in_bounds : goal.write-requires-clause-total_in_bounds
write-requires-clause-total_in_bounds c = again_lent c.args.tag c.in_ok-length.ensures _ c.args.out.now c.in_ok-total.ensures c.if-out-total.false

pub returns-in_err-write : goal.returns-in_err-write
returns-in_err-write c =
    absurd (again_never c.args.tag c.in_ok-length.ensures _ c.args.out.now c.in_ok-total.ensures c.if-out-total.false _ _ c.in_err-write.ensures refl)

pub returns : goal.returns
returns c =
    let same : c.in_ok-address.address.value.now ≡ c.args.value.now = c.in_ok-address.ensures.value _ refl in
    rw (sym same)
    (again_placed c.args.tag c.in_ok-length.ensures _ c.args.out.now c.in_ok-total.ensures c.if-out-total.false _ _ c.in_ok-write.ensures _ _ c.frame.ensures)
