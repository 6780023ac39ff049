-- `tally::list::code` meets its contract: the loop has the number of the first digits.
use Prim.Native.Nat.{◌-◌}
use mathlib.Core.Path.{sym, ◌∙◌}
use native.Mathlib.Omega.{arith}
use lib.ListN.{get_or, length-map, get_or-map}
use Rattle.tally.specs.Members.{between}
use Rattle.tally.specs.Steps.Codes.{values}
use Rattle.tally.proofs.Lists.{between_inv, every_at}
use Rattle.tally.proofs.Codes.{coded_none, coded_next, coded_most}
use Rattle.tally.proofs.list.code.Goals as goal

pub loop-c-init : goal.loop-c-init
loop-c-init c = coded_none (values c.args.prefix.now)

pub overflow_mul-number : goal.overflow_mul-number
overflow_mul-number c = omega (arith, coded_most (values c.args.prefix.now) c.loop-c.c-index c.loop-c.number (omega arith) c.loop-c.invariant)

pub overflow_add-number : goal.overflow_add-number
overflow_add-number c = omega (arith, coded_most (values c.args.prefix.now) c.loop-c.c-index c.loop-c.number (omega arith) c.loop-c.invariant, c.type_inv.prefix c.loop-c.c-index, c.from.ensures)

pub loop-c-preserved : goal.loop-c-preserved
loop-c-preserved c = let p = c.args.prefix.now in
    let digit = between_inv 0x30 0x39 (get_or p c.loop-c.c-index 0) (every_at (between 0x30 0x39) p c.loop-c.c-index 0 c.requires.prefix_value c.loop-c-test.true) in
    coded_next (values p) c.loop-c.c-index c.loop-c.number c.from.result (rw (length-map p (λ c. c - 0x30)) c.loop-c-test.true) (omega (arith, digit, c.from.ensures))
    (c.from.ensures ∙ sym (get_or-map (λ c. c - 0x30) p c.loop-c.c-index 0)) c.loop-c.invariant
