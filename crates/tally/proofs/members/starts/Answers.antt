-- `tally::members::starts` meets its contract: the loop has stored the numbers of at most i digits.
use mathlib.Core.Path.{refl, ◌∙◌}
use native.Mathlib.Omega.{arith}
use Rattle.bcd.specs.Digits.{halves}
use Rattle.bcd.proofs.Halves.{halves-length}
use Rattle.tally.proofs.Starts.{half_small, started_none, started_most, started_next}
use Rattle.tally.proofs.members.starts.Goals as goal

pub loop-i-init : goal.loop-i-init
loop-i-init c = started_none (halves c.args.octets.now) _ refl refl

pub overflow_mul-first : goal.overflow_mul-first
overflow_mul-first c = omega (arith, started_most c.loop-i.invariant (omega arith))

pub overflow_add-first : goal.overflow_add-first
overflow_add-first c = omega (arith, started_most c.loop-i.invariant (omega arith), c.from.ensures, c.half_in.ensures, half_small c.args.octets.now (λ j. omega (arith, c.type_inv.octets j)) c.loop-i.i (omega arith))

pub loop-i-preserved : goal.loop-i-preserved
loop-i-preserved c =
    let small = half_small c.args.octets.now (λ j. omega (arith, c.type_inv.octets j)) c.loop-i.i (omega arith) in
    let same = c.from.ensures ∙ c.half_in.ensures in
    started_next c.loop-i.invariant c.from.result (omega arith) (omega (arith, halves-length c.args.octets.now)) (omega (arith, small, same)) same
