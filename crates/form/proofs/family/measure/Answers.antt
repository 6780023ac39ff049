-- `form::family::measure` meets its contract: the loop has measured the parameters up to a position.
use Prim.Native.Nat.{ℕ, ◌<◌}
use mathlib.Core.Path.{◌≡◌, ◌∙◌}
use native.Mathlib.Omega.{arith}
use lib.ListN.{get_or}
use Rattle.bcd.proofs.Results.{exit_as}
use Rattle.parameter.proofs.Reaching.{walk_found}
use Rattle.form.specs.Family.{rewritten}
use Rattle.form.proofs.Passes.{roomy, carried-fits}
use Rattle.form.proofs.Measuring.{found_carried, measuring_start, measuring_more, measured_end, measured_refused}
use Rattle.form.proofs.family.measure.Goals as goal

pub loop-place-init : goal.loop-place-init
loop-place-init g c =
    let at : c.into_iter-place-iterator.result.at ≡ 8 = cc in
    (cc, rw at (measuring_start (rewritten (g.F.MessageFamily.family c.args.family.now)) c.args.input.now))

pub at-requires : goal.at-requires
at-requires g c =
    let octets : (i : ℕ) → get_or c.args.input.now i 0 < 256 = λ i. omega (arith, c.type_inv.input i) in
    let s = rw c.in_ok-place.was at c.in-Some.ensures.steps in
    found_carried c.args.input.now _ _ _ octets (walk_found c.args.input.now c.loop-place.place-iterator.at (rw c.loop-place.invariant.0 at s.1))

pub loop-place-preserved : goal.loop-place-preserved
loop-place-preserved g c =
    let octets : (i : ℕ) → get_or c.args.input.now i 0 < 256 = λ i. omega (arith, c.type_inv.input i) in
    let s = rw c.in_ok-place.was at c.in-Some.ensures.steps in
    let e = rw c.loop-place.invariant.0 at s.1 in
    let f = walk_found c.args.input.now c.loop-place.place-iterator.at e in
    (s.0 ∙ c.loop-place.invariant.0, measuring_more c.loop-place.invariant.1 (roomy _ (g.met.F.MessageFamily.lawful c.args.family.now)) _ _ _ (carried-fits _ (found_carried c.args.input.now _ _ _ octets f)) e (rw c.at.ensures at c.add-sum.ensures))

pub returns-in_err-place : goal.returns-in_err-place
returns-in_err-place g c =
    let s = rw c.in_err-place.was at c.in-Some.ensures.steps in
    exit_as c.from_residual.result _ c.from_residual.ensures.1 _
    (measured_refused c.loop-place.invariant.1 _ _ c.requires (rw c.loop-place.invariant.0 at s.1))

pub returns : goal.returns
returns g c = measured_end c.loop-place.invariant.1 (rw c.loop-place.invariant.0 at c.in-None.ensures.steps.1)
