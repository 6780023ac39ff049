-- `form::family::write_params` meets its contract: the loop has written the parameters up to a position.
use Prim.Native.Nat.{ℕ, ◌<◌}
use mathlib.Core.Path.{◌≡◌, refl, ◌∙◌}
use native.Mathlib.Omega.{arith}
use lib.ListN.{get_or}
use Rattle.bcd.proofs.Outcomes.{accepted_inj, never}
use Rattle.parameter.proofs.Reaching.{walk_found}
use Rattle.form.specs.Family.{rewritten}
use Rattle.form.proofs.Passes.{carried-fits}
use Rattle.form.proofs.Measuring.{found_carried}
use Rattle.form.proofs.Written.{known, placed_start, turn_room, turn_answer, placed_more, placed_end, placed_never}
use Rattle.form.proofs.family.write_params.Goals as goal

pub loop-place-init : goal.loop-place-init
loop-place-init g c =
    let at : c.into_iter-place-iterator.result.at ≡ 8 = cc in
    (cc, rw at (placed_start (rewritten (g.F.MessageFamily.family c.args.family.now)) c.args.input.now c.args.out.now))

pub returns-in_err-place : goal.returns-in_err-place
returns-in_err-place g c =
    let s = rw c.in_err-place.was at c.in-Some.ensures.steps in
    absurd (placed_never (known _ c.args.input.now _ c.requires.placeable) c.loop-place.invariant.1 _ _ c.requires.input_len_bound (rw c.loop-place.invariant.0 at s.1))

pub slice_bounds-put-count : goal.slice_bounds-put-count
slice_bounds-put-count g c =
    let s = rw c.in_ok-place.was at c.in-Some.ensures.steps in
    turn_room (known _ c.args.input.now _ c.requires.placeable) c.loop-place.invariant.1 _ _ (rw c.loop-place.invariant.0 at s.1)

pub slice_bounds-put-start : goal.slice_bounds-put-start
slice_bounds-put-start g c =
    let s = rw c.in_ok-place.was at c.in-Some.ensures.steps in
    turn_room (known _ c.args.input.now _ c.requires.placeable) c.loop-place.invariant.1 _ _ (rw c.loop-place.invariant.0 at s.1)

pub at-requires : goal.at-requires
at-requires g c =
    let octets : (i : ℕ) → get_or c.args.input.now i 0 < 256 = λ i. omega (arith, c.type_inv.input i) in
    let s = rw c.in_ok-place.was at c.in-Some.ensures.steps in
    found_carried c.args.input.now _ _ _ octets (walk_found c.args.input.now c.loop-place.place-iterator.at (rw c.loop-place.invariant.0 at s.1))

pub returns-in_err-at : goal.returns-in_err-at
returns-in_err-at g c =
    let octets : (i : ℕ) → get_or c.args.input.now i 0 < 256 = λ i. omega (arith, c.type_inv.input i) in
    let s = rw c.in_ok-place.was at c.in-Some.ensures.steps in
    let e = rw c.loop-place.invariant.0 at s.1 in
    let fit = carried-fits _ (found_carried c.args.input.now _ _ _ octets (walk_found c.args.input.now c.loop-place.place-iterator.at e)) in
    let (r, same, room) = turn_answer (known _ c.args.input.now _ c.requires.placeable) c.loop-place.invariant.1 _ _ e
    (g.F.MessageFamily.puts c.args.family.now) (g.met.F.MessageFamily.put_there c.args.family.now) fit _ _ (rw c.at.ensures at c.in_err-at.ensures) in
    absurd (never {a = r} same)

pub overflow_add-at : goal.overflow_add-at
overflow_add-at g c =
    let octets : (i : ℕ) → get_or c.args.input.now i 0 < 256 = λ i. omega (arith, c.type_inv.input i) in
    let s = rw c.in_ok-place.was at c.in-Some.ensures.steps in
    let e = rw c.loop-place.invariant.0 at s.1 in
    let fit = carried-fits _ (found_carried c.args.input.now _ _ _ octets (walk_found c.args.input.now c.loop-place.place-iterator.at e)) in
    let (r, same, room) = turn_answer (known _ c.args.input.now _ c.requires.placeable) c.loop-place.invariant.1 _ _ e
    (g.F.MessageFamily.puts c.args.family.now) (g.met.F.MessageFamily.put_there c.args.family.now) fit _ _ (rw c.at.ensures at c.in_ok-at.ensures) in
    let size = accepted_inj same in
    omega (arith, room, size, c.loop-place.invariant.1.begun.same)

pub loop-place-preserved : goal.loop-place-preserved
loop-place-preserved g c =
    let octets : (i : ℕ) → get_or c.args.input.now i 0 < 256 = λ i. omega (arith, c.type_inv.input i) in
    let s = rw c.in_ok-place.was at c.in-Some.ensures.steps in
    let e = rw c.loop-place.invariant.0 at s.1 in
    let fit = carried-fits _ (found_carried c.args.input.now _ _ _ octets (walk_found c.args.input.now c.loop-place.place-iterator.at e)) in (
      s.0 ∙ c.loop-place.invariant.0,
      placed_more (known _ c.args.input.now _ c.requires.placeable) c.loop-place.invariant.1 _ _ e
          (g.F.MessageFamily.puts c.args.family.now) (g.met.F.MessageFamily.put_there c.args.family.now) fit _ _ (rw c.at.ensures at c.in_ok-at.ensures) _ refl,
    )

pub returns : goal.returns
returns g c = placed_end (known _ c.args.input.now _ c.requires.placeable) c.loop-place.invariant.1 (rw c.loop-place.invariant.0 at c.in-None.ensures.steps.1)
