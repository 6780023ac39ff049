-- `address::interpret::Interpreted::write_others` meets its contract: the loop has written the others that the walk has come to.
use mathlib.Core.Path.{sym, ap, ◌∙◌, subst}
use Prim.Native.Nat.{ℕ}
use native.Mathlib.Omega.{arith}
use Rattle.parameter.specs.declared.Parameters.{Parameters}
use Rattle.parameter.proofs.Reaching.{reached_end, walk_step}
use Rattle.address.proofs.Held.{read-of}
use Rattle.address.proofs.Copying.{Copying, unrefused, copying_start, other_small, copying_never, copying_next, copying_few, copied}
use Rattle.address.proofs.interpret.Interpreted.write_others.Goals as goal

pub loop-place-init : goal.loop-place-init
loop-place-init c =
    let i = c.into_iter-place-iterator.ensures.into_iter_gives in
    let v = c.args.self.now.value.now in
    let out = c.args.out.now in (
      ap (λ (s : Parameters). s.bytes.now) i ∙ c.new-place-items.ensures.bytes,
      subst (λ (k : ℕ). Copying v out out k 0) (sym (ap (λ (s : Parameters). s.at) i ∙ c.new-place-items.ensures.at)) (copying_start v out),
    )

-- the walk is not refused
pub returns-in_err-place : goal.returns-in_err-place
returns-in_err-place c =
    let s = rw (c.in_err-place.was) at c.in-Some.ensures.steps in
    let y = c.loop-place.invariant in
    unrefused (read-of c.args.self.now).known y.1.reached (rw y.0 at s.1)

pub returns : goal.returns
returns c =
    let y = c.loop-place.invariant in
    copied (read-of c.args.self.now).known y.1 (reached_end y.1.reached (walk_step c.args.self.now.value.now _ (rw y.0 at c.in-None.ensures.steps.1)))

pub write_other-requires : goal.write_other-requires
write_other-requires c =
    let s = rw (c.in_ok-place.was) at c.in-Some.ensures.steps in
    let y = c.loop-place.invariant in
    other_small (read-of c.args.self.now).known y.1 c.requires _ _ (rw y.0 at s.1)

-- there is room
pub returns-in_err-at : goal.returns-in_err-at
returns-in_err-at c =
    let s = rw (c.in_ok-place.was) at c.in-Some.ensures.steps in
    let y = c.loop-place.invariant in
    copying_never (read-of c.args.self.now).known y.1 c.requires _ _ (rw y.0 at s.1) c.in_err-at.ensures

pub overflow_add-at : goal.overflow_add-at
overflow_add-at c =
    let s = rw (c.in_ok-place.was) at c.in-Some.ensures.steps in
    let y = c.loop-place.invariant in
    let few = copying_few (read-of c.args.self.now).known (copying_next (read-of c.args.self.now).known y.1 c.requires _ _ (rw y.0 at s.1) _ _ c.in_ok-at.ensures) in
    omega arith

pub loop-place-preserved : goal.loop-place-preserved
loop-place-preserved c =
    let s = rw (c.in_ok-place.was) at c.in-Some.ensures.steps in
    let y = c.loop-place.invariant in
    (s.0 ∙ y.0, copying_next (read-of c.args.self.now).known y.1 c.requires _ _ (rw y.0 at s.1) _ _ c.in_ok-at.ensures)
