-- `address::interpret::Interpreted::list_others` meets its contract: the loop has stored the others that the walk has come to.
use mathlib.Core.Path.{sym, ap, ◌∙◌, subst}
use Prim.Native.Nat.{ℕ}
use native.Mathlib.Omega.{arith}
use Rattle.parameter.specs.declared.Parameters.{Parameters}
use Rattle.parameter.proofs.Reaching.{reached_end, walk_step}
use Rattle.address.proofs.Held.{read-of}
use Rattle.address.proofs.Copying.{unrefused}
use Rattle.address.proofs.Tabling.{Tabling, tabling_start, tabling_turn, tabling_next, tabling_passed, tabled}
use Rattle.address.proofs.interpret.Interpreted.list_others.Goals as goal

pub loop-place-init : goal.loop-place-init
loop-place-init c =
    let i = c.into_iter-place-iterator.ensures.into_iter_gives in
    let v = c.args.self.now.value.now in
    let t = c.args.rows.now in (
      ap (λ (s : Parameters). s.bytes.now) i ∙ c.new-place-items.ensures.bytes,
      subst (λ (k : ℕ). Tabling v t t k 0) (sym (ap (λ (s : Parameters). s.at) i ∙ c.new-place-items.ensures.at)) (tabling_start v t),
    )

-- the walk is not refused
pub returns-in_err-place : goal.returns-in_err-place
returns-in_err-place c =
    let s = rw (c.in_err-place.was) at c.in-Some.ensures.steps in
    let y = c.loop-place.invariant in
    unrefused (read-of c.args.self.now).known y.1.reached (rw y.0 at s.1)

pub bounds-rows-row : goal.bounds-rows-row
bounds-rows-row c =
    let s = rw (c.in_ok-place.was) at c.in-Some.ensures.steps in
    let y = c.loop-place.invariant in
    let k = (read-of c.args.self.now).known in
    (tabling_turn y.1 k c.requires _ _ (rw y.0 at s.1)).room (sym c.is_other.ensures ∙ c.if-is_other.true)

pub overflow_add-row : goal.overflow_add-row
overflow_add-row c =
    let s = rw (c.in_ok-place.was) at c.in-Some.ensures.steps in
    let y = c.loop-place.invariant in
    let k = (read-of c.args.self.now).known in
    omega (arith, (tabling_turn y.1 k c.requires _ _ (rw y.0 at s.1)).few)

pub loop-place-preserved-then-is_other : goal.loop-place-preserved-then-is_other
loop-place-preserved-then-is_other c =
    let s = rw (c.in_ok-place.was) at c.in-Some.ensures.steps in
    let y = c.loop-place.invariant in
    let k = (read-of c.args.self.now).known in
    (s.0 ∙ y.0, tabling_next y.1 k c.requires _ _ (rw y.0 at s.1) (sym c.is_other.ensures ∙ c.if-is_other.true))

pub loop-place-preserved : goal.loop-place-preserved
loop-place-preserved c =
    let s = rw (c.in_ok-place.was) at c.in-Some.ensures.steps in
    let y = c.loop-place.invariant in
    let k = (read-of c.args.self.now).known in
    (s.0 ∙ y.0, tabling_passed y.1 k c.requires _ _ (rw y.0 at s.1) (sym c.is_other.ensures ∙ c.if-is_other.false))

pub returns : goal.returns
returns c =
    let y = c.loop-place.invariant in
    tabled (read-of c.args.self.now) y.1 c.requires (reached_end y.1.reached (walk_step c.args.self.now.value.now _ (rw y.0 at c.in-None.ensures.steps.1)))
