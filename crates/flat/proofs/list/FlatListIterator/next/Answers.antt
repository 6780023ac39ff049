-- `flat::list::FlatList::next` meets its contract: each turn leaves fewer octets.
use Prim.Native.Nat.{◌+◌}
use mathlib.Core.Path.{◌≡◌}
use native.Mathlib.Omega.{arith}
use Rattle.bcd.specs.Outcome.{accepted}
use Rattle.parameter.specs.Walk.{found}
use Rattle.flat.specs.Flat.{flat_step}
use Rattle.flat.proofs.FlatList.{flat_inside, flat_some}
use Rattle.flat.proofs.list.FlatListIterator.next.Goals as goal

pub overflow_add-self : goal.overflow_add-self
overflow_add-self c =
    let s = c.args.self.now in
    let p = c.in-Ok-Some.place in
    let step : accepted (found p (p.start + p.length)) ≡ flat_step s.list.now s.at = rw (c.in-Ok-Some.field-0-is) at c.in-Ok-Some.ensures in
    let i = flat_inside s.list.now s.at step in
    omega (arith, c, i.within)

pub returns-in-Ok-Some-clause-goes : goal.returns-in-Ok-Some-clause-goes
returns-in-Ok-Some-clause-goes c =
    let s = c.args.self.now in
    let p = c.in-Ok-Some.place in
    let step : accepted (found p (p.start + p.length)) ≡ flat_step s.list.now s.at = rw (c.in-Ok-Some.field-0-is) at c.in-Ok-Some.ensures in
    let i = flat_inside s.list.now s.at step in
    record { on = λ t. (tt, tt, omega (arith, i.forward, i.within)); keeps = tt; rests = λ t. tt }

pub returns-in-Err-clause-goes : goal.returns-in-Err-clause-goes
returns-in-Err-clause-goes c =
    let s = c.args.self.now in
    let some = flat_some s.list.now s.at _ _ c.in-Err.ensures in
    record { on = λ t. (tt, tt, omega arith); keeps = tt; rests = λ t. tt }
