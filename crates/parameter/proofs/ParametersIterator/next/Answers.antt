-- `parameter::Parameters::next` meets its contract: each turn leaves fewer octets.
use mathlib.Core.Path.{◌≡◌}
use native.Mathlib.Omega.{arith}
use Rattle.bcd.specs.Outcome.{accepted, bounded}
use Rattle.parameter.specs.Walk.{found, step_at}
use Rattle.parameter.proofs.Reaching.{walk_fewer, walk_some}
use Rattle.parameter.proofs.ParametersIterator.next.Goals as goal

pub returns-in-Ok-Some-clause-goes : goal.returns-in-Ok-Some-clause-goes
returns-in-Ok-Some-clause-goes c =
    let s = c.args.self.now in
    let step : accepted (found c.in-Ok-Some.place c.in-Ok-Some.next.at) ≡ bounded s.bytes.now (step_at s.bytes.now s.at) = rw (c.in-Ok-Some.field-0-is) at c.in-Ok-Some.ensures in
    let fewer = walk_fewer s.bytes.now s.at step in
    record { on = λ t. (tt, tt, omega arith); keeps = tt; rests = λ t. tt }

pub returns-in-Err-clause-goes : goal.returns-in-Err-clause-goes
returns-in-Err-clause-goes c =
    let s = c.args.self.now in
    let some = walk_some s.bytes.now s.at _ _ c.in-Err.ensures in
    record { on = λ t. (tt, tt, omega arith); keeps = tt; rests = λ t. tt }
