-- Each item leaves fewer octets ahead.
use Rattle.std.proofs.Common.{arith}
use Rattle.records.proofs.Reading.{moved_less, refused_some}
use Rattle.records.proofs.reader.ReaderIterator.next.Goals as goal

pub returns-in-Ok-Some-clause-goes : goal.returns-in-Ok-Some-clause-goes
returns-in-Ok-Some-clause-goes c =
    let less = moved_less c.args.self.now c.in-Ok-Some.place c.in-Ok-Some.moved (rw (c.in-Ok-Some.field-0-is) at c.in-Ok-Some.ensures) in
    record { on = λ t. (tt, tt, less); keeps = tt; rests = λ t. tt }

pub returns-in-Err-clause-goes : goal.returns-in-Err-clause-goes
returns-in-Err-clause-goes c =
    let some = refused_some c.args.self.now _ _ c.in-Err.ensures in
    record { on = λ t. (tt, tt, omega (arith, some)); keeps = tt; rests = λ t. tt }
