-- `address::interpret::Interpreted::ssn` meets its contract: what is kept has four octets or more.
use native.Mathlib.Omega.{arith}
use Rattle.address.proofs.Held.{read-of, sound-of, lies}
use Rattle.address.proofs.AddressRecords.{sub-kept}
use Rattle.address.proofs.interpret.Interpreted.ssn.Goals as goal

pub overflow_add-result : goal.overflow_add-result
overflow_add-result c =
    let i = c.args.self.now in
    let l = lies i.value.now 4 i.parts.ssn c.in_ok-place.place (sound-of i).ssn c.in_ok-place.was in
    omega (arith, l.inside, l.size, l.enough, (read-of i).known.within)

pub bounds-self-place : goal.bounds-self-place
bounds-self-place c =
    let i = c.args.self.now in
    let l = lies i.value.now 4 i.parts.ssn c.in_ok-place.place (sound-of i).ssn c.in_ok-place.was in
    omega (arith, l.inside, l.size, l.enough)

pub returns : goal.returns
returns c =
    let i = c.args.self.now in
    rw c.in_ok-place.was (sub-kept i.value.now c.in_ok-place.place (rw c.in_ok-place.was at (sound-of i).ssn))
