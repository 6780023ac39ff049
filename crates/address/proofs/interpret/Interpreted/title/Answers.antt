-- `address::interpret::Interpreted::title` meets its contract: what is kept has eight octets or more.
use native.Mathlib.Omega.{arith}
use Rattle.bcd.proofs.Outcomes.{octets_at}
use Rattle.address.proofs.Held.{value-octets, read-of, sound-of, lies}
use Rattle.address.proofs.interpret.Interpreted.title.Goals as goal

pub invariant_of-result : goal.invariant_of-result
invariant_of-result c =
    let i = c.args.self.now in
    let l = lies i.value.now 8 i.parts.title c.in_ok-place.place (sound-of i).title c.in_ok-place.was in
    let w = (read-of i).known.within in
    record {
      long = rw c.value.ensures l.enough;
      within = rw c.value.ensures (omega (arith, l.inside, l.size, w));
      fits = rw c.value.ensures (λ k. octets_at _ k (value-octets i c.in_ok-place.place));
    }
