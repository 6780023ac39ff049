-- `address::interpret::Interpreted::record` meets its contract.
use native.Mathlib.Omega.{arith}
use borrow.Author.Rules.{rules}
use Prim.Native.Nat.{ℕ, ◌/◌, ◌%◌}
use mathlib.Core.Path.{◌≡◌, refl, ap}
use lib.Dec.{eqb}
use lib.ListN.{get_or}
use Rattle.bcd.proofs.Outcomes.{accepted_inj}
use Rattle.parameter.specs.Parameter.{two_at}
use Rattle.address.proofs.Held.{read-of, of_octets}
use Rattle.address.proofs.AddressRecords.{routing_kept, record_made}
use Rattle.address.proofs.interpret.Interpreted.record.Goals as goal

by_one : (n : ℕ) → n ≡ n / 1
by_one n = omega arith

pub returns : goal.returns
returns c =
    let v = c.args.self.now.value.now in
    let routing = routing_kept (two_at v 0) c.args.self.now.routing c.args.self.now.routed (read-of c.args.self.now).known.routing in
    record_made (read-of c.args.self.now) _ _ _ _ _ _ _ routing refl refl (ap (λ (n : ℕ). eqb (n % 2) 1) (by_one (get_or v 3 0)))
    (accepted_inj c.in_ok-title_record.ensures) (of_octets _ c.code.result c.map.result (λ w r p. search rules) c.code.ensures c.map.ensures.cases) c.ssn.ensures
