-- `address::SuaAddress::encode_as` meets its contract.
use Prim.Native.Nat.{ℕ}
use mathlib.Core.Path.{ap}
use mathlib.Core.List.{[], ◌∷◌}
use Rattle.bcd.specs.Outcome.{Outcome, refused, after}
use Rattle.bcd.proofs.Results.{exit}
use Rattle.address.proofs.TitleFirst.{room_refused, room-short}
use Rattle.address.proofs.SuaAddress.encode_as.Goals as goal

pub returns-in_default : goal.returns-in_default
returns-in_default c = room_refused c.args.tag c.args.self.now c.args.others.values.now c.args.others.rows.now c.args.out.now _ _ c.in_default.ensures c.encoded_length.ensures

pub returns-in_err-encoded_length : goal.returns-in_err-encoded_length
returns-in_err-encoded_length c =
    rw (exit c.from_residual.result _ c.from_residual.ensures.1)
    (room-short c.args.tag c.args.self.now c.args.others.values.now c.args.others.rows.now c.in-Ok.total c.in-Ok.ensures c.args.out.now
    (ap (λ (o : Outcome ℕ). after o (λ (n : ℕ). refused 14 (c.in-Ok.total ∷ []))) c.in_err-encoded_length.ensures) c.if-out-total.true)

pub returns-then-out-total : goal.returns-then-out-total
returns-then-out-total c =
    room-short c.args.tag c.args.self.now c.args.others.values.now c.args.others.rows.now c.in-Ok.total c.in-Ok.ensures c.args.out.now
    (ap (λ (o : Outcome ℕ). after o (λ (n : ℕ). refused 14 (c.in-Ok.total ∷ []))) c.in_ok-encoded_length.ensures) c.if-out-total.true
