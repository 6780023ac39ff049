-- `m3ua::protocol_data::ProtocolData::encode` meets its contract.
use Prim.Native.Nat.{ℕ}
use mathlib.Core.Path.{◌≡◌, ap₂}
use mathlib.Core.List.{List, [], ◌∷◌, ◌++◌}
use native.Mathlib.Omega.{arith}
use Rattle.parameter.specs.Parameter.{four}
use Rattle.message.proofs.Headers.{four_bytes}
use Rattle.m3ua.specs.Fields.{fields}
use Rattle.m3ua.proofs.Data.{write_long, write_short, write_done}
use Rattle.m3ua.proofs.protocol_data.ProtocolData.encode.Goals as goal

pub returns-then-length-gt65531 : goal.returns-then-length-gt65531
returns-then-length-gt65531 c = write_long (fields c.args.self) _ c.args.out.now c.saturating_add-length.ensures c.if-length-gt65531.true

pub returns-then-out-length : goal.returns-then-out-length
returns-then-out-length c =
    write_short (fields c.args.self) _ c.args.out.now c.saturating_add-length.ensures c.if-length-gt65531.false c.if-out-length.true

pub returns : goal.returns
returns c =
    let d = fields c.args.self in
    let first : c.copy_from_slice.new.self ≡ four d.originating ++ four d.destination ++ d.service_indicator ∷ d.network_indicator ∷ d.priority ∷ d.selection ∷ [] =
    rw (c.copy_from_slice.ensures.after, c.to_be_bytes.ensures, c.to_be_bytes-2.ensures)
    (ap₂ (λ (os ps : List ℕ). os ++ ps ++ d.service_indicator ∷ d.network_indicator ∷ d.priority ∷ d.selection ∷ [])
    (four_bytes d.originating (omega (arith, c.ranges.self))) (four_bytes d.destination (omega (arith, c.ranges.self)))) in
    write_done d _ c.args.out.now c.saturating_add-length.ensures _ _ c.if-length-gt65531.false c.if-out-length.false first
    c.copy_from_slice-2.ensures.after
