-- `form::family::settle_in` meets its contract: the header, then the parameters in the rest of the output.
use Prim.Native.Nat.{ℕ, ◌<◌}
use mathlib.Core.Path.{sym}
use native.Mathlib.Omega.{arith}
use lib.ListN.{get_or}
use Rattle.bcd.proofs.Results.{exit}
use Rattle.message.proofs.Listing.{named_within, headed_known, headed_refused, rest_accepted, message-done}
use Rattle.form.specs.Family.{rewritten}
use Rattle.form.proofs.Whole.{settle_unread, settle_refused, octets, counted, fits, whole, placeable}
use Rattle.form.proofs.family.settle_in.Goals as goal

pub returns-in_err-kind : goal.returns-in_err-kind
returns-in_err-kind g c =
    let o : (i : ℕ) → get_or c.args.input.now i 0 < 256 = λ i. omega (arith, c.type_inv.input i) in
    rw (exit _ _ c.from_residual.ensures.1)
    (settle_unread g.F.Kind.MessageKind.kinds _ (g.met.F.MessageFamily.lawful c.args.family.now) c.args.input.now o _ _ c.args.out.now c.in_err-kind.ensures)

pub measure-requires : goal.measure-requires
measure-requires g c = named_within g.F.Kind.MessageKind.kinds c.args.input.now _ (sym c.in_ok-kind.ensures)

pub write_params-requires-clause-input_len_bound : goal.write_params-requires-clause-input_len_bound
write_params-requires-clause-input_len_bound g c = named_within g.F.Kind.MessageKind.kinds c.args.input.now _ (sym c.in_ok-kind.ensures)

pub returns-in_err-run : goal.returns-in_err-run
returns-in_err-run g c =
    let o : (i : ℕ) → get_or c.args.input.now i 0 < 256 = λ i. omega (arith, c.type_inv.input i) in
    rw (exit _ _ c.from_residual-in_err-run.ensures.1)
    (settle_refused g.F.Kind.MessageKind.kinds _ (g.met.F.MessageFamily.lawful c.args.family.now) c.args.input.now o _ c.in_ok-kind.ensures _ _ c.args.out.now c.in_err-run.ensures)

pub returns-in_err-total : goal.returns-in_err-total
returns-in_err-total g c =
    let o : (i : ℕ) → get_or c.args.input.now i 0 < 256 = λ i. omega (arith, c.type_inv.input i) in
    let T = g.F.Kind.MessageKind.kinds in
    let F = g.F.MessageFamily.family c.args.family.now in
    let L = g.met.F.MessageFamily.lawful c.args.family.now in
    let xs = c.args.input.now in
    let run = c.in_ok-run.run' in
    rw (exit _ _ c.from_residual-in_err-total.ensures.1, whole T F L xs o _ c.in_ok-kind.ensures run c.in_ok-run.ensures)
    (headed_refused T c.in_ok-kind.kind (octets T F L xs o _ c.in_ok-kind.ensures run c.in_ok-run.ensures) run (counted T F L xs o _ c.in_ok-kind.ensures run c.in_ok-run.ensures)
    _ _ c.args.out.now _ c.in_err-total.ensures)

pub write_params-requires-clause-placeable : goal.write_params-requires-clause-placeable
write_params-requires-clause-placeable g c =
    let run = c.in_ok-run.run' in
    let k = headed_known g.F.Kind.MessageKind.kinds c.in_ok-kind.kind run _ c.args.out.now c.put_header.new.out c.in_ok-total.ensures in
    placeable (rewritten (g.F.MessageFamily.family c.args.family.now)) c.args.input.now c.put_header.new.out run c.in_ok-run.ensures (omega (arith, k.size, k.small, k.room))

pub returns-in_err-write_params : goal.returns-in_err-write_params
returns-in_err-write_params g c =
    let o : (i : ℕ) → get_or c.args.input.now i 0 < 256 = λ i. omega (arith, c.type_inv.input i) in
    let T = g.F.Kind.MessageKind.kinds in
    let F = g.F.MessageFamily.family c.args.family.now in
    let L = g.met.F.MessageFamily.lawful c.args.family.now in
    let xs = c.args.input.now in
    let run = c.in_ok-run.run' in
    absurd (rest_accepted T c.in_ok-kind.kind _ run (counted T F L xs o _ c.in_ok-kind.ensures run c.in_ok-run.ensures) _ _ _ c.in_ok-total.ensures _
    (fits T F L xs o _ c.in_ok-kind.ensures run c.in_ok-run.ensures) c.in_err-write_params.ensures)

pub returns : goal.returns
returns g c =
    let o : (i : ℕ) → get_or c.args.input.now i 0 < 256 = λ i. omega (arith, c.type_inv.input i) in
    let T = g.F.Kind.MessageKind.kinds in
    let F = g.F.MessageFamily.family c.args.family.now in
    let L = g.met.F.MessageFamily.lawful c.args.family.now in
    let xs = c.args.input.now in
    let run = c.in_ok-run.run' in
    rw (whole T F L xs o _ c.in_ok-kind.ensures run c.in_ok-run.ensures)
    (message-done T c.in_ok-kind.kind _ run (counted T F L xs o _ c.in_ok-kind.ensures run c.in_ok-run.ensures) _ _ _ c.in_ok-total.ensures _
    (fits T F L xs o _ c.in_ok-kind.ensures run c.in_ok-run.ensures) c.in_ok-write_params.ensures)
