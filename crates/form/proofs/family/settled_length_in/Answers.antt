-- `form::family::settled_length_in` meets its contract.
use Prim.Native.Nat.{ℕ, ◌<◌}
use mathlib.Core.Path.{sym, ap, ◌∙◌}
use native.Mathlib.Omega.{arith}
use lib.ListN.{length, get_or}
use Rattle.bcd.specs.Outcome.{mapped}
use Rattle.bcd.proofs.Results.{exit}
use Rattle.message.proofs.Listing.{named_within}
use Rattle.form.proofs.Whole.{unread, length_refused, run_small, length_run}
use Rattle.form.proofs.family.settled_length_in.Goals as goal

pub returns-in_err-_kind : goal.returns-in_err-_kind
returns-in_err-_kind g c =
    let o : (i : ℕ) → get_or c.args.input.now i 0 < 256 = λ i. omega (arith, c.type_inv.input i) in
    exit _ _ c.from_residual.ensures.1
    ∙ sym (ap (mapped length) (unread g.F.Kind.MessageKind.kinds _ (g.met.F.MessageFamily.lawful c.args.family.now) c.args.input.now o _ _ c.in_err-_kind.ensures))

pub measure-requires : goal.measure-requires
measure-requires g c = named_within g.F.Kind.MessageKind.kinds c.args.input.now _ (sym c.in_ok-_kind.ensures)

pub returns-in_err-run : goal.returns-in_err-run
returns-in_err-run g c =
    let o : (i : ℕ) → get_or c.args.input.now i 0 < 256 = λ i. omega (arith, c.type_inv.input i) in
    exit _ _ c.from_residual-in_err-run.ensures.1
    ∙ length_refused g.F.Kind.MessageKind.kinds _ (g.met.F.MessageFamily.lawful c.args.family.now) c.args.input.now o _ c.in_ok-_kind.ensures _ _ c.in_err-run.ensures

pub overflow_add-result : goal.overflow_add-result
overflow_add-result g c =
    let o : (i : ℕ) → get_or c.args.input.now i 0 < 256 = λ i. omega (arith, c.type_inv.input i) in
    let small = run_small g.F.Kind.MessageKind.kinds _ (g.met.F.MessageFamily.lawful c.args.family.now) c.args.input.now o _ c.in_ok-_kind.ensures _ c.in_ok-run.ensures in
    omega (arith, small)

pub returns : goal.returns
returns g c =
    let o : (i : ℕ) → get_or c.args.input.now i 0 < 256 = λ i. omega (arith, c.type_inv.input i) in
    length_run g.F.Kind.MessageKind.kinds _ (g.met.F.MessageFamily.lawful c.args.family.now) c.args.input.now o _ c.in_ok-_kind.ensures _ c.in_ok-run.ensures
