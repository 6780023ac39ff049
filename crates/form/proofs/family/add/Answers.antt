-- `form::family::add` meets its contract.
use Prim.Native.Nat.{◌≤◌}
use Rattle.std.proofs.Common.{rules}
use Rattle.form.specs.Family.{rewritten}
use Rattle.form.specs.Items.{held}
use Rattle.form.proofs.Passes.{roomy, carried-fits, length_small}
use Rattle.form.proofs.family.add.Goals as goal

pub overflow_add-result : goal.overflow_add-result
overflow_add-result g c =
    let F = g.F.MessageFamily.family c.args.family.now in
    let small : c.in_ok-n.n ≤ 65536 =
    length_small (rewritten F) (roomy F (g.met.F.MessageFamily.lawful c.args.family.now))
    (held c.args.item) c.in_ok-n.n (carried-fits (held c.args.item) c.args.item.carried) c.in_ok-n.ensures in
    search rules
