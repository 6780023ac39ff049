-- `sccp::to_sccp` meets its contract.
use mathlib.Core.Path.{ap, ◌∙◌}
use mathlib.Core.List.{List}
use Prim.Native.Nat.{ℕ}
use Rattle.bcd.specs.Outcome.{Outcome, after, deliver}
use Rattle.bcd.proofs.Results.{exit_delivered}
use Rattle.address.specs.Address.{Address}
use Rattle.sccp.specs.Sccp.{sccp_octets}
use Rattle.sccp.proofs.Back.{to_by}
use Rattle.sccp.proofs.to_sccp.Goals as goal

pub returns-in_err-read : goal.returns-in_err-read
returns-in_err-read c =
    exit_delivered _ _ c.from_residual.ensures.1 _ c.args.out.now
    (ap (λ (o : Outcome Address). after o sccp_octets) c.in_err-read.ensures ∙ to_by c.args.value.now)

pub returns : goal.returns
returns c =
    c.write.ensures
    ∙ ap (λ (o : Outcome (List ℕ)). deliver o c.args.out.now)
    (ap (λ (o : Outcome Address). after o sccp_octets) c.in_ok-read.ensures ∙ to_by c.args.value.now)
