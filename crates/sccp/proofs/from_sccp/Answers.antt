-- `sccp::from_sccp` meets its contract.
use mathlib.Core.Path.{ap, ◌∙◌}
use mathlib.Core.List.{List}
use Prim.Native.Nat.{ℕ}
use Rattle.bcd.specs.Outcome.{Outcome, after, deliver}
use Rattle.bcd.proofs.Results.{exit_delivered}
use Rattle.address.specs.Address.{Address, write_address}
use Rattle.bcd.specs.Digits.{built_in}
use Rattle.sccp.proofs.Back.{from_by}
use Rattle.sccp.proofs.from_sccp.Goals as goal

pub returns-in_err-read : goal.returns-in_err-read
returns-in_err-read c =
    exit_delivered _ _ c.from_residual.ensures.1 _ c.args.out.now
    (ap (λ (o : Outcome Address). after o (write_address built_in 0)) c.in_err-read.ensures ∙ from_by c.args.octets.now)

pub returns : goal.returns
returns c =
    c.write.ensures
    ∙ ap (λ (o : Outcome (List ℕ)). deliver o c.args.out.now)
    (ap (λ (o : Outcome Address). after o (write_address built_in 0)) c.in_ok-read.ensures ∙ from_by c.args.octets.now)
