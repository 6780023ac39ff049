-- `sccp::party::read` meets its contract.
use mathlib.Core.Path.{sym, ap, ◌∙◌}
use Rattle.bcd.specs.Outcome.{mapped}
use Rattle.bcd.proofs.Outcomes.{bounded-within, bounded_beyond}
use Rattle.bcd.proofs.Results.{exit, few_octets, many_octets}
use Rattle.sccp.specs.Sccp.{sccp_in}
use Rattle.sccp.specs.Steps.{address_from}
use Rattle.sccp.proofs.party.read.Goals as goal

pub returns-in_err-within : goal.returns-in_err-within
returns-in_err-within c =
    let (h, a, b) = many_octets tt _ _ c.in_err-within.ensures in
    ap (mapped address_from) (exit c.from_residual.result _ c.from_residual.ensures.1)
    ∙ rw (a, b) (sym (bounded_beyond c.args.octets.now (sccp_in c.args.octets.now) h))

pub returns : goal.returns
returns c = c.address_in.ensures ∙ sym (bounded-within c.args.octets.now (sccp_in c.args.octets.now) (few_octets c.in_ok-within.ensures))
