-- `sccp::party::address_in` meets its contract.
use mathlib.Core.Path.{◌≡◌, ap, ◌∙◌}
use native.Mathlib.Omega.{arith}
use borrow.Author.Rules.{rules}
use Rattle.std.specs.Prelude.{option_map}
use Rattle.bcd.specs.Outcome.{mapped}
use Rattle.bcd.proofs.Results.{exit}
use Rattle.address.proofs.Planning.{whole_part}
use Rattle.sccp.specs.Steps.{address_from}
use Rattle.sccp.proofs.Taking.{one, by_title, title_taken, title_refused}
use Rattle.sccp.proofs.party.address_in.Goals as goal

pub returns-in_err-title : goal.returns-in_err-title
returns-in_err-title c =
    let v = c.args.octets.now in
    let coded = rw (whole_part 1 v) at c.in_ok-code.ensures in
    let left = by_title v c.map-point_code.result (omega (arith, c)) (omega (arith, c.if-indicator-gt127.false)) coded (search rules) (omega (arith, c.unwrap_or.ensures, c.if-unwrap_or-gt16383.false)) c.in_ok-ssn.ensures in
    ap (mapped address_from) (exit _ _ c.from_residual-in_err-title.ensures.1) ∙ title_refused v _ _ left _ c.in_err-title.ensures

pub returns : goal.returns
returns c =
    let v = c.args.octets.now in
    let coded = rw (whole_part 1 v) at c.in_ok-code.ensures in
    let left = by_title v c.map-point_code.result (omega (arith, c)) (omega (arith, c.if-indicator-gt127.false)) coded (search rules) (omega (arith, c.unwrap_or.ensures, c.if-unwrap_or-gt16383.false)) c.in_ok-ssn.ensures in
    let ssn : c.map.result ≡ option_map one c.in_ok-ssn.ssn = search rules in
    rw ssn (title_taken v c.map-point_code.result _ left c.in_ok-title.ensures)
