-- `message::kinds::put_header` meets its contract.
use native.Mathlib.Omega.{arith}
use Rattle.bcd.proofs.Results.{exit, few_octets, many_octets}
use Rattle.message.proofs.Listing.{header_room, header_large, header_put}
use Rattle.message.proofs.kinds.put_header.Goals as goal

pub returns-in_err-within : goal.returns-in_err-within
returns-in_err-within g c =
    let (h, a, b) = many_octets tt _ _ c.in_err-within.ensures in
    rw (exit c.from_residual.result _ c.from_residual.ensures.1, a, b)
    (header_large g.K.MessageKind.kinds c.args.kind c.args.run c.saturating_add-total.result c.args.out.now c.saturating_add-total.ensures h)

pub returns-in_err-write_header : goal.returns-in_err-write_header
returns-in_err-write_header g c =
    absurd (header_room g.K.MessageKind.kinds c.args.kind _ c.args.out.now
    (omega (arith, c.saturating_add-total.ensures, few_octets c.in_ok-within.ensures, c.if-out-total.false)) c.in_err-write_header.ensures)

pub returns : goal.returns
returns g c =
    header_put g.K.MessageKind.kinds c.args.kind c.args.run c.saturating_add-total.result c.args.out.now c.write_header.new.out
    c.saturating_add-total.ensures (few_octets c.in_ok-within.ensures) c.if-out-total.false c.in_ok-write_header.ensures
