-- `message::kinds::read_header` meets its contract.
use mathlib.Core.Path.{sym, ap, ◌∙◌}
use native.Mathlib.Omega.{arith}
use Rattle.bcd.specs.Outcome.{accepted, mapped}
use Rattle.bcd.proofs.Results.{exit, few_octets, many_octets}
use Rattle.message.proofs.Headers.{four-there, header_beyond, header_typed}
use Rattle.message.proofs.kinds.read_header.Goals as goal

pub returns-in_err-within : goal.returns-in_err-within
returns-in_err-within g c =
    let (h, a, b) = many_octets tt _ _ c.in_err-within.ensures in
    rw (exit c.from_residual.result _ c.from_residual.ensures.1, a, b) (sym (header_beyond g.K.MessageKind.kinds c.args.bytes.now h))

pub returns : goal.returns
returns g c =
    let xs = c.args.bytes.now in
    ap (λ n. accepted (c.in_ok-kind.kind, n)) (omega (arith, four-there xs 4, c.from_be_bytes-length.ensures))
    ∙ ap (mapped _) c.in_ok-kind.ensures
    ∙ sym (header_typed g.K.MessageKind.kinds xs (few_octets c.in_ok-within.ensures) c.if-given-lt-HEADER_SIZE.false c.if-version-ne-VERSION.false)
