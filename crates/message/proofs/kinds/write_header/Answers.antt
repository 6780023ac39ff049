-- `message::kinds::write_header` meets its contract.
use mathlib.Core.Path.{◌≡◌}
use native.Mathlib.Omega.{arith}
use Rattle.bcd.proofs.Outcomes.{deliver_fits, deliver-short}
use Rattle.message.specs.Framed.{header_of}
use Rattle.message.proofs.Headers.{header_bytes}
use Rattle.message.proofs.kinds.write_header.Goals as goal

pub returns-then-out-lt-HEADER_SIZE : goal.returns-then-out-lt-HEADER_SIZE
returns-then-out-lt-HEADER_SIZE g c = deliver-short (header_of g.K.MessageKind.kinds c.args.version c.args.kind c.args.length) c.args.out.now c.if-out-lt-HEADER_SIZE.true

pub returns : goal.returns
returns g c =
    let T = g.K.MessageKind.kinds in
    let e : c.copy_from_slice.new.self ≡ header_of T c.args.version c.args.kind c.args.length =
    rw (c.copy_from_slice.ensures.after, c.pair-class.ensures, c.to_be_bytes.ensures) (header_bytes T c.args.version c.args.kind c.args.length (omega (arith, c.ranges.length.fits))) in
    rw e (deliver_fits (header_of T c.args.version c.args.kind c.args.length) c.args.out.now c.if-out-lt-HEADER_SIZE.false)
