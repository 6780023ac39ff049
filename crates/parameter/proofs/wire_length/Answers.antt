-- `parameter::wire_length` meets its contract.
use mathlib.Core.Path.{◌≡◌, sym, ap, ◌∙◌}
use native.Mathlib.Omega.{arith}
use Rattle.bcd.specs.Outcome.{accepted}
use Rattle.parameter.specs.Parameter.{padded_length}
use Rattle.parameter.proofs.Encoding.{wire_beyond, wire_within}
use Rattle.parameter.proofs.wire_length.Goals as goal

pub returns-then-length-gt65531 : goal.returns-then-length-gt65531
returns-then-length-gt65531 c = sym (wire_beyond c.args.tag c.args.length c.if-length-gt65531.true)

pub returns : goal.returns
returns c = let n = c.args.length in
    let e : c.next_multiple_of.result ≡ padded_length n = omega (arith, c.next_multiple_of.ensures) in
    ap accepted e ∙ sym (wire_within c.args.tag n c.if-length-gt65531.false)
