-- `flat::writer::Writer::place` meets its contract.
use mathlib.Core.Path.{◌∙◌}
use native.Mathlib.Omega.{arith}
use Rattle.message.proofs.Headers.{four_bytes}
use Rattle.flat.proofs.Emission.{two_bytes}
use Rattle.flat.proofs.writer.Writer.place.Goals as goal

pub returns : goal.returns
returns c =
    let p = c.args.place in
    let t = c.to_be_bytes.ensures ∙ two_bytes p.tag (omega (arith, c)) in
    let s = c.to_be_bytes-2.ensures ∙ four_bytes p.start (omega (arith, c.requires)) in
    let l = c.to_be_bytes-3.ensures ∙ four_bytes p.length (omega (arith, c.requires)) in
    rw (t, s, l) at c.put.ensures
