-- `flat::writer::Writer::data` meets its contract.
use Prim.Native.Nat.{◌+◌}
use mathlib.Core.Path.{◌≡◌, ◌∙◌}
use native.Mathlib.Omega.{arith}
use lib.ListN.{length}
use Rattle.parameter.specs.Parameter.{four}
use Rattle.message.proofs.Headers.{four_bytes}
use Rattle.flat.specs.Account.{data_fields}
use Rattle.flat.proofs.Emission.{writes_more}
use Rattle.flat.proofs.writer.Writer.data.Goals as goal

pub returns : goal.returns
unfolding data_fields
returns c =
    let base = c.args.base in
    let o : c.to_be_bytes.result ≡ four c.args.it.originating = c.to_be_bytes.ensures ∙ four_bytes c.args.it.originating (omega (arith, c.ranges.it)) in
    let d : c.to_be_bytes-2.result ≡ four c.args.it.destination = c.to_be_bytes-2.ensures ∙ four_bytes c.args.it.destination (omega (arith, c.ranges.it)) in
    let at : c.to_be_bytes-3.result ≡ four (base + 12) = c.to_be_bytes-3.ensures ∙ four_bytes (base + 12) (omega (arith, c.requires)) in
    let size : c.to_be_bytes-4.result ≡ four (length c.args.it.payload.now) = c.to_be_bytes-4.ensures ∙ four_bytes (length c.args.it.payload.now) (omega (arith, c.requires)) in
    writes_more (rw o at c.put.ensures)
    (writes_more (rw d at c.put-2.ensures)
    (writes_more c.put-3.ensures
    (writes_more (rw at at c.put-4.ensures) (rw size at c.put-5.ensures))))
