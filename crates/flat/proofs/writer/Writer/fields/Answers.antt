-- `flat::writer::Writer::fields` meets its contract.
use Prim.Native.Nat.{ℕ}
use mathlib.Core.List.{[], ◌∷◌}
use borrow.Author.Rules.{rules}
use Rattle.bcd.specs.Digits.{built_in}
use Rattle.parameter.specs.Parameter.{four}
use Rattle.address.proofs.Held.{titled}
use Rattle.flat.proofs.Emission.{writes_more}
use Rattle.flat.proofs.Accounting.{whole, parts_stored, title_marked, part_marked}
use Rattle.flat.proofs.writer.Writer.fields.Goals as goal

pub returns : goal.returns
returns c =
    let v = c.args.it.now.value.now in
    let s = c.args.it.now.parts in
    let r = whole c.args.it.now in
    let title = title_marked c.title.result _ (titled built_in v _ s.title c.title.ensures) c.title-2.ensures in
    let code = part_marked four c.code.result _ c.code.ensures c.marked.ensures in
    let ssn = part_marked (λ (n : ℕ). n ∷ []) c.map.result c.ssn.result (search rules) c.marked-2.ensures in
    parts_stored c.args.base v s r.known.octets
    (writes_more (writes_more (writes_more (writes_more c.put.ensures title) code) (rw c.ssn.ensures at ssn)) c.others.ensures)
