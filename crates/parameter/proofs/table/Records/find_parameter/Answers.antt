-- `parameter::table::Records::find_parameter` meets its contract.
use borrow.Author.Rules.{rules}
use borrow.Author.Tests.{tests}
use mathlib.Core.Path.{sym, ap, ◌∙◌}
use lib.Dec.{eqb}
use lib.ListN.{take}
use Rattle.std.proofs.lemmas.Iterator.{YieldsList-from_slice}
use Rattle.std.proofs.lemmas.Iterator.Search.{find_from_yields_List}
use Rattle.bcd.specs.Outcome.{accepted}
use Rattle.parameter.specs.Table.{records}
use Rattle.parameter.proofs.Records.{told_outside, told-held, held_rows, find_outside, find_first, find_is_first, copied_is_map}
use Rattle.parameter.proofs.table.Records.find_parameter.Goals as goal

pub returns-then-outside : goal.returns-then-outside
returns-then-outside c =
    let values = c.args.self.values.now in
    let t = c.args.self.rows.now in
    sym (find_outside values t c.args.count c.args.tag (told_outside (records values t c.args.count) _ _ _ _ c.outside.ensures c.if-outside.true))

pub slice_bounds-iter-end : goal.slice_bounds-iter-end
slice_bounds-iter-end c =
    sym (held_rows (told-held c.args.self.values.now c.args.self.rows.now c.args.count _ _ _ c.outside.ensures c.if-outside.false))

pub returns : goal.returns
returns c =
    let t = c.args.self.rows.now in
    let ps = take c.args.count t in
    let k = told-held c.args.self.values.now t c.args.count _ _ _ c.outside.ensures c.if-outside.false in
    let f = find_from_yields_List (λ p. eqb p.tag c.args.tag) _ _ c.find-found.result c.find-found.ensures.ran (YieldsList-from_slice ps (cc)) (λ x b q k. search (rules, tests)) in
    ap accepted (c.copied.ensures ∙ copied_is_map c.find-found.result ∙ f ∙ find_is_first c.args.tag ps)
    ∙ sym (find_first c.args.self.values.now t c.args.count c.args.tag _ k.known)
