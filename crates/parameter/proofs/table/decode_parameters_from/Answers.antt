-- `parameter::table::decode_parameters_from` meets its contract: the count that was answered is the definition's.
use mathlib.Core.Path.{sym, ap, ◌∙◌}
use mathlib.Core.List.{◌++◌}
use lib.ListN.{length, drop}
use Rattle.bcd.specs.Outcome.{mapped, bounded}
use Rattle.bcd.proofs.Outcomes.{accepted_inj}
use Rattle.bcd.proofs.Results.{exit}
use Rattle.parameter.specs.Walk.{places}
use Rattle.parameter.specs.Table.{tabulated}
use Rattle.parameter.proofs.Filling.{table_filled, table_small, table_refused}
use Rattle.parameter.proofs.table.decode_parameters_from.Goals as goal

pub returns-in_err-needed : goal.returns-in_err-needed
returns-in_err-needed c =
    ap (λ o. tabulated o c.args.rows.now) (exit c.from_residual.result _ c.from_residual.ensures.1)
    ∙ table_refused (bounded c.args.bytes.now (places c.args.bytes.now c.args.from)) _ _ c.args.rows.now c.in_err-needed.ensures

pub returns-then-rows-needed : goal.returns-then-rows-needed
returns-then-rows-needed c = table_small (bounded c.args.bytes.now (places c.args.bytes.now c.args.from)) _ c.args.rows.now c.in_ok-needed.ensures c.if-rows-needed.true

pub returns : goal.returns
returns c =
    let o = bounded c.args.bytes.now (places c.args.bytes.now c.args.from) in
    let n = c.in_ok-needed.needed in
    let l = sym (accepted_inj (c.in_ok-needed.ensures ∙ ap (mapped length) (sym c.store.ensures))) in
    table_filled o c.store.new.rows n c.args.rows.now _ (sym c.store.ensures) l c.if-rows-needed.false (ap (λ k. c.store.new.rows ++ drop k c.args.rows.now) (sym l))
