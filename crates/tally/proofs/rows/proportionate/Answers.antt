-- `tally::rows::proportionate` meets its contract.
use borrow.Author.Rules.{rules}
use borrow.Author.Tests.{tests}
use mathlib.Core.Path.{◌∙◌}
use native.Mathlib.Omega.{arith}
use Rattle.std.proofs.lemmas.Iterator.{YieldsList-from_slice, YieldsList-from_zip}
use Rattle.std.proofs.lemmas.Iterator.Search.{all_from_yields_List}
use Rattle.tally.proofs.Folds.{covers, zip_within}
use Rattle.tally.proofs.rows.proportionate.Goals as goal

pub returns : goal.returns
returns c =
    all_from_yields_List covers c.all.new.self _ _ c.all.ensures.ran
    (YieldsList-from_zip (YieldsList-from_slice c.args.messages.now cc) (YieldsList-from_slice c.args.octets.now cc)) (λ x b q k. search (rules, tests))
    ∙ zip_within c.args.messages.now c.args.octets.now (λ i. omega (arith, c.type_inv.octets i))
