-- `tally::list::decimal` meets its contract.
use borrow.Author.Rules.{rules}
use borrow.Author.Tests.{tests}
use mathlib.Core.Path.{◌∙◌}
use mathlib.Core.Bool.{true, ◌&&◌}
use Rattle.std.proofs.lemmas.Iterator.{YieldsList-from_slice}
use Rattle.std.proofs.lemmas.Iterator.Consumers.{fold_from_yields_List}
use Rattle.tally.specs.Members.{between}
use Rattle.tally.proofs.Folds.{fold_every}
use Rattle.tally.proofs.list.decimal.Goals as goal

pub returns : goal.returns
returns c =
    fold_from_yields_List _ (λ b d. b && between 0x30 0x39 d) true c.fold.result c.fold.ensures.ran (YieldsList-from_slice c.args.digits.now cc) (λ b x r q k. search (rules, tests))
    ∙ fold_every (between 0x30 0x39) true c.args.digits.now
