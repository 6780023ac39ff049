-- `lookup::contexts::in_set` meets its contract.
use borrow.Author.Rules.{rules}
use borrow.Author.Tests.{tests}
use mathlib.Core.Path.{◌∙◌}
use mathlib.Core.Bool.{false, ◌||◌}
use lib.Dec.{eqb}
use Rattle.std.proofs.lemmas.Iterator.{YieldsList-from_slice}
use Rattle.std.proofs.lemmas.Iterator.Consumers.{fold_from_yields_List}
use Rattle.bcd.proofs.Tests.{fold_among}
use Rattle.lookup.proofs.contexts.in_set.Goals as goal

pub returns : goal.returns
returns c =
    fold_from_yields_List _ (λ b m. b || eqb m c.args.number) false c.fold.result c.fold.ensures.ran (YieldsList-from_slice c.args.set.now cc) (λ b x r q k. search (rules, tests))
    ∙ fold_among c.args.number false c.args.set.now
