-- `parameter::table::Records::outside` meets its contract: it tells of every record whether it lies inside.
use borrow.Author.Rules.{rules}
use borrow.Author.Tests.{tests}
use mathlib.Core.Path.{◌≡◌, refl, ◌∙◌}
use mathlib.Core.Bool.{Bool, true, false, not}
use lib.ListN.{take}
use Rattle.std.proofs.lemmas.Iterator.{YieldsList-from_slice}
use Rattle.std.proofs.lemmas.Iterator.Search.{all_from_yields_List}
use Rattle.bcd.specs.Outcome.{pick, every}
use Rattle.parameter.proofs.Records.{inside, records_few, records-inside}
use Rattle.parameter.proofs.table.Records.outside.Goals as goal

exchanged : {A : Type 0} (b : Bool) (x y : A) → pick b x y ≡ pick (not b) y x
exchanged true x y = refl
exchanged false x y = refl

pub returns-then-self-count : goal.returns-then-self-count
returns-then-self-count c = records_few c.args.self.values.now c.args.self.rows.now c.args.count c.if-self-count.true

pub returns : goal.returns
returns c =
    let values = c.args.self.values.now in
    let ps = take c.args.count c.args.self.rows.now in
    let all : c.all.result ≡ every (inside values) ps =
    all_from_yields_List (inside values) _ _ _ c.all.ensures.ran (YieldsList-from_slice ps (cc)) (λ x b q k. search (rules, tests)) in
    rw all (records-inside values c.args.self.rows.now c.args.count c.if-self-count.false ∙ exchanged (every (inside values) ps) _ _)
