-- `parameter::table::count` meets its contract: the walk has come past n parameters.
use borrow.Author.Rules.{rules}
use Rattle.parameter.proofs.Reaching.{passed_none}
use Rattle.parameter.proofs.Counting.{passes, turns, ended}
use Rattle.parameter.proofs.table.count.Goals as goal

pub try_fold-requires-clause-callable : goal.try_fold-requires-clause-callable
try_fold-requires-clause-callable c =
    turns _ (λ p q x t. search rules) (λ p q e t. search rules) c.args.bytes.now c.args.from _ _ (passed_none c.args.bytes.now c.args.from _ c.new.ensures.bytes c.new.ensures.at)
    (λ q x h. search rules) (λ q e. search rules)

pub returns : goal.returns
returns c =
    let (items, o, f, n, (t, y, step), folds, last) = c.try_fold.ensures.ran in
    let w = passes _ (λ p q x t. search rules) (λ p q e t. search rules) c.args.bytes.now c.args.from items c.new.result t (_, 0) (f, n) (passed_none c.args.bytes.now c.args.from _ c.new.ensures.bytes c.new.ensures.at) y folds in
    ended _ c.args.bytes.now c.args.from n c.try_fold.result o t c.try_fold.new.self w step (λ d. search rules) (λ x m. search rules) (λ e m. search rules) last
