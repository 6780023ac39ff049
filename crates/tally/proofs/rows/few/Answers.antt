-- `tally::rows::few` meets its contract.
use Prim.Native.Nat.{◌+◌, ◌-◌, ◌^◌, min}
use borrow.Author.Rules.{rules}
use borrow.Author.Tests.{tests, ltb-true, lt-ltb}
use mathlib.Core.Path.{◌≡◌, ◌∙◌}
use native.Mathlib.Omega.{arith}
use lib.Dec.{ltb}
use Rattle.std.specs.List.{sum}
use Rattle.std.proofs.lemmas.Iterator.{YieldsList-from_slice}
use Rattle.std.proofs.lemmas.Iterator.Consumers.{fold_from_yields_List}
use Rattle.bcd.proofs.Tests.{agree}
use Rattle.tally.specs.Rows.{most_messages}
use Rattle.tally.proofs.Folds.{fold_sum}
use Rattle.tally.proofs.rows.few.Goals as goal

pub returns : goal.returns
returns c =
    let added : c.fold.result ≡ min (0 + sum c.args.messages.now) (2 ^ 64 - 1) =
    fold_from_yields_List _ (λ a n. min (a + n) (2 ^ 64 - 1)) 0 c.fold.result c.fold.ensures.ran (YieldsList-from_slice c.args.messages.now cc) (λ a x r q k. search (rules, tests))
    ∙ fold_sum 0 c.args.messages.now (omega arith) in
    agree (ltb c.fold.result most_messages) (ltb (sum c.args.messages.now) most_messages)
    (λ t. lt-ltb (sum c.args.messages.now) most_messages (omega (arith, added, ltb-true c.fold.result most_messages t)))
    (λ t. lt-ltb c.fold.result most_messages (omega (arith, added, ltb-true (sum c.args.messages.now) most_messages t)))
