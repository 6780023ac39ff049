-- All octets are in groups of four, and each group is a context in the set.
use Rattle.std.proofs.Common.{ap, ◌∙◌}
use Rattle.std.proofs.lemmas.Iterator.{YieldsList-from_slice}
use Rattle.std.proofs.lemmas.Iterator.Search.{all_from_yields_List}
use borrow.Author.Rules.{rules}
use Rattle.std.specs.List.{list_all}
use borrow.Author.Tests.{tests}
use Rattle.lookup.proofs.Membership.{known, all_groups}
use Rattle.lookup.proofs.contexts.all_in_set.Goals as goal

pub returns : goal.returns
returns c =
    let set = c.args.set.now in
    let v = c.args.value.now in
    all_from_yields_List (known set) _ _ _ c.all.ensures.ran (YieldsList-from_slice c.as_chunks.result.0.now (cc)) (λ x b q k. search (rules, tests))
    ∙ ap (list_all (known set)) c.as_chunks.ensures.front
    ∙ all_groups set v (search rules) (search rules)
