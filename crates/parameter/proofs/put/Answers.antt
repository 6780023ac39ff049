-- `parameter::put` meets its contract.
use borrow.Author.Rules.{rules}
use mathlib.Core.Path.{◌≡◌}
use Rattle.parameter.proofs.InPlace.{surrounded}
use Rattle.parameter.proofs.put.Goals as goal

pub returns : goal.returns
returns c =
    let value : c.copy_from_slice.new.self ≡ c.args.value.now = search rules in
    surrounded c.args.tag c.args.value.now c.args.out.now _ _ c.requires.value_in_bounds value c.surround.ensures
