-- `address::rewrite::write_other` meets its contract.
use mathlib.Core.Path.{sym, ◌∙◌}
use Rattle.address.proofs.Copying.{other_put, other_absent}
use Rattle.address.proofs.rewrite.write_other.Goals as goal

pub returns-then-not-is_other : goal.returns-then-not-is_other
returns-then-not-is_other c = other_absent c.args.value.now c.args.place c.args.out.now (sym c.is_other.ensures ∙ c.if-not-is_other.true)

pub returns : goal.returns
returns c = other_put c.args.value.now c.args.place c.args.out.now (sym c.is_other.ensures ∙ c.if-not-is_other.false) c.requires (rw c.value.ensures at c.encode.ensures)
