-- `form::builtin::SuaMessageFamily::put` meets its contract, for an address, a hop counter and any other parameter.
use mathlib.Core.Path.{sym, ◌∙◌}
use Rattle.form.proofs.Taken.{address_put, raw_put}
use Rattle.form.proofs.builtin.SuaMessageFamily.put.Goals as goal

pub returns-then-is_address : goal.returns-then-is_address
returns-then-is_address c =
    address_put c.args.item.tag c.args.item.value.now c.args.out.now c.rewrite_parameter.new.out
    (sym c.is_address.ensures ∙ c.if-is_address.true) c.rewrite_parameter.ensures

pub returns : goal.returns
returns c =
    raw_put c.args.item.tag c.args.item.value.now c.args.out.now c.encode.new.out
    (sym c.is_address.ensures ∙ c.if-is_address.false) (sym c.is_hop_counter.ensures ∙ c.if-is_hop_counter.false) c.encode.ensures
