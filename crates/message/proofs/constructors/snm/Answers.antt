-- `message::constructors::snm` meets its contract.
use mathlib.Core.Path.{◌∙◌}
use Rattle.message.proofs.Constructing.{told, joined, last, codes-are, number_given}
use Rattle.message.proofs.constructors.snm.Goals as goal

pub returns : goal.returns
returns c =
    c.write.ensures
    ∙ told _ c.args.out.now
    (joined (number_given _ _ c.number-routing_context.ensures) (last (codes-are c.args.affected_pcs)))
