-- `message::constructors::traffic_and_rc` meets its contract.
use mathlib.Core.Path.{◌∙◌}
use Rattle.message.proofs.Constructing.{told, joined, last, number_given}
use Rattle.message.proofs.constructors.traffic_and_rc.Goals as goal

pub returns : goal.returns
returns c =
    c.write.ensures
    ∙ told _ c.args.out.now
    (joined (number_given _ _ c.number-traffic_mode.ensures) (last (number_given _ _ c.number-routing_context.ensures)))
