-- `message::SuaMessage::error` meets its contract.
use mathlib.Core.Path.{◌∙◌}
use Rattle.message.proofs.Constructing.{told, joined, last, number_is, number_given, octets_given}
use Rattle.message.proofs.SuaMessage.error.Goals as goal

pub returns : goal.returns
returns c =
    c.write.ensures
    ∙ told _ c.args.out.now
    (joined (number_is _ _)
    (joined (number_given _ _ c.number-routing_context.ensures) (last (octets_given _ _ c.octets-diagnostic_info.ensures))))
