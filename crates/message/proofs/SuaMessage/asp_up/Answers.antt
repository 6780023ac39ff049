-- `message::SuaMessage::asp_up` meets its contract.
use mathlib.Core.Path.{◌∙◌}
use Rattle.message.proofs.Constructing.{told, joined, last, number_given, octets_given}
use Rattle.message.proofs.SuaMessage.asp_up.Goals as goal

pub returns : goal.returns
returns c =
    c.write.ensures
    ∙ told _ c.args.out.now
    (joined (number_given _ _ c.number-asp_id.ensures) (last (octets_given _ _ c.octets-info.ensures)))
