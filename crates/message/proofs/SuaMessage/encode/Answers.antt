-- `message::SuaMessage::encode` meets its contract.
use Rattle.message.proofs.SuaMessage.encode.Goals as goal

pub returns : goal.returns
returns c = c.write_from.ensures
