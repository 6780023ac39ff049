-- `message::SuaMessage::decode` meets its contract.
use Rattle.bcd.proofs.Results.{exit}
use Rattle.message.proofs.Messages.{listed-over}
use Rattle.message.proofs.SuaMessage.decode.Goals as goal

pub returns-in_err-message_type : goal.returns-in_err-message_type
returns-in_err-message_type c =
    rw (exit _ _ c.from_residual.ensures.1) (listed-over c.args.bytes.now c.args.rows.now _ c.in_err-message_type.ensures)

pub returns : goal.returns
returns c = listed-over c.args.bytes.now c.args.rows.now _ c.in_ok-message_type.ensures
