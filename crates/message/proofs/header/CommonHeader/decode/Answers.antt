-- `message::header::CommonHeader::decode` meets its contract.
use mathlib.Core.Path.{ap, ◌∙◌}
use Rattle.bcd.specs.Outcome.{mapped}
use Rattle.bcd.proofs.Results.{exit}
use Rattle.message.specs.Message.{header_with, read_header}
use Rattle.message.proofs.header.CommonHeader.decode.Goals as goal

pub returns-in_err-message_type : goal.returns-in_err-message_type
unfolding read_header
returns-in_err-message_type c = exit _ _ c.from_residual.ensures.1 ∙ ap (mapped (λ h. header_with h.0 h.1)) c.in_err-message_type.ensures

pub returns : goal.returns
unfolding read_header
returns c = rw c.new.ensures (ap (mapped (λ h. header_with h.0 h.1)) c.in_ok-message_type.ensures)
