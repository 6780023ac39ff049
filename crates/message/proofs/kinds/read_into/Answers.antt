-- `message::kinds::read_into` meets its contract: the header, then the places of the parameters.
use mathlib.Core.Path.{sym}
use Rattle.bcd.proofs.Results.{exit}
use Rattle.message.proofs.Listing.{list_refused, list_stored}
use Rattle.message.proofs.kinds.read_into.Goals as goal

pub returns-in_err-kind : goal.returns-in_err-kind
returns-in_err-kind g c =
    rw (exit _ _ c.from_residual.ensures.1) (list_refused g.K.MessageKind.kinds c.args.bytes.now c.args.rows.now _ _ (sym c.in_err-kind.ensures))

pub returns-in_err-count : goal.returns-in_err-count
returns-in_err-count g c =
    rw (exit _ _ c.from_residual-in_err-count.ensures.1)
    (list_stored g.K.MessageKind.kinds c.args.bytes.now c.args.rows.now _ _ (sym c.in_ok-kind.ensures) c.in_err-count.ensures)

pub returns : goal.returns
returns g c = list_stored g.K.MessageKind.kinds c.args.bytes.now c.args.rows.now _ _ (sym c.in_ok-kind.ensures) c.in_ok-count.ensures
