-- `tally::rows::gain` meets its contract.
use mathlib.Core.Path.{ap₂}
use Rattle.tally.specs.Rows.{rows}
use Rattle.tally.proofs.Raising.{raised-set}
use Rattle.tally.proofs.rows.gain.Goals as goal

pub returns : goal.returns
returns c = ap₂ rows (raised-set c.args.gain.row 1 c.args.messages.now) (raised-set c.args.gain.row c.args.gain.octets c.args.octets.now)
