-- `message::constructors::octets_only` meets its contract.
use mathlib.Core.Path.{◌∙◌}
use Rattle.message.proofs.Constructing.{told, last, octets_given}
use Rattle.message.proofs.constructors.octets_only.Goals as goal

pub returns : goal.returns
returns c =
    c.write.ensures
    ∙ told _ c.args.out.now
    (last (octets_given _ _ c.octets.ensures))
