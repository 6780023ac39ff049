-- `tally::members::Members::count` meets its contract.
use mathlib.Core.Path.{sym, ap, ◌∙◌}
use lib.ListN.{length}
use Rattle.tally.proofs.Loading.{members-length, listed}
use Rattle.tally.proofs.members.Members.count.Goals as goal

pub returns : goal.returns
returns c = record {
  value = sym (members-length c.self.inside.digits.now c.self.inside.lengths.now) ∙ ap length c.self.view_is;
  few = (listed c.self.invariant).0.few;
}
