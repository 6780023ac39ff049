-- `tally::members::Members::place` meets its contract.
use Prim.Native.Nat.{◌+◌}
use mathlib.Core.Path.{ap, ◌∙◌}
use lib.ListN.{length}
use Rattle.std.specs.Result.{result_unwrap_or}
use Rattle.tally.specs.Rows.{gain}
use Rattle.tally.specs.Tally.{or_else, placed}
use Rattle.tally.proofs.Gaining.{unwrapped}
use Rattle.tally.proofs.members.Members.place.Goals as goal

pub returns : goal.returns
unfolding placed
returns c =
    c.unwrap_or.ensures
    ∙ ap (λ n. result_unwrap_or c.meant.result (gain (n + 1) 0)) c.count.ensures.value
    ∙ unwrapped (gain (length c.args.self.now + 1) 0) c.meant.result
    ∙ ap (or_else (gain (length c.args.self.now + 1) 0)) c.meant.ensures
