-- The parameters of a message apart from its hop counters (document 02, CR 3).
use Rattle.std.specs.Prelude.{◌≡◌, false, List, [], ◌∷◌}
use Rattle.bcd.specs.Outcome.{pick}
use Rattle.parameter.specs.Parameter.{Param}
use Rattle.form.specs.Form.{is_hop_counter}

-- Any parameter but a hop counter.
abbrev pub Kept : Param → Type 0
Kept p = is_hop_counter p.tag ≡ false

-- Parameters without the hop counters among them.
abbrev pub without_hop_counters : List Param → List Param
without_hop_counters [] = []
without_hop_counters (p ∷ ps) = pick (is_hop_counter p.tag) (without_hop_counters ps) (p ∷ without_hop_counters ps)
