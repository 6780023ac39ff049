-- `message::SuaMessage::cldr` meets its contract.
use Prim.Native.Nat.{ℕ}
use mathlib.Core.Path.{refl, ap, ◌∙◌}
use mathlib.Core.List.{List}
use Rattle.bcd.specs.Outcome.{Outcome, deliver}
use Rattle.message.proofs.Constructing.{cldr-parts}
use Rattle.message.proofs.SuaMessage.cldr.Goals as goal

pub returns : goal.returns
returns c =
    rw (c.addresses.ensures) at c.write.ensures
    ∙ ap (λ (o : Outcome (List ℕ)). deliver o c.args.out.now)
    (cldr-parts c.args.routing_context c.args.source c.args.source_others c.args.destination c.args.destination_others c.args.cause_type c.args.cause_value
    c.args.«data» _ c.octets.ensures refl c.octets-2.ensures)
