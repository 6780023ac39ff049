-- `message::SuaMessage::cldt` meets its contract.
use Prim.Native.Nat.{ℕ}
use mathlib.Core.Path.{ap, ◌∙◌}
use mathlib.Core.List.{List}
use Rattle.bcd.specs.Outcome.{Outcome, deliver}
use Rattle.message.proofs.Constructing.{cldt-parts}
use Rattle.message.proofs.SuaMessage.cldt.Goals as goal

pub returns : goal.returns
returns c =
    rw (c.addresses.ensures) at c.write.ensures
    ∙ ap (λ (o : Outcome (List ℕ)). deliver o c.args.out.now)
    (cldt-parts c.args.routing_context c.args.source c.args.source_others c.args.destination c.args.destination_others c.args.protocol_class c.args.sequence_control
    c.args.ss7_hop_count c.args.«data» c.octet.ensures)
