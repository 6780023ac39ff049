-- Messages of parts between the constructors and the octets.
use Rattle.std.specs.Prelude.{ℕ, List, Option}
use Rattle.bcd.specs.Outcome.{Outcome, after}
use Rattle.parameter.specs.Parameter.{writable}
use Rattle.pieces.specs.Parts.{run_written}
use Rattle.pieces.specs.declared.Part.{Part}
use Rattle.message.specs.declared.types.MessageType.{MessageType}
use Rattle.message.specs.Message.{framed}

-- A message of a type and parts: their octets behind its header.
abbrev pub made : MessageType → List (Option Part) → Outcome (List ℕ)
made m parts = after (run_written parts) (λ os. writable (framed m os))
