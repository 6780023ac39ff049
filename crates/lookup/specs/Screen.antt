-- All handling fields of a message at once (document 02, CR 2): each is what its own accessor gives, and each address has a
-- table of its own.
use Rattle.std.specs.Prelude.{ℕ, List}
use Rattle.std.specs.Prelude.{Option}
use Rattle.bcd.specs.Outcome.{Outcome}
use Rattle.parameter.specs.Table.{Table}
use Rattle.bcd.specs.Answers.{outcome_of}
use Rattle.address.specs.Listing.{Listed, listed}
use Rattle.lookup.specs.Accessors.{routing_context, protocol_class, sequence_control, ss7_hop_count, sccp_cause, source_address, destination_address}
use Rattle.lookup.specs.declared.SccpCause.{SccpCause}
use Rattle.lookup.specs.declared.screen.Screen.{Screen}

-- The seven answers, an address's with what its table then holds.
pub record Handling : Type 0 where
  pub context : Outcome (Option ℕ)
  pub class : Outcome (Option ℕ)
  pub control : Outcome (Option ℕ)
  pub hops : Outcome (Option ℕ)
  pub cause : Outcome (Option SccpCause)
  pub source : Listed
  pub destination : Listed

abbrev pub handling : List ℕ → Table → (count : ℕ) → (source destination : Table) → Handling
handling values t count source destination = record {
  context = routing_context values t count;
  class = protocol_class values t count;
  control = sequence_control values t count;
  hops = ss7_hop_count values t count;
  cause = sccp_cause values t count;
  source = source_address values t count source;
  destination = destination_address values t count destination;
}

-- What a screen tells, beside what the two tables hold.
abbrev pub screen_of : Screen → (source destination : Table) → Handling
screen_of s source destination = record {
  context = outcome_of s.routing_context;
  class = outcome_of s.protocol_class;
  control = outcome_of s.sequence_control;
  hops = outcome_of s.ss7_hop_count;
  cause = outcome_of s.sccp_cause;
  source = listed (outcome_of s.source_address) source;
  destination = listed (outcome_of s.destination_address) destination;
}
