-- The constructors of messages (message.rs; document 01, module 6): a message's type and its parameters in the Rust's order,
-- written. Refused: the source's, the destination's, further 10 in order, 12 (document 01, 'Order'). An argument that may be
-- absent is an option; an address is a record with its own values and table.
use Rattle.std.specs.Prelude.{ℕ, List, [], ◌∷◌, ◌++◌, Option, None}
use Rattle.bcd.specs.Outcome.{Outcome, after}
use Rattle.parameter.specs.Parameter.{Param, param}
use Rattle.parameter.specs.Table.{Table}
use Rattle.address.specs.declared.SuaAddress.{SuaAddress}
use Rattle.address.specs.Given.{encode_address_as}
use Rattle.pieces.specs.Parts.{number, octet, given, affected}
use Rattle.message.specs.declared.types.MessageType.{MessageType}
use Rattle.message.specs.declared.types.MessageType.TheVariants as M
use Rattle.message.specs.Message.{message, write_message}

-- The octets of a type and a list of parameters.
abbrev pub written : MessageType → List Param → Outcome (List ℕ)
written m ps = write_message (message m ps)

-- CLDT (RFC 3868, 3.2.1): routing context, protocol class, source and destination address, sequence control, SS7 hop counter,
-- data.
abbrev pub cldt :
    (context class : ℕ)
    → SuaAddress → (source_values : List ℕ) → Table
    → SuaAddress → (destination_values : List ℕ) → Table
    → (sequence : ℕ) → (hop : Option ℕ) → (octets : List ℕ)
    → Outcome (List ℕ)
cldt context class source sv st destination dv dt sequence hop octets =
    after (encode_address_as 0x0102 source sv st) (λ s.
    after (encode_address_as 0x0103 destination dv dt) (λ d.
    written M.Cldt
    (number 0x0006 context ∷ octet 0x0115 class ∷ param 0x0102 s ∷ param 0x0103 d ∷ number 0x0116 sequence
    ∷ given (octet 0x0101) hop ++ param 0x010B octets ∷ [])))

-- CLDR (RFC 3868, 3.2.2): routing context, SCCP cause, source and destination address, data. The cause has two reserved octets,
-- its type and its value (RFC 3868, 3.10.6).
abbrev pub cldr :
    (context cause_type cause_value : ℕ)
    → SuaAddress → (source_values : List ℕ) → Table
    → SuaAddress → (destination_values : List ℕ) → Table
    → (octets : Option (List ℕ))
    → Outcome (List ℕ)
cldr context cause_type cause_value source sv st destination dv dt octets =
    after (encode_address_as 0x0102 source sv st) (λ s.
    after (encode_address_as 0x0103 destination dv dt) (λ d.
    written M.Cldr
    (number 0x0006 context ∷ param 0x0106 (0 ∷ 0 ∷ cause_type ∷ cause_value ∷ []) ∷ param 0x0102 s ∷ param 0x0103 d
    ∷ given (param 0x010B) octets)))

-- ASP Up (RFC 3868, 3.5): ASP identifier, info string.
abbrev pub asp_up : (id : Option ℕ) → (info : Option (List ℕ)) → Outcome (List ℕ)
asp_up id info = written M.AspUp (given (number 0x0011) id ++ given (param 0x0004) info)

-- Octets under a tag, if given, and nothing else (RFC 3868, 3.5).
abbrev pub octets_only : MessageType → (tag : ℕ) → (octets : Option (List ℕ)) → Outcome (List ℕ)
octets_only m tag octets = written m (given (param tag) octets)

-- ASP Up Ack, ASP Down, ASP Down Ack (RFC 3868, 3.5): info string.
abbrev pub info_only : MessageType → (info : Option (List ℕ)) → Outcome (List ℕ)
info_only m info = octets_only m 0x0004 info

-- ASP Active, ASP Active Ack (RFC 3868, 3.6): traffic mode type, routing context.
abbrev pub traffic_and_rc : MessageType → (mode context : Option ℕ) → Outcome (List ℕ)
traffic_and_rc m mode context = written m (given (number 0x000B) mode ++ given (number 0x0006) context)

-- ASP Inactive, ASP Inactive Ack (RFC 3868, 3.6): routing context.
abbrev pub rc_only : MessageType → (context : Option ℕ) → Outcome (List ℕ)
rc_only m context = traffic_and_rc m None context

-- Heartbeat, Heartbeat Ack (RFC 3868, 3.5): heartbeat data.
abbrev pub heartbeat_like : MessageType → (octets : Option (List ℕ)) → Outcome (List ℕ)
heartbeat_like m octets = octets_only m 0x0009 octets

-- Error (RFC 3868, 3.7): error code, routing context, diagnostic information.
abbrev pub error_message : (code : ℕ) → (context : Option ℕ) → (info : Option (List ℕ)) → Outcome (List ℕ)
error_message code context info =
    written M.Error (number 0x000C code ∷ given (number 0x0006) context ++ given (param 0x0007) info)

-- Notify (RFC 3868, 3.7): status, ASP identifier, routing context.
abbrev pub notify : (status : ℕ) → (id context : Option ℕ) → Outcome (List ℕ)
notify status id context = written M.Notify (number 0x000D status ∷ given (number 0x0011) id ++ given (number 0x0006) context)

-- DUNA, DAVA, DAUD (RFC 3868, 3.4): routing context, affected point codes.
abbrev pub snm : MessageType → (context : Option ℕ) → (codes : List ℕ) → Outcome (List ℕ)
snm m context codes = written m (given (number 0x0006) context ++ affected codes ∷ [])
