-- What records of the code hold: of Protocol Data, and of a message that was read into a table.
use Rattle.std.specs.Prelude.{ℕ}
use Rattle.m3ua.specs.declared.types.MessageType.{MessageType}
use Rattle.m3ua.specs.declared.M3uaMessage.{M3uaMessage}
use Rattle.m3ua.specs.declared.protocol_data.ProtocolData.{ProtocolData}
use Rattle.m3ua.specs.ProtocolData.{Data}

abbrev pub fields : ProtocolData → Data
fields d = record {
  originating = d.originating;
  destination = d.destination;
  service_indicator = d.service_indicator;
  network_indicator = d.network_indicator;
  priority = d.priority;
  selection = d.selection;
  payload = d.payload.now;
}

abbrev pub listed_as : M3uaMessage → MessageType × ℕ
listed_as m = (m.message_type, m.count)
