-- Protocol Data (RFC 4666, 3.3.1).
use Rattle.std.specs.Prelude.{ℕ, ◌<◌, ◌^◌, List, [], ◌∷◌, ◌++◌, length, get_or, drop, leb}
use Rattle.bcd.specs.Outcome.{Outcome, accepted, demand, bounded, fit64, Octets}
use Rattle.parameter.specs.Parameter.{most_value, four, four_in}

-- The originating and the destination point code, service indicator, network indicator, message priority, signalling link
-- selection, and the user's data.
pub record Data : Type 0 where
  pub originating : ℕ
  pub destination : ℕ
  pub service_indicator : ℕ
  pub network_indicator : ℕ
  pub priority : ℕ
  pub selection : ℕ
  pub payload : List ℕ

-- The fields of a value: two point codes of 32 bits, four octets, and the rest.
abbrev pub data_of : List ℕ → Data
data_of v = record {
  originating = four_in v;
  destination = four_in (drop 4 v);
  service_indicator = get_or v 8 0;
  network_indicator = get_or v 9 0;
  priority = get_or v 10 0;
  selection = get_or v 11 0;
  payload = drop 12 v;
}

-- A value read; refused as 6 under 12 octets.
unfoldable pub data_in : List ℕ → Outcome Data
data_in v = demand (leb 12 (length v)) 6 (0x0210 ∷ 12 ∷ length v ∷ []) (accepted (data_of v))

-- 12 first.
abbrev pub read_data : List ℕ → Outcome Data
read_data v = bounded v (data_in v)

-- The octets of a value.
unfoldable pub data_octets : Data → List ℕ
data_octets d =
    four d.originating ++ four d.destination
    ++ d.service_indicator ∷ d.network_indicator ∷ d.priority ∷ d.selection ∷ d.payload

-- Writing a value: 10, of the whole value, above 65,531 octets.
unfoldable pub write_data : Data → Outcome (List ℕ)
write_data d =
    demand (leb (length (data_octets d)) most_value) 10 (0x0210 ∷ fit64 (length (data_octets d)) ∷ []) (accepted (data_octets d))

-- Numbers that their places on the wire can tell, and octets.
pub record Sized (d : Data) : Type 0 where
  pub originating : d.originating < 2 ^ 32
  pub destination : d.destination < 2 ^ 32
  pub service_indicator : d.service_indicator < 256
  pub network_indicator : d.network_indicator < 256
  pub priority : d.priority < 256
  pub selection : d.selection < 256
  pub payload : Octets d.payload
