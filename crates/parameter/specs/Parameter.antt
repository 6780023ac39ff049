-- One parameter on the wire, and a run of them (RFC 3868, 3.1.5).
use Rattle.std.specs.Prelude.{ℕ, ◌+◌, ◌-◌, ◌*◌, ◌/◌, ◌%◌, ◌≤◌, ◌<◌, List, [], ◌∷◌, ◌++◌, length, get_or, take, drop, replicate, leb}
use Rattle.std.specs.Prelude.{Option, None, Some}
use Rattle.bcd.specs.Outcome.{Outcome, accepted, pick, demand, after, each, Octets, most, fit64}

-- A parameter is a tag and a value (RFC 3868, 3.1.5).
pub record Param : Type 0 where
  pub tag : ℕ
  pub value : List ℕ

-- The parameter of a tag and a value.
abbrev pub param : ℕ → List ℕ → Param
param tag value = record { tag = tag; value = value }

-- A 16-bit number, the high octet first (RFC 3868, 3.1).
abbrev pub two : ℕ → List ℕ
two n = n / 256 ∷ n % 256 ∷ []

-- The 16-bit number at a position, the high octet first (RFC 3868, 3.1).
unfoldable pub two_at : List ℕ → ℕ → ℕ
two_at xs i = get_or xs i 0 * 256 + get_or xs (i + 1) 0

-- A 32-bit number, the high octet first, and the one that octets start with (RFC 3868, 3.1).
abbrev pub four : ℕ → List ℕ
four n = two (n / 65536) ++ two (n % 65536)

abbrev pub four_in : List ℕ → ℕ
four_in v = two_at v 0 * 65536 + two_at v 2

-- The octets of 32-bit words, in which worked messages are written.
abbrev pub words : List ℕ → List ℕ
words [] = []
words (w ∷ ws) = four w ++ words ws

-- Rounded up to a multiple of 4.
abbrev pub round_up : ℕ → ℕ
round_up n = (n + 3) / 4 * 4

-- What a parameter with a value of n octets takes: tag, length, value and padding (RFC 3868, 3.1.5).
abbrev pub padded_length : ℕ → ℕ
padded_length n = round_up (4 + n)

-- Tag, length (of tag, length and value), value, and zeros up to a multiple of 4 (RFC 3868, 3.1.5).
unfoldable pub param_octets : Param → List ℕ
param_octets p =
    two p.tag
    ++ two (4 + length p.value)
    ++ p.value
    ++ replicate (padded_length (length p.value) - (4 + length p.value)) 0

-- The octets of a run: one parameter after the other.
unfoldable pub run_octets : List Param → List ℕ
run_octets [] = []
run_octets (p ∷ ps) = param_octets p ++ run_octets ps

-- The padded lengths of a run's parameters, added up.
unfoldable pub run_length : List Param → ℕ
run_length [] = 0
run_length (p ∷ ps) = padded_length (length p.value) + run_length ps

-- The longest value that a parameter's length of 16 bits can tell (document 01, 'Bounds of the domain').
abbrev pub most_value : ℕ
most_value = 65531

-- Writing one parameter: a value above 65,531 octets is refused as 10.
unfoldable pub encode_param : Param → Outcome (List ℕ)
encode_param p = demand (leb (length p.value) most_value) 10 (p.tag ∷ length p.value ∷ []) (accepted (param_octets p))

-- What a parameter with a value of n octets takes on the wire; 10 above 65,531 (document 01, 'Order').
unfoldable pub wire_length : (tag n : ℕ) → Outcome ℕ
wire_length tag n = demand (leb n most_value) 10 (tag ∷ n ∷ []) (accepted (padded_length n))

-- A parameter whose value of n octets stands at the fifth octet of a buffer: 10, then 14.
unfoldable pub frame_param : (tag n : ℕ) → (held : List ℕ) → Outcome (List ℕ)
frame_param tag n held =
    demand (leb n most_value) 10 (tag ∷ n ∷ [])
    (demand (leb (padded_length n) (length held)) 14 (padded_length n ∷ [])
    (accepted (param_octets (param tag (take n (drop 4 held))))))

-- A value as a number: its first four octets; none under four (document 01, 'Order').
unfoldable pub number_in : List ℕ → Option ℕ
number_in v = pick (leb 4 (length v)) (Some (four_in v)) None

-- Octets written are at most 1,048,576, else 12.
abbrev pub writable : List ℕ → Outcome (List ℕ)
writable os = demand (leb (length os) most) 12 (fit64 (length os) ∷ []) (accepted os)

-- Writing a list: 10 at the first value that is too long, then 12 (document 01, 'Order').
unfoldable pub encode_params : List Param → Outcome (List ℕ)
encode_params ps = after (each encode_param ps) writable

-- A value that a length of 16 bits can tell.
abbrev pub Sized : Param → Type 0
Sized p = length p.value ≤ most_value

-- A parameter that the wire can carry: a 16-bit tag, and octets that a 16-bit length can tell.
pub record Fits (p : Param) : Type 0 where
  pub tag : p.tag < 65536
  pub size : length p.value ≤ most_value
  pub octets : Octets p.value
