-- Global titles and addresses, read and written (RFC 3868, 3.10.2; document 01, module 3). The first argument is the
-- alphabet of the digits.
use Rattle.std.specs.Prelude.{ℕ, ◌+◌, ◌/◌, ◌%◌, Bool, List, [], ◌∷◌, ◌++◌, map, length, get_or, drop, leb, eqb}
use Rattle.std.specs.Prelude.{Option, None, Some}
use Rattle.bcd.specs.Outcome.{Outcome, accepted, pick, after, demand, mapped, each, bounded, fit64}
use Rattle.bcd.specs.Digits.{Alphabet, digits_in, write_digits}
use Rattle.parameter.specs.Parameter.{Param, param, two, four, four_in, most_value, encode_param, two_at}
use Rattle.parameter.specs.Walk.{parameters}

-- Global title: indicator, translation type, numbering plan, nature of address, digits (RFC 3868, 3.10.2.3).
pub record Title : Type 0 where
  pub gti : ℕ
  pub tt : ℕ
  pub np : ℕ
  pub noa : ℕ
  pub digits : List ℕ

-- Address: routing indicator, the three include bits, the parts that are there, and the other sub-parameters as they
-- came, in order (RFC 3868, 3.10.2; document 01, module 3).
pub record Address : Type 0 where
  pub routing : ℕ
  pub gt : Bool
  pub pc : Bool
  pub ssn : Bool
  pub title : Option Title
  pub code : Option ℕ
  pub sub : Option ℕ
  pub others : List Param

-- Three reserved octets, indicator, digit count, translation type, numbering plan, nature, digits (RFC 3868, 3.10.2.3).
abbrev pub title_at : Alphabet → List ℕ → Title
title_at A v = record {
  gti = get_or v 3 0;
  tt = get_or v 5 0;
  np = get_or v 6 0;
  noa = get_or v 7 0;
  digits = digits_in A (drop 8 v) (get_or v 4 0);
}

-- A title has eight octets before its digits, else 1 (document 01, 'Refused because of the input').
unfoldable pub title_in : Alphabet → List ℕ → Outcome Title
title_in A v = demand (leb 8 (length v)) 1 (8 ∷ length v ∷ []) (accepted (title_at A v))

-- Reading a title alone: 12, 1 (document 01, 'Order').
unfoldable pub read_title : Alphabet → List ℕ → Outcome Title
read_title A v = bounded v (title_in A v)

-- A title with the octets of its digits; the count is of the digits that are there (RFC 3868, 3.10.2.3).
abbrev pub title_octets : Title → List ℕ → List ℕ
title_octets t os = 0 ∷ 0 ∷ 0 ∷ t.gti ∷ length t.digits ∷ t.tt ∷ t.np ∷ t.noa ∷ os

-- Writing a title: 11, 9 (document 01, 'Order').
unfoldable pub write_title : Alphabet → Title → Outcome (List ℕ)
write_title A t = mapped (title_octets t) (write_digits A t.digits)

-- What a sub-parameter is: a title, a point code, an SSN, or any other, kept as it came (document 01, 'Records on the wire').
pub data Piece : Type 0 where
  title : Title → Piece
  code : ℕ → Piece
  sub : ℕ → Piece
  other : Param → Piece

-- A point code or an SSN has four octets or more, else 6 (document 01, 'Refused because of the input').
abbrev pub four_octets : Param → Piece → Outcome (List Piece)
four_octets p x = demand (leb 4 (length p.value)) 6 (p.tag ∷ 4 ∷ length p.value ∷ []) (accepted (x ∷ []))

-- One sub-parameter, by its tag: global title, point code, SSN in the fourth octet (RFC 3868, 3.10.2.3 to 3.10.2.5).
unfoldable pub piece_in : Alphabet → Param → Outcome (List Piece)
piece_in A p =
    pick (eqb p.tag 0x8001) (mapped (λ t. title t ∷ []) (title_in A p.value))
    (pick (eqb p.tag 0x8002) (four_octets p (code (four_in p.value)))
    (pick (eqb p.tag 0x8003) (four_octets p (sub (get_or p.value 3 0)))
    (accepted (other p ∷ []))))

-- A piece of one kind, or none.
abbrev pub as_title : Piece → Option Title
as_title (title t) = Some t
as_title (code n) = None
as_title (sub n) = None
as_title (other p) = None

abbrev pub as_code : Piece → Option ℕ
as_code (title t) = None
as_code (code n) = Some n
as_code (sub n) = None
as_code (other p) = None

abbrev pub as_sub : Piece → Option ℕ
as_sub (title t) = None
as_sub (code n) = None
as_sub (sub n) = Some n
as_sub (other p) = None

-- The second of two, where both are there.
abbrev pub later : {X : Type 0} → Option X → Option X → Option X
later None o = o
later (Some x) None = Some x
later (Some x) (Some y) = Some y

-- Of the elements of one kind the last one holds (document 01, module 3).
abbrev pub last : {X Y : Type 0} → (Y → Option X) → List Y → Option X
last f [] = None
last f (x ∷ xs) = later (f x) (last f xs)

-- The other sub-parameters, in order (document 01, module 3).
abbrev pub others_in : List Piece → List Param
others_in [] = []
others_in (title t ∷ xs) = others_in xs
others_in (code n ∷ xs) = others_in xs
others_in (sub n ∷ xs) = others_in xs
others_in (other p ∷ xs) = p ∷ others_in xs

-- Bit k of a number, where b is 2 to the power k.
abbrev pub bit : (b : ℕ) → ℕ → Bool
bit b n = eqb (n / b % 2) 1

-- The address of a routing indicator, an address indicator and pieces: bit 1 includes the SSN, 2 the point code, 4 the
-- title, whether or not they are there (RFC 3868, 3.10.2.2; document 01, module 3).
unfoldable pub address_with : (routing indicator : ℕ) → List Piece → Address
address_with routing indicator xs = record {
  routing = routing;
  gt = bit 4 indicator;
  pc = bit 2 indicator;
  ssn = bit 1 indicator;
  title = last as_title xs;
  code = last as_code xs;
  sub = last as_sub xs;
  others = others_in xs;
}

-- A routing indicator is at most 4, else 8 (RFC 3868, 3.10.2.1).
abbrev pub routing_in : ℕ → Outcome ℕ
routing_in n = demand (leb n 4) 8 (n ∷ []) (accepted n)

-- An address value: 1, 8, the walk of all sub-parameters (5 or 6), then each in turn (1 or 6) (document 01, 'Order'). The
-- bits lie in the fourth octet.
unfoldable pub address_in : Alphabet → List ℕ → Outcome Address
address_in A v =
    demand (leb 4 (length v)) 1 (4 ∷ length v ∷ [])
    (after (routing_in (two_at v 0)) (λ routing.
    after (parameters (drop 4 v)) (λ ps.
    mapped (address_with routing (get_or v 3 0)) (each (piece_in A) ps))))

-- Reading an address alone: 12 first (document 01, 'Order').
unfoldable pub read_address : Alphabet → List ℕ → Outcome Address
read_address A v = bounded v (address_in A v)

-- The address indicator: reserved bits are written 0 (RFC 3868, 3.10.2.2).
unfoldable pub indicator : Address → ℕ
indicator a = pick a.ssn 1 0 + pick a.pc 2 0 + pick a.gt 4 0

-- A part that is there, as a piece.
abbrev pub present : {X : Type 0} → (X → Piece) → Option X → List Piece
present f None = []
present f (Some x) = f x ∷ []

-- The order of writing: title, point code, SSN, others (document 01, module 3).
unfoldable pub pieces : Address → List Piece
pieces a = present title a.title ++ (present code a.code ++ (present sub a.sub ++ map other a.others))

-- The sub-parameter that a piece is written as; a title refuses 11, 9 (RFC 3868, 3.10.2.3 to 3.10.2.5).
unfoldable pub sub_param : Alphabet → Piece → Outcome (List Param)
sub_param A (title t) = mapped (λ v. param 0x8001 v ∷ []) (write_title A t)
sub_param A (code n) = accepted (param 0x8002 (four n) ∷ [])
sub_param A (sub n) = accepted (param 0x8003 (0 ∷ 0 ∷ 0 ∷ n ∷ []) ∷ [])
sub_param A (other p) = accepted (p ∷ [])

-- An address value of at most 65,531 octets, else 10 with the address's tag (document 01, 'Refused because of the input').
abbrev pub sized : (tag : ℕ) → List ℕ → Outcome (List ℕ)
sized tag w = demand (leb (length w) most_value) 10 (tag ∷ fit64 (length w) ∷ []) (accepted w)

-- Writing an address: 11, 9, 10 for each other, 10 for the whole (document 01, 'Order').
unfoldable pub write_address : Alphabet → (tag : ℕ) → Address → Outcome (List ℕ)
write_address A tag a =
    after (each (sub_param A) (pieces a)) (λ ps.
    after (each encode_param ps) (λ os.
    sized tag (two a.routing ++ two (indicator a) ++ os)))

-- An address value read and written again, as the settled form has it (document 01, module 6).
unfoldable pub rewrite_address : Alphabet → (tag : ℕ) → List ℕ → Outcome (List ℕ)
rewrite_address A tag v = after (address_in A v) (write_address A tag)
