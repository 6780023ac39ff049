-- The settled form of a message, and what a message means (document 01, module 6). The first argument is the alphabet of
-- the digits.
use Rattle.std.specs.Prelude.{ℕ, Bool, ◌||◌, List, [], ◌∷◌, eqb}
use Rattle.bcd.specs.Outcome.{Outcome, accepted, pick, mapped}
use Rattle.bcd.specs.Digits.{Alphabet}
use Rattle.parameter.specs.Parameter.{Param, param}
use Rattle.address.specs.Address.{Address, address_in, rewrite_address}
use Rattle.message.specs.declared.types.MessageType.{MessageType}
use Rattle.message.specs.Types.{sua_kinds}
use Rattle.form.specs.Family.{settled_by, Meant, meaning_by}

-- The tags of the source address and of the destination address (RFC 3868, 3.10.2 and 3.10.3).
abbrev pub is_address : ℕ → Bool
is_address tag = eqb tag 0x0102 || eqb tag 0x0103

-- The tag of the SS7 hop counter (RFC 3868, 3.10.1), which falls at each title translation: no form and no meaning has it
-- (document 02, CR 3).
abbrev pub is_hop_counter : ℕ → Bool
is_hop_counter tag = eqb tag 0x0101

-- What the form has of a parameter: of an address, its value read and written again; of a hop counter, nothing; of any
-- other, the parameter as it is. A value has too few octets for 12.
unfoldable pub settled_param : Alphabet → Param → Outcome (List Param)
settled_param A p =
    pick (is_address p.tag) (mapped (λ w. param p.tag w ∷ []) (rewrite_address A p.tag p.value))
    (accepted (pick (is_hop_counter p.tag) [] (p ∷ [])))

-- The settled form of an SUA message: each address in wire order is read and written again, and each hop counter is left out.
-- Reading's refusals, then for each address its reading's, 9, 10 (document 01, 'Order').
abbrev pub settled : Alphabet → List ℕ → Outcome (List ℕ)
settled A = settled_by sua_kinds (settled_param A)

-- What a parameter means: its tag with its value, or with the address that its value is read as. A hop counter means
-- nothing.
pub data Part : Type 0 where
  raw : Param → Part
  address : (tag : ℕ) → Address → Part

-- A part's tag.
abbrev pub part_tag : Part → ℕ
part_tag (raw p) = p.tag
part_tag (address tag a) = tag

unfoldable pub part_in : Alphabet → Param → Outcome (List Part)
part_in A p =
    pick (is_address p.tag) (mapped (λ a. address p.tag a ∷ []) (address_in A p.value))
    (accepted (pick (is_hop_counter p.tag) [] (raw p ∷ [])))

-- The meaning of an SUA message: its type and, in wire order, what each parameter means.
abbrev pub Meaning : Type 0
Meaning = Meant MessageType Part

abbrev pub meaning : Alphabet → List ℕ → Outcome Meaning
meaning A = meaning_by sua_kinds (part_in A)
