-- A flat account of a message, with its addresses or its Protocol Data, fit to be compared field by field with another
-- decoder's.
use Rattle.std.specs.Prelude.{ℕ, ◌+◌, List, [], ◌∷◌, ◌++◌, map, length}
use Rattle.std.specs.Prelude.{Option, None, Some}
use Rattle.bcd.specs.Outcome.{Outcome, accepted, pick, after, mapped, each}
use Rattle.bcd.specs.Digits.{Alphabet}
use Rattle.parameter.specs.declared.Place.{Place}
use Rattle.parameter.specs.Parameter.{two, four}
use Rattle.parameter.specs.Walk.{places, valued}
use Rattle.address.specs.Address.{Title, Address, indicator, address_in}
use Rattle.address.specs.Listing.{other_places}
use Rattle.message.specs.Kinds.{Kinds}
use Rattle.message.specs.Framed.{named_by}
use Rattle.message.specs.Types.{sua_kinds}
use Rattle.message.specs.Accessors.{moved}
use Rattle.form.specs.Form.{is_address}
use Rattle.m3ua.specs.Types.{m3ua_kinds}
use Rattle.m3ua.specs.ProtocolData.{Data, data_in}
use Rattle.m3ua.specs.Form.{is_protocol_data}

-- A tag (2 octets), and where the value starts and how long it is (4 octets each).
abbrev pub place_octets : Place → List ℕ
place_octets p = two p.tag ++ four p.start ++ four p.length

unfoldable pub places_octets : List Place → List ℕ
places_octets [] = []
places_octets (p ∷ ps) = place_octets p ++ places_octets ps

-- 0; or 1 and the fields of a part that is there.
abbrev pub marked : {X : Type 0} → (X → List ℕ) → Option X → List ℕ
marked f None = 0 ∷ []
marked f (Some x) = 1 ∷ f x

-- The four descriptors, the number of digits, and the digits as characters.
abbrev pub title_fields : Title → List ℕ
title_fields t = t.gti ∷ t.tt ∷ t.np ∷ t.noa ∷ length t.digits ∷ t.digits

-- The routing indicator (2 octets), the include bits (1 SSN, 2 point code, 4 title), title, point code, SSN, the number of
-- other sub-parameters (4 octets) and their places.
unfoldable pub address_fields : Address → List Place → List ℕ
address_fields a others =
    two a.routing
    ++ (indicator a ∷ (marked title_fields a.title
    ++ (marked four a.code
    ++ (marked (λ (n : ℕ). n ∷ []) a.sub
    ++ (four (length others)
    ++ places_octets others)))))

-- An address value that starts at a position of the message, with the refusals of its reading.
unfoldable pub address_account : Alphabet → (base : ℕ) → List ℕ → Outcome (List ℕ)
address_account A base v = after (address_in A v) (λ a. mapped (λ ps. address_fields a (map (moved base) (other_places ps))) (places v 4))

-- A parameter: its place, and the address that its value is read as.
unfoldable pub param_account : Alphabet → List ℕ → Place → Outcome (List ℕ)
param_account A xs p =
    mapped (λ os. place_octets p ++ os) (pick (is_address p.tag) (address_account A p.start (valued xs p).value) (accepted []))

-- A message: class and type, the number of parameters (4 octets), and the account of each. Reading's refusals, then each
-- parameter's in wire order.
unfoldable pub account_of : {K : Type 0} → Kinds K → (param : List ℕ → Place → Outcome (List ℕ)) → List ℕ → Outcome (List ℕ)
account_of T param xs =
    after (named_by T xs) (λ h.
    after (places xs 8) (λ ps.
    mapped (λ os. (T.pair_of h.0).0 ∷ ((T.pair_of h.0).1 ∷ (four (length ps) ++ os))) (each (param xs) ps)))

-- Of SUA: with its addresses.
abbrev pub account : Alphabet → List ℕ → Outcome (List ℕ)
account A = account_of sua_kinds (param_account A)

-- Protocol Data whose value starts at a position of the message: the point codes (4 octets each), service indicator, network
-- indicator, message priority and signalling link selection (1 each), and where the user's data starts and how long it is (4
-- each).
unfoldable pub data_fields : (base : ℕ) → Data → List ℕ
data_fields base d =
    four d.originating
    ++ (four d.destination
    ++ (d.service_indicator ∷ (d.network_indicator ∷ (d.priority ∷ (d.selection
    ∷ (four (base + 12)
    ++ four (length d.payload)))))))

-- A parameter: its place, and the Protocol Data that its value is read as.
unfoldable pub data_account : List ℕ → Place → Outcome (List ℕ)
data_account xs p =
    mapped (λ os. place_octets p ++ os) (pick (is_protocol_data p.tag) (mapped (data_fields p.start) (data_in (valued xs p).value)) (accepted []))

-- Of M3UA: with its Protocol Data.
abbrev pub m3ua_account : List ℕ → Outcome (List ℕ)
m3ua_account = account_of m3ua_kinds data_account
