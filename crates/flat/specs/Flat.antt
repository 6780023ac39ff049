-- The message of a flat list of parameters, which an entry for another language is given.
use Rattle.std.specs.Prelude.{ℕ, zero, suc, ◌+◌, ◌*◌, List, [], map, length, leb}
use Rattle.bcd.specs.Outcome.{Outcome, accepted, pick, after, demand, mapped}
use Rattle.parameter.specs.declared.Place.{Place}
use Rattle.parameter.specs.Parameter.{Param, two_at}
use Rattle.parameter.specs.Walk.{Walked, ended, found, onward, valued}
use Rattle.message.specs.Kinds.{Kinds, kind_of}
use Rattle.message.specs.Framed.{message_of, write_of}
use Rattle.message.specs.Types.{sua_kinds}
use Rattle.m3ua.specs.Types.{m3ua_kinds}

-- The 32-bit number at a position, the high octet first.
abbrev pub four_at : List ℕ → ℕ → ℕ
four_at xs i = two_at xs i * 65536 + two_at xs (i + 2)

-- A record of a flat list: the tag (2 octets), the length of the value (4 octets) and the value. One that is not finished
-- is refused as 15.
unfoldable pub flat_step : List ℕ → (at : ℕ) → Outcome Walked
flat_step xs at =
    pick (leb (length xs) at) (accepted ended)
    (demand (leb (at + 6) (length xs)) 15 []
    (demand (leb (at + 6 + four_at xs (at + 2)) (length xs)) 15 []
    (accepted (found (record { tag = two_at xs at; start = at + 6; length = four_at xs (at + 2) }) (at + 6 + four_at xs (at + 2))))))

-- At most so many records from a position on.
unfoldable pub flat_steps : ℕ → List ℕ → (at : ℕ) → Outcome (List Place)
flat_steps zero xs at = accepted []
flat_steps (suc n) xs at = after (flat_step xs at) (onward (flat_steps n xs))

-- The parameters of a flat list: one record after the other. A record has six octets or more, so there are never more
-- steps than octets.
unfoldable pub flat_list : List ℕ → Outcome (List Param)
flat_list xs = mapped (map (valued xs)) (flat_steps (length xs) xs 0)

-- The message of a class, a type and a flat list: 4, 15, 10 in order, 12.
unfoldable pub encode_flat_of : {K : Type 0} → Kinds K → (class type : ℕ) → List ℕ → Outcome (List ℕ)
encode_flat_of T class type list = after (kind_of T class type) (λ t. after (flat_list list) (λ ps. write_of T (message_of t ps)))

-- Of SUA, and of M3UA.
abbrev pub encode_flat : (class type : ℕ) → List ℕ → Outcome (List ℕ)
encode_flat = encode_flat_of sua_kinds

abbrev pub encode_m3ua_flat : (class type : ℕ) → List ℕ → Outcome (List ℕ)
encode_m3ua_flat = encode_flat_of m3ua_kinds
