-- The settled form and the meaning of a message, of any family of messages: what SUA and M3UA share.
use Rattle.std.specs.Prelude.{ℕ, ◌≤◌, ◌<◌, ◌≡◌, List, length, get_or}
use Rattle.bcd.specs.Outcome.{Outcome, accepted, after, mapped, each, All}
use Rattle.parameter.specs.Parameter.{Param, padded_length, most_value, run_octets, run_length, Fits}
use Rattle.message.specs.Kinds.{Kinds}
use Rattle.message.specs.Framed.{message_of, read_of, write_of}

-- The settled form: the message is read, of each parameter in wire order there is what f gives, and the message is encoded.
-- Reading's refusals, then f's (document 01, 'Order'); of octets, encoding refuses nothing more (`has_form`).
unfoldable pub settled_by : {K : Type 0} → Kinds K → (f : Param → Outcome (List Param)) → List ℕ → Outcome (List ℕ)
settled_by T f xs = after (read_of T xs) (λ m. after (each f m.params) (λ ps. write_of T (message_of m.type ps)))

-- The meaning of a message: its type and, in wire order, what each parameter means.
pub record Meant (K M : Type 0) : Type 0 where
  pub type : K
  pub parts : List M

unfoldable pub meaning_by : {K M : Type 0} → Kinds K → (mean : Param → Outcome (List M)) → List ℕ → Outcome (Meant K M)
meaning_by T mean xs = after (read_of T xs) (λ m. mapped (λ ps. record { type = m.type; parts = ps }) (each mean m.params))

-- A family of messages, over any message types: what a parameter means, part by part, and the parameters that each part is
-- written as.
pub record Family (M : Type 0) : Type 0 where
  pub mean : Param → Outcome (List M)
  pub write : M → Outcome (List Param)

-- A parameter read, and its parts written again.
abbrev pub rewritten : {M : Type 0} → Family M → Param → Outcome (List Param)
rewritten F p = after (F.mean p) (each F.write)

abbrev pub settled_of : {K M : Type 0} → Kinds K → Family M → List ℕ → Outcome (List ℕ)
settled_of T F = settled_by T (rewritten F)

abbrev pub meaning_of : {K M : Type 0} → Kinds K → Family M → List ℕ → Outcome (Meant K M)
meaning_of T F = meaning_by T F.mean

-- What is owed of the parameters qs that the parts ms of a parameter p are written as: they can be carried, take no more room
-- than it, and mean the same.
pub record Written {M : Type 0} (F : Family M) (p : Param) (ms : List M) (qs : List Param) : Type 0 where
  pub fits : All Fits qs
  pub room : run_length qs ≤ padded_length (length p.value)
  pub reads : each F.mean qs ≡ accepted ms

abbrev pub LawfulFamily : {M : Type 0} → Family M → Type 0
LawfulFamily {M} F =
    (p : Param) (ms : List M) (qs : List Param)
    → Fits p
    → F.mean p ≡ accepted ms
    → each F.write ms ≡ accepted qs
    → Written F p ms qs

-- The octets that are put in a form for a parameter that can be settled are those of what it is written as.
abbrev pub Puts : {M : Type 0} → Family M → (put : Param → Outcome (List ℕ)) → Type 0
Puts F put = (p : Param) (qs : List Param) → Fits p → rewritten F p ≡ accepted qs → put p ≡ accepted (run_octets qs)

-- A tag and a value that the wire can carry, as a parameter of a message that was read has them.
abbrev pub Carried : (tag : ℕ) → (value : List ℕ) → Type 0
Carried tag value = (tag < 65536) × (length value ≤ most_value) × ((i : ℕ) → get_or value i 0 < 256)
