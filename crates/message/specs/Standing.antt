-- What a message that was read into a lent table stands for: of any protocol, and of SUA.
use Rattle.std.specs.Prelude.{◌≡◌, ◌⊎◌, List, [], ◌∷◌, ℕ, length}
use Rattle.bcd.specs.Outcome.{accepted, refused}
use Rattle.parameter.specs.Table.{Table, records}
use Rattle.message.specs.Kinds.{Kinds}
use Rattle.message.specs.Framed.{Framed}
use Rattle.message.specs.Message.{Message}
use Rattle.message.specs.Listing.{Listing, listing, list_of, Listed, list_message}

-- The answer is the message's type and the number of its parameters, and its records in the table are its parameters.
pub record StandsOf {K : Type 0} (xs : List ℕ) (m : Framed K) (l : Listing K) : Type 0 where
  pub answer : l.answer ≡ accepted (m.type, length m.params)
  pub params : records xs l.table (length m.params) ≡ accepted m.params

-- Reading into a table gives that, or the table is too small and stays as it was.
abbrev pub ListsOf : {K : Type 0} → Kinds K → List ℕ → Framed K → Table → Type 0
ListsOf T xs m t =
    StandsOf xs m (list_of T xs t) ⊎ (list_of T xs t ≡ listing (refused 13 (length m.params ∷ [])) t)

-- The record has the message's type and the number of its parameters, and its records in the table are its parameters.
pub record Stands (xs : List ℕ) (m : Message) (l : Listed) : Type 0 where
  pub answer : l.answer ≡ accepted (record { message_type = m.type; count = length m.params })
  pub params : records xs l.table (length m.params) ≡ accepted m.params

-- Reading into a table gives that, or the table is too small and stays as it was.
abbrev pub ListsAs : List ℕ → Message → Table → Type 0
ListsAs xs m t =
    Stands xs m (list_message xs t) ⊎ (list_message xs t ≡ record { answer = refused 13 (length m.params ∷ []); table = t })
