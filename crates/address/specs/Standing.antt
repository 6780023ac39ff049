-- What an address that was read into a record and a lent table stands for.
use Rattle.std.specs.Prelude.{ℕ, ◌≡◌, ◌⊎◌, List, [], ◌∷◌, length}
use Rattle.bcd.specs.Outcome.{accepted, refused}
use Rattle.parameter.specs.Table.{Table, records}
use Rattle.address.specs.Address.{Address}
use Rattle.address.specs.Records.{address_of}
use Rattle.address.specs.Listing.{Listed, list_address}
use Rattle.address.specs.declared.SuaAddress.{SuaAddress}

-- The record's others are its records in the table, over the octets of the value; with them it stands for the address.
pub record Stands (v : List ℕ) (a : Address) (l : Listed) : Type 0 where
  pub read : SuaAddress
  pub answer : l.answer ≡ accepted read
  pub others : records v l.table read.other_count ≡ accepted a.others
  pub address : address_of read a.others ≡ a

-- Reading into a table gives that, or the table is too small and stays as it was.
abbrev pub ListsAs : List ℕ → Address → Table → Type 0
ListsAs v a t =
    Stands v a (list_address v t)
    ⊎ (list_address v t ≡ record { answer = refused 13 (length a.others ∷ []); table = t })
