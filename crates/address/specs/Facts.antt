-- What the theorems of this crate give, where that is more than one fact; and which titles can be written again.
use Rattle.std.specs.Prelude.{ℕ, ◌≤◌, ◌≡◌, List, length}
use Rattle.std.specs.Prelude.{Option, None, Some}
use Rattle.bcd.specs.Outcome.{accepted, Octets}
use Rattle.bcd.specs.Digits.{Alphabet, KnownDigits}
use Rattle.parameter.specs.Parameter.{padded_length, most_value}
use Rattle.address.specs.Address.{Title, title_in, Address, address_in}
use Rattle.address.specs.Lengths.{title_length}

-- No digit of the title, if there is one, is ?.
abbrev pub Known : Option Title → Type 0
Known None = Unit {0}
Known (Some t) = KnownDigits t.digits

-- A title that was read from v and written as w (`title_rewritten`): w is read back as it, and takes no more octets than v.
pub record RewrittenTitle (A : Alphabet) (v w : List ℕ) (t : Title) : Type 0 where
  pub reads : title_in A w ≡ accepted t
  pub size : length w ≡ title_length t
  pub room : length w ≤ length v
  pub octets : Octets w

-- An address that was read from v and written as w (`rewritten`): w is read back as it, can be a parameter's value, and
-- takes no more room than v.
pub record Rewritten (A : Alphabet) (v w : List ℕ) (a : Address) : Type 0 where
  pub reads : address_in A w ≡ accepted a
  pub size : length w ≤ most_value
  pub room : padded_length (length w) ≤ padded_length (length v)
  pub octets : Octets w
