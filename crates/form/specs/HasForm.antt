-- Which messages have a settled form, and how the others are refused (document 01, module 6 and 'Order').
use Rattle.std.specs.Prelude.{ℕ, ◌≤◌, ◌≡◌, true, List, ◌∷◌, ◌++◌}
use Rattle.bcd.specs.Outcome.{Outcome, accepted, refused, each}
use Rattle.bcd.specs.Digits.{Alphabet, built_in}
use Rattle.parameter.specs.Parameter.{Param, most_value}
use Rattle.address.specs.Address.{Address, address_in, write_address}
use Rattle.address.specs.Facts.{Known}
use Rattle.address.specs.Lengths.{address_length}
use Rattle.form.specs.Form.{is_address}

-- A parameter can be settled unless it is an address that is not read, or not written again.
abbrev pub Settles : Alphabet → Param → Type 0
Settles A p =
    is_address p.tag ≡ true
    → (a : Address) × (address_in A p.value ≡ accepted a) × ((w : List ℕ) × (write_address A p.tag a ≡ accepted w))

-- The same with the built-in characters: unless it is an address that is not read, has a ? among the digits of its title,
-- or is written as more than 65,531 octets.
abbrev pub Clean : Param → Type 0
Clean p =
    is_address p.tag ≡ true
    → (a : Address) × (address_in built_in p.value ≡ accepted a) × Known a.title × (address_length a ≤ most_value)

-- The first element that is refused, behind elements that are accepted.
pub record FirstRefused {A B : Type 0} (f : A → Outcome (List B)) (xs : List A) (n : ℕ) (vs : List ℕ) : Type 0 where
  pub before : List A
  pub here : A
  pub behind : List A
  pub split : xs ≡ before ++ here ∷ behind
  pub given : List B
  pub accepts : each f before ≡ accepted given
  pub refuses : f here ≡ refused n vs
