-- The digits of an address value that is written again without a check of them.
use Rattle.std.specs.Prelude.{ℕ, List}
use Rattle.bcd.specs.Outcome.{Outcome, after}
use Rattle.bcd.specs.Digits.{Alphabet, place, characters, fold, built_in}
use Rattle.parameter.specs.Parameter.{param, encode_param}
use Rattle.address.specs.Address.{read_address, write_address}

-- The built-in digits, but that ? is written too: as 15, the half octet that it was read from.
abbrev pub with_unknown : Alphabet
with_unknown = record { char = built_in.char; half = λ c. place (fold c) characters }

-- An address value read, and written again as a parameter.
unfoldable pub parameter_again : (tag : ℕ) → List ℕ → Outcome (List ℕ)
parameter_again tag v = after (after (read_address built_in v) (write_address with_unknown tag)) (λ w. encode_param (param tag w))
