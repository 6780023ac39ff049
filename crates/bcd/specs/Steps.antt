-- Steps of the code between its public calls. No public contract of this crate cites these.
use Rattle.std.specs.Prelude.{ℕ, ◌≡◌, List, [], ◌∷◌, length, take, unwrap_or}
use Rattle.bcd.specs.Outcome.{Outcome, mapped}
use Rattle.bcd.specs.Digits.{Alphabet, write_digits}

-- A character's half octet, or 16, which is none, where it has none.
abbrev pub nibble : Alphabet → ℕ → ℕ
nibble A c = unwrap_or (A.half c) 16

-- One half octet alone.
abbrev pub one_half : ℕ → List ℕ
one_half h = h ∷ []

-- Digits are written, or refused, as the definition says: their octets are counted, and stand in front of the buffer.
pub record Packed (A : Alphabet) (cs : List ℕ) (answer : Outcome ℕ) (buffer : List ℕ) : Type 0 where
  pub counted : answer ≡ mapped length (write_digits A cs)
  pub octets : mapped (λ n. take n buffer) answer ≡ write_digits A cs
