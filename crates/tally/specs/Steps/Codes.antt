-- A prefix as one number, so that prefixes are compared as numbers are: a leading 1, then four bits for each digit.
use Rattle.std.specs.Prelude.{ℕ, ◌+◌, ◌-◌, ◌*◌, ◌≡◌, Bool, true, not, ◌&&◌, List, [], ◌∷◌, map, length, take}
use Rattle.bcd.specs.Outcome.{among}
use Rattle.tally.specs.Members.{members, valid_members}

abbrev pub code_from : ℕ → List ℕ → ℕ
code_from n [] = n
code_from n (h ∷ hs) = code_from (n * 16 + h) hs

unfoldable pub code : List ℕ → ℕ
code hs = code_from 1 hs

-- The half octets of decimal characters.
abbrev pub values : List ℕ → List ℕ
values = map (λ c. c - 0x30)

-- The numbers of the members.
abbrev pub codes : List (List ℕ) → List ℕ
codes = map (λ p. code (values p))

-- No two numbers are the same.
abbrev pub unlike : List ℕ → Bool
unlike [] = true
unlike (n ∷ ns) = not (among n ns) && unlike ns

-- A list that keeps the rules, beside its members' numbers.
pub record Numbered (digits lengths numbers : List ℕ) : Type 0 where
  pub valid : valid_members digits lengths ≡ true
  pub same : take (length lengths) numbers ≡ codes (members digits lengths)
