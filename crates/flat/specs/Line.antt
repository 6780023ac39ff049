-- The line that the small program prints (document 01, 'A small program ..').
use Rattle.std.specs.Prelude.{◌≡◌, ℕ, zero, suc, ◌+◌, ◌-◌, ◌/◌, ◌%◌, ◌&&◌, List, [], ◌∷◌, ◌++◌, length, leb, ltb, eqb}
use Rattle.bcd.specs.Outcome.{Outcome, accepted, refused, pick, demand}
use Rattle.bcd.specs.Digits.{built_in}
use Rattle.parameter.specs.Table.{over}
use Rattle.form.specs.Form.{settled}

-- The character of a number below 16: 0 to 9, then a to f.
abbrev pub digit : ℕ → ℕ
digit d = pick (ltb d 10) (0x30 + d) (0x61 + (d - 10))

-- A number's decimal digits with no zeros in front, in as many steps as are allowed.
unfoldable pub decimal_in : (steps : ℕ) → ℕ → List ℕ
decimal_in zero n = digit n ∷ []
decimal_in (suc k) n = pick (ltb n 10) (digit n ∷ []) (decimal_in k (n / 10) ++ (digit (n % 10) ∷ []))

-- n steps suffice for n.
unfoldable pub decimal : ℕ → List ℕ
decimal n = decimal_in n n

-- An octet as two hexadecimal digits.
abbrev pub hex : ℕ → List ℕ
hex x = digit (x / 16) ∷ digit (x % 16) ∷ []

-- A word has four octets; a space stands before each word but the first.
abbrev pub space : (place : ℕ) → List ℕ
space i = pick (ltb 0 i && eqb (i % 4) 0) (0x20 ∷ []) []

-- The octets from a place on, and all, as words of eight digits; the last is shorter where the octets are no multiple of 4.
unfoldable pub words_from : (place : ℕ) → List ℕ → List ℕ
words_from i [] = []
words_from i (x ∷ xs) = space i ++ hex x ++ words_from (suc i) xs

abbrev pub words : List ℕ → List ℕ
words = words_from 0

-- A number between two texts.
abbrev pub between : (head : List ℕ) → ℕ → (tail : List ℕ) → List ℕ
between head n tail = head ++ decimal n ++ tail

-- `(form `, the number of octets, ` (`, the octets as words, `))` and a line feed.
unfoldable pub form_text : List ℕ → List ℕ
form_text f =
    between (0x28 ∷ 0x66 ∷ 0x6F ∷ 0x72 ∷ 0x6D ∷ 0x20 ∷ []) (length f) (0x20 ∷ 0x28 ∷ []) ++ words f ++ (0x29 ∷ 0x29 ∷ 0x0A ∷ [])

-- `(refused `, the number, `)` and a line feed.
unfoldable pub refused_line : (number : ℕ) → List ℕ
refused_line n = between (0x28 ∷ 0x72 ∷ 0x65 ∷ 0x66 ∷ 0x75 ∷ 0x73 ∷ 0x65 ∷ 0x64 ∷ 0x20 ∷ []) n (0x29 ∷ 0x0A ∷ [])

-- The program takes at most so many octets; more count as 12.
abbrev pub most_taken : ℕ
most_taken = 65536

unfoldable pub settled_input : List ℕ → Outcome (List ℕ)
settled_input xs = demand (leb (length xs) most_taken) 12 (length xs ∷ []) (settled built_in xs)

-- The line that the program prints: of the form, or of the number refused.
abbrev pub line_of : Outcome (List ℕ) → List ℕ
line_of (accepted f) = form_text f
line_of (refused number values) = refused_line number

unfoldable pub program_line : List ℕ → List ℕ
program_line xs = line_of (settled_input xs)

-- A line of 65,536 octets has so many characters, and none has more.
abbrev pub most_printed : ℕ
most_printed = 147471

-- The whole line stands in front of what the buffer held beyond it, and its length is answered.
pub record Printed (xs out : List ℕ) (n : ℕ) (held : List ℕ) : Type 0 where
  pub count : n ≡ length (program_line xs)
  pub line : held ≡ over (program_line xs) out
