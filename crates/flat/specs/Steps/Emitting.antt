-- Octets stored one after the other, where the slice has places for them.
use Rattle.std.specs.Prelude.{ℕ, ◌+◌, ◌*◌, ◌%◌, ◌≤◌, ◌≡◌, List, [], ◌∷◌, ◌++◌, map, length, get_or, take}
use Rattle.bcd.specs.Outcome.{Outcome, accepted, refused, after, accepted_or, each, bounded, fit64, most}
use Rattle.bcd.specs.Digits.{built_in}
use Rattle.parameter.specs.declared.Place.{Place}
use Rattle.parameter.specs.Parameter.{two, four, two_at}
use Rattle.parameter.specs.Walk.{places}
use Rattle.parameter.specs.Table.{over}
use Rattle.address.specs.declared.parts.Parts.{Parts}
use Rattle.address.specs.Parts.{kept_title, kept_code, kept_sub}
use Rattle.address.specs.Listing.{other_places}
use Rattle.flat.specs.declared.writer.Writer.{Writer}
use Rattle.flat.specs.Account.{places_octets, marked, title_fields}
use Rattle.message.specs.Accessors.{moved}

-- A writer before and after octets were stored: it holds the same slice, its position stands behind them, or is the largest
-- number of 64 bits, and where the slice has places for all, they stand there.
pub record Writes (a : Writer) (os : List ℕ) (b : Writer) : Type 0 where
  pub lent : b.out.ghost_name ≡ a.out.ghost_name
  pub same : length b.out.now ≡ length a.out.now
  pub behind : b.at ≡ fit64 (a.at + length os)
  pub held : a.at + length os ≤ fit64 (length a.out.now) → b.out.now ≡ over (take a.at a.out.now ++ os) a.out.now

-- The same for octets that may be refused: what was stored matters only where they are not.
abbrev pub Tried : {A : Type 0} → Writer → Outcome (List ℕ) → Outcome A → Writer → Type 0
Tried a o (accepted x) b = (os : List ℕ) × (o ≡ accepted os) × Writes a os b
Tried a o (refused n vs) b = (o ≡ refused n vs) × (b.out.ghost_name ≡ a.out.ghost_name)

-- The places of the others among sub-parameters, and the fields of an address from its parts.
abbrev pub listed : (base : ℕ) → List Place → List ℕ
listed base ps = places_octets (map (moved base) (other_places ps))

abbrev pub others_fields : (base : ℕ) → List ℕ → Parts → List ℕ
others_fields base v s = four s.other_count ++ listed base (accepted_or [] (places v 4))

unfoldable pub parts_fields : (base : ℕ) → List ℕ → Parts → List ℕ
parts_fields base v s =
    two (two_at v 0)
    ++ ((get_or v 3 0 % 8) ∷ (marked title_fields (kept_title built_in v s.title)
    ++ (marked four (kept_code v s.code)
    ++ (marked (λ (n : ℕ). n ∷ []) (kept_sub v s.ssn)
    ++ others_fields base v s))))

-- All parameters, from the seventh octet on, and how many they are. 12 first.
abbrev pub accounts : (param : List ℕ → Place → Outcome (List ℕ)) → List ℕ → Outcome (List ℕ)
accounts param xs = after (bounded xs (places xs 8)) (each (param xs))

-- No account of a parameter is longer.
abbrev pub Small : (param : List ℕ → Place → Outcome (List ℕ)) → List ℕ → Type 0
Small param xs = length xs ≤ most → (p : Place) (os : List ℕ) → param xs p ≡ accepted os → length os ≤ 13 * most

pub record Accounted (param : List ℕ → Place → Outcome (List ℕ)) (xs : List ℕ) (a : Writer) (answer : Outcome ℕ) (b : Writer) : Type 0 where
  pub lent : b.out.ghost_name ≡ a.out.ghost_name
  pub tried : Tried a (accounts param xs) answer b
  pub count : (n : ℕ) (ps : List Place) → answer ≡ accepted n → bounded xs (places xs 8) ≡ accepted ps → n ≡ length ps
