-- The octets that hold a run of parameters, whatever the padding is (RFC 3868, 3.1.5; document 01, module 2).
use Rattle.std.specs.Prelude.{ℕ, ◌+◌, ◌-◌, ◌≤◌, ◌<◌, ◌≡◌, List, [], ◌∷◌, ◌++◌, length}
use Rattle.parameter.specs.Parameter.{Param, two, padded_length}

-- A parameter's octets without the padding.
abbrev pub unpadded : Param → List ℕ
unpadded p = two p.tag ++ two (4 + length p.value) ++ p.value

-- How many octets of padding follow it.
abbrev pub padding : Param → ℕ
padding p = padded_length (length p.value) - (4 + length p.value)

-- Octets that hold a run of parameters, with any octets as padding: the last padding may be cut short or missing, and
-- where it is whole, under four octets may follow.
pub data Holds : List Param → List ℕ → Type 0 where
  tail : (os : List ℕ) → length os < 4 → Holds [] os
  last : (p : Param) (pad : List ℕ) → length pad ≤ padding p → Holds (p ∷ []) (unpadded p ++ pad)
  next :
      (p : Param) (pad : List ℕ) {ps : List Param} {os : List ℕ}
      → length pad ≡ padding p
      → Holds ps os
      → Holds (p ∷ ps) (unpadded p ++ (pad ++ os))
