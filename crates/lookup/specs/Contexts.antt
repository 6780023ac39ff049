-- Several routing contexts together (document 02, CR 6): one parameter lists 32-bit values (RFC 3868, 3.9, 0x0006), and a
-- member signs for a set of them.
use Rattle.std.specs.Prelude.{ℕ, ◌*◌, ◌%◌, ◌<◌, ◌≡◌, Bool, false, ◌&&◌, List, [], ◌∷◌, length, get_or, drop, eqb, ltb}
use Rattle.std.specs.Prelude.{Option, None, Some}
use Rattle.bcd.specs.Outcome.{Outcome, mapped, every, among}
use Rattle.parameter.specs.declared.Place.{Place}
use Rattle.parameter.specs.Parameter.{four_in}
use Rattle.parameter.specs.Walk.{valued}
use Rattle.parameter.specs.Table.{Table, find_param}

-- The routing contexts that a value lists: four octets each, the high octet first. An unfinished group is none.
unfoldable pub contexts_of : List ℕ → List ℕ
contexts_of (a ∷ b ∷ c ∷ d ∷ v) = four_in (a ∷ b ∷ c ∷ d ∷ []) ∷ contexts_of v
contexts_of (a ∷ b ∷ c ∷ []) = []
contexts_of (a ∷ b ∷ []) = []
contexts_of (a ∷ []) = []
contexts_of [] = []

-- The value's length is a positive multiple of 4, and every context that it lists is in the set.
abbrev pub all_in_set : (set : List ℕ) → List ℕ → Bool
all_in_set set v = ltb 0 (length v) && (eqb (length v % 4) 0 && every (λ n. among n set) (contexts_of v))

-- The same of the value at a place; no where there is no such parameter.
abbrev pub all_in_set_at : (set values : List ℕ) → Option Place → Bool
all_in_set_at set values None = false
all_in_set_at set values (Some p) = all_in_set set (valued values p).value

-- Of the first Routing Context; 15 first, as for any accessor.
unfoldable pub contexts_in : List ℕ → Table → (count : ℕ) → (set : List ℕ) → Outcome Bool
contexts_in values t count set = mapped (all_in_set_at set values) (find_param values t count 0x0006)

-- A number stands at a place of a set.
abbrev pub Member : (set : List ℕ) → ℕ → Type 0
Member set n = (k : ℕ) × (k < length set) × (get_or set k 0 ≡ n)

-- What document 02 asks of the value (`every_value`).
pub record EveryMember (set v : List ℕ) : Type 0 where
  pub positive : 0 < length v
  pub multiple : length v % 4 ≡ 0
  pub members : (i : ℕ) → 4 * i < length v → Member set (four_in (drop (4 * i) v))

-- The accessor's value compared with one number (`one_context`): no where there is none.
abbrev pub compared_with : ℕ → Option ℕ → Bool
compared_with n None = false
compared_with n (Some context) = eqb n context
