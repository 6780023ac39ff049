-- A protocol's message types (RFC 3868, 3.1.2 and 3.1.3; RFC 4666, 3.1.2 and 3.1.3).
use Rattle.std.specs.Prelude.{ℕ, zero, suc, ◌+◌, Bool, ◌&&◌, List, [], ◌∷◌, eqb}
use Rattle.bcd.specs.Outcome.{Outcome, accepted, refused, pick}

-- A protocol's message types, and the octets of each: its class and its type.
pub record Kinds (K : Type 0) : Type 0 where
  pub all : List K
  pub pair_of : K → ℕ × ℕ

-- The first of a list that passes a test, else another outcome.
abbrev pub first : {A : Type 0} → (A → Bool) → List A → Outcome A → Outcome A
first test [] other = other
first test (x ∷ xs) other = pick (test x) (accepted x) (first test xs other)

-- The message type of a class and a type; any other pair is refused as 4.
unfoldable pub kind_of : {K : Type 0} → Kinds K → (class type : ℕ) → Outcome K
kind_of T class type =
    first (λ k. eqb class (T.pair_of k).0 && eqb type (T.pair_of k).1) T.all (refused 4 (class ∷ type ∷ []))

-- 1 for a pair that is known, else 0.
abbrev pub known : {K : Type 0} → Outcome K → ℕ
known (accepted k) = 1
known (refused n vs) = 0

-- f of each number below n, added up.
abbrev pub sum_below : (n : ℕ) → (ℕ → ℕ) → ℕ
sum_below zero f = 0
sum_below (suc n) f = f n + sum_below n f

-- How many pairs of a class and a type below these numbers are known.
abbrev pub known_in : {K : Type 0} → Kinds K → (classes types : ℕ) → ℕ
known_in T cs ts = sum_below cs (λ c. sum_below ts (λ t. known (kind_of T c t)))
