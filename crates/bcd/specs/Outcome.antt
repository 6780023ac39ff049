-- What a call answers, in the terms of document 01, and what it leaves in a buffer that it was lent.
use Rattle.std.specs.List.{list_all, list_any}
use Rattle.std.specs.Prelude.{ℕ, ◌<◌, ◌-◌, ◌^◌, min, Bool, true, false, List, [], ◌∷◌, ◌++◌, length, drop, leb, eqb}

-- A value, or one of document 01's refusals ('Refused because of ..'): its number and the values returned with it.
pub data Outcome (A : Type 0) : Type 0 where
  accepted : A → Outcome A
  refused : (number : ℕ) → (values : List ℕ) → Outcome A

-- The first where the test holds, else the second.
abbrev pub pick {ℓ} : {A : Type ℓ} → Bool → A → A → A
pick true a b = a
pick false a b = b

-- Go on with what was accepted; a refusal stays.
abbrev pub after : {A B : Type 0} → Outcome A → (A → Outcome B) → Outcome B
after (accepted a) f = f a
after (refused n vs) f = refused n vs

-- Refuse unless the test holds.
abbrev pub demand : {A : Type 0} → Bool → (number : ℕ) → (values : List ℕ) → Outcome A → Outcome A
demand true n vs o = o
demand false n vs o = refused n vs

-- The same outcome, with f of its value.
abbrev pub mapped : {A B : Type 0} → (A → B) → Outcome A → Outcome B
mapped f (accepted a) = accepted (f a)
mapped f (refused n vs) = refused n vs

-- What was accepted, or another value in its place.
abbrev pub accepted_or : {A : Type 0} → A → Outcome A → A
accepted_or b (accepted a) = a
accepted_or b (refused n vs) = b

-- Each element in turn, what they give joined in order; the first refusal holds.
abbrev pub each : {A B : Type 0} → (A → Outcome (List B)) → List A → Outcome (List B)
each f [] = accepted []
each f (x ∷ xs) = after (f x) (λ ys. mapped (λ zs. ys ++ zs) (each f xs))

-- Every element has the property.
abbrev pub All : {A : Type 0} → (A → Type 0) → List A → Type 0
All P [] = Unit {0}
All P (x ∷ xs) = P x × All P xs

-- Two lists are equally long, and elements at the same place are in the relation.
abbrev pub AllPairs : {A B : Type 0} → (A → B → Type 0) → List A → List B → Type 0
AllPairs R [] [] = Unit {0}
AllPairs R [] (y ∷ ys) = ⊥
AllPairs R (x ∷ xs) [] = ⊥
AllPairs R (x ∷ xs) (y ∷ ys) = R x y × AllPairs R xs ys

-- Every element passes a test.
abbrev pub every : {A : Type 0} → (A → Bool) → List A → Bool
every = list_all

-- A number is among others, which may stand in any order and more than once.
abbrev pub among : ℕ → List ℕ → Bool
among n = list_any (λ m. eqb m n)

-- An octet string: each element is below 256.
abbrev pub Octets : List ℕ → Type 0
Octets = All (λ (x : ℕ). x < 256)

-- The most octets that are given or written (document 01, 'Bounds of the domain').
abbrev pub most : ℕ
most = 1048576

-- Octets given are at most that many, else 12 with their number.
abbrev pub bounded : {A : Type 0} → List ℕ → Outcome A → Outcome A
bounded xs = demand (leb (length xs) most) 12 (length xs ∷ [])

-- A returned value that 64 bits cannot hold is the largest number that they hold (document 01, 'Refused because of the input').
abbrev pub fit64 : ℕ → ℕ
fit64 n = min n (2 ^ 64 - 1)

-- What a call that writes into a lent buffer answers, and what the buffer then holds.
pub record Delivered : Type 0 where
  pub answer : Outcome ℕ
  pub buffer : List ℕ

-- An answer beside what the buffer then holds.
abbrev pub delivered : Outcome ℕ → List ℕ → Delivered
delivered answer buffer = record { answer = answer; buffer = buffer }

-- Octets that fit stand in front of what the buffer held beyond them, and their number is answered. Octets that do not
-- fit are refused as 14 with the length needed, and a refusal leaves the buffer as it was (document 01, 'Agreement on contracts').
unfoldable pub deliver : Outcome (List ℕ) → List ℕ → Delivered
deliver (refused n vs) out = delivered (refused n vs) out
deliver (accepted os) out =
    pick (leb (length os) (length out))
    (delivered (accepted (length os)) (os ++ drop (length os) out))
    (delivered (refused 14 (length os ∷ [])) out)
