-- Records of parameters in a lent slice: each one's tag, and where its value starts and how long it is in the octets given
-- (document 01, 'Rust forms that cannot stay').
use Rattle.std.specs.Prelude.{ℕ, ◌+◌, List, [], ◌∷◌, ◌++◌, length, take, drop, leb, eqb}
use Rattle.std.specs.Prelude.{Option, None, Some}
use Rattle.bcd.specs.Outcome.{Outcome, accepted, refused, pick, after, demand, each}
use Rattle.parameter.specs.Parameter.{Param}
use Rattle.parameter.specs.Walk.{valued}
use Rattle.parameter.specs.declared.Place.{Place}

-- The rows of a lent table, in order.
abbrev pub Table : Type 0
Table = List Place

-- Rows from three columns.
unfoldable pub rows : (tags starts lengths : List ℕ) → List Place
rows (t ∷ ts) (s ∷ ss) (l ∷ ls) = record { tag = t; start = s; length = l } ∷ rows ts ss ls
rows [] ss ls = []
rows (t ∷ ts) [] ls = []
rows (t ∷ ts) (s ∷ ss) [] = []

abbrev pub table : (tags starts lengths : List ℕ) → Table
table tags starts lengths = rows tags starts lengths

-- How many rows a table has room for.
abbrev pub room : Table → ℕ
room t = length t

-- What a call that reads into a lent table answers, and what the table then holds.
pub record Tabulated : Type 0 where
  pub answer : Outcome ℕ
  pub table : Table

-- An answer beside what the table then holds.
abbrev pub tabulated : Outcome ℕ → Table → Tabulated
tabulated answer held = record { answer = answer; table = held }

-- A list in front of what a slice held beyond it.
abbrev pub over : {A : Type 0} → List A → List A → List A
over xs held = xs ++ drop (length xs) held

-- Places that fit are stored from the front, and their number is answered. Places that do not fit are refused as 13 with
-- the count needed, and a refusal leaves the table as it was (document 01, 'Agreement on contracts').
unfoldable pub tabulate : Outcome (List Place) → Table → Tabulated
tabulate (refused n vs) t = tabulated (refused n vs) t
tabulate (accepted ps) t =
    pick (leb (length ps) (room t))
    (tabulated (accepted (length ps)) (over ps t))
    (tabulated (refused 13 (length ps ∷ [])) t)

-- A record's parameter; 15 where it reaches outside the values.
unfoldable pub record_in : List ℕ → Place → Outcome (List Param)
record_in values p = demand (leb (p.start + p.length) (length values)) 15 [] (accepted (valued values p ∷ []))

-- The parameters of the first so many records over a lent slice of values; 15 where the count or a record reaches
-- outside its slice (document 01, 'Refused because of what was lent').
unfoldable pub records : List ℕ → Table → (count : ℕ) → Outcome (List Param)
records values t count = demand (leb count (room t)) 15 [] (each (record_in values) (take count t))

-- The first record with a tag (document 01, module 2).
abbrev pub first_with : ℕ → List Place → Option Place
first_with tag [] = None
first_with tag (p ∷ ps) = pick (eqb p.tag tag) (Some p) (first_with tag ps)

-- Finding by tag: 15 looks at every record (document 01, 'Order'; docs/DECISIONS.md, point 6).
unfoldable pub find_param : List ℕ → Table → (count tag : ℕ) → Outcome (Option Place)
find_param values t count tag = after (records values t count) (λ ps. accepted (first_with tag (take count t)))
