-- A run of parameters, walked from a position (RFC 3868, 3.1.5).
use Rattle.std.specs.Prelude.{ℕ, zero, suc, ◌+◌, ◌-◌, min, List, [], ◌∷◌, map, length, take, drop, leb, ltb}
use Rattle.bcd.specs.Outcome.{Outcome, accepted, refused, pick, after, demand, mapped}
use Rattle.parameter.specs.Parameter.{Param, param, two_at, padded_length}
use Rattle.parameter.specs.declared.Place.{Place}

-- What stands at a position: no more parameters, or a parameter's place and where the next one starts.
pub data Walked : Type 0 where
  ended : Walked
  found : Place → (next : ℕ) → Walked

-- A tag and a length at a position, with so many octets from the tag to the end: a length below 4 is 5, one beyond the
-- octets is 6 (document 01, 'Refused because of the input'). The next parameter starts behind the padding.
unfoldable pub headed : (tag len at left : ℕ) → Outcome Walked
headed tag len at left =
    demand (leb 4 len) 5 (tag ∷ len ∷ [])
    (demand (leb len left) 6 (tag ∷ len ∷ left ∷ [])
    (accepted (found (record { tag = tag; start = at + 4; length = len - 4 }) (at + padded_length (len - 4)))))

-- One step: under four octets are the end of the run (document 01, module 2).
unfoldable pub step_at : List ℕ → (at : ℕ) → Outcome Walked
step_at xs at =
    pick (ltb (length xs - at) 4) (accepted ended)
    (headed (two_at xs at) (two_at xs (at + 2)) at (length xs - at))

-- On from what a step found.
abbrev pub onward : (ℕ → Outcome (List Place)) → Walked → Outcome (List Place)
onward walk ended = accepted []
onward walk (found p next) = mapped (λ ps. p ∷ ps) (walk next)

-- At most so many steps from a position on.
unfoldable pub steps : ℕ → List ℕ → (at : ℕ) → Outcome (List Place)
steps zero xs at = accepted []
steps (suc n) xs at = after (step_at xs at) (onward (steps n xs))

-- The places of all parameters from a position on: each tag with where its value starts and how long it is. A parameter
-- has four octets or more, so there are never more steps than octets (`steps_enough`).
unfoldable pub places : List ℕ → (at : ℕ) → Outcome (List Place)
places xs at = steps (length xs) xs at

-- The parameter at a place: its value is that part of the octets.
abbrev pub valued : List ℕ → Place → Param
valued xs p = param p.tag (take p.length (drop p.start xs))

-- The parameters of a run: each tag with its value.
unfoldable pub parameters : List ℕ → Outcome (List Param)
parameters xs = mapped (map (valued xs)) (places xs 0)

-- One parameter, with the octets that it took: its padded length, or all there are where its padding is missing.
pub record Taken : Type 0 where
  pub place : Place
  pub consumed : ℕ

-- Reading the parameter at the front: under four octets are 1, then 5 or 6 (document 01, 'Order').
abbrev pub taken : List ℕ → Walked → Outcome Taken
taken xs ended = refused 1 (4 ∷ length xs ∷ [])
taken xs (found p next) = accepted (record { place = p; consumed = min next (length xs) })

unfoldable pub decode_param : List ℕ → Outcome Taken
decode_param xs = after (step_at xs 0) (taken xs)
