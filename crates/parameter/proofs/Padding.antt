-- Reading skips the padding, whatever stands there and however much of the last one is there.
use Prim.Native.Nat.{ℕ, suc, ◌+◌, ◌-◌, ◌*◌, ◌/◌, ◌%◌, ◌≤◌, ◌<◌}
use mathlib.Core.Path.{◌≡◌, refl, sym, ap, ◌∙◌, subst}
use mathlib.Core.Logic.{◌⊎◌, inl, inr}
use mathlib.Core.List.{List, [], ◌∷◌, ◌++◌}
use native.Mathlib.Omega.{arith}
use borrow.Author.Tests.{le-leb}
use lib.ListN.{length, take, drop, take-append-drop, length-append, length-drop, drop_of_length-le}
use lib.Seq.{length-take-le, take-append_seam, drop-append-add, drop_at}
use Rattle.bcd.specs.Outcome.{accepted, mapped}
use Rattle.bcd.proofs.Outcomes.{le_or_lt}
use Rattle.parameter.specs.Parameter.{Param, padded_length}
use Rattle.parameter.specs.Walk.{steps, parameters}
use Rattle.parameter.specs.Padding.{unpadded, padding, Holds, tail, last, next}
use Rattle.parameter.proofs.Walking.{step_end}
use Rattle.parameter.proofs.Structure.{walk, places-steps, walk_enough}

two_joined : (n : ℕ) → n / 256 * 256 + n % 256 ≡ n
two_joined n = omega arith

walk_next : (n : ℕ) (p : Param) (rest : List ℕ) → walk (suc n) (unpadded p ++ rest) ≡ mapped (λ ps. p ∷ ps) (walk n (drop (padding p) rest))
unfolding walk
walk_next n p rest =
    let v : List ℕ = p.value in
    let fitted : 4 + length v ≤ 4 + length (v ++ rest) = rw length-append (omega arith) in
    let same : 4 + length v - 4 ≡ length v = omega arith in
    let skipped : padded_length (length v) - 4 ≡ length v + padding p = omega arith in
    let left : drop (padded_length (length v) - 4) (v ++ rest) ≡ drop (padding p) rest = rw skipped (drop-append-add v rest (padding p)) in
    rw (two_joined p.tag, two_joined (4 + length v), le-leb 4 (4 + length v) (omega arith), le-leb _ _ fitted, same, take-append_seam v rest, left)

-- A parameter in front of any octets: it is read, and reading goes on behind the padding.
pub parameters_next :
    (p : Param) (rest : List ℕ) → parameters (unpadded p ++ rest) ≡ mapped (λ ps. p ∷ ps) (parameters (drop (padding p) rest))
parameters_next p rest =
    let l : length (unpadded p ++ rest) ≤ 4 * suc (length p.value + length rest) = rw length-append (omega arith) in
    let k : length (drop (padding p) rest) ≤ 4 * (length p.value + length rest) = rw length-drop (omega arith) in
    walk_enough _ (unpadded p ++ rest) l
    ∙ walk_next (length p.value + length rest) p rest
    ∙ ap (mapped (λ ps. p ∷ ps)) (sym (walk_enough _ (drop (padding p) rest) k))

pub parameters_end : (os : List ℕ) → length os < 4 → parameters os ≡ accepted []
unfolding parameters steps
parameters_end os h = rw (places-steps 1 os 0 (omega arith), step_end os 0 (omega arith))

-- Octets that hold a run read as that run.
pub padding_ignored : {ps : List Param} {os : List ℕ} → Holds ps os → parameters os ≡ accepted ps
padding_ignored (tail os h) = parameters_end os h
padding_ignored (last p pad h) = parameters_next p pad ∙ rw (drop_of_length-le pad h, parameters_end [] (omega arith))
padding_ignored (next p pad {ps} {os} h k) = parameters_next p (pad ++ os) ∙ rw (drop_at pad os (padding p) h, padding_ignored k)

holds_nothing : {ps : List Param} {os : List ℕ} → Holds ps os → length os ≡ 0 → ps ≡ []
holds_nothing (tail os h) e = refl
holds_nothing (last p pad h) e = absurd (omega arith)
holds_nothing (next p pad h k) e = absurd (omega arith)

-- A parameter in front of octets that hold the others behind its padding, be it whole or cut short.
pub holds_front : (p : Param) (ps : List Param) (rest : List ℕ) → Holds ps (drop (padding p) rest) → Holds (p ∷ ps) (unpadded p ++ rest)
holds_front p ps rest k = on (le_or_lt (padding p) (length rest))
  where
    on : (padding p ≤ length rest) ⊎ (length rest < padding p) → Holds (p ∷ ps) (unpadded p ++ rest)
    on (inl h) =
        let whole = next p (take (padding p) rest) (length-take-le (padding p) rest h) k in
        subst (λ os. Holds (p ∷ ps) (unpadded p ++ os)) (take-append-drop (padding p) rest) whole
    on (inr h) =
        let none : ps ≡ [] = holds_nothing k (rw length-drop (omega arith)) in
        subst (λ qs. Holds (p ∷ qs) (unpadded p ++ rest)) (sym none) (last p rest (omega arith))
