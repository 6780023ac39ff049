-- What was read fits, takes no more room when it is written, and reads back the same; and which octets are read.
use Prim.Native.Nat.{ℕ, zero, suc, ◌+◌, ◌-◌, ◌*◌, ◌/◌, ◌%◌, ◌≤◌, ◌<◌}
use mathlib.Core.Path.{◌≡◌, refl, sym, ap, ap₂, ◌∙◌, subst}
use mathlib.Core.List.{List, [], ◌∷◌, ◌++◌}
use native.Mathlib.Omega.{arith}
use borrow.Author.Tests.{leb-true}
use lib.Dec.{leb}
use lib.ListN.{length, take, drop, take-append-drop, length-take, length-drop}
use lib.Seq.{length-take-le, drop-drop}
use Rattle.bcd.specs.Outcome.{Outcome, accepted, All, Octets, most}
use Rattle.bcd.proofs.Outcomes.{accepted_inj, mapped_inv, demand_inv, all_take, all_drop}
use Rattle.parameter.specs.Parameter.{Param, two, round_up, padded_length, run_octets, run_length, encode_params, Fits}
use Rattle.parameter.specs.Walk.{parameters}
use Rattle.parameter.specs.Padding.{unpadded, padding, Holds, tail}
use Rattle.parameter.specs.Facts.{Rewritten}
use Rattle.parameter.proofs.Structure.{walk, parameters-walk}
use Rattle.parameter.proofs.Padding.{holds_front}
use Rattle.parameter.proofs.RoundTrip.{run_length_lem, round_trip, all-sized, encode_accepts, encode_params_accepts}

-- P stays with one more parameter in front: a tag, a length, n octets of value, and what follows the padding.
abbrev pub InFront : (List ℕ → List Param → Type 0) → Type 0
InFront P =
    (a b c d n : ℕ) (rest : List ℕ) (ps : List Param)
    → c * 256 + d ≡ 4 + n
    → n ≤ length rest
    → P (drop (padded_length n - 4) rest) ps
    → P (a ∷ b ∷ c ∷ d ∷ rest) (record { tag = a * 256 + b; value = take n rest } ∷ ps)

-- Induction over parameters that were read.
module _ (P : List ℕ → List Param → Type 0) (stop : (xs : List ℕ) → length xs < 4 → P xs []) (step : InFront P) where
  stopped : (xs : List ℕ) (ps : List Param) → length xs < 4 → ◌≡◌ {A = Outcome (List Param)} (accepted []) (accepted ps) → P xs ps
  stopped xs ps h e = subst (P xs) (accepted_inj e) (stop xs h)

  walk_induct : (n : ℕ) (xs : List ℕ) (ps : List Param) → length xs ≤ 4 * n → walk n xs ≡ accepted ps → P xs ps
  unfolding walk
  walk_induct zero xs ps h e = stopped xs ps (omega arith) e
  walk_induct (suc n) [] ps h e = stopped _ ps (omega arith) e
  walk_induct (suc n) (a ∷ []) ps h e = stopped _ ps (omega arith) e
  walk_induct (suc n) (a ∷ b ∷ []) ps h e = stopped _ ps (omega arith) e
  walk_induct (suc n) (a ∷ b ∷ c ∷ []) ps h e = stopped _ ps (omega arith) e
  walk_induct (suc n) (a ∷ b ∷ c ∷ d ∷ rest) ps h e =
      let m = c * 256 + d - 4 in
      let (low, e1) = demand_inv (leb 4 (c * 256 + d)) _ _ _ e in
      let (high, e2) = demand_inv (leb (c * 256 + d) (4 + length rest)) _ _ _ e1 in
      let (qs, hq, j) = mapped_inv _ (walk n (drop (padded_length m - 4) rest)) e2 in
      let l = leb-true 4 (c * 256 + d) low in
      let k = leb-true (c * 256 + d) (4 + length rest) high in
      let r = length-drop (padded_length m - 4) rest in
      subst (P (a ∷ b ∷ c ∷ d ∷ rest)) j (step a b c d m rest qs (omega arith) (omega arith) (walk_induct n _ qs (omega arith) hq))

  pub parameters_induct : (xs : List ℕ) (ps : List Param) → parameters xs ≡ accepted ps → P xs ps
  parameters_induct xs ps e = walk_induct (length xs) xs ps (omega arith) (sym (parameters-walk xs) ∙ e)

pub parameters-fit : (xs : List ℕ) (ps : List Param) → Octets xs → parameters xs ≡ accepted ps → All Fits ps
parameters-fit xs ps o e = parameters_induct (λ xs ps. Octets xs → All Fits ps) (λ xs h o. tt) step xs ps e o
  where
    step : InFront (λ xs ps. Octets xs → All Fits ps)
    step a b c d n rest ps e h ih (ha, (hb, (hc, (hd, hr)))) = (
      record { tag = omega arith; size = rw length-take (omega arith); octets = all_take (λ x. x < 256) n rest hr },
      ih (all_drop (λ x. x < 256) (padded_length n - 4) rest hr),
    )

-- The last padding may have been missing.
pub parameters-room : (xs : List ℕ) (ps : List Param) → parameters xs ≡ accepted ps → run_length ps ≤ round_up (length xs)
unfolding run_length
parameters-room = parameters_induct (λ xs ps. run_length ps ≤ round_up (length xs)) (λ xs h. omega arith)
    (λ a b c d n rest ps e h ih. let k = rw length-drop at ih in rw length-take (omega arith))

two-of : (n a b : ℕ) → n ≡ a * 256 + b → b < 256 → two n ≡ a ∷ b ∷ []
two-of n a b e h = let high : n / 256 ≡ a = omega arith in let low : n % 256 ≡ b = omega arith in rw (high, low)

-- Octets that were read hold what was read: with `padding_ignored`, reading accepts exactly the octets of a run.
pub parameters_hold : (xs : List ℕ) (ps : List Param) → Octets xs → parameters xs ≡ accepted ps → Holds ps xs
parameters_hold xs ps o e = parameters_induct (λ xs ps. Octets xs → Holds ps xs) (λ xs h o. tail xs h) step xs ps e o
  where
    step : InFront (λ xs ps. Octets xs → Holds ps xs)
    step a b c d n rest ps e h ih (ha, (hb, (hc, (hd, hr)))) =
        let p : Param = record { tag = a * 256 + b; value = take n rest } in
        let l : length (take n rest) ≡ n = length-take-le n rest h in
        let skipped : n + padding p ≡ padded_length n - 4 = omega arith in
        let behind : drop (padding p) (drop n rest) ≡ drop (padded_length n - 4) rest = rw (drop-drop, skipped) in
        let k = subst (Holds ps) (sym behind) (ih (all_drop (λ x. x < 256) (padded_length n - 4) rest hr)) in
        let tag : two (a * 256 + b) ≡ a ∷ b ∷ [] = two-of _ a b refl hb in
        let len : two (4 + length (take n rest)) ≡ c ∷ d ∷ [] = two-of _ c d (omega arith) hd in
        let same : unpadded p ++ drop n rest ≡ a ∷ b ∷ c ∷ d ∷ rest =
        ap₂ (λ t l. t ++ l ++ (take n rest ++ drop n rest)) tag len ∙ ap (λ r. a ∷ b ∷ c ∷ d ∷ r) (take-append-drop n rest) in
        subst (Holds (p ∷ ps)) same (holds_front p ps (drop n rest) k)

-- What was read can be written, is no longer than it was, rounded up to a multiple of 4, and reads back the same.
pub reread : (xs : List ℕ) (ps : List Param) → Octets xs → parameters xs ≡ accepted ps → Rewritten xs ps
reread xs ps o e = record {
  written = encode_accepts ps (all-sized ps (parameters-fit xs ps o e));
  room = omega (arith, run_length_lem ps, parameters-room xs ps e);
  again = round_trip ps;
}

-- The most octets are a multiple of 4, so what was read from at most that many can be written in a call.
pub read_encodes :
    (xs : List ℕ) (ps : List Param) → Octets xs → length xs ≤ most → parameters xs ≡ accepted ps → encode_params ps ≡ accepted (run_octets ps)
read_encodes xs ps o h e = encode_params_accepts ps (all-sized ps (parameters-fit xs ps o e)) (omega (arith, parameters-room xs ps e))
