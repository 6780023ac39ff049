-- What a run of parameters is written as: its length, when it is accepted, and that it reads back as the same run.
use Prim.Native.Nat.{ℕ, ◌+◌, ◌-◌, ◌≤◌, ◌<◌}
use mathlib.Core.Path.{◌≡◌, refl, sym, ap, ap₂, ◌∙◌, subst}
use mathlib.Core.List.{List, [], ◌∷◌, ◌++◌, append_assoc}
use native.Mathlib.Omega.{arith}
use borrow.Author.Tests.{le-leb, leb-true}
use lib.Dec.{leb}
use lib.ListN.{length, replicate, length-append, length-replicate}
use Rattle.bcd.specs.Outcome.{accepted, each, All, Octets, most}
use Rattle.bcd.proofs.Outcomes.{accepted_inj, after_inv, demand_inv, each-cons, each_inv, all_append, all_replicate}
use Rattle.parameter.specs.Parameter.{Param, padded_length, param_octets, run_octets, run_length, most_value, encode_param, encode_params, Sized, Fits}
use Rattle.parameter.specs.Walk.{parameters}
use Rattle.parameter.specs.Padding.{padding, Holds, tail, next}
use Rattle.parameter.proofs.Padding.{padding_ignored}

pub octets-length : (p : Param) → length (param_octets p) ≡ padded_length (length p.value)
unfolding param_octets
octets-length p = simp (length-append, length-replicate) (omega arith)

pub run_length_lem : (ps : List Param) → length (run_octets ps) ≡ run_length ps
unfolding run_octets run_length
run_length_lem [] = refl
run_length_lem (p ∷ ps) = rw (length-append, octets-length p, run_length_lem ps)

pub run_octets-append : (ps qs : List Param) → run_octets (ps ++ qs) ≡ run_octets ps ++ run_octets qs
unfolding run_octets
run_octets-append [] qs = refl
run_octets-append (p ∷ ps) qs = rw (run_octets-append ps qs, append_assoc)

pub run_length-append : (ps qs : List Param) → run_length (ps ++ qs) ≡ run_length ps + run_length qs
unfolding run_length
run_length-append [] qs = omega arith
run_length-append (p ∷ ps) qs = omega (arith, run_length-append ps qs)

-- The octets of a parameter, in front of others.
param-octets : (p : Param) (rest : List ℕ) → Fits p → Octets rest → Octets (param_octets p ++ rest)
unfolding param_octets
param-octets p rest f o =
    let n = padded_length (length p.value) - (4 + length p.value) in
    let body = all_append (λ x. x < 256) p.value (replicate n 0) f.octets (all_replicate (λ x. x < 256) n 0 (omega arith)) in
    (omega arith, (omega arith, (omega arith, (omega arith, all_append (λ x. x < 256) (p.value ++ replicate n 0) rest body o))))

pub run_octets_lem : (ps : List Param) → All Fits ps → Octets (run_octets ps)
unfolding run_octets
run_octets_lem [] fs = tt
run_octets_lem (p ∷ ps) fs = param-octets p (run_octets ps) fs.0 (run_octets_lem ps fs.1)

run_holds : (ps : List Param) → Holds ps (run_octets ps)
unfolding param_octets run_octets
run_holds [] = tail [] (omega arith)
run_holds (p ∷ ps) = rw append_assoc (next p (replicate (padding p) 0) (length-replicate (padding p) 0) (run_holds ps))

-- Whatever was written reads back. It need not fit: that what is written is octets is `run_octets_lem`.
pub round_trip : (ps : List Param) → parameters (run_octets ps) ≡ accepted ps
round_trip ps = padding_ignored (run_holds ps)

pub all-sized : (ps : List Param) → All Fits ps → All Sized ps
all-sized [] fs = tt
all-sized (p ∷ ps) fs = (fs.0.size, all-sized ps fs.1)

pub encode_accepts : (ps : List Param) → All Sized ps → each encode_param ps ≡ accepted (run_octets ps)
unfolding run_octets encode_param
encode_accepts [] ss = refl
encode_accepts (p ∷ ps) ss =
    let one : encode_param p ≡ accepted (param_octets p) = rw (le-leb (length p.value) most_value ss.0) in
    each-cons encode_param p ps (param_octets p) (run_octets ps) one (encode_accepts ps ss.1)

-- What it tells that every parameter of a list was written.
pub record Written (ps : List Param) (os : List ℕ) : Type 0 where
  pub run : run_octets ps ≡ os
  pub sizes : All Sized ps

pub encode_inv : (ps : List Param) (os : List ℕ) → each encode_param ps ≡ accepted os → Written ps os
unfolding run_octets encode_param
encode_inv [] os e = record { run = accepted_inj e; sizes = tt }
encode_inv (p ∷ ps) os e =
    let (us, vs, hu, hv, j) = each_inv encode_param p ps os e in
    let d = demand_inv (leb (length p.value) most_value) _ _ _ hu in
    let w = encode_inv ps vs hv in
    let a : param_octets p ≡ us = accepted_inj d.1 in
    record { run = ap₂ ◌++◌ a w.run ∙ j; sizes = (leb-true _ _ d.0, w.sizes) }

pub encode_params_accepts : (ps : List Param) → All Sized ps → run_length ps ≤ most → encode_params ps ≡ accepted (run_octets ps)
unfolding encode_params
encode_params_accepts ps ss h =
    let l : length (run_octets ps) ≤ most = omega (arith, run_length_lem ps) in
    rw (encode_accepts ps ss, le-leb (length (run_octets ps)) most l)

pub encode_params_inv : (ps : List Param) (os : List ℕ) → encode_params ps ≡ accepted os → Written ps os × (length os ≤ most)
unfolding encode_params
encode_params_inv ps os e =
    let (us, hu, hw) = after_inv (each encode_param ps) _ e in
    let d = demand_inv (leb (length us) most) _ _ _ hw in
    subst (λ os. Written ps os × (length os ≤ most)) (accepted_inj d.1) (encode_inv ps us hu, leb-true _ _ d.0)

pub encode_params_round_trip : (ps : List Param) (os : List ℕ) → encode_params ps ≡ accepted os → parameters os ≡ accepted ps
encode_params_round_trip ps os e = ap parameters (sym (encode_params_inv ps os e).0.run) ∙ round_trip ps
