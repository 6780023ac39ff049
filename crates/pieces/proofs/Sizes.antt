-- What parts take at most, so that a run of few parts is never too long to write.
use Prim.Native.Nat.{ℕ, ◌*◌, ◌≤◌}
use mathlib.Core.Path.{◌≡◌, refl, sym, ap, ◌∙◌}
use mathlib.Core.List.{List, [], ◌∷◌}
use native.Mathlib.Omega.{arith}
use borrow.Author.Tests.{le-leb}
use lib.ListN.{length, length-append}
use Rattle.std.specs.Prelude.{Option, None, Some}
use Rattle.bcd.specs.Outcome.{Outcome, accepted, refused, after, mapped, most, fit64, each}
use Rattle.bcd.proofs.Outcomes.{accepted_inj, after_inv, each_inv}
use Rattle.parameter.specs.Parameter.{Param, param, encode_param, writable}
use Rattle.parameter.proofs.Encoding.{wire_encode, wire_inv}
use Rattle.address.specs.Given.{encode_address_as}
use Rattle.pieces.specs.declared.Part.{Part}
use Rattle.pieces.specs.declared.Part.TheVariants as P
use Rattle.pieces.specs.Parts.{number, octet, affected, part_written, given_written, run_written}

-- A parameter takes at most 65,536 octets.
param_most : (p : Param) (os : List ℕ) → encode_param p ≡ accepted os → length os ≤ 65536
param_most p os e =
    let (small, n) = wire_inv p.tag (length p.value) (length os) (sym (ap (mapped length) e) ∙ wire_encode p) in
    omega (arith, small, n)

-- Parameters in a row take at most 65,536 octets each.
pub written_small : (ps : List Param) (os : List ℕ) → each encode_param ps ≡ accepted os → length os ≤ 65536 * length ps
written_small [] os e = rw (← accepted_inj e) (omega arith)
written_small (p ∷ ps) os e =
    let (us, vs, hu, hv, j) = each_inv encode_param p ps os e in
    omega (arith, param_most p us hu, written_small ps vs hv, ap length j, length-append us vs)

part_most : (part : Part) (os : List ℕ) → part_written part ≡ accepted os → length os ≤ 65536
part_most (P.Number tag n) os e = param_most (number tag n) os e
part_most (P.Octet tag n) os e = param_most (octet tag n) os e
part_most (P.Octets tag octets) os e = param_most (param tag octets.now) os e
part_most (P.Codes codes) os e = param_most (affected codes.now) os e
part_most (P.Address tag a others) os e =
    let (w, k, b) = after_inv (encode_address_as tag a.now others.values.now others.rows.now) _ e in
    param_most (param tag w) os b

given_most : (part : Option Part) (os : List ℕ) → given_written part ≡ accepted os → length os ≤ 65536
given_most None os e = rw (← accepted_inj e) (omega arith)
given_most (Some part) os e = part_most part os e

run_most : (parts : List (Option Part)) (os : List ℕ) → run_written parts ≡ accepted os → length os ≤ 65536 * length parts
run_most [] os e = rw (← accepted_inj e) (omega arith)
run_most (part ∷ parts) os e =
    let (us, vs, hu, hv, j) = each_inv given_written part parts os e in
    omega (arith, given_most part us hu, run_most parts vs hv, ap length j, length-append us vs)

-- At most 16 parts take at most 1,048,576 octets: `run_length` answers their number, and `write_run` does not refuse it as 12.
module _ (parts : List (Option Part)) (few : length parts ≤ 16) where
  pub few_parts : (os : List ℕ) → run_written parts ≡ accepted os → length os ≤ most
  few_parts os e = omega (arith, few, run_most parts os e)

  pub few_measured : mapped (λ (os : List ℕ). fit64 (length os)) (run_written parts) ≡ mapped length (run_written parts)
  few_measured = go (run_written parts) refl
    where
      go : (o : Outcome (List ℕ)) → run_written parts ≡ o → mapped (λ (os : List ℕ). fit64 (length os)) o ≡ mapped length o
      go (refused n vs) e = refl
      go (accepted os) e = let small = few_parts os e in let same : fit64 (length os) ≡ length os = omega arith in ap accepted same

  pub few_writable : after (run_written parts) writable ≡ run_written parts
  few_writable = go (run_written parts) refl
    where
      go : (o : Outcome (List ℕ)) → run_written parts ≡ o → after o writable ≡ o
      go (refused n vs) e = refl
      go (accepted os) e = rw (le-leb (length os) most (few_parts os e))
