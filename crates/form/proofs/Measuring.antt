-- How far the first pass has come: the places walked, and the sum of what their parameters take, or the first refusal.
use Prim.Native.Nat.{ℕ, ◌+◌, ◌*◌, ◌≤◌, ◌<◌}
use mathlib.Core.Path.{◌≡◌, refl, sym, ap, ◌∙◌}
use mathlib.Core.List.{List}
use native.Mathlib.Omega.{arith}
use lib.ListN.{length, get_or, drop, length-take}
use Rattle.bcd.specs.Outcome.{Outcome, accepted, refused, after, mapped, bounded, most}
use Rattle.parameter.specs.declared.Place.{Place}
use Rattle.parameter.specs.Parameter.{Param, two_at, run_length, Fits}
use Rattle.parameter.specs.Walk.{ended, found, step_at, valued}
use Rattle.parameter.proofs.Walking.{Found}
use Rattle.parameter.proofs.Reaching.{Reached, reached_start, reached_end, reached_refused, walk_step, walk_found, walk_more}
use Rattle.bcd.proofs.Outcomes.{bounded-within, octets-of, octets_at, all_take, all_drop}
use Rattle.form.specs.Family.{Carried}
use Rattle.form.specs.Steps.Passes.{sum_of, run_by}
use Rattle.form.proofs.Passes.{Roomy, run_walked, run_refused, taken, taken_more, sum_small}

-- The parameter at a place that a step found is one that the wire can carry.
pub found_carried : (xs : List ℕ) (at : ℕ) (p : Place) (next : ℕ) → ((i : ℕ) → get_or xs i 0 < 256) → Found xs at p next → Carried p.tag (valued xs p).value
unfolding two_at
found_carried xs at p next o f = (
  omega (arith, f.tag, o at, o (at + 1)),
  rw (length-take p.length (drop p.start xs)) (omega (arith, f.size, o (at + 2), o (at + 2 + 1))),
  (λ i. octets_at _ i (all_take (λ x. x < 256) p.length _ (all_drop (λ x. x < 256) p.start xs (octets-of xs o)))),
)

pub record Measuring (f : Param → Outcome (List Param)) (xs : List ℕ) (at : ℕ) (sum : Outcome ℕ) : Type 0 where
  pub reached : Reached xs 8 at
  pub so_far : sum ≡ taken f xs reached.done
  pub small : sum_of sum ≤ 65536 * at

pub measuring_start : (f : Param → Outcome (List Param)) (xs : List ℕ) → Measuring f xs 8 (accepted 0)
unfolding run_length
measuring_start f xs = record { reached = reached_start xs 8; so_far = refl; small = omega arith }

module _ {f : Param → Outcome (List Param)} {xs : List ℕ} {at : ℕ} {sum : Outcome ℕ} (m : Measuring f xs at sum) where
  pub measuring_more :
      Roomy f
      → (p : Place) (next : ℕ) (r : Outcome ℕ)
      → Fits (valued xs p)
      → accepted (found p next) ≡ bounded xs (step_at xs at)
      → r ≡ after sum (λ n. mapped (λ qs. n + run_length qs) (f (valued xs p)))
      → Measuring f xs next r
  measuring_more R p next r l e k =
      let g = walk_found xs at e in
      let bound = sum_small f R sum (valued xs p) r (65536 * at) l m.small k in
      record {
        reached = walk_more m.reached p next e;
        so_far = k ∙ ap (λ s. after s (λ n. mapped (λ qs. n + run_length qs) (f (valued xs p)))) m.so_far ∙ taken_more f xs m.reached.done p;
        small = omega (arith, g.forward);
      }

  pub measured_end : accepted ended ≡ bounded xs (step_at xs at) → sum ≡ mapped run_length (run_by f xs)
  measured_end e = m.so_far ∙ sym (ap (mapped run_length) (run_walked f xs m.reached.done (reached_end m.reached (walk_step xs at e))))

  pub measured_refused :
      (k : ℕ) (vs : List ℕ)
      → length xs ≤ most
      → refused k vs ≡ bounded xs (step_at xs at)
      → refused k vs ≡ mapped run_length (run_by f xs)
  measured_refused k vs h e = sym (ap (mapped run_length) (run_refused f xs k vs (reached_refused m.reached k vs (sym (e ∙ bounded-within xs (step_at xs at) h)))))
