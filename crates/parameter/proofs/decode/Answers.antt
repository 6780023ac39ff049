-- `parameter::decode` meets its contract: it goes on from a step at the front.
use mathlib.Core.Path.{◌≡◌, ap, ◌∙◌}
use Prim.Native.Nat.{ℕ}
use Rattle.std.specs.Prelude.{Err}
use Rattle.std.proofs.lemmas.Result.{err_from_is_err_and}
use Rattle.bcd.specs.Outcome.{accepted, bounded}
use Rattle.parameter.specs.Walk.{found, ended, step_at}
use Rattle.parameter.specs.Answers.{one_of}
use Rattle.parameter.proofs.Encoding.{decode_step}
use Rattle.parameter.proofs.decode.Goals as goal

pub returns-in_err-place : goal.returns-in_err-place
returns-in_err-place c =
    let xs = c.args.bytes.now in
    let p = err_from_is_err_and c.from_residual.result c.from_residual.ensures.1 in
    let step = c.in_err-place.ensures ∙ ap (λ (at : ℕ). bounded xs (step_at xs at)) c.new.ensures in
    ap one_of p.1 ∙ ap (λ r. one_of (Err r)) p.2 ∙ decode_step xs _ step

pub returns-in-Some : goal.returns-in-Some
returns-in-Some c =
    let xs = c.args.bytes.now in
    let at_front = ap (λ (at : ℕ). bounded xs (step_at xs at)) c.new.ensures in
    let step : accepted (found c.in-Some.place c.in-Some.next.at) ≡ bounded xs (step_at xs 0) = (rw (c.in-Some.is) at c.in_ok-place.ensures) ∙ at_front in
    ap (λ (n : ℕ). accepted (record { place = c.in-Some.place; consumed = n })) c.min.ensures ∙ decode_step xs _ step

pub returns-in-None : goal.returns-in-None
returns-in-None c =
    let xs = c.args.bytes.now in
    let at_front = ap (λ (at : ℕ). bounded xs (step_at xs at)) c.new.ensures in
    let step : accepted ended ≡ bounded xs (step_at xs 0) = (rw (c.in-None.is) at c.in_ok-place.ensures) ∙ at_front in
    decode_step xs _ step
