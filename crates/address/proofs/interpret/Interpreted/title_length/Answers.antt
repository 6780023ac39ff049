-- `address::interpret::Interpreted::title_length` meets its contract.
use mathlib.Core.Path.{◌≡◌, sym, ◌∙◌}
use Prim.Native.Nat.{◌+◌}
use native.Mathlib.Omega.{arith}
use Rattle.bcd.proofs.Results.{exit}
use Rattle.bcd.specs.Digits.{built_in}
use Rattle.parameter.specs.Parameter.{padded_length, run_length}
use Rattle.address.specs.Steps.Plan.{digits_by}
use Rattle.address.proofs.Held.{titled}
use Rattle.address.proofs.Planning.{digits_few, title_takes}
use Rattle.address.proofs.Unknown.{alike}
use Rattle.address.proofs.interpret.Interpreted.title_length.Goals as goal

pub returns-in_default : goal.returns-in_default
unfolding run_length
returns-in_default c = rw (sym (rw c.in_default.is at (titled built_in _ _ _ c.title.ensures)))

pub returns-in_err-octets : goal.returns-in_err-octets
returns-in_err-octets c =
    rw (sym (rw c.in-Some.is at (titled built_in _ _ _ c.title.ensures)))
    (exit c.from_residual.result _ c.from_residual.ensures.1 ∙ title_takes (digits_by c.args.digits) _ _ c.in_err-octets.ensures)

pub overflow_add-octets : goal.overflow_add-octets
overflow_add-octets c = let s = digits_few _ (alike c.args.digits).lawful _ _ c.in_ok-octets.ensures in omega arith

pub next_multiple_of-requires-clause-fits : goal.next_multiple_of-requires-clause-fits
next_multiple_of-requires-clause-fits c = let s = digits_few _ (alike c.args.digits).lawful _ _ c.in_ok-octets.ensures in omega arith

pub returns : goal.returns
returns c =
    let size : c.next_multiple_of.result ≡ padded_length (8 + c.in_ok-octets.octets) = omega (arith, c.next_multiple_of.ensures.value) in
    rw (sym (rw c.in-Some.is at (titled built_in _ _ _ c.title.ensures)), size) (title_takes (digits_by c.args.digits) _ _ c.in_ok-octets.ensures)
