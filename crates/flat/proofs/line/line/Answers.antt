-- `flat::line::line` meets its contract.
use Prim.Native.Nat.{◌≤◌}
use mathlib.Core.Path.{sym, refl}
use native.Mathlib.Omega.{arith}
use lib.ListN.{length}
use lib.Seq.{length-take-le}
use Rattle.bcd.proofs.Outcomes.{octets-of}
use Rattle.flat.proofs.Program.{written, line_refused, line_formed}
use Rattle.flat.proofs.line.line.Goals.{in-Ok, in-Err}
use Rattle.flat.proofs.line.line.Goals as goal

pub slice_bounds-form-end : goal.slice_bounds-form-end
slice_bounds-form-end c = let w = written _ _ _ _ c.in-Ok.ensures in omega (arith, w.fits, w.same)

pub slice_bounds-form-end-in-Ok : goal.slice_bounds-form-end-in-Ok
slice_bounds-form-end-in-Ok c =
    let w = written _ _ _ _ c.in-Ok.ensures in
    let fits : c.in-Ok.n ≤ length c.settle.new.form = omega (arith, w.fits, w.same) in
    sym (length-take-le _ _ fits)

pub returns : goal.returns
returns c =
    let xs = c.args.input.now in
    let o = octets-of xs (λ i. (c.type_inv.input i).fits) in
    elim c.match-settle.branch [
      | in-Ok w ↦ rw w.line-is (line_formed xs refl (omega (arith, c)) o _ c.settle.new.form (omega (arith, c)) w.in-Ok.n w.in-Ok.ensures w.form.ensures)
      | in-Err w ↦ rw w.line-is (line_refused xs refl (omega (arith, c)) o _ c.settle.new.form (omega (arith, c)) w.in-Err.refusal w.in-Err.ensures w.refused.ensures)
    ]
