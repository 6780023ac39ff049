-- `pieces::put_run` meets its contract: the loop has written the first parts.
use Prim.Native.Nat.{◌+◌, ◌-◌}
use mathlib.Core.Path.{◌≡◌, sym, ap, ◌∙◌, subst}
use mathlib.Core.List.{List}
use Prim.Native.Nat.{ℕ}
use borrow.Rule.Slice.PartMut.{mid_of}
use Rattle.bcd.specs.Outcome.{deliver}
use native.Mathlib.Omega.{arith}
use lib.ListN.{length}
use Rattle.std.specs.Prelude.{Option, None}
use Rattle.pieces.specs.Parts.{given_written, Placeable}
use Rattle.pieces.specs.declared.Part.{Part}
use Rattle.pieces.proofs.Running.{Running, running_asked, running_more, running_none, running_accepts, running_fit, running_all}
use Rattle.pieces.proofs.put_run.Goals as goal
use Rattle.pieces.proofs.put_run.Goals.{in-Some+in_ok-at, in_default}

-- by the element that is a part
at_element : {part part' : Option Part} (lent : List ℕ) → part ≡ part' → deliver (given_written part) lent ≡ deliver (given_written part') lent
at_element {part} {part'} lent e = ap (λ (p : Option Part). deliver (given_written p) lent) e

pub put-requires : goal.put-requires
put-requires c =
    subst (λ (part : Option Part). Placeable (given_written part) (length (mid_of c.loop-part.at (length c.loop-part.out - c.loop-part.at) c.loop-part.out))) c.in-Some.is
    (running_asked c.loop-part.invariant c.requires None c.loop-part-test.true)

pub returns-in_err-at : goal.returns-in_err-at
returns-in_err-at c =
    absurd (running_accepts c.loop-part.invariant c.requires None _ _ _ c.loop-part-test.true (c.in_err-at.ensures ∙ at_element _ (sym c.in-Some.is)))

pub overflow_add-at : goal.overflow_add-at
overflow_add-at c =
    omega (arith, running_fit c.loop-part.invariant c.requires None _ _ c.loop-part-test.true (c.in_ok-at.ensures ∙ at_element _ (sym c.in-Some.is)))

pub loop-part-preserved : goal.loop-part-preserved
loop-part-preserved c =
    elim c.match-part.branch as (λ b. Running given_written c.args.parts.now c.args.out.now c.match-part.out (c.loop-part.part-index + 1) c.match-part.at) [
      | in-Some+in_ok-at w ↦
          rw (w.out-is, w.at-is)
          (running_more c.loop-part.invariant c.requires None _ _ c.loop-part-test.true (w.in_ok-at.ensures ∙ at_element _ (sym w.in-Some.is)))
      | in_default w ↦ rw (w.out-is, w.at-is) (running_none c.loop-part.invariant c.requires None c.loop-part-test.true (ap given_written w.in_default.is))
    ]

pub returns : goal.returns
returns c = running_all c.loop-part.invariant c.requires c.loop-part-test.false
