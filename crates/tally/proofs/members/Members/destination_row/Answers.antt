-- `tally::members::Members::destination_row` meets its contract: the title that is kept is the address's.
use mathlib.Core.Path.{refl, ap, ◌∙◌}
use Rattle.bcd.specs.Outcome.{accepted}
use Rattle.bcd.specs.Digits.{built_in}
use Rattle.bcd.proofs.Results.{exit_as}
use Rattle.address.proofs.Held.{titled}
use Rattle.tally.proofs.Destinations.{row_refused, row_kept}
use Rattle.tally.proofs.members.Members.destination_row.Goals as goal

pub returns-in_err-address : goal.returns-in_err-address
returns-in_err-address c =
    exit_as c.from_residual.result _ c.from_residual.ensures.1 _ (row_refused c.args.self.now c.args.value.now _ _ c.in_err-address.ensures.parts)

pub returns-in-None : goal.returns-in-None
returns-in-None c =
    let a = c.in_ok-address.address in
    ap accepted c.count.ensures.value
    ∙ rw (← c.in_ok-address.ensures.value a refl) (row_kept c.args.self.now a _ (rw c.in-None.is at (titled built_in _ _ _ c.title.ensures)))

pub returns-in-Some : goal.returns-in-Some
returns-in-Some c =
    let a = c.in_ok-address.address in
    ap accepted c.title_row.ensures
    ∙ rw (← c.in_ok-address.ensures.value a refl) (row_kept c.args.self.now a _ (rw c.in-Some.is at (titled built_in _ _ _ c.title.ensures)))
