-- `address::interpret::Interpreted::title_record` meets its contract: the title's octets are read without refusal.
use mathlib.Core.Path.{sym, ◌∙◌}
use Rattle.bcd.proofs.Outcomes.{accepted_inj, never}
use Rattle.address.proofs.Held.{title_recorded}
use Rattle.address.proofs.interpret.Interpreted.title_record.Goals as goal

pub returns-in_default : goal.returns-in_default
returns-in_default c = rw (sym (rw c.in_default.is at c.title.ensures))

pub returns-in_err-decode : goal.returns-in_err-decode
returns-in_err-decode c = absurd (never (c.in_err-decode.ensures ∙ title_recorded c.in-Some.title))

pub returns : goal.returns
returns c =
    let same = accepted_inj (c.in_ok-decode.ensures ∙ title_recorded c.in-Some.title) in
    rw (sym (rw c.in-Some.is at c.title.ensures), same)
