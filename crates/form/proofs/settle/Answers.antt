-- `form::settle` meets its contract.
use mathlib.Core.Path.{sym, ap, ◌∙◌}
use Rattle.bcd.specs.Outcome.{deliver}
use Rattle.bcd.specs.Digits.{built_in}
use Rattle.form.proofs.Settled.{of_family}
use Rattle.form.proofs.settle.Goals as goal

pub returns : goal.returns
returns c = c.settle_in.ensures ∙ ap (λ o. deliver o c.args.out.now) (sym (of_family built_in c.args.input.now))
