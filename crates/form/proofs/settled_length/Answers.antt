-- `form::settled_length` meets its contract.
use mathlib.Core.Path.{sym, ap, ◌∙◌}
use lib.ListN.{length}
use Rattle.bcd.specs.Outcome.{mapped}
use Rattle.bcd.specs.Digits.{built_in}
use Rattle.form.proofs.Settled.{of_family}
use Rattle.form.proofs.settled_length.Goals as goal

pub returns : goal.returns
returns c = c.settled_length_in.ensures ∙ ap (mapped length) (sym (of_family built_in c.args.input.now))
