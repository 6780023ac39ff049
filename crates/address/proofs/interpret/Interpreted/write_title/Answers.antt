-- `address::interpret::Interpreted::write_title` meets its contract.
use mathlib.Core.Path.{sym, ap, ◌∙◌}
use mathlib.Core.List.{List}
use Rattle.bcd.specs.Outcome.{Outcome, mapped, deliver}
use Rattle.bcd.specs.Digits.{built_in}
use Rattle.parameter.specs.Parameter.{Param, run_octets}
use Rattle.address.specs.Address.{title, sub_param}
use Rattle.address.specs.Again.{with_unknown}
use Rattle.address.proofs.Held.{titled}
use Rattle.address.proofs.Planning.{each_one}
use Rattle.address.proofs.Putting.{none_delivered}
use Rattle.address.proofs.interpret.Interpreted.write_title.Goals as goal

pub returns-in-None : goal.returns-in-None
returns-in-None c = rw (sym (rw c.in-None.is at (titled built_in _ _ _ c.title.ensures))) (none_delivered c.args.out.now)

pub returns-in-Some : goal.returns-in-Some
returns-in-Some c =
    rw (sym (rw c.in-Some.is at (titled built_in _ _ _ c.title.ensures)))
    (c.put.ensures ∙ ap (λ (o : Outcome (List Param)). deliver (mapped run_octets o) c.args.out.now) (sym (each_one (sub_param with_unknown) (title _))))
