-- `address::encode::title_length` meets its contract.
use denote.Ref.{Bor}
use borrow.Author.Rules.{rules}
use Prim.Native.Nat.{ℕ}
use mathlib.Core.Path.{◌≡◌, ap, ◌∙◌}
use Rattle.std.specs.Prelude.{Option, None, Some, Result, Ok, MatchOption}
use Rattle.std.specs.Option.{option_copied}
use Rattle.bcd.specs.Answers.{outcome_of}
use Rattle.bcd.specs.declared.error.Refusal.{Refusal}
use Rattle.address.specs.Steps.GivenParts.{title_by}
use Rattle.address.specs.declared.GlobalTitle.{GlobalTitle}
use Rattle.address.specs.declared.interpret.Digits.{Digits}
use Rattle.address.proofs.GivenParts.{no_title}
use Rattle.address.proofs.encode.title_length.Goals as goal

by_title :
    {P : Bor GlobalTitle → Type 0} (digits : Digits) (title : Option (Bor GlobalTitle)) (r : Result ℕ Refusal)
    → ((x : Bor GlobalTitle) → P x → outcome_of r ≡ title_by digits (Some x.now))
    → MatchOption title (r ≡ Ok 0) P
    → outcome_of r ≡ title_by digits (option_copied title)
by_title digits None r told h = ap outcome_of h ∙ no_title digits
by_title digits (Some x) r told h = told x h

pub returns : goal.returns
returns c =
    by_title c.args.digits c.as_ref.result c.map_or.result (λ x p. search rules) c.map_or.ensures
    ∙ ap (title_by c.args.digits) c.as_ref.ensures.value
