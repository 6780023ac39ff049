-- The code's records and answers in the terms of the definitions.
use Prim.Native.Nat.{ℕ}
use mathlib.Core.Path.{◌≡◌, refl, sym, ap, ◌∙◌}
use mathlib.Core.Bool.{true, false}
use Rattle.std.specs.Prelude.{Option, None, Some, Result, Ok, Err, is_some}
use mathlib.Core.List.{[]}
use Rattle.bcd.specs.Outcome.{mapped}
use Rattle.bcd.specs.Answers.{outcome_of}
use Rattle.bcd.specs.declared.error.Refusal.{Refusal}
use Rattle.bcd.proofs.Outcomes.{accepted_inj, never}
use Rattle.bcd.proofs.Distinct.{refusals_distinct}
use Rattle.address.specs.Records.{routing_value, title_of, address_of, with_gt, with_ssn_pc}
use Rattle.address.specs.Listing.{routing_named}
use Rattle.address.specs.declared.RoutingIndicator.{RoutingIndicator}
use Rattle.address.specs.declared.RoutingIndicator.TheVariants as I
use Rattle.address.specs.declared.GlobalTitle.{GlobalTitle}

pub named_back : (i : RoutingIndicator) → routing_named (routing_value i) ≡ i
named_back I.Reserved = refl
named_back I.RouteOnGlobalTitle = refl
named_back I.RouteOnSsnAndPc = refl
named_back I.RouteOnHostname = refl
named_back I.RouteOnSsnAndIp = refl

-- Distinct answers have distinct outcomes: a contract through `routing_value` says all that one on the answer itself would.
pub routing_distinct :
    (r s : Result RoutingIndicator Refusal)
    → mapped routing_value (outcome_of r) ≡ mapped routing_value (outcome_of s)
    → r ≡ s
routing_distinct (Ok i) (Ok j) e = ap Ok (sym (named_back i) ∙ ap routing_named (accepted_inj e) ∙ named_back j)
routing_distinct (Ok i) (Err r) e = absurd (never (sym e))
routing_distinct (Err r) (Ok j) e = absurd (never e)
routing_distinct (Err r) (Err s) e = ap Err (refusals_distinct r s e)

-- The addresses that the constructors' records stand for.
pub with_gt_address :
    (g : GlobalTitle) (ssn : Option ℕ)
    → address_of (with_gt g ssn) []
    ≡ record { routing = 1; gt = true; pc = false; ssn = is_some ssn; title = Some (title_of g); code = None; sub = ssn; others = [] }
with_gt_address g ssn = refl

pub with_ssn_pc_address :
    (ssn code : ℕ)
    → address_of (with_ssn_pc ssn code) []
    ≡ record { routing = 2; gt = false; pc = true; ssn = true; title = None; code = Some code; sub = Some ssn; others = [] }
with_ssn_pc_address ssn code = refl
