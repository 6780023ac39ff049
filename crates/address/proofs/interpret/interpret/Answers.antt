-- `address::interpret::interpret` meets its contract.
use mathlib.Core.Path.{◌≡◌, sym, ap, ◌∙◌}
use Prim.Native.Nat.{ℕ, ◌≤◌}
use native.Mathlib.Omega.{arith}
use mathlib.Core.List.{List}
use lib.ListN.{length}
use Rattle.std.specs.Prelude.{None}
use Rattle.bcd.specs.Outcome.{refused, accepted, bounded, mapped, Octets, most}
use Rattle.bcd.specs.Digits.{built_in}
use Rattle.bcd.proofs.Outcomes.{octets-of, bounded-within}
use Rattle.bcd.proofs.Results.{exit, few_octets, many_octets}
use Rattle.parameter.specs.Parameter.{two_at}
use Rattle.parameter.specs.Walk.{places}
use Rattle.address.specs.Address.{routing_in}
use Rattle.address.specs.Parts.{nothing, note_all, interpreted}
use Rattle.address.specs.Steps.Plan.{Walked}
use Rattle.address.specs.declared.parts.Parts.{Parts}
use Rattle.address.specs.declared.interpret.Interpreted.{Interpreted}
use Rattle.address.proofs.Interpreting.{read_beyond, read_few, read_unrouted, read_unwalked, routed, unrouted}
use Rattle.address.proofs.Interpreted.{read_short, read-interpreted, refused_interpreted}
use Rattle.address.proofs.Planning.{mapped_refused, walked}
use Rattle.address.proofs.interpret.interpret.Goals as goal

-- what the walk gave, of a value that is not too long
known :
    (v : List ℕ) (s : Parts) {i : ℕ}
    → Octets v
    → length v ≤ most
    → 4 ≤ length v
    → accepted i ≡ routing_in (two_at v 0)
    → accepted s ≡ bounded v (mapped (note_all nothing) (places v 4))
    → Walked v s
known v s o within long routing e = walked v s o within long (routed (two_at v 0) routing) (e ∙ bounded-within v _ within)

whole : (v : List ℕ) (s : Parts) → Walked v s → s.short ≡ None → accepted s ≡ interpreted v
whole v s k none = read-interpreted (record { known = k; whole = none })

pub returns-in_err-within-clause-parts : goal.returns-in_err-within-clause-parts
returns-in_err-within-clause-parts c =
    let v = c.args.value.now in
    let (h, a, b) = many_octets tt _ _ c.in_err-within.ensures in
    ap (mapped (λ (i : Interpreted). i.parts)) (exit c.from_residual.result _ c.from_residual.ensures.1)
    ∙ rw (a, b) (refused_interpreted v _ _ (read_beyond built_in v h))

pub returns-then-n-lt4-clause-parts : goal.returns-then-n-lt4-clause-parts
returns-then-n-lt4-clause-parts c = let v = c.args.value.now in refused_interpreted v _ _ (read_few built_in v (few_octets c.in_ok-within.ensures) c.if-n-lt4.true)

pub returns-in_default-clause-parts : goal.returns-in_default-clause-parts
unfolding two_at
returns-in_default-clause-parts c =
    let v = c.args.value.now in
    let routing : c.from_be_bytes-indicator.result ≡ two_at v 0 = omega (arith, c.from_be_bytes-indicator.ensures) in
    let no = unrouted (two_at v 0) (c.in_default.ensures ∙ ap routing_in routing) in
    rw routing (refused_interpreted v _ _ (read_unrouted built_in v (few_octets c.in_ok-within.ensures) c.if-n-lt4.false _ _ no))

pub returns-in_err-parts-clause-parts : goal.returns-in_err-parts-clause-parts
unfolding two_at
returns-in_err-parts-clause-parts c =
    let v = c.args.value.now in
    let routing : c.from_be_bytes-indicator.result ≡ two_at v 0 = omega (arith, c.from_be_bytes-indicator.ensures) in
    let small = routed (two_at v 0) (c.in-Ok.ensures ∙ ap routing_in routing) in
    ap (mapped (λ (i : Interpreted). i.parts)) (exit c.from_residual-in_err-parts.result _ c.from_residual-in_err-parts.ensures.1)
    ∙ refused_interpreted v _ _
    (read_unwalked built_in v (few_octets c.in_ok-within.ensures) c.if-n-lt4.false _ _ small
    (mapped_refused (note_all nothing) _ (c.in_err-parts.ensures ∙ bounded-within v _ (few_octets c.in_ok-within.ensures))))

pub returns-in-Some-clause-parts : goal.returns-in-Some-clause-parts
unfolding two_at
returns-in-Some-clause-parts c =
    let v = c.args.value.now in
    let routing : c.from_be_bytes-indicator.result ≡ two_at v 0 = omega (arith, c.from_be_bytes-indicator.ensures) in
    let k = known v c.in_ok-parts.parts (octets-of v (λ i. (c.type_inv.value i).fits)) (few_octets c.in_ok-within.ensures) c.if-n-lt4.false
    (c.in-Ok.ensures ∙ ap routing_in routing) c.in_ok-parts.ensures in
    refused_interpreted v _ _ (read_short k c.in-Some.short c.in-Some.is ∙ ap (λ (n : ℕ × List ℕ). refused n.0 n.1) (sym c.too_short.ensures))

pub invariant_of-result : goal.invariant_of-result
unfolding two_at
invariant_of-result c =
    let v = c.args.value.now in
    let routing : c.from_be_bytes-indicator.result ≡ two_at v 0 = omega (arith, c.from_be_bytes-indicator.ensures) in
    record {
      long = c.if-n-lt4.false;
      within = (few_octets c.in_ok-within.ensures);
      fits = λ i. (c.type_inv.value i).fits;
      routed = c.in-Ok.ensures ∙ ap routing_in routing;
      read = whole v c.in_ok-parts.parts
          (known v c.in_ok-parts.parts (octets-of v (λ i. (c.type_inv.value i).fits)) (few_octets c.in_ok-within.ensures) c.if-n-lt4.false
          (c.in-Ok.ensures ∙ ap routing_in routing) c.in_ok-parts.ensures) c.in_default-short.is;
    }

pub returns-clause-parts : goal.returns-clause-parts
unfolding two_at
returns-clause-parts c =
    let v = c.args.value.now in
    let routing : c.from_be_bytes-indicator.result ≡ two_at v 0 = omega (arith, c.from_be_bytes-indicator.ensures) in
    whole v c.in_ok-parts.parts
    (known v c.in_ok-parts.parts (octets-of v (λ i. (c.type_inv.value i).fits)) (few_octets c.in_ok-within.ensures) c.if-n-lt4.false
    (c.in-Ok.ensures ∙ ap routing_in routing) c.in_ok-parts.ensures) c.in_default-short.is
