-- `parameter::as_u32` meets its contract: the first four octets are there, and are the number's.
use borrow.Author.Rules.{rules}
use denote.Ref.{Bor}
use Prim.Native.Nat.{ℕ, ◌+◌, ◌*◌, ◌<◌}
use mathlib.Core.Path.{◌≡◌, sym, ap, ◌∙◌}
use mathlib.Core.List.{List}
use native.Mathlib.Omega.{arith}
use lib.ListN.{length, get_or}
use lib.Seq.{get_or-take}
use Rattle.std.specs.Prelude.{Option, None, Some, MatchOption, IsSomeAnd}
use Rattle.std.specs.Array.{IsFirstChunk}
use Rattle.bcd.specs.Outcome.{accepted}
use Rattle.bcd.proofs.Outcomes.{bounded-within, bounded_beyond}
use Rattle.bcd.proofs.Results.{exit, few_octets, many_octets}
use Rattle.parameter.specs.Parameter.{two_at, number_in}
use Rattle.parameter.proofs.Encoding.{number_short, number-four}
use Rattle.parameter.proofs.as_u32.Goals as goal

number_of : (v first : List ℕ) → IsFirstChunk v first 4 → (n : ℕ) → n ≡ ((get_or first 0 0 * 256 + get_or first 1 0) * 256 + get_or first 2 0) * 256 + get_or first 3 0 → Some n ≡ number_in v
unfolding two_at
number_of v first k n e =
    let at : (i : ℕ) → i < 4 → get_or first i 0 ≡ get_or v i 0 = λ i h. rw k.same (get_or-take 4 v i 0 h) in
    let a = at 0 (omega arith) in
    let b = at 1 (omega arith) in
    let c = at 2 (omega arith) in
    let d = at 3 (omega arith) in
    ap Some (omega (arith, e, a, b, c, d)) ∙ sym (number-four v k.enough)

of_chunk :
    {P : Bor (List ℕ) → ℕ → Type 0} (v : List ℕ) (first : Option (Bor (List ℕ))) (n : Option ℕ)
    → ((x : Bor (List ℕ)) (r : ℕ) → P x r → r ≡ ((get_or x.now 0 0 * 256 + get_or x.now 1 0) * 256 + get_or x.now 2 0) * 256 + get_or x.now 3 0)
    → MatchOption first (length v < 4) (λ y. IsFirstChunk v y.now 4)
    → MatchOption first (n ≡ None) (λ x. IsSomeAnd n (P x))
    → n ≡ number_in v
of_chunk v None n told h e = e ∙ sym (number_short v h)
of_chunk v (Some x) None told h e = absurd e
of_chunk v (Some x) (Some n) told h e = number_of v x.now h n (told x n e)

pub returns-in_err-within : goal.returns-in_err-within
returns-in_err-within c =
    let (h, a, b) = many_octets tt _ _ c.in_err-within.ensures in
    rw (exit c.from_residual.result _ c.from_residual.ensures.1, a, b) (sym (bounded_beyond c.args.value.now (accepted (number_in c.args.value.now)) h))

pub returns : goal.returns
returns c =
    let v = c.args.value.now in
    ap accepted (of_chunk v c.first_chunk.result c.map.result (λ x r p. search rules) c.first_chunk.ensures.cases c.map.ensures.cases)
    ∙ sym (bounded-within v (accepted (number_in v)) (few_octets c.in_ok-within.ensures))
