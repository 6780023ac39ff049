-- `parameter::Cursor::step` meets its contract, case by case.
use Prim.Native.Nat.{ℕ, ◌≤◌}
use mathlib.Core.List.{List}
use lib.ListN.{length}
use mathlib.Core.Path.{◌≡◌, sym, ◌∙◌}
use native.Mathlib.Omega.{arith}
use Rattle.parameter.specs.Parameter.{two_at, round_up}
use Rattle.bcd.specs.Outcome.{Outcome, most, bounded}
use Rattle.std.proofs.lemmas.Result.{err_from_is_err_and}
use Rattle.bcd.proofs.Outcomes.{bounded-within, bounded_beyond}
use Rattle.bcd.proofs.Results.{few_octets, many_octets}
use Rattle.parameter.specs.Walk.{Walked, step_at}
use Rattle.parameter.proofs.Walking.{second_two, step_end, step_invalid, step_beyond, step_found}
use Rattle.parameter.proofs.Cursor.step.Goals as goal

in_bounds : (xs : List ℕ) (at : ℕ) (o : Outcome Walked) → length xs ≤ most → step_at xs at ≡ o → o ≡ bounded xs (step_at xs at)
in_bounds xs at o b e = sym (bounded-within xs (step_at xs at) b ∙ e)

pub returns-in_err-within : goal.returns-in_err-within
returns-in_err-within c =
    let (h, a, b) = many_octets tt _ _ c.in_err-within.ensures in
    let p = err_from_is_err_and c.from_residual.result c.from_residual.ensures.1 in
    rw (p.1, p.2, a, b) (sym (bounded_beyond c.args.bytes.now (step_at c.args.bytes.now c.args.self.at) h))

pub returns-then-left-lt4 : goal.returns-then-left-lt4
returns-then-left-lt4 c = in_bounds c.args.bytes.now c.args.self.at _ (few_octets c.in_ok-within.ensures) (step_end c.args.bytes.now c.args.self.at (omega arith))

pub returns-then-length-lt4 : goal.returns-then-length-lt4
unfolding two_at
returns-then-length-lt4 c = let xs = c.args.bytes.now in
    let at = c.args.self.at in
    in_bounds xs at _ (few_octets c.in_ok-within.ensures) (step_invalid xs at c.from_be_bytes-tag.result c.from_be_bytes-length.result (omega (arith, c)) c.from_be_bytes-tag.ensures (c.from_be_bytes-length.ensures ∙ second_two xs at) c.if-length-lt4.true)

pub returns-then-left-l : goal.returns-then-left-l
unfolding two_at
returns-then-left-l c = let xs = c.args.bytes.now in
    let at = c.args.self.at in
    let tag = c.from_be_bytes-tag.ensures in
    let len = c.from_be_bytes-length.ensures ∙ second_two xs at in
    let left = c.saturating_sub-left.ensures in
    in_bounds xs at _ (few_octets c.in_ok-within.ensures) (rw (c.from-l.ensures, left)
    (step_beyond xs at c.from_be_bytes-tag.result c.from_be_bytes-length.result (omega (arith, c)) tag len c.if-length-lt4.false (omega (arith, c))))

pub returns : goal.returns
unfolding two_at
returns c = let xs = c.args.bytes.now in
    let at = c.args.self.at in
    let tag = c.from_be_bytes-tag.ensures in
    let len = c.from_be_bytes-length.ensures ∙ second_two xs at in
    let next : c.next_multiple_of.result ≡ round_up c.from_be_bytes-length.result = omega (arith, c) in
    in_bounds xs at _ (few_octets c.in_ok-within.ensures) (rw (c.from-l.ensures, next)
    (step_found xs at c.from_be_bytes-tag.result c.from_be_bytes-length.result (omega (arith, c)) tag len c.if-length-lt4.false (omega (arith, c))))
