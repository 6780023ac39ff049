-- `bcd::rewrite::rewritten_digits_length` meets its contract.
use native.Mathlib.Omega.{arith}
use mathlib.Core.Bool.{Bool}
use mathlib.Core.Path.{sym, ap, ◌∙◌}
use mathlib.Core.List.{[], ◌∷◌}
use lib.ListN.{length, take}
use Rattle.bcd.specs.Outcome.{accepted, refused, pick, mapped}
use Rattle.bcd.specs.Digits.{halves, pack}
use Rattle.bcd.proofs.Results.{exit, few_octets, many_octets}
use Rattle.bcd.proofs.Rewriting.{rewrite_beyond, rewrite_within, halves-packed}
use Rattle.bcd.proofs.rewrite.rewritten_digits_length.Goals as goal

pub returns-in_err-within : goal.returns-in_err-within
returns-in_err-within c =
    let (h, a, b) = many_octets tt _ _ c.in_err-within.ensures in
    rw (exit c.from_residual.result _ c.from_residual.ensures.1, a, b) (sym (ap (mapped length) (rewrite_beyond c.args.bytes.now c.args.num_digits h)))

pub returns-then-unknown : goal.returns-then-unknown
returns-then-unknown c = sym (ap (mapped length) (rewrite_within c.args.bytes.now c.args.num_digits c.min-n.result (few_octets c.in_ok-within.ensures) (omega (arith, c.from.ensures, c.min-n.ensures))
    ∙ c.unknown.ensures
    ∙ ap (λ (r : Bool). pick r (refused 9 (0x3F ∷ [])) (accepted (pack (take c.min-n.result (halves c.args.bytes.now))))) c.if-unknown.true))

pub returns : goal.returns
returns c = let half = halves-packed c.args.bytes.now c.min-n.result (omega (arith, c.min-n.ensures)) in
    ap accepted (omega (arith, half, c.div_ceil.ensures))
    ∙ sym (ap (mapped length) (rewrite_within c.args.bytes.now c.args.num_digits c.min-n.result (few_octets c.in_ok-within.ensures) (omega (arith, c.from.ensures, c.min-n.ensures))
    ∙ c.unknown.ensures
    ∙ ap (λ (r : Bool). pick r (refused 9 (0x3F ∷ [])) (accepted (pack (take c.min-n.result (halves c.args.bytes.now))))) c.if-unknown.false))
