-- `tally::members::Members::longest` meets its contract: the loop has found the longest of the members that it has passed.
use mathlib.Core.Path.{◌≡◌, ◌∙◌}
use mathlib.Core.Logic.{inl, inr, ⊎_elim}
use native.Mathlib.Omega.{arith}
use Rattle.std.specs.Slice.Iter.{iter_rest}
use Rattle.tally.proofs.Loading.{listed, kept}
use Rattle.tally.proofs.Telling.{firsts_here}
use Rattle.tally.proofs.Finding.{left_all, left_better, left_other, left_none}
use Rattle.tally.proofs.LongestMember.{longest-digits}
use Rattle.tally.proofs.members.Members.longest.Goals as goal
use Rattle.tally.proofs.members.Members.longest.Goals.{else-best-k-via-then-best-k+then-k-n+else-first-k, else-best-k-via-then-best-k+else-k-n, else-best-k-via-else-best-k}

pub loop-i-init : goal.loop-i-init
loop-i-init c =
    let a : iter_rest c.into_iter-i-iterator.result.iter.a ≡ c.self.inside.lengths.now = cc in
    let b : iter_rest c.into_iter-i-iterator.result.iter.b ≡ c.self.inside.numbers.now = cc in
    rw (a, b, ← c.self.view_is) (left_all c.into_iter-i-iterator.result.count (kept c.self.invariant) (listed c.self.invariant).0.short _ cc)

pub loop-i-preserved-then-first-k : goal.loop-i-preserved-then-first-k
loop-i-preserved-then-first-k c =
    let s = c.in-Some.ensures.steps in
    let f = firsts_here c.args.octets.now c.min-n.result (λ i. omega (arith, c.type_inv.octets i)) (omega (arith, c.min-n.ensures, c.min.ensures)) c.starts-first.ensures in
    rw s.1 (left_better f c.loop-i.invariant s.0.0 s.0.1 s.2 c.if-best-k.true c.if-k-n.true c.if-first-k.true)

pub loop-i-preserved : goal.loop-i-preserved
loop-i-preserved c =
    let s = c.in-Some.ensures.steps in
    let f = firsts_here c.args.octets.now c.min-n.result (λ i. omega (arith, c.type_inv.octets i)) (omega (arith, c.min-n.ensures, c.min.ensures)) c.starts-first.ensures in
    left_other f c.loop-i.invariant s.0.0 s.0.1 s.2
    (λ more short same.
    elim c.else-best-k.branch [
      | else-best-k-via-then-best-k+then-k-n+else-first-k w ↦ w.if-first-k.false same
      | else-best-k-via-then-best-k+else-k-n w ↦ omega arith
      | else-best-k-via-else-best-k w ↦ omega arith
    ])

pub returns : goal.returns
returns c =
    let f = firsts_here c.args.octets.now c.min-n.result (λ i. omega (arith, c.type_inv.octets i)) (omega (arith, c.min-n.ensures, c.min.ensures)) c.starts-first.ensures in
    left_none f c.loop-i.invariant (⊎_elim (λ (x, z). inl z.0) (λ (x, z). inr z.0) c.in-None.ensures.steps.0)
    ∙ rw (← c.self.view_is) (longest-digits (kept c.self.invariant) (listed c.self.invariant).0.short c.args.octets.now c.args.count c.min-n.result (omega (arith, c.min-n.ensures, c.min.ensures)))
