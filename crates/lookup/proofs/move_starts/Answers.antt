-- A turn moves one start more.
use Rattle.std.proofs.Common.{◌≡◌, ◌+◌, ◌<◌, ◌^◌, ◌∙◌, sym, ap, ℕ, set, get_or, arith}
use native.Mathlib.Numerals.{add-one}
use Rattle.bcd.proofs.Outcomes.{all_at}
use Rattle.parameter.specs.declared.Place.{Place}
use Rattle.parameter.proofs.Records.{nowhere}
use Rattle.lookup.specs.Accessors.{moved}
use Rattle.lookup.proofs.Addresses.{moved_front, not_yet_moved, one_moved}
use Rattle.lookup.proofs.move_starts.Goals as goal

pub overflow_add-row : goal.overflow_add-row
overflow_add-row c =
    let old = c.args.rows.now in
    let i = c.loop-row.row-index in
    let p = get_or c.loop-row.rows i nowhere in
    let here : p ≡ get_or old i nowhere = ap (λ ps. get_or ps i nowhere) c.loop-row.invariant ∙ not_yet_moved c.args.base i old in
    let fits : c.args.base + p.start < 2 ^ 64 = rw here (all_at (λ (row : Place). c.args.base + row.start < 2 ^ 64) old i nowhere c.requires c.loop-row-test.true) in
    record { fits = omega (arith, fits) }

pub loop-row-preserved : goal.loop-row-preserved
loop-row-preserved c =
    let base = c.args.base in
    let old = c.args.rows.now in
    let i = c.loop-row.row-index in
    let p = get_or c.loop-row.rows i nowhere in
    let sum : p.start + base ≡ base + p.start = omega arith in
    ap (λ (start : ℕ). set c.loop-row.rows i (record { tag = p.tag; start = start; length = p.length })) sum
    ∙ ap (λ ps. set ps i (moved base (get_or ps i nowhere))) c.loop-row.invariant
    ∙ ap (λ q. set (moved_front base i old) i (moved base q)) (not_yet_moved base i old)
    ∙ one_moved base i old c.loop-row-test.true
    ∙ ap (λ n. moved_front base n old) (sym (add-one i))
