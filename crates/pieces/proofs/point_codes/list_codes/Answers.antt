-- `pieces::point_codes::list_codes` meets its contract: the loop has stored the first i codes.
use mathlib.Core.Path.{sym, ◌∙◌, subst}
use Prim.Native.Nat.{ℕ, ◌+◌}
use mathlib.Core.List.{[]}
use native.Mathlib.Omega.{arith}
use lib.ListN.{take, set}
use lib.Seq.{take_all}
use Rattle.bcd.proofs.Writing.{Begun, store_next}
use Rattle.pieces.specs.PointCodes.{codes_in}
use Rattle.pieces.proofs.PointCodes.{codes_in_length, code_at, store_small, store_done}
use Rattle.pieces.proofs.point_codes.list_codes.Goals as goal

pub returns-then-out-n : goal.returns-then-out-n
returns-then-out-n c = store_small (codes_in c.args.value.now) c.args.out.now _ (codes_in_length c.args.value.now ∙ sym c.as_chunks.ensures.front_len) c.if-out-n.true

pub loop-i-preserved : goal.loop-i-preserved
loop-i-preserved c =
    let codes = codes_in c.args.value.now in
    let i = c.loop-i.i in
    let v = code_at c.args.value.now i _ [] c.as_chunks.ensures.front (omega arith) in
    let l = codes_in_length c.args.value.now in
    subst (λ (v : ℕ). Begun c.args.out.now (take (i + 1) codes) (set c.loop-i.out i v)) (sym v ∙ omega (arith, c.from_be_bytes.ensures))
    (store_next codes i c.loop-i.invariant (omega (arith, l)) (omega arith))

pub returns : goal.returns
returns c =
    let codes = codes_in c.args.value.now in
    let l = codes_in_length c.args.value.now ∙ sym c.as_chunks.ensures.front_len in
    let b : Begun c.args.out.now codes c.loop-i.out = rw (take_all c.loop-i.i codes (omega (arith, l))) at c.loop-i.invariant in
    store_done _ b l
