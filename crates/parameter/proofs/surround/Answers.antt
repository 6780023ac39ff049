-- `parameter::surround` meets its contract: the buffer after each of its three stores.
use Prim.Native.Nat.{ℕ, ◌+◌}
use borrow.Author.Rules.{rules}
use mathlib.Core.Path.{◌≡◌, refl, ap, ◌∙◌}
use mathlib.Core.List.{List, ◌++◌}
use native.Mathlib.Omega.{arith}
use lib.ListN.{take, drop}
use Rattle.parameter.specs.Parameter.{Param, two, padded_length, param_octets}
use Rattle.parameter.proofs.RoundTrip.{octets-length}
use Rattle.parameter.proofs.Encoding.{framed-length, head_first, head_second, value-behind, pad_behind}
use Rattle.parameter.proofs.surround.Goals as goal

pub returns : goal.returns
returns c = let tag = c.args.tag in
    let n = c.args.length in
    let out = c.args.out.now in
    let room = c.requires.length_bound in
    let v = take n (drop 4 out) in
    let l = framed-length n out room in
    let first : c.copy_from_slice.new.self ≡ two tag = search rules in
    let second : c.copy_from_slice-2.new.self ≡ two (n + 4) = search rules in
    let b1 = head_first tag n v out l room _ (ap (λ (p : List ℕ). p ++ drop 2 out) first) in
    let b2 = head_second tag n v out l room _ _ b1 second in
    let b3 = pad_behind tag n v out l room _ _ c.next_multiple_of-padded.result (value-behind tag n v out l room _ refl b2) (omega (arith, c.next_multiple_of-padded.ensures)) c.clear.ensures in
    let p : Param = record { tag = tag; value = v } in
    b3.holds ∙ ap (λ (k : ℕ). param_octets p ++ drop k out) (octets-length p ∙ ap padded_length l)
