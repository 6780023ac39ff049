-- `address::interpret::Interpreted::code` meets its contract: the first four octets are there.
use denote.Ref.{Bor}
use Prim.Native.Nat.{ℕ, ◌≤◌, ◌<◌}
use mathlib.Core.Path.{◌≡◌, ap, ◌∙◌}
use mathlib.Core.List.{List}
use native.Mathlib.Omega.{arith}
use lib.ListN.{length}
use Rattle.std.specs.Prelude.{Option, None, Some, MatchOption}
use Rattle.std.specs.Array.{IsFirstChunk}
use Rattle.std.specs.Option.{option_copied}
use Rattle.bcd.specs.Outcome.{Octets}
use Rattle.parameter.specs.Parameter.{four, four_in}
use Rattle.address.proofs.Held.{value-octets, sound-of, lies}
use Rattle.address.proofs.Putting.{four_again}
use Rattle.address.proofs.interpret.Interpreted.code.Goals as goal

first_four :
    (w : List ℕ) (first : Option (Bor (List ℕ)))
    → 4 ≤ length w
    → Octets w
    → MatchOption first (length w < 4) (λ y. IsFirstChunk w y.now 4)
    → option_copied first ≡ Some (four (four_in w))
first_four w None long o h = absurd (omega arith)
first_four w (Some y) long o h = ap Some (h.same ∙ four_again w long o)

pub returns : goal.returns
returns c =
    let i = c.args.self.now in
    let p = c.in_ok-self.field-0 in
    let l = lies i.value.now 4 i.parts.code p (sound-of i).code c.in_ok-self.was in
    rw c.in_ok-self.was (c.copied.ensures ∙ first_four _ c.first_chunk.result l.enough (value-octets i p) (rw c.value.ensures at c.first_chunk.ensures.cases))
