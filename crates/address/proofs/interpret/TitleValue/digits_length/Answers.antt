-- `address::interpret::digits_length` meets its contract.
use mathlib.Core.Path.{◌≡◌, ap, ◌∙◌}
use Prim.Native.Nat.{◌+◌, ◌/◌}
use native.Mathlib.Omega.{arith}
use lib.ListN.{length, get_or}
use Rattle.bcd.specs.Outcome.{mapped}
use Rattle.address.proofs.Planning.{read_part}
use Rattle.address.proofs.Titling.{digits_count}
use Rattle.address.proofs.interpret.TitleValue.digits_length.Goals as goal

pub returns-in-Checked : goal.returns-in-Checked
returns-in-Checked c =
    let v = c.args.self.octets.now in
    rw (c.in-Checked.is) (c.rewritten_digits_length.ensures ∙ ap (mapped length) (read_part v (get_or v 4 0) c.args.self.within))

pub returns-in-Unchecked : goal.returns-in-Unchecked
returns-in-Unchecked c =
    let v = c.args.self.octets.now in
    let half : c.div_ceil.result ≡ (c.digit_count.result + 1) / 2 = omega (arith, c.div_ceil.ensures) in
    rw (c.in-Unchecked.is, half) (digits_count c.args.self c.digit_count.result c.digit_count.ensures.value)
