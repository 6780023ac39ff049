-- `address::interpret::TitleValue::digit_count` meets its contract.
use native.Mathlib.Omega.{arith}
use lib.ListN.{get_or, drop, length-drop}
use Rattle.bcd.specs.Digits.{built_in}
use Rattle.bcd.proofs.Reading.{digits-length}
use Rattle.address.proofs.interpret.TitleValue.digit_count.Goals as goal

pub returns-clause-value : goal.returns-clause-value
returns-clause-value c =
    let v = c.args.self.octets.now in
    omega (arith, c.min.ensures, c.from.ensures, digits-length built_in (drop 8 v) (get_or v 4 0), length-drop 8 v)
