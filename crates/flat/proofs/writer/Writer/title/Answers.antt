-- `flat::writer::Writer::title` meets its contract.
use native.Mathlib.Omega.{arith}
use lib.ListN.{get_or, drop}
use Rattle.bcd.specs.Digits.{built_in}
use Rattle.bcd.proofs.Reading.{digits-length}
use Rattle.address.proofs.Planning.{whole_part}
use Rattle.flat.proofs.Emission.{writes_more}
use Rattle.flat.proofs.Describing.{title_stored}
use Rattle.flat.proofs.writer.Writer.title.Goals as goal

pub digits-requires : goal.digits-requires
digits-requires c =
    let v = c.in-Some.title.octets.now in
    rw whole_part (omega (arith, c.digit_count-n.ensures.value, digits-length built_in (drop 8 v) (get_or v 4 0)))

pub returns : goal.returns
returns c =
    let v = c.in-Some.title.octets.now in
    let stored = rw whole_part at c.digits.ensures in
    rw c.in-Some.is (title_stored v c.digit_count-n.result c.digit_count-n.ensures.value (writes_more c.put-2.ensures stored))
