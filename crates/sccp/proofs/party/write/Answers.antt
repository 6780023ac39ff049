-- `sccp::party::write` meets its contract: the buffer after each part.
use native.Mathlib.Omega.{arith}
use borrow.Author.Rules.{rules}
use Rattle.sccp.proofs.PartyWriting.{party_short, low_first, alone, party_done}
use Rattle.sccp.proofs.party.write.Goals as goal

pub returns-then-out-length : goal.returns-then-out-length
returns-then-out-length c = rw c.party_length-length.ensures (party_short c.args.address c.args.out.now (omega arith))

pub returns : goal.returns
returns c =
    let p = c.args.address in
    let code = low_first p.point_code c.map.result (omega arith) (search rules) in
    let ssn = alone p.ssn c.map-2.result (search rules) in
    party_done p c.args.out.now (omega arith) c.indicator.ensures (rw code at c.put-ssn_place.ensures.written) (rw ssn at c.put.ensures.written) c.put_title.ensures.written
