-- `address::SuaAddress::write_title` meets its contract.
use Rattle.bcd.proofs.Results.{exit}
use Rattle.address.proofs.Putting.{none_delivered}
use Rattle.address.proofs.GivenParts.{title_room_lem, title_declined, title_put}
use Rattle.address.proofs.SuaAddress.write_title.Goals as goal

pub returns-in_default : goal.returns-in_default
returns-in_default c = rw c.in_default.is (none_delivered c.args.out.now)

pub returns-in_err-length : goal.returns-in_err-length
returns-in_err-length c =
    let g = c.in-Some.gt in
    let r = title_room_lem g c.args.out.now (rw c.in-Some.is at c.requires) in
    rw (c.in-Some.is, exit c.from_residual.result _ c.from_residual.ensures.1) (title_declined g c.args.out.now r.0 r.1 _ c.in_err-length.ensures)

pub returns : goal.returns
returns c =
    let g = c.in-Some.gt in
    let r = title_room_lem g c.args.out.now (rw c.in-Some.is at c.requires) in
    rw c.in-Some.is (title_put g c.args.out.now r.0 r.1 _ _ c.in_ok-length.ensures c.frame.ensures)
