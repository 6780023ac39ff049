-- `pieces::point_codes::unpack_affected_point_codes` meets its contract.
use Rattle.bcd.proofs.Results.{exit, few_octets, many_octets}
use Rattle.pieces.proofs.PointCodes.{store_refused, unpack_beyond, unpack_within}
use Rattle.pieces.proofs.point_codes.unpack_affected_point_codes.Goals as goal

pub returns-in_err-within : goal.returns-in_err-within
returns-in_err-within c =
    let (h, a, b) = many_octets tt _ _ c.in_err-within.ensures in
    rw (exit c.from_residual.result _ c.from_residual.ensures.1, a, b, unpack_beyond c.args.value.now h) (store_refused 12 _ c.args.out.now)

pub returns : goal.returns
returns c = rw (unpack_within c.args.value.now (few_octets c.in_ok-within.ensures)) c.list_codes.ensures
