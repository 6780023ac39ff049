-- The worked addresses, checked by computation.
use mathlib.Core.Path.{refl}
use Rattle.bcd.specs.Outcome.{All}
use Rattle.bcd.specs.Digits.{halves, pack, digits_in, write_digits}
use Rattle.parameter.specs.Parameter.{param_octets, run_octets, encode_param, two_at}
use Rattle.parameter.specs.Walk.{headed, step_at, steps, places, parameters}
use Rattle.address.specs.Address.{title_in, write_title, piece_in, address_with, address_in, read_address, indicator, pieces, sub_param, write_address}
use Rattle.sccp.specs.Sccp.{digits_of, sccp_in, converts, sccp_octets, to_sccp, from_sccp}
use Rattle.sccp.specs.Worked.{Holds, converted, unconverted}

pub worked_conversions : All Holds converted
unfolding to_sccp from_sccp sccp_octets converts sccp_in digits_of parameters places steps step_at headed two_at run_octets param_octets encode_param read_address address_in address_with write_address piece_in pieces sub_param indicator title_in write_title digits_in halves write_digits pack
worked_conversions = ((refl, refl), ((refl, refl), ((refl, refl), ((refl, refl), ((refl, refl), ((refl, refl), tt))))))

pub worked_refusals : All Holds unconverted
unfolding to_sccp from_sccp sccp_octets converts sccp_in digits_of parameters places steps step_at headed two_at run_octets param_octets encode_param read_address address_in address_with write_address piece_in pieces sub_param indicator title_in write_title digits_in halves write_digits pack
worked_refusals = (refl, (refl, (refl, (refl, (refl, (refl, (refl, (refl, (refl, tt)))))))))
