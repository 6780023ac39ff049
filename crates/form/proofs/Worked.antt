-- The worked messages, checked by computation.
use mathlib.Core.Path.{refl}
use Rattle.bcd.specs.Outcome.{All}
use Rattle.bcd.specs.Digits.{halves, pack, digits_in, read_digits, write_digits}
use Rattle.parameter.specs.Parameter.{param_octets, run_octets, encode_param, two_at}
use Rattle.parameter.specs.Walk.{headed, step_at, steps, places, parameters}
use Rattle.address.specs.Address.{title_in, write_title, piece_in, address_with, address_in, read_address, indicator, pieces, sub_param, write_address, rewrite_address}
use Rattle.message.specs.Kinds.{kind_of}
use Rattle.message.specs.Framed.{named_by, read_of, octets_of, write_of}
use Rattle.form.specs.Family.{settled_by}
use Rattle.form.specs.Form.{settled_param}
use Rattle.form.specs.Worked.{Holds, starred, unsettled, counters, short_titles}

pub worked : All Holds starred
unfolding settled_by settled_param read_of named_by kind_of octets_of write_of parameters places steps step_at headed two_at run_octets param_octets encode_param read_address address_in address_with rewrite_address write_address piece_in pieces sub_param indicator title_in write_title read_digits digits_in halves write_digits pack
worked = (refl, (refl, (refl, (refl, (refl, (refl, (refl, (refl, (refl, (refl, (refl, (refl, (refl, (refl, (refl, (refl, (refl, (refl, (refl, tt)))))))))))))))))))

pub worked_addresses : All Holds unsettled
unfolding settled_by settled_param read_of named_by kind_of octets_of write_of parameters places steps step_at headed two_at run_octets param_octets encode_param read_address address_in address_with rewrite_address write_address piece_in pieces sub_param indicator title_in write_title read_digits digits_in halves write_digits pack
worked_addresses = (refl, (refl, (refl, tt)))

pub worked_counters : All Holds counters
unfolding settled_by settled_param read_of named_by kind_of octets_of write_of parameters places steps step_at headed two_at run_octets param_octets encode_param
worked_counters = (refl, (refl, (refl, (refl, tt))))

pub worked_short_titles : All Holds short_titles
unfolding settled_by settled_param read_of named_by kind_of octets_of write_of parameters places steps step_at headed two_at run_octets param_octets encode_param read_address address_in address_with rewrite_address write_address piece_in pieces sub_param indicator title_in write_title read_digits digits_in halves write_digits pack
worked_short_titles = (refl, (refl, (refl, tt)))
