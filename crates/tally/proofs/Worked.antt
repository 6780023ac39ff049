-- The worked day, checked by computation.
use mathlib.Core.Path.{◌≡◌, refl}
use Rattle.bcd.specs.Outcome.{accepted}
use Rattle.bcd.specs.Digits.{halves, pack, digits_in, write_digits}
use Rattle.parameter.specs.Parameter.{param_octets, run_octets, encode_param, two_at}
use Rattle.parameter.specs.Walk.{headed, step_at, steps, places, parameters}
use Rattle.address.specs.Address.{title_in, write_title, piece_in, address_with, address_in, indicator, pieces, sub_param, write_address, rewrite_address}
use Rattle.message.specs.Kinds.{kind_of}
use Rattle.message.specs.Framed.{named_by, read_of, octets_of, write_of}
use Rattle.form.specs.Family.{settled_by, meaning_by}
use Rattle.form.specs.Form.{settled_param, part_in}
use Rattle.tally.specs.Members.{members, valid_members, longest}
use Rattle.tally.specs.Rows.{valid_rows}
use Rattle.tally.specs.Tally.{placed, tally}
use Rattle.tally.specs.Facts.{whole_day}
use Rattle.tally.specs.Worked.{worked_digits, worked_lengths, worked_messages, worked_rows}

pub worked_day : whole_day worked_digits worked_lengths worked_messages ≡ accepted worked_rows
unfolding tally placed longest members valid_members valid_rows meaning_by part_in settled_by settled_param read_of named_by kind_of octets_of write_of parameters places steps step_at headed two_at run_octets param_octets encode_param address_in address_with rewrite_address write_address piece_in pieces sub_param indicator title_in write_title digits_in halves write_digits pack
worked_day = refl
