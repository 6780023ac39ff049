-- The worked account and the worked list, checked by computation.
use mathlib.Core.Path.{◌≡◌, refl}
use Rattle.bcd.specs.Outcome.{accepted}
use Rattle.bcd.specs.Digits.{built_in, halves, digits_in}
use Rattle.parameter.specs.Parameter.{param_octets, run_octets, encode_param, two_at}
use Rattle.parameter.specs.Walk.{headed, step_at, steps, places, parameters}
use Rattle.address.specs.Address.{title_in, piece_in, address_with, indicator, address_in}
use Rattle.message.specs.Kinds.{kind_of}
use Rattle.message.specs.Framed.{named_by, octets_of, write_of}
use Rattle.flat.specs.Account.{places_octets, address_fields, address_account, param_account, account_of, account, data_fields, data_account, m3ua_account}
use Rattle.flat.specs.Flat.{flat_step, flat_steps, flat_list, encode_flat_of, encode_flat, encode_m3ua_flat}
use Rattle.m3ua.specs.ProtocolData.{data_in}
use Rattle.flat.specs.Worked as W

pub worked_account : account built_in W.worked_message ≡ accepted W.worked_account
unfolding account_of param_account address_account address_fields places_octets named_by kind_of places steps step_at headed two_at address_in parameters piece_in title_in digits_in halves address_with indicator
worked_account = refl

pub worked_list : encode_flat 7 1 W.worked_list ≡ accepted W.list_message
unfolding encode_flat_of kind_of flat_list flat_steps flat_step two_at write_of octets_of run_octets param_octets encode_param
worked_list = refl

pub worked_data_account : m3ua_account W.data_message ≡ accepted W.worked_data_account
unfolding account_of data_account data_fields data_in named_by kind_of places steps step_at headed two_at
worked_data_account = refl

pub worked_data_list : encode_m3ua_flat 1 1 W.worked_data_list ≡ accepted W.data_message
unfolding encode_flat_of kind_of flat_list flat_steps flat_step two_at write_of octets_of run_octets param_octets encode_param
worked_data_list = refl
