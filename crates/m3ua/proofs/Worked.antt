-- The worked messages, checked by computation.
use mathlib.Core.Path.{refl}
use Rattle.bcd.specs.Outcome.{All}
use Rattle.parameter.specs.Parameter.{two_at, run_octets, param_octets, encode_param}
use Rattle.parameter.specs.Walk.{headed, step_at, steps, places, parameters}
use Rattle.message.specs.Kinds.{kind_of}
use Rattle.message.specs.Framed.{named_by, read_of, octets_of, write_of}
use Rattle.form.specs.Family.{settled_by}
use Rattle.m3ua.specs.ProtocolData.{data_in, data_octets, write_data}
use Rattle.m3ua.specs.Form.{checked}
use Rattle.m3ua.specs.Worked.{Holds, messages}

pub worked : All Holds messages
unfolding settled_by read_of named_by octets_of write_of checked data_in data_octets write_data kind_of parameters places steps step_at headed two_at run_octets param_octets encode_param
worked = (refl, (refl, (refl, (refl, (refl, (refl, (refl, (refl, (refl, (refl, (refl, (refl, (refl, (refl, (refl, (refl, tt))))))))))))))))
