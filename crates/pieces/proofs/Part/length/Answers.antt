-- `pieces::Part::length` meets its contract.
use mathlib.Core.Path.{sym, ◌∙◌}
use Rattle.parameter.proofs.Encoding.{wire_encode}
use Rattle.parameter.specs.Parameter.{param}
use Rattle.pieces.proofs.Placing.{number_taken, octet_taken, codes_taken, value_taken}
use Rattle.pieces.proofs.Part.length.Goals as goal

pub returns-in-Number : goal.returns-in-Number
returns-in-Number c = rw (c.in-Number.is) (sym (number_taken _ _))

pub returns-in-Octet : goal.returns-in-Octet
returns-in-Octet c = rw (c.in-Octet.is) (sym (octet_taken _ _))

pub returns-in-Octets : goal.returns-in-Octets
returns-in-Octets c = rw (c.in-Octets.is) (c.wire_length.ensures ∙ sym (wire_encode (param _ _)))

pub returns-in-Codes : goal.returns-in-Codes
returns-in-Codes c = rw (c.in-Codes.is) (c.wire_length-in-Codes.ensures ∙ sym (codes_taken _))

pub returns-in_ok-length-in-Address : goal.returns-in_ok-length-in-Address
returns-in_ok-length-in-Address c = rw (c.in-Address.is) (c.wire_length-in-Address.ensures ∙ value_taken _ _ _ c.in_ok-length-in-Address.ensures)
