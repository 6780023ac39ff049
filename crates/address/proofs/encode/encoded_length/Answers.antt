-- `address::encode::encoded_length` meets its contract.
use mathlib.Core.Path.{sym, ◌∙◌}
use Rattle.address.proofs.Encoding.{given_measured}
use Rattle.address.proofs.encode.encoded_length.Goals as goal

pub returns : goal.returns
returns c = c.length_by.ensures ∙ sym (given_measured c.args.tag c.args.address.now c.args.others.values.now c.args.others.rows.now)
