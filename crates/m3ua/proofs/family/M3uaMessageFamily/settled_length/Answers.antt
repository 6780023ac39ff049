-- `m3ua::family::M3uaMessageFamily::settled_length` meets its contract: Protocol Data that is read or refused, and others.
use mathlib.Core.Path.{sym, ◌∙◌}
use Rattle.bcd.proofs.Results.{exit}
use Rattle.m3ua.proofs.Taken.{data_taken, data_refused, other_taken}
use Rattle.m3ua.proofs.family.M3uaMessageFamily.settled_length.Goals as goal
use Rattle.m3ua.proofs.family.M3uaMessageFamily.settled_length.Goals.{then-is_protocol_data+in_ok-decode, else-is_protocol_data}

pub returns-in_err-decode : goal.returns-in_err-decode
returns-in_err-decode c =
    exit _ _ c.from_residual.ensures.1
    ∙ data_refused c.args.item.tag c.args.item.value.now _ _ (sym c.is_protocol_data.ensures ∙ c.if-is_protocol_data.true) c.args.item.carried.1 c.in_err-decode.ensures

pub returns : goal.returns
returns c = c.wire_length.ensures ∙ elim c.if-is_protocol_data.branch [
  | then-is_protocol_data+in_ok-decode w ↦ data_taken c.args.item.tag c.args.item.value.now (sym c.is_protocol_data.ensures ∙ w.if-is_protocol_data.true) c.args.item.carried.1 w.in_ok-decode.ensures
  | else-is_protocol_data w ↦ other_taken c.args.item.tag c.args.item.value.now (sym c.is_protocol_data.ensures ∙ w.if-is_protocol_data.false) c.args.item.carried.1
]
