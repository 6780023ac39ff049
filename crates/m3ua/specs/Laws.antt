-- The laws that M3UA keeps as a family of messages: what its implementation cites.
use mathlib.Core.Path.{◌≡◌, refl, sym, ap, ◌∙◌, subst₂}
use mathlib.Core.Bool.{Bool, true, false}
use mathlib.Core.List.{List, [], ◌∷◌, append-nil}
use native.Mathlib.Omega.{arith}
use Rattle.bcd.specs.Outcome.{accepted, pick, mapped, each}
use Rattle.bcd.proofs.Outcomes.{accepted_inj, mapped_inv, after_inv, each-cons}
use Rattle.parameter.specs.Parameter.{Param, run_length, run_octets, param_octets, encode_param}
use Rattle.parameter.proofs.Encoding.{encode_within}
use Rattle.form.specs.Family.{Written, LawfulFamily, Puts}
use Rattle.m3ua.specs.ProtocolData.{Data, data_in}
use Rattle.m3ua.specs.Form.{is_protocol_data, checked, m3ua}

-- What is not refused stays.
pub checked_same : (p : Param) (ms : List Param) → checked p ≡ accepted ms → p ∷ [] ≡ ms
unfolding checked
checked_same p ms e = on (is_protocol_data p.tag) e
  where
    on : (t : Bool) → pick t (mapped (λ (d : Data). p ∷ []) (data_in p.value)) (accepted (p ∷ [])) ≡ accepted ms → p ∷ [] ≡ ms
    on true e = let (d, hd, same) = mapped_inv (λ (d : Data). p ∷ []) (data_in p.value) e in same
    on false e = accepted_inj e

pub m3ua_lawful : LawfulFamily m3ua
unfolding run_length
m3ua_lawful p ms qs f e d =
    let m = checked_same p ms e in
    let q : p ∷ [] ≡ qs = accepted_inj (ap (each m3ua.write) m ∙ d) in
    let again : checked p ≡ accepted (p ∷ []) = e ∙ ap accepted (sym m) in
    subst₂ (Written m3ua p) m q (record {
      fits = (f, tt);
      room = omega arith;
      reads = each-cons checked p [] (p ∷ []) [] again refl;
    })

pub m3ua_put_there : Puts m3ua encode_param
unfolding run_octets
m3ua_put_there p qs f e =
    let (ms, hm, d) = after_inv (checked p) (each m3ua.write) e in
    let q : p ∷ [] ≡ qs = accepted_inj (ap (each m3ua.write) (checked_same p ms hm) ∙ d) in
    encode_within p f.size ∙ ap accepted (sym (append-nil (param_octets p)) ∙ ap run_octets q)
