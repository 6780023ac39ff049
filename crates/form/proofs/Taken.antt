-- What SUA, with the built-in characters, takes in the form for a parameter, and what it puts there.
use Prim.Native.Nat.{ℕ, ◌≤◌}
use mathlib.Core.Path.{◌≡◌, refl, sym, ap, ◌∙◌}
use mathlib.Core.Bool.{true, false}
use mathlib.Core.List.{List, [], ◌∷◌}
use native.Mathlib.Omega.{arith}
use lib.ListN.{length}
use Rattle.bcd.specs.Outcome.{Outcome, accepted, refused, after, mapped, deliver}
use Rattle.bcd.specs.Digits.{built_in}
use Rattle.bcd.proofs.Writing.{untouched, delivered}
use Rattle.parameter.specs.Parameter.{Param, param, most_value, run_length, encode_param, wire_length}
use Rattle.parameter.proofs.Encoding.{wire_within}
use Rattle.address.specs.Address.{read_address, write_address, rewrite_address}
use Rattle.address.specs.Again.{parameter_again}
use Rattle.form.specs.Family.{rewritten}
use Rattle.form.specs.Form.{is_address, is_hop_counter, settled_param}
use Rattle.form.specs.Laws.{sua, param-rewritten, rewrite_read, rewrite_small, sua_puts}
use Rattle.form.proofs.Settling.{settled-address, settled_other, settled_counter}
use Rattle.form.proofs.Passes.{one_length}

-- What a parameter takes: nothing, its value's wire length, or that of its address written again.
abbrev taken : Param → Outcome ℕ
taken p = mapped run_length (rewritten (sua built_in) p)

same : (p : Param) → mapped run_length (settled_param built_in p) ≡ taken p
same p = ap (mapped run_length) (param-rewritten built_in p)

module _ (tag : ℕ) (v : List ℕ) where
  abbrev p : Param
  p = param tag v

  pub counter_length : is_hop_counter tag ≡ true → accepted 0 ≡ taken p
  unfolding run_length
  counter_length e = sym (ap (mapped run_length) (settled_counter built_in p e)) ∙ same p

  pub raw_length : is_address tag ≡ false → is_hop_counter tag ≡ false → length v ≤ most_value → wire_length tag (length v) ≡ taken p
  raw_length e c h =
      wire_within tag (length v) h
      ∙ sym (ap (mapped run_length) (settled_other built_in p false e c) ∙ ap accepted (one_length p))
      ∙ same p

  module _ (e : is_address tag ≡ true) (h : length v ≤ most_value) where
    abbrev again : Outcome ℕ
    again = mapped length (after (read_address built_in v) (write_address built_in tag))

    again_length : after again (wire_length tag) ≡ taken p
    again_length =
        ap (λ o. after (mapped length o) (wire_length tag)) (rewrite_read tag v h)
        ∙ go (rewrite_address built_in tag v) refl
        ∙ sym (ap (mapped run_length) (settled-address built_in p e))
        ∙ same p
      where
        go :
            (o : Outcome (List ℕ))
            → rewrite_address built_in tag v ≡ o
            → after (mapped length o) (wire_length tag) ≡ mapped run_length (mapped (λ w. param tag w ∷ []) o)
        go (accepted w) k = wire_within tag (length w) (rewrite_small tag v w k) ∙ ap accepted (sym (one_length (param tag w)))
        go (refused n vs) k = refl

    pub address_length : (n : ℕ) → accepted n ≡ again → wire_length tag n ≡ taken p
    address_length n k = ap (λ o. after o (wire_length tag)) k ∙ again_length

    pub address_refused : (n : ℕ) (vs : List ℕ) → refused n vs ≡ again → refused n vs ≡ taken p
    address_refused n vs k = ap (λ o. after o (wire_length tag)) k ∙ again_length

  -- What is put: nothing, the parameter, or its address written again.
  module _ (out d : List ℕ) {a : Outcome ℕ} where
    pub address_put :
        is_address tag ≡ true
        → record { answer = a; buffer = d } ≡ deliver (parameter_again tag v) out
        → record { answer = a; buffer = d } ≡ deliver (sua_puts p) out
    unfolding sua_puts
    address_put e k = rw e k

    pub raw_put :
        is_address tag ≡ false
        → is_hop_counter tag ≡ false
        → record { answer = a; buffer = d } ≡ deliver (encode_param p) out
        → record { answer = a; buffer = d } ≡ deliver (sua_puts p) out
    unfolding sua_puts
    raw_put e c k = rw (e, c) k

  pub counter_put : (out : List ℕ) → is_address tag ≡ false → is_hop_counter tag ≡ true → record { answer = accepted 0; buffer = out } ≡ deliver (sua_puts p) out
  unfolding sua_puts
  counter_put out e c = rw (e, c) (delivered 0 (untouched out) (omega arith))

-- What `settled_length` needs, and `put`.
pub ruleset param_taken = (counter_length, raw_length, address_length, address_refused)

pub ruleset param_put = (counter_put)
