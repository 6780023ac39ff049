-- What a parameter takes in the form.
use Prim.Native.Nat.{ℕ, ◌≤◌}
use mathlib.Core.Path.{◌≡◌, refl, sym, ap, ◌∙◌}
use mathlib.Core.Bool.{true, false}
use mathlib.Core.List.{List, [], ◌∷◌}
use native.Mathlib.Omega.{arith}
use lib.ListN.{length}
use Rattle.bcd.specs.Outcome.{Outcome, accepted, refused, mapped, after, each}
use Rattle.bcd.proofs.Outcomes.{bounded-within}
use Rattle.parameter.specs.Parameter.{Param, param, most_value, run_length, wire_length}
use Rattle.parameter.proofs.Encoding.{wire_within}
use Rattle.form.specs.Family.{rewritten}
use Rattle.form.proofs.Passes.{one_length}
use Rattle.m3ua.specs.ProtocolData.{Data, data_in, read_data}
use Rattle.m3ua.specs.Form.{is_protocol_data, checked, m3ua}

module _ (tag : ℕ) (v : List ℕ) where
  abbrev p : Param
  p = param tag v

  abbrev taken : Outcome ℕ
  taken = mapped run_length (rewritten m3ua p)

  -- A parameter that is checked takes its value's wire length.
  whole : checked p ≡ accepted (p ∷ []) → length v ≤ most_value → wire_length tag (length v) ≡ taken
  whole e h =
      wire_within tag (length v) h
      ∙ sym (ap (λ o. mapped run_length (after o (each m3ua.write))) e ∙ ap accepted (one_length p))

  pub data_taken :
      {d : Data}
      → is_protocol_data tag ≡ true
      → length v ≤ most_value
      → accepted d ≡ read_data v
      → wire_length tag (length v) ≡ taken
  unfolding checked
  data_taken {d} t h e =
      let known : data_in v ≡ accepted d = sym (e ∙ bounded-within v (data_in v) (omega arith)) in
      whole (rw (t, known) refl) h

  pub data_refused : (n : ℕ) (vs : List ℕ) → is_protocol_data tag ≡ true → length v ≤ most_value → refused n vs ≡ read_data v → refused n vs ≡ taken
  unfolding checked
  data_refused n vs t h e =
      let known : data_in v ≡ refused n vs = sym (e ∙ bounded-within v (data_in v) (omega arith)) in
      rw (t, known) refl

  pub other_taken : is_protocol_data tag ≡ false → length v ≤ most_value → wire_length tag (length v) ≡ taken
  unfolding checked
  other_taken t h = whole (rw t refl) h
