-- How many digits of an address's title are absent, by the walk that keeps the title.
use Prim.Native.Nat.{ℕ}
use mathlib.Core.Path.{◌≡◌, refl, sym, ap, ◌∙◌}
use Rattle.std.specs.Prelude.{Option, option_map, unwrap_or}
use mathlib.Core.List.{List, [], map}
use lib.ListN.{drop}
use Rattle.bcd.specs.Outcome.{accepted, mapped, accepted_or}
use Rattle.bcd.specs.Digits.{Alphabet}
use Rattle.parameter.specs.Walk.{valued, parameters}
use Rattle.parameter.specs.declared.Place.{Place}
use Rattle.parameter.proofs.Structure.{places-parameters}
use Rattle.address.specs.Address.{last}
use Rattle.address.specs.Absent.{absent_at, title_value, absent_among, absent_in}
use Rattle.address.specs.Parts.{nothing, kept_value}
use Rattle.address.specs.Steps.Plan.{Read}
use Rattle.address.specs.declared.parts.Parts.{Parts}
use Rattle.address.proofs.Interpreting.{keeps_title}
use Rattle.address.proofs.Keeping.{last_holds}

-- The sub-parameters of an address value that was read, and the value of its title that holds: it is the one that is kept.
module _ {v : List ℕ} {s : Parts} (r : Read v s) where
  pub params_known : parameters (drop 4 v) ≡ accepted (map (valued v) r.known.places)
  params_known = sym (places-parameters v 4) ∙ ap (mapped (map (valued v))) r.known.walked

  pub value_holds : last title_value (map (valued v) r.known.places) ≡ kept_value v s.title
  value_holds =
      last_holds 0x8001 (valued v) title_value (λ p. (valued v p).value) (λ s. s.title) (λ p. refl) keeps_title nothing r.known.places
      ∙ ap (λ (s : Parts). kept_value v s.title) (sym r.known.parts)

module _ (A : Alphabet) where
  -- How many digits of the title that is kept are absent; 0 where there is none.
  abbrev pub absent_kept : List ℕ → Option Place → ℕ
  absent_kept v k = unwrap_or (option_map (absent_at A) (kept_value v k)) 0

  -- The number of an address value is that of the title that is kept.
  pub absent_known : {v : List ℕ} {s : Parts} (r : Read v s) → absent_in A v ≡ absent_kept v s.title
  unfolding absent_in
  absent_known r =
      ap (λ o. absent_among A (accepted_or [] o)) (params_known r) ∙ ap (λ o. unwrap_or (option_map (absent_at A) o) 0) (value_holds r)
