-- Digits that are copied as half octets: whole octets, and an odd last one with its high half 0.
use Prim.Native.Nat.{ℕ, ◌+◌, ◌*◌, ◌/◌, ◌%◌, ◌≤◌}
use mathlib.Core.Path.{◌≡◌, sym, ap, ◌∙◌, subst}
use mathlib.Core.List.{List, ◌++◌}
use native.Mathlib.Omega.{arith}
use lib.ListN.{length, get_or, set, take, drop}
use lib.Seq.{length-take-le}
use Rattle.bcd.specs.Outcome.{accepted, deliver}
use Rattle.bcd.specs.Digits.{halves, pack, built_in, write_digits}
use Rattle.bcd.proofs.Reading.{digits-length}
use Rattle.bcd.proofs.Rewriting.{octets_even, octets_odd, halves-packed}
use Rattle.bcd.proofs.Writing.{Begun, begin, store, delivered}
use Rattle.sccp.specs.Steps.{digits_from, packed}
use Rattle.sccp.specs.declared.common.Digits.{Digits}
use Rattle.sccp.proofs.Known.{known_written}

module _ (d : Digits) where
  abbrev octets : List ℕ
  octets = d.octets.now

  whole-octets : d.count ≤ 2 * length octets
  whole-octets = omega (arith, d.whole)

  pub packed-length : length (packed d) ≡ length octets
  packed-length = halves-packed octets d.count whole-octets ∙ sym d.whole

  pub digits_count : length (digits_from d) ≡ d.count
  digits_count = digits-length built_in octets d.count ∙ omega (arith, whole-octets)

  pub digits-written : write_digits built_in (digits_from d) ≡ accepted (packed d)
  digits-written = known_written octets d.count whole-octets d.few d.known

  module _ (out held : List ℕ) (room : length octets ≤ length out) (e : held ≡ take (d.count / 2) octets ++ drop (d.count / 2) out) where
    abbrev whole : ℕ
    whole = d.count / 2

    front : length (take whole octets) ≡ whole
    front = length-take-le whole octets (omega (arith, d.whole))

    begun : Begun out (take whole octets) held
    begun =
        begin out (take whole octets) held (omega (arith, front, d.whole))
        (e ∙ ap (λ (n : ℕ). take whole octets ++ drop n out) (sym front))

    stood : {os now : List ℕ} → Begun out os now → os ≡ packed d → record { answer = accepted (length octets); buffer = now } ≡ deliver (accepted (packed d)) out
    stood {os} {now} b q = delivered (length octets) (subst (λ (os : List ℕ). Begun out os now) q b) packed-length

    pub even_put : (d.count % 2 ≡ 1 → ⊥) → record { answer = accepted (length octets); buffer = held } ≡ deliver (accepted (packed d)) out
    even_put n =
        let c : 2 * whole ≡ d.count = omega arith in
        stood begun (sym (octets_even whole octets (omega (arith, d.whole))) ∙ ap (λ (n : ℕ). pack (take n (halves octets))) c)

    pub odd_put :
        d.count % 2 ≡ 1
        → record { answer = accepted (length octets); buffer = set held whole (get_or octets whole 0 % 16) } ≡ deliver (accepted (packed d)) out
    odd_put n =
        let c : 2 * whole + 1 ≡ d.count = omega arith in
        stood (store whole (get_or octets whole 0 % 16) begun front (omega (arith, d.whole)))
        (sym (octets_odd whole octets (omega (arith, d.whole))) ∙ ap (λ (n : ℕ). pack (take n (halves octets))) c)
