-- An address that is given by its record and whose digits are looked at as they are written: its title first, in its place, and
-- then the head in front of it.
use Prim.Native.Nat.{ℕ, ◌+◌, ◌-◌, ◌≤◌, ◌<◌}
use mathlib.Core.Path.{◌≡◌, refl, sym, ap, ◌∙◌}
use mathlib.Core.List.{List, [], ◌∷◌, ◌++◌}
use native.Mathlib.Omega.{arith}
use borrow.Rule.Slice.PartMut.{mid_of, put_mid}
use lib.Dec.{leb}
use lib.ListN.{length, take, drop, length-append}
use lib.Seq.{length-take-le}
use Rattle.bcd.specs.Outcome.{Outcome, accepted, refused, after, mapped, each, deliver}
use Rattle.bcd.proofs.Outcomes.{accepted_inj, never, after_inv, mapped_inv, demand_inv, deliver_refused}
use Rattle.bcd.proofs.Writing.{Begun}
use Rattle.parameter.specs.Parameter.{Param, run_octets, run_length, most_value, encode_param}
use Rattle.parameter.specs.Table.{Table, records}
use Rattle.parameter.proofs.RoundTrip.{run_length_lem}
use Rattle.address.specs.Given.{encode_address_as}
use Rattle.address.specs.Steps.GivenParts.{given_title, title_room, Roomed, four_length, length_with, room_for}
use Rattle.address.specs.declared.SuaAddress.{SuaAddress}
use Rattle.address.proofs.Planning.{mapped_refused}
use Rattle.address.proofs.Copying.{lent_length}
use Rattle.address.proofs.Lending.{lent_refused, lent_accepted, short-first, front_kept, front-written}
use Rattle.address.proofs.Delivering.{Wrote, wrote}
use Rattle.address.proofs.GivenParts.{title_roomed}
use Rattle.address.proofs.Encoding.{given_untitled, given_measured, Known, given-known}

-- Its length where its digits are not looked at: what is refused then is refused, and what can be written has that length.
module _ (tag : ℕ) (a : SuaAddress) (values : List ℕ) (t : Table) where
  abbrev written : Outcome (List ℕ)
  written = encode_address_as tag a values t

  room-titled : (ts : List Param) → given_title a.global_title ≡ accepted ts → room_for tag a values t ≡ mapped length written
  room-titled ts e =
      ap (λ (o : Outcome ℕ). length_with tag o a values t) (title_roomed a.global_title ts e ∙ sym (ap (mapped run_length) e))
      ∙ sym (given_measured tag a values t)

  room-known : (w : List ℕ) → written ≡ accepted w → room_for tag a values t ≡ accepted (length w)
  room-known w e =
      let k = given-known tag a values t (length w) (sym (ap (mapped length) e)) in
      room-titled k.titled k.title ∙ ap (mapped length) e

  pub room_refused :
      (out : List ℕ) {answer : Outcome ℕ} (n : ℕ) (vs : List ℕ)
      → refused n vs ≡ room_for tag a values t
      → answer ≡ mapped length written
      → record { answer = answer; buffer = out } ≡ deliver written out
  room_refused out {answer} n vs e h = go written refl
    where
      go : (o : Outcome (List ℕ)) → written ≡ o → record { answer = answer; buffer = out } ≡ deliver written out
      go (accepted w) k = absurd (never (e ∙ room-known w k))
      go (refused m ws) k = rw (h, k) (deliver_refused m ws out)

  module _ (total : ℕ) (e : accepted total ≡ room_for tag a values t) (out : List ℕ) where
    pub room-short :
        {answer : Outcome ℕ}
        → answer ≡ after (mapped length written) (λ (n : ℕ). refused 14 (total ∷ []))
        → length out < total
        → record { answer = answer; buffer = out } ≡ deliver written out
    room-short h = short-first written total out h (λ w k. accepted_inj (sym (room-known w k) ∙ sym e))

    -- The title, which is written first.
    pub record Room : Type 0 where
      pub others : List Param
      pub inside : records values t a.other_count ≡ accepted others
      pub takes : ℕ
      pub known : title_room a.global_title ≡ accepted takes
      pub fits : 4 + takes ≤ total

    pub room_inv : Room
    unfolding length_with
    room_inv =
        let (os, inside, e₁) = after_inv (records values t a.other_count) _ (sym e) in
        let (k, there, e₂) = after_inv (title_room a.global_title) _ e₁ in
        let (w, hw, e₃) = after_inv (each encode_param os) _ e₂ in
        let (small, same) = demand_inv (leb (4 + k + four_length a.point_code + four_length a.ssn + length w) most_value) _ _ _ e₃ in
        record { others = os; inside = inside; takes = k; known = there; fits = omega (arith, accepted_inj same) }

    abbrev lent : List ℕ
    lent = mid_of 4 (length out - 4) out

    module _ (room : total ≤ length out) where
      pub title_lent : Roomed (title_room a.global_title) lent
      title_lent = let r = room_inv in record { takes = r.takes; known = r.known; room = omega (arith, r.fits, lent_length out 4) }

      pub room_declined :
          (last : List ℕ) {n : ℕ} {vs : List ℕ}
          → record { answer = refused n vs; buffer = last } ≡ deliver (mapped run_octets (given_title a.global_title)) lent
          → record { answer = refused n vs; buffer = put_mid 4 (length out - 4) out last } ≡ deliver written out
      room_declined last {n} {vs} put =
          let title = given_title a.global_title in
          let r = room_inv in
          let (bad, same) = lent_refused (mapped run_octets title) 4 (length out - 4) out put (λ w h.
          let (ts, ht, made) = mapped_inv run_octets title h in
          let k = accepted_inj (sym (title_roomed a.global_title ts ht) ∙ r.known) in
          omega (arith, ap length made, run_length_lem ts, r.fits, lent_length out 4)) in
          ap (λ (d : List ℕ). record { answer = refused n vs; buffer = d }) same
          ∙ deliver_refused n vs out
          ∙ ap (λ (o : Outcome (List ℕ)). deliver o out) (sym (given_untitled tag a values t r.others r.inside n vs (mapped_refused run_octets title (sym bad))))

      pub room-written :
          {n : ℕ} {last : List ℕ}
          → record { answer = accepted n; buffer = last } ≡ deliver (mapped run_octets (given_title a.global_title)) lent
          → Known tag a values t total
      room-written put =
          let title = given_title a.global_title in
          let (w, hw) = lent_accepted (mapped run_octets title) lent put in
          let (ts, ht, made) = mapped_inv run_octets title hw in
          given-known tag a values t total (e ∙ room-titled ts ht)

-- Sub-parameters behind four octets that are as they were; and a head in place of those.
pub placed :
    (o : Outcome (List Param)) (ts : List Param) (out : List ℕ) (n : ℕ) (last : List ℕ)
    → o ≡ accepted ts
    → 4 + run_length ts ≤ length out
    → record { answer = accepted n; buffer = last } ≡ deliver (mapped run_octets o) (mid_of 4 (length out - 4) out)
    → Wrote out (take 4 out) out 4 ts n last
placed o ts out n last known room = wrote 4 (front_kept out 4 (omega arith)) (length-take-le 4 out (omega arith)) o ts known room n last

pub record Headed (out head : List ℕ) (ts : List Param) (n : ℕ) (d : List ℕ) : Type 0 where
  pub count : n ≡ run_length ts
  pub begun : Begun out (head ++ run_octets ts) d
  pub place : length (head ++ run_octets ts) ≡ 4 + n

pub headed :
    (head : List ℕ) (ts : List Param) (out : List ℕ) (n : ℕ) (last d : List ℕ)
    → length head ≡ 4
    → 4 ≤ length out
    → Wrote out (take 4 out) out 4 ts n last
    → d ≡ head ++ drop 4 (put_mid 4 (length out - 4) out last)
    → Headed out head ts n d
headed head ts out n last d four room w h = record {
  count = w.count;
  begun = front-written (take 4 out) (run_octets ts) head d 4 w.begun (length-take-le 4 out room) four h;
  place = omega (arith, length-append head (run_octets ts), run_length_lem ts, w.count);
}
