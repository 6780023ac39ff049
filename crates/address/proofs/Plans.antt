-- An address value that was interpreted, read and written again: refused, or these octets.
use Prim.Native.Nat.{ℕ, ◌+◌, ◌*◌, ◌/◌, ◌%◌, ◌^◌, ◌≤◌, ◌<◌}
use mathlib.Core.Path.{◌≡◌, sym, ap, ◌∙◌}
use Rattle.std.specs.Prelude.{Result, Ok, Err, is_some}
use mathlib.Core.Logic.{◌⊎◌, inl, inr}
use mathlib.Core.List.{List, [], ◌∷◌, ◌++◌, map}
use native.Mathlib.Omega.{arith}
use borrow.Author.Tests.{le-leb, lt-leb}
use lib.Dec.{eqb}
use lib.ListN.{length, get_or}
use Rattle.bcd.specs.Outcome.{Outcome, accepted, refused, pick, after, mapped, each, fit64}
use Rattle.bcd.specs.Answers.{outcome_of}
use Rattle.bcd.specs.Digits.{Alphabet, built_in}
use Rattle.bcd.specs.declared.error.Refusal.{Refusal}
use Rattle.bcd.proofs.Outcomes.{le_or_lt, mapped_inv, bounded-within}
use Rattle.parameter.specs.Parameter.{Param, two, run_octets, run_length, most_value, two_at}
use Rattle.parameter.proofs.RoundTrip.{run_length_lem, run_length-append}
use Rattle.address.specs.Address.{Address, Piece, title, present, address_with, address_in, read_address, indicator, pieces, sub_param, sized, write_address}
use Rattle.address.specs.Parts.{kept_title}
use Rattle.address.specs.Steps.Kept.{kept_pieces}
use Rattle.address.specs.Steps.Plan.{Read, wire_of, Plan, PlanOf}
use Rattle.address.specs.declared.parts.Parts.{Parts}
use Rattle.address.proofs.Keeping.{piece_at}
use Rattle.address.proofs.Interpreting.{kept_pieces_lem}
use Rattle.address.proofs.Planning.{rest, rest-length, kept-written, kept_refused, others-sum}
use Rattle.address.proofs.Interpreted.{address, read_whole}
use Rattle.address.proofs.Writable.{subs_write}
use Rattle.address.proofs.Unknown.{Alike}

bits : (n : ℕ) → n / 1 % 2 + n / 2 % 2 * 2 + n / 4 % 2 * 4 ≡ n % 8
bits n =
    let one : n / 1 ≡ n = omega arith in
    let two : n / 4 ≡ n / 2 / 2 = omega arith in
    let three : n / 8 ≡ n / 4 / 2 = omega arith in
    rw one (omega arith)

-- The address indicator's three bits, as they were read.
pub indicator_bits : (routing n : ℕ) (xs : List Piece) → indicator (address_with routing n xs) ≡ n % 8
unfolding indicator address_with
indicator_bits routing n xs =
    let a = one 1 (n / 1 % 2) (omega arith) in
    let b = one 2 (n / 2 % 2) (omega arith) in
    let c = one 4 (n / 4 % 2) (omega arith) in
    let sum = bits n in
    omega arith
  where
    one : (k x : ℕ) → x < 2 → pick (eqb x 1) k 0 ≡ x * k
    one k x h = go (le_or_lt x 0)
      where
        go : (x ≤ 0) ⊎ (0 < x) → pick (eqb x 1) k 0 ≡ x * k
        go (inl l) = let e : x ≡ 0 = omega arith in rw e (omega arith)
        go (inr l) = let e : x ≡ 1 = omega arith in rw e (omega arith)

module _ {A : Alphabet} (L : Alike A) {v : List ℕ} {s : Parts} (r : Read v s) (tag : ℕ) where
  written_again : after (read_address built_in v) (write_address A tag) ≡ write_address A tag (address r.known)
  written_again = ap (λ (o : Outcome Address). after o (write_address A tag)) (read_whole r)

  pieces-known : pieces (address r.known) ≡ kept_pieces built_in v s r.known.places
  pieces-known = rw r.known.parts (kept_pieces_lem built_in v r.known.places (two_at v 0) (get_or v 3 0))

  -- The title's digits refuse.
  pub plan_unknown :
      (n : ℕ) (vs : List ℕ)
      → each (sub_param A) (present title (kept_title built_in v s.title)) ≡ refused n vs
      → after (read_address built_in v) (write_address A tag) ≡ refused n vs
  unfolding write_address
  plan_unknown n vs e = written_again ∙ rw (pieces-known, kept_refused v s r.known.places A n vs e)

  -- Else only the length of the whole counts.
  plan_sized :
      (qs : List Param)
      → each (sub_param A) (kept_pieces built_in v s r.known.places) ≡ accepted qs
      → after (read_address built_in v) (write_address A tag) ≡ sized tag (wire_of v qs)
  unfolding read_address address_with
  plan_sized qs e =
      let read : address_in built_in v ≡ accepted (address r.known) = sym (bounded-within v (address_in built_in v) r.known.within) ∙ read_whole r in
      written_again
      ∙ subs_write A L.lawful tag v (address r.known) r.known.octets (L.reads v ∙ read) qs (ap (each (sub_param A)) pieces-known ∙ e)
      ∙ ap (λ (b : ℕ). sized tag (two (two_at v 0) ++ two b ++ run_octets qs)) (indicator_bits (two_at v 0) (get_or v 3 0) (map (piece_at built_in v) r.known.places))

pub wire_length_lem : (v : List ℕ) (qs : List Param) → length (wire_of v qs) ≡ 4 + run_length qs
wire_length_lem v qs = omega (arith, run_length_lem qs)

-- The sum of the parts' lengths is that of the octets.
module _ {A : Alphabet} (L : Alike A) {v : List ℕ} {s : Parts} (r : Read v s) (n total : ℕ)
    (titled : accepted n ≡ mapped run_length (each (sub_param A) (present title (kept_title built_in v s.title))))
    (sum : total ≡ 4 + n + pick (is_some s.code) 8 0 + pick (is_some s.ssn) 8 0 + s.other_length) where
  record Summed : Type 0 where
    params : List Param
    written : each (sub_param A) (kept_pieces built_in v s r.known.places) ≡ accepted params
    size : 4 + run_length params ≡ total

  summed : Summed
  summed =
      let (qs, e, l) = mapped_inv run_length (each (sub_param A) (present title (kept_title built_in v s.title))) (sym titled) in
      record {
        params = qs ++ rest v s r.known.places;
        written = kept-written v s r.known.places A qs e;
        size = omega (arith, run_length-append qs (rest v s r.known.places), rest-length v s r.known.places, others-sum r.known);
      }

  pub plan_long : (tag : ℕ) → most_value < total → total < 2 ^ 64 → after (read_address built_in v) (write_address A tag) ≡ refused 10 (tag ∷ total ∷ [])
  plan_long tag h small =
      let m = summed in
      let l : length (wire_of v m.params) ≡ total = wire_length_lem v m.params ∙ m.size in
      let f : fit64 total ≡ total = omega arith in
      plan_sized L r tag m.params m.written ∙ rw (l, lt-leb total most_value h, f)

  pub plan_made : total ≤ most_value → Plan A v s total
  plan_made h = let m = summed in record { read = r; params = m.params; written = m.written; size = m.size; fits = h }

-- What a plan is written as.
pub plan_octets : {A : Alphabet} (L : Alike A) {v : List ℕ} {s : Parts} {total : ℕ} (tag : ℕ) (p : Plan A v s total) → after (read_address built_in v) (write_address A tag) ≡ accepted (wire_of v p.params)
plan_octets L {v} {s} {total} tag p =
    let l : length (wire_of v p.params) ≡ total = wire_length_lem v p.params ∙ p.size in
    plan_sized L p.read tag p.params p.written ∙ rw (l, le-leb total most_value p.fits)

pub plan_length : {A : Alphabet} (L : Alike A) {v : List ℕ} {s : Parts} {total : ℕ} (tag : ℕ) (p : Plan A v s total) → accepted total ≡ mapped length (after (read_address built_in v) (write_address A tag))
plan_length L {v} {s} {total} tag p = sym (ap (mapped length) (plan_octets L tag p) ∙ ap accepted (wire_length_lem v p.params ∙ p.size))

-- The length, or the refusal, that measuring answers.
pub plan_answered :
    {A : Alphabet} (L : Alike A) (tag : ℕ) (v : List ℕ) (s : Parts) (r : Result ℕ Refusal)
    → PlanOf A tag v s r
    → outcome_of r ≡ mapped length (after (read_address built_in v) (write_address A tag))
plan_answered L tag v s (Ok n) p = plan_length L tag p
plan_answered L tag v s (Err r) e = sym (ap (mapped length) e)
