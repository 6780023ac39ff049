-- An address value by the parts that the walk keeps: what reading gives, and the pieces that are written.
use Prim.Native.Nat.{ℕ, ◌+◌, ◌≤◌, ◌<◌}
use mathlib.Core.Path.{◌≡◌, refl, sym, ap, ◌∙◌}
use mathlib.Core.Bool.{Bool, true, false}
use Rattle.std.specs.Prelude.{None, Some}
use mathlib.Core.List.{List, [], ◌∷◌, map}
use native.Mathlib.Omega.{arith}
use borrow.Author.Tests.{le-leb, lt-leb, leb-true}
use lib.Dec.{eqb, leb}
use lib.ListN.{length, get_or, drop}
use Rattle.bcd.specs.Outcome.{accepted, refused, pick, demand, mapped, All, most}
use Rattle.bcd.specs.Digits.{Alphabet}
use Rattle.bcd.proofs.Outcomes.{never, demand_inv, bounded-within, bounded_beyond}
use Rattle.parameter.specs.Parameter.{run_length, two_at, four_in}
use Rattle.parameter.specs.Walk.{valued, places, parameters}
use Rattle.parameter.specs.declared.Place.{Place}
use Rattle.parameter.proofs.Walking.{places_inside}
use Rattle.parameter.proofs.Structure.{places-parameters}
use Rattle.address.specs.Address.{title_at, as_title, as_code, as_sub, last, others_in, routing_in, address_with, address_in, read_address, pieces}
use Rattle.address.specs.Parts.{nothing, noted_title, noted_code, noted_ssn, noted_other, noted, note_all}
use Rattle.address.specs.Parts.{kept_title, kept_code, kept_sub}
use Rattle.address.specs.Steps.Kept.{judged, kept_pieces}
use Rattle.address.specs.Listing.{other_places}
use Rattle.address.specs.declared.parts.Parts.{Parts}
use Rattle.parameter.proofs.Records.{value-length}
use Rattle.address.proofs.Keeping.{kinds, Inside, piece_by, piece_at, pieces-judged, judged-mapped, map-map, last_holds}

-- the four ways to note a sub-parameter
abbrev pub by : Bool → Bool → Bool → Parts → Place → Parts
by a b c s p = pick a (noted_title s p) (pick b (noted_code s p) (pick c (noted_ssn s p) (noted_other s p)))

-- A title is kept.
pub keeps_title : (s : Parts) (p : Place) → (noted s p).title ≡ pick (eqb p.tag 0x8001) (Some p) s.title
unfolding noted
keeps_title s p = kinds (λ a b c. (by a b c s p).title ≡ pick a (Some p) s.title) p.tag refl refl refl refl

module _ (A : Alphabet) (v : List ℕ) (ps : List Place) where
  pub title_holds : last as_title (map (piece_at A v) ps) ≡ kept_title A v (note_all nothing ps).title
  title_holds =
      last_holds 0x8001 (piece_at A v) as_title (λ p. title_at A (valued v p).value) (λ s. s.title)
      (λ p. kinds (λ a b c. as_title (piece_by A v a b c p) ≡ pick a (Some (title_at A (valued v p).value)) None) p.tag refl refl refl refl)
      keeps_title
      nothing ps
      ∙ sym (map-map (title_at A) (λ p. (valued v p).value) (note_all nothing ps).title)

  pub code_holds : last as_code (map (piece_at A v) ps) ≡ kept_code v (note_all nothing ps).code
  unfolding noted
  code_holds =
      last_holds 0x8002 (piece_at A v) as_code (λ p. four_in (valued v p).value) (λ s. s.code)
      (λ p. kinds (λ a b c. as_code (piece_by A v a b c p) ≡ pick b (Some (four_in (valued v p).value)) None) p.tag refl refl refl refl)
      (λ s p. kinds (λ a b c. (by a b c s p).code ≡ pick b (Some p) s.code) p.tag refl refl refl refl)
      nothing ps
      ∙ sym (map-map four_in (λ p. (valued v p).value) (note_all nothing ps).code)

  pub sub_holds : last as_sub (map (piece_at A v) ps) ≡ kept_sub v (note_all nothing ps).ssn
  unfolding noted
  sub_holds =
      last_holds 0x8003 (piece_at A v) as_sub (λ p. get_or (valued v p).value 3 0) (λ s. s.ssn)
      (λ p. kinds (λ a b c. as_sub (piece_by A v a b c p) ≡ pick c (Some (get_or (valued v p).value 3 0)) None) p.tag refl refl refl refl)
      (λ s p. kinds (λ a b c. (by a b c s p).ssn ≡ pick c (Some p) s.ssn) p.tag refl refl refl refl)
      nothing ps
      ∙ sym (map-map (λ w. get_or w 3 0) (λ p. (valued v p).value) (note_all nothing ps).ssn)

  pub others_hold : others_in (map (piece_at A v) ps) ≡ map (valued v) (other_places ps)
  others_hold = go ps
    where
      go : (ps : List Place) → others_in (map (piece_at A v) ps) ≡ map (valued v) (other_places ps)
      go [] = refl
      go (p ∷ ps) =
          kinds (λ a b c. others_in (piece_by A v a b c p ∷ map (piece_at A v) ps)
          ≡ map (valued v) (pick (pick a false (pick b false (pick c false true))) (p ∷ other_places ps) (other_places ps))) p.tag
          (go ps) (go ps) (go ps) (ap (λ qs. valued v p ∷ qs) (go ps))

  -- The pieces that hold are those that are written.
  pub kept_pieces_lem : (routing bits : ℕ) → pieces (address_with routing bits (map (piece_at A v) ps)) ≡ kept_pieces A v (note_all nothing ps) ps
  unfolding pieces address_with kept_pieces
  kept_pieces_lem routing bits = rw (title_holds, code_holds, sub_holds, others_hold)

  -- An address value whose sub-parameters are at these places.
  pub read-parts :
      length v ≤ most
      → 4 ≤ length v
      → two_at v 0 ≤ 4
      → places v 4 ≡ accepted ps
      → read_address A v ≡ judged (note_all nothing ps).short (accepted (address_with (two_at v 0) (get_or v 3 0) (map (piece_at A v) ps)))
  unfolding read_address address_in
  read-parts within long routing walked =
      let params : parameters (drop 4 v) ≡ accepted (map (valued v) ps) = sym (places-parameters v 4) ∙ ap (mapped (map (valued v))) walked in
      bounded-within v _ within
      ∙ rw (le-leb 4 (length v) long, le-leb (two_at v 0) 4 routing, params)
      (ap (mapped (address_with (two_at v 0) (get_or v 3 0))) (pieces-judged A v nothing ps (places_inside v 4 ps walked))
      ∙ judged-mapped (address_with (two_at v 0) (get_or v 3 0)) (note_all nothing ps).short (accepted (map (piece_at A v) ps)))

-- What the walk adds up of the others.
module _ (v : List ℕ) where
  pub others-length :
      (s : Parts) (ps : List Place)
      → All (Inside v) ps
      → (note_all s ps).other_length ≡ s.other_length + run_length (map (valued v) (other_places ps))
  unfolding note_all noted run_length
  others-length s [] h = omega arith
  others-length s (p ∷ ps) h =
      others-length (noted s p) ps h.1
      ∙ kinds (λ a b c. (by a b c s p).other_length + run_length (map (valued v) (other_places ps))
      ≡ s.other_length + run_length (map (valued v) (pick (pick a false (pick b false (pick c false true))) (p ∷ other_places ps) (other_places ps)))) p.tag
      refl refl refl (let l = value-length v p h.0 in rw l (omega arith))

  pub others_count : (s : Parts) (ps : List Place) → (note_all s ps).other_count ≡ s.other_count + length (other_places ps)
  unfolding note_all noted
  others_count s [] = omega arith
  others_count s (p ∷ ps) =
      others_count (noted s p) ps
      ∙ kinds (λ a b c. (by a b c s p).other_count + length (other_places ps)
      ≡ s.other_count + length (pick (pick a false (pick b false (pick c false true))) (p ∷ other_places ps) (other_places ps))) p.tag
      refl refl refl (omega arith)

-- The refusals before the sub-parameters are interpreted, in their order.
module _ (A : Alphabet) (v : List ℕ) where
  pub read_beyond : most < length v → read_address A v ≡ refused 12 (length v ∷ [])
  unfolding read_address
  read_beyond h = bounded_beyond v (address_in A v) h

  module _ (within : length v ≤ most) where
    pub read_few : length v < 4 → read_address A v ≡ refused 1 (4 ∷ length v ∷ [])
    unfolding read_address address_in
    read_few h = bounded-within v (address_in A v) within ∙ rw (lt-leb 4 (length v) h)

    module _ (long : 4 ≤ length v) where
      pub read_unrouted : (n : ℕ) (vs : List ℕ) → refused n vs ≡ routing_in (two_at v 0) → read_address A v ≡ refused n vs
      unfolding read_address address_in
      read_unrouted n vs e = bounded-within v (address_in A v) within ∙ rw (le-leb 4 (length v) long, ← e)

      pub read_unwalked : (n : ℕ) (vs : List ℕ) → two_at v 0 ≤ 4 → places v 4 ≡ refused n vs → read_address A v ≡ refused n vs
      unfolding read_address address_in
      read_unwalked n vs routing e =
          let params : parameters (drop 4 v) ≡ refused n vs = sym (places-parameters v 4) ∙ ap (mapped (map (valued v))) e in
          bounded-within v (address_in A v) within ∙ rw (le-leb 4 (length v) long, le-leb (two_at v 0) 4 routing, params)

-- A routing indicator that is refused is refused as 8 with its number.
pub unrouted : (n : ℕ) {k : ℕ} {vs : List ℕ} → refused k vs ≡ routing_in n → refused 8 (n ∷ []) ≡ routing_in n
unrouted n {k} {vs} e = on (leb n 4) e
  where
    on : (t : Bool) → refused k vs ≡ demand t 8 (n ∷ []) (accepted n) → refused 8 (n ∷ []) ≡ demand t 8 (n ∷ []) (accepted n)
    on true e = absurd (never e)
    on false e = refl

-- The routing indicator is small where it is one.
pub routed : (n : ℕ) {i : ℕ} → accepted i ≡ routing_in n → n ≤ 4
routed n e = leb-true n 4 (demand_inv (leb n 4) _ _ _ (sym e)).0
