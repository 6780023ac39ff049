-- The other sub-parameters, written in order by a walk: how far it has come.
use Prim.Native.Nat.{ℕ, ◌+◌, ◌-◌, ◌≤◌, ◌<◌}
use mathlib.Core.Path.{◌≡◌, refl, sym, ap, ◌∙◌}
use mathlib.Core.Bool.{true, false}
use mathlib.Core.List.{List, [], ◌∷◌, ◌++◌, map, map-append}
use native.Mathlib.Omega.{arith}
use lib.ListN.{length, drop, length-append, length-take, length-drop}
use borrow.Rule.Slice.PartMut.{mid_of, put_mid}
use Rattle.bcd.specs.Outcome.{accepted, refused, bounded, Octets, most, Delivered, deliver}
use Rattle.bcd.proofs.Outcomes.{never, bounded-within, mapped_inv, octets_at}
use Rattle.bcd.proofs.Writing.{Begun, untouched, extend, delivered}
use Rattle.parameter.specs.Parameter.{Param, run_octets, run_length, most_value, encode_param, two_at}
use Rattle.parameter.specs.Walk.{found, step_at, places, valued}
use Rattle.parameter.specs.declared.Place.{Place}
use Rattle.parameter.proofs.Reaching.{Reached, reached_start, walk_refused, walk_found, walk_more}
use Rattle.parameter.proofs.RoundTrip.{run_length_lem, run_octets-append, run_length-append}
use Rattle.address.specs.Listing.{is_other, other_places}
use Rattle.address.specs.Steps.Plan.{Walked, others_octets}
use Rattle.address.specs.declared.parts.Parts.{Parts}
use Rattle.address.proofs.Others.{others-append}
use Rattle.address.proofs.Planning.{others-sum, others_small}
use Rattle.address.proofs.Putting.{delivered_never, delivered_inv, one_encoded, none_delivered}

two_small : (v : List ℕ) (i : ℕ) → Octets v → two_at v i < 65536
unfolding two_at
two_small v i o = omega (arith, octets_at v i o, octets_at v (i + 1) o)

-- One sub-parameter: written if it is another one, else nothing.
module _ (v : List ℕ) (p : Place) (out : List ℕ) where
  pub other_put :
      {d : Delivered}
      → is_other p.tag ≡ true
      → p.length ≤ most_value
      → d ≡ deliver (encode_param (valued v p)) out
      → d ≡ deliver (accepted (run_octets (map (valued v) (other_places (p ∷ []))))) out
  other_put other small e = rw other (one_encoded (valued v p) out (omega (arith, length-take p.length (drop p.start v))) e)

  pub other_absent : is_other p.tag ≡ false → record { answer = accepted 0; buffer = out } ≡ deliver (accepted (run_octets (map (valued v) (other_places (p ∷ []))))) out
  other_absent e = rw e (none_delivered out)

abbrev pub others_of : List ℕ → List Place → List Param
others_of v ps = map (valued v) (other_places ps)

others_joined : (v : List ℕ) (ps qs : List Place) → others_of v (ps ++ qs) ≡ others_of v ps ++ others_of v qs
others_joined v ps qs = ap (map (valued v)) (others-append ps qs) ∙ map-append (valued v) (other_places ps) (other_places qs)

-- The others among the sub-parameters that a walk has come to are written.
pub record Copying (v out d : List ℕ) (cursor at : ℕ) : Type 0 where
  pub reached : Reached v 4 cursor
  pub begun : Begun out (run_octets (others_of v reached.done)) d
  pub place : length (run_octets (others_of v reached.done)) ≡ at

pub copying_start : (v out : List ℕ) → Copying v out out 4 0
unfolding run_octets
copying_start v out = record { reached = reached_start v 4; begun = untouched out; place = refl }

-- The walk of a value that was walked is not refused.
pub unrefused :
    {X : Type 0} {v : List ℕ} {s : Parts} (k : Walked v s) {at n : ℕ} {vs : List ℕ} → Reached v 4 at → refused n vs ≡ bounded v (step_at v at) → X
unrefused {v = v} k y e = absurd (never (sym (walk_refused y _ _ e) ∙ bounded-within v (places v 4) k.within ∙ k.walked))

-- The places that a walk has come to are the front of all.
pub reached_front : {v : List ℕ} {at : ℕ} (ps : List Place) (r : Reached v 4 at) → places v 4 ≡ accepted ps → (qs : List Place) × (r.done ++ qs ≡ ps)
reached_front {v} {at} ps r e =
    let (qs, h, same) = mapped_inv (λ qs. r.done ++ qs) (places v at) (sym r.left ∙ e) in
    (qs, same)

pub copying_few : {v out d : List ℕ} {s : Parts} {cursor at : ℕ} → Walked v s → Copying v out d cursor at → at ≤ most
copying_few {v} k y =
    let (qs, same) = reached_front k.places y.reached k.walked in
    let sum = run_length-append (others_of v y.reached.done) (others_of v qs) in
    let whole = ap run_length (sym (others_joined v y.reached.done qs) ∙ ap (others_of v) same) in
    omega (arith, run_length_lem (others_of v y.reached.done), y.place, others-sum k, others_small k)

pub done-octets : (v : List ℕ) (ps : List Place) → places v 4 ≡ accepted ps → others_octets v ≡ run_octets (others_of v ps)
unfolding others_octets
done-octets v ps e = rw e

pub lent_length : (d : List ℕ) (at : ℕ) → length (mid_of at (length d - at) d) ≡ length d - at
lent_length d at = simp (length-take, length-drop) (omega arith)

-- What a turn gives: it is not refused, and what it wrote stands behind the rest.
module _ {v out d : List ℕ} {s : Parts} {cursor at : ℕ} (k : Walked v s) (y : Copying v out d cursor at) (fits : s.other_length ≤ length out)
    (p : Place) (next : ℕ) (e : accepted (found p next) ≡ bounded v (step_at v cursor)) where
  abbrev then_reached : Reached v 4 next
  then_reached = walk_more y.reached p next e

  pub other_small : p.length ≤ most_value
  other_small = let f = walk_found v cursor e in omega (arith, f.size, two_small v (cursor + 2) k.octets)

  abbrev lent : List ℕ
  lent = mid_of at (length d - at) d

  abbrev octets : List ℕ
  octets = run_octets (others_of v (p ∷ []))

  room : at + length octets ≤ length d
  room =
      let (qs, same) = reached_front k.places then_reached k.walked in
      let first = run_length-append (others_of v y.reached.done) (others_of v (p ∷ [])) in
      let sum = run_length-append (others_of v (y.reached.done ++ (p ∷ []))) (others_of v qs) in
      let a = ap run_length (others_joined v y.reached.done (p ∷ [])) in
      let b = ap run_length (sym (others_joined v (y.reached.done ++ (p ∷ [])) qs) ∙ ap (others_of v) same) in
      let here = run_length_lem (others_of v y.reached.done) in
      omega (arith, run_length_lem (others_of v (p ∷ [])), others-sum k, y.place, y.begun.same)

  pub copying_never : {X : Type 0} {n : ℕ} {vs last : List ℕ} → record { answer = refused n vs; buffer = last } ≡ deliver (accepted octets) lent → X
  copying_never put = delivered_never octets lent (omega (arith, room, lent_length d at)) put

  pub copying_next :
      (last : List ℕ) (r : ℕ)
      → record { answer = accepted r; buffer = last } ≡ deliver (accepted octets) lent
      → Copying v out (put_mid at (length d - at) d last) next (at + r)
  copying_next last r put =
      let f = delivered_inv octets lent put in
      let joined = ap run_octets (others_joined v y.reached.done (p ∷ [])) ∙ run_octets-append (others_of v y.reached.done) (others_of v (p ∷ [])) in
      let b = extend octets last at (length d - at) y.begun y.place (omega (arith, y.begun.same, room)) (omega (arith, room)) f.holds in
      record {
        reached = then_reached;
        begun = rw joined b;
        place = rw (joined, length-append (run_octets (others_of v y.reached.done)) octets) (omega (arith, y.place, f.count));
      }

pub copied : {v out d : List ℕ} {s : Parts} {cursor at : ℕ} (k : Walked v s) (y : Copying v out d cursor at) → places v 4 ≡ accepted y.reached.done → record { answer = accepted at; buffer = d } ≡ deliver (accepted (others_octets v)) out
copied {v} {at = at} k y e = rw (done-octets v y.reached.done e) (delivered at y.begun y.place)
