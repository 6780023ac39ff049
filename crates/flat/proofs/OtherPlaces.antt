-- The places of the other sub-parameters, stored one after the other.
use Prim.Native.Nat.{ℕ, ◌*◌, ◌^◌, ◌≤◌, ◌<◌}
use mathlib.Core.Path.{◌≡◌, refl, sym, ap, ◌∙◌, subst}
use mathlib.Core.Bool.{true, false}
use mathlib.Core.List.{List, [], ◌∷◌, ◌++◌, map, map-append, append_assoc, append-nil}
use native.Mathlib.Omega.{arith}
use lib.ListN.{length, length-map}
use Rattle.bcd.specs.Outcome.{accepted, accepted_or, bounded}
use Rattle.bcd.proofs.Outcomes.{bounded-within}
use Rattle.parameter.specs.declared.Place.{Place}
use Rattle.parameter.specs.Walk.{ended, found, step_at, places}
use Rattle.parameter.proofs.Reaching.{Reached, reached_start, walk_within, walk_more, walk_end}
use Rattle.address.specs.Listing.{is_other, other_places}
use Rattle.address.proofs.Others.{others-append, others_fewer}
use Rattle.flat.specs.Account.{place_octets, places_octets}
use Rattle.message.specs.Accessors.{moved}
use Rattle.flat.specs.declared.writer.Writer.{Writer}
use Rattle.flat.specs.Steps.Emitting.{Writes, listed}
use Rattle.flat.proofs.Emission.{writes_none, writes_more}

octets-append : (us vs : List Place) → places_octets (us ++ vs) ≡ places_octets us ++ places_octets vs
unfolding places_octets
octets-append [] vs = refl
octets-append (u ∷ us) vs = ap (λ (l : List ℕ). place_octets u ++ l) (octets-append us vs) ∙ sym (append_assoc (place_octets u) (places_octets us) (places_octets vs))

listed-append : (base : ℕ) (us vs : List Place) → listed base (us ++ vs) ≡ listed base us ++ listed base vs
listed-append base us vs =
    ap (λ (l : List Place). places_octets (map (moved base) l)) (others-append us vs)
    ∙ ap places_octets (map-append (moved base) (other_places us) (other_places vs))
    ∙ octets-append (map (moved base) (other_places us)) (map (moved base) (other_places vs))

pub octets-length : (ps : List Place) → length (places_octets ps) ≡ 10 * length ps
unfolding places_octets
octets-length [] = refl
octets-length (p ∷ ps) = omega (arith, octets-length ps)

pub listed-length : (base : ℕ) (ps : List Place) → length (listed base ps) ≤ 10 * length ps
listed-length base ps = omega (arith, octets-length (map (moved base) (other_places ps)), length-map (other_places ps) (moved base), others_fewer ps)

-- how far they are stored
pub record Listing (v : List ℕ) (base : ℕ) (a : Writer) (at : ℕ) (b : Writer) : Type 0 where
  pub reached : Reached v 4 at
  pub writes : Writes a (listed base reached.done) b

pub listing_start : (v : List ℕ) (base : ℕ) (a : Writer) → a.at < 2 ^ 64 → Listing v base a 4 a
unfolding places_octets
listing_start v base a h = record { reached = reached_start v 4; writes = writes_none a h }

module _ {v : List ℕ} {base : ℕ} {a b : Writer} {at : ℕ} (l : Listing v base a at b) where
  pub listing_more :
      (p : Place) (next : ℕ) {c : Writer}
      → accepted (found p next) ≡ bounded v (step_at v at)
      → Writes b (listed base (p ∷ [])) c
      → Listing v base a next c
  listing_more p next {c} e x =
      record {
        reached = walk_more l.reached p next e;
        writes = subst (λ (os : List ℕ). Writes a os c) (sym (listed-append base l.reached.done (p ∷ []))) (writes_more l.writes x);
      }

  pub listing_done : accepted ended ≡ bounded v (step_at v at) → Writes a (listed base (accepted_or [] (places v 4))) b
  listing_done e =
      let w = sym (bounded-within v (places v 4) (walk_within v at e)) ∙ walk_end l.reached e in
      rw w l.writes

-- another sub-parameter, or none
pub other_there : {a b : Writer} (base : ℕ) (p : Place) → is_other p.tag ≡ true → Writes a (place_octets (moved base p)) b → Writes a (listed base (p ∷ [])) b
unfolding places_octets
other_there base p t x = rw (t, append-nil) x

pub other_none : (a : Writer) (base : ℕ) (p : Place) → a.at < 2 ^ 64 → is_other p.tag ≡ false → Writes a (listed base (p ∷ [])) a
unfolding places_octets
other_none a base p h t = rw t (writes_none a h)
