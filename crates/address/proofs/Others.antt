-- The places of the other sub-parameters, and how many there are.
use Prim.Native.Nat.{ℕ, ◌≤◌}
use mathlib.Core.Path.{◌≡◌, refl, ap, ◌∙◌}
use mathlib.Core.Bool.{Bool, true, false}
use mathlib.Core.List.{List, [], ◌∷◌, ◌++◌}
use native.Mathlib.Omega.{arith}
use lib.ListN.{length}
use Rattle.bcd.specs.Outcome.{pick, most}
use Rattle.parameter.specs.declared.Place.{Place}
use Rattle.parameter.proofs.Walking.{places_few}
use Rattle.address.specs.Listing.{is_other, other_places}
use Rattle.address.specs.Parts.{nothing}
use Rattle.address.specs.Steps.Plan.{Walked}
use Rattle.address.specs.declared.parts.Parts.{Parts}
use Rattle.address.proofs.Interpreting.{others_count}

pub others-append : (ps qs : List Place) → other_places (ps ++ qs) ≡ other_places ps ++ other_places qs
others-append [] qs = refl
others-append (p ∷ ps) qs = go (is_other p.tag) (others-append ps qs)
  where
    go :
        (t : Bool)
        → other_places (ps ++ qs) ≡ other_places ps ++ other_places qs
        → pick t (p ∷ other_places (ps ++ qs)) (other_places (ps ++ qs)) ≡ pick t (p ∷ other_places ps) (other_places ps) ++ other_places qs
    go true e = ap (λ l. p ∷ l) e
    go false e = e

pub others_fewer : (ps : List Place) → length (other_places ps) ≤ length ps
others_fewer [] = omega arith
others_fewer (p ∷ ps) = go (is_other p.tag) (others_fewer ps)
  where
    go : (t : Bool) → length (other_places ps) ≤ length ps → length (pick t (p ∷ other_places ps) (other_places ps)) ≤ length (p ∷ ps)
    go true h = omega arith
    go false h = omega arith

-- The walk's number of the others is theirs.
module _ {v : List ℕ} {s : Parts} (k : Walked v s) where
  pub count_known : s.other_count ≡ length (other_places k.places)
  count_known = ap (λ (s : Parts). s.other_count) k.parts ∙ others_count v nothing k.places ∙ omega arith

  pub walk_few : length k.places ≤ most
  walk_few = omega (arith, places_few v 4 k.places k.walked, k.within)

  pub count_small : s.other_count ≤ most
  count_small = omega (arith, count_known, others_fewer k.places, walk_few)
