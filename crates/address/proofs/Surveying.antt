-- How far the walk over an address's sub-parameters has come, with what it keeps.
use Prim.Native.Nat.{ℕ, ◌+◌, ◌≤◌}
use mathlib.Core.Path.{◌≡◌, refl, sym, ap, ◌∙◌}
use mathlib.Core.Bool.{Bool, true, false}
use mathlib.Core.List.{List, [], ◌∷◌, ◌++◌}
use native.Mathlib.Omega.{arith}
use lib.Dec.{eqb, leb}
use lib.ListN.{length}
use Rattle.bcd.specs.Outcome.{accepted, refused, pick, mapped, bounded, most}
use Rattle.bcd.proofs.Outcomes.{mapped-demand}
use Rattle.parameter.specs.Parameter.{padded_length}
use Rattle.parameter.specs.Walk.{ended, found, step_at, places}
use Rattle.parameter.specs.declared.Place.{Place}
use Rattle.parameter.proofs.Reaching.{Reached, reached_start, walk_within, walk_found, walk_more, walk_end, walk_refused}
use Rattle.address.specs.Parts.{nothing, noted_title, noted_code, noted_ssn, noted_other, noted, note_all}
use Rattle.address.specs.declared.parts.Parts.{Parts}

pub note_more : (s : Parts) (ps : List Place) (p : Place) → note_all s (ps ++ (p ∷ [])) ≡ noted (note_all s ps) p
unfolding note_all
note_more s [] p = refl
note_more s (q ∷ ps) p = note_more (noted s q) ps p

-- one sub-parameter more adds at most itself to the others
pub record Grows (s : Parts) (n : ℕ) (t : Parts) : Type 0 where
  pub count : t.other_count ≤ s.other_count + 1
  pub size : t.other_length ≤ s.other_length + padded_length n

pub note_grows : (s : Parts) (p : Place) → Grows s p.length (noted s p)
unfolding noted
note_grows s p = go (eqb p.tag 0x8001) (eqb p.tag 0x8002) (eqb p.tag 0x8003)
  where
    go : (a b c : Bool) → Grows s p.length (pick a (noted_title s p) (pick b (noted_code s p) (pick c (noted_ssn s p) (noted_other s p))))
    go true b c = record { count = omega arith; size = omega arith }
    go false true c = record { count = omega arith; size = omega arith }
    go false false true = record { count = omega arith; size = omega arith }
    go false false false = record { count = omega arith; size = omega arith }

pub record Surveying (v : List ℕ) (at : ℕ) (s : Parts) : Type 0 where
  pub reached : Reached v 4 at
  pub parts : s ≡ note_all nothing reached.done
  pub count : s.other_count + 4 ≤ at
  pub size : s.other_length + 4 ≤ at
  pub within : at ≤ length v + 4

pub surveying_start : (v : List ℕ) (s : Parts) → s ≡ nothing → Surveying v 4 s
unfolding note_all
surveying_start v s e = record {
  reached = reached_start v 4;
  parts = e;
  count = rw e (omega arith);
  size = rw e (omega arith);
  within = omega arith;
}

-- what noting a sub-parameter asks
pub record Room (s : Parts) (p : Place) : Type 0 where
  pub count : s.other_count ≤ most
  pub size : s.other_length ≤ most
  pub value : p.length ≤ most

surveyed-bounded : (v : List ℕ) → bounded v (mapped (note_all nothing) (places v 4)) ≡ mapped (note_all nothing) (bounded v (places v 4))
surveyed-bounded v = sym (mapped-demand (leb (length v) most) 12 (length v ∷ []) (note_all nothing) (places v 4))

module _ {v : List ℕ} {at : ℕ} {s : Parts} (k : Surveying v at s) where
  module _ (p : Place) (next : ℕ) (e : accepted (found p next) ≡ bounded v (step_at v at)) where
    pub surveying_room : Room s p
    surveying_room =
        let f = walk_found v at e in
        let h = walk_within v at e in
        record {
          count = omega (arith, k.count, f.least, f.within);
          size = omega (arith, k.size, f.least, f.within);
          value = omega (arith, f.inside);
        }

    pub surveying_next : (t : Parts) → t ≡ noted s p → Surveying v next t
    surveying_next t g =
        let f = walk_found v at e in
        let more = note_grows s p in
        record {
          reached = walk_more k.reached p next e;
          parts = g ∙ ap (λ (s : Parts). noted s p) k.parts ∙ sym (note_more nothing k.reached.done p);
          count = rw g (omega (arith, more.count, k.count, f.forward));
          size = rw g (omega (arith, more.size, k.size, f.behind));
          within = omega (arith, f.behind, f.inside, f.start);
        }

  pub survey_done : accepted ended ≡ bounded v (step_at v at) → accepted s ≡ bounded v (mapped (note_all nothing) (places v 4))
  survey_done e = sym (surveyed-bounded v ∙ ap (mapped (note_all nothing)) (walk_end k.reached e) ∙ ap accepted (sym k.parts))

  pub survey_refused : (n : ℕ) (vs : List ℕ) → refused n vs ≡ bounded v (step_at v at) → refused n vs ≡ bounded v (mapped (note_all nothing) (places v 4))
  survey_refused n vs e = sym (surveyed-bounded v ∙ ap (mapped (note_all nothing)) (walk_refused k.reached n vs e))
