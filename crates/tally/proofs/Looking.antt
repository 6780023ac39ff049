-- The first destination address and the first Data, as one walk finds them.
use Prim.Native.Nat.{ℕ}
use mathlib.Core.Path.{◌≡◌, refl, sym, ap, ◌∙◌}
use mathlib.Core.Bool.{Bool, true, false}
use mathlib.Core.List.{List, [], ◌∷◌, ◌++◌}
use native.Mathlib.Omega.{arith}
use borrow.Author.Tests.{eq-eqb, ne_eqb}
use lib.Dec.{eqb}
use Rattle.std.specs.Prelude.{Option, None, Some}
use Rattle.std.specs.Option.{option_or}
use Rattle.bcd.specs.Outcome.{accepted, refused, pick, mapped, bounded}
use Rattle.bcd.proofs.Outcomes.{mapped-demand}
use Rattle.parameter.specs.declared.Place.{Place}
use Rattle.parameter.specs.Walk.{ended, found, step_at, places}
use Rattle.parameter.specs.Table.{first_with}
use Rattle.parameter.proofs.Reaching.{Reached, reached_start, walk_more, walk_end, walk_refused}

first-more : (tag : ℕ) (ps : List Place) (p : Place) → first_with tag (ps ++ (p ∷ [])) ≡ option_or (first_with tag ps) (pick (eqb p.tag tag) (Some p) None)
first-more tag [] p = refl
first-more tag (q ∷ ps) p = on (eqb q.tag tag) (first-more tag ps p)
  where
    on :
        (b : Bool)
        → first_with tag (ps ++ (p ∷ [])) ≡ option_or (first_with tag ps) (pick (eqb p.tag tag) (Some p) None)
        → pick b (Some q) (first_with tag (ps ++ (p ∷ []))) ≡ option_or (pick b (Some q) (first_with tag ps)) (pick (eqb p.tag tag) (Some p) None)
    on true e = refl
    on false e = e

kept : (o : Option Place) → option_or o None ≡ o
kept None = refl
kept (Some p) = refl

-- The first destination address and the first Data of places.
abbrev pub firsts : List Place → Option Place × Option Place
firsts ps = (first_with 0x0103 ps, first_with 0x010B ps)

-- The walk has come to a position with these.
pub record Looked (xs : List ℕ) (at : ℕ) (d c : Option Place) : Type 0 where
  pub reached : Reached xs 8 at
  pub destination : d ≡ first_with 0x0103 reached.done
  pub content : c ≡ first_with 0x010B reached.done

pub looked_start : (xs : List ℕ) → Looked xs 8 None None
looked_start xs = record { reached = reached_start xs 8; destination = refl; content = refl }

module _ {xs : List ℕ} {at : ℕ} {d c : Option Place} (l : Looked xs at d c) where
  module _ (p : Place) (next : ℕ) (e : accepted (found p next) ≡ bounded xs (step_at xs at)) where
    pub looked_destination : p.tag ≡ 0x0103 → Looked xs next (option_or d (Some p)) c
    looked_destination t = record {
      reached = walk_more l.reached p next e;
      destination = rw (l.destination, first-more 0x0103 l.reached.done p, eq-eqb p.tag 0x0103 t) refl;
      content = rw (first-more 0x010B l.reached.done p, ne_eqb p.tag 0x010B (λ u. omega arith)) (l.content ∙ sym (kept (first_with 0x010B l.reached.done)));
    }

    pub looked_content : p.tag ≡ 0x010B → Looked xs next d (option_or c (Some p))
    looked_content t = record {
      reached = walk_more l.reached p next e;
      destination = rw (first-more 0x0103 l.reached.done p, ne_eqb p.tag 0x0103 (λ u. omega arith)) (l.destination ∙ sym (kept (first_with 0x0103 l.reached.done)));
      content = rw (l.content, first-more 0x010B l.reached.done p, eq-eqb p.tag 0x010B t) refl;
    }

    pub looked_other : (p.tag ≡ 0x0103 → ⊥) → (p.tag ≡ 0x010B → ⊥) → Looked xs next d c
    looked_other t u = record {
      reached = walk_more l.reached p next e;
      destination = rw (first-more 0x0103 l.reached.done p, ne_eqb p.tag 0x0103 t) (l.destination ∙ sym (kept (first_with 0x0103 l.reached.done)));
      content = rw (first-more 0x010B l.reached.done p, ne_eqb p.tag 0x010B u) (l.content ∙ sym (kept (first_with 0x010B l.reached.done)));
    }

  pub looked_end :
      accepted ended ≡ bounded xs (step_at xs at)
      → accepted (d, c) ≡ bounded xs (mapped firsts (places xs 8))
  looked_end e =
      rw (l.destination, l.content) (ap (mapped firsts) (sym (walk_end l.reached e)) ∙ mapped-demand _ _ _ firsts (places xs 8))

  pub looked_refused : (n : ℕ) (vs : List ℕ) → refused n vs ≡ bounded xs (step_at xs at) → refused n vs ≡ bounded xs (mapped firsts (places xs 8))
  looked_refused n vs e = ap (mapped firsts) (sym (walk_refused l.reached n vs e)) ∙ mapped-demand _ _ _ firsts (places xs 8)
