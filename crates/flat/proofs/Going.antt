-- How far the account of the parameters has come.
use Prim.Native.Nat.{ℕ, ◌+◌, ◌^◌, ◌<◌}
use mathlib.Core.Path.{◌≡◌, refl, sym, ap, ◌∙◌}
use mathlib.Core.Bool.{true, false}
use mathlib.Core.List.{List, [], ◌∷◌, ◌++◌}
use native.Mathlib.Omega.{arith}
use lib.ListN.{length}
use Rattle.std.specs.Prelude.{Result, Ok, Err, is_ok}
use Rattle.bcd.specs.Outcome.{Outcome, accepted, refused, after, mapped, each, pick, bounded}
use Rattle.bcd.specs.Answers.{outcome_of}
use Rattle.bcd.specs.declared.error.Refusal.{Refusal}
use Rattle.bcd.proofs.Outcomes.{accepted_inj, never}
use Rattle.parameter.specs.declared.Place.{Place}
use Rattle.parameter.specs.Walk.{ended, found, step_at}
use Rattle.parameter.proofs.Reaching.{Passed, passed_none, passed_next, passed_end, passed_refused}
use Rattle.form.proofs.Passes.{each_last}
use Rattle.flat.specs.declared.writer.Writer.{Writer}
use Rattle.flat.specs.Steps.Emitting.{Tried, Accounted}
use Rattle.flat.proofs.Emission.{writes_none, writes_more}

pub record Going (param : List ℕ → Place → Outcome (List ℕ)) (xs : List ℕ) (a : Writer) (n : ℕ) (left : List ℕ) (at : ℕ) (o : Outcome (Unit {0})) (b : Writer) : Type 0 where
  pub passed : Passed xs 8 n left at
  pub tried : Tried a (each (param xs) passed.reached.done) o b

pub going_start : (param : List ℕ → Place → Outcome (List ℕ)) (xs : List ℕ) (a : Writer) {left : List ℕ} {at : ℕ} → a.at < 2 ^ 64 → left ≡ xs → at ≡ 8 → Going param xs a 0 left at (accepted (tt {0})) a
going_start param xs a h e f = record { passed = passed_none xs 8 _ e f; tried = ([], refl, writes_none a h) }

-- whether a parameter was refused
going_none : true ≡ false → ⊥
going_none e = let z : ◌≡◌ {A = ℕ} 1 0 = ap (λ t. pick t 1 0) e in omega arith

pub going_ok :
    {param : List ℕ → Place → Outcome (List ℕ)} {xs : List ℕ} {a : Writer} {n : ℕ} {left : List ℕ} {at : ℕ} {b : Writer} (r : Result (Unit {0}) Refusal)
    → true ≡ is_ok r
    → Going param xs a n left at (outcome_of r) b
    → Going param xs a n left at (accepted (tt {0})) b
going_ok (Ok u) e g = g
going_ok (Err x) e g = absurd (going_none e)

-- the account of one parameter more
last : (param : List ℕ → Place → Outcome (List ℕ)) (xs : List ℕ) (ps : List Place) (p : Place) {o q : Outcome (List ℕ)}
    → each (param xs) ps ≡ o
    → param xs p ≡ q
    → each (param xs) (ps ++ (p ∷ [])) ≡ after o (λ us. mapped (λ vs. us ++ vs) q)
last param xs ps p e f = rw (each_last (param xs) ps p, e, f) refl

lent_by : (a b : Writer) (q : Outcome (List ℕ)) {A : Type 0} (o : Outcome A) → Tried a q o b → b.out.ghost_name ≡ a.out.ghost_name
lent_by a b q (accepted u) t = t.2.lent
lent_by a b q (refused n vs) t = t.1

module _
    {param : List ℕ → Place → Outcome (List ℕ)} {xs : List ℕ} {a : Writer} {n : ℕ} {left later : List ℕ} {at : ℕ} {b : Writer} (p : Place) (to : ℕ)
    (same : later ≡ left) (e : accepted (found p to) ≡ bounded left (step_at left at)) where
  -- where none was refused before
  pub going_more :
      {c : Writer} (o : Outcome (Unit {0}))
      → Going param xs a n left at (accepted (tt {0})) b
      → Tried b (param xs p) o c
      → Going param xs a (n + 1) later to o c
  going_more (accepted u) g t = record {
    passed = passed_next g.passed p to same e;
    tried = (g.tried.0 ++ t.0, last param xs g.passed.reached.done p g.tried.1 t.1, writes_more g.tried.2 t.2);
  }
  going_more (refused m vs) g t = record {
    passed = passed_next g.passed p to same e;
    tried = (last param xs g.passed.reached.done p g.tried.1 t.0, t.1 ∙ g.tried.2.lent);
  }

  -- a refusal stays
  pub going_refused : (r : Result (Unit {0}) Refusal) → false ≡ is_ok r → Going param xs a n left at (outcome_of r) b → Going param xs a (n + 1) later to (outcome_of r) b
  going_refused (Ok u) t g = absurd (going_none (sym t))
  going_refused (Err x) t g = record {
    passed = passed_next g.passed p to same e;
    tried = (last param xs g.passed.reached.done p g.tried.0 refl, g.tried.1);
  }

module _ {param : List ℕ → Place → Outcome (List ℕ)} {xs : List ℕ} {a : Writer} {n : ℕ} {left : List ℕ} {at : ℕ} {b : Writer} where
  -- the walk has come to its end
  pub going_done : Going param xs a n left at (accepted (tt {0})) b → accepted ended ≡ bounded left (step_at left at) → Accounted param xs a (accepted n) b
  going_done g e =
      let w = passed_end g.passed e in
      record {
        lent = g.tried.2.lent;
        tried = (g.tried.0, ap (λ o. after o (each (param xs))) w ∙ g.tried.1, g.tried.2);
        count = λ k ps f i. sym (accepted_inj f) ∙ g.passed.counted ∙ ap length (accepted_inj (sym w ∙ i));
      }

  pub going_stopped : (m : ℕ) (vs : List ℕ) → Going param xs a n left at (refused m vs) b → accepted ended ≡ bounded left (step_at left at) → Accounted param xs a (refused m vs) b
  going_stopped m vs g e =
      let w = passed_end g.passed e in
      record {
        lent = g.tried.1;
        tried = (ap (λ o. after o (each (param xs))) w ∙ g.tried.0, g.tried.1);
        count = λ k ps f i. absurd (never f);
      }

  -- the walk is refused
  pub going_out : {o : Outcome (Unit {0})} (m : ℕ) (vs : List ℕ) → Going param xs a n left at o b → refused m vs ≡ bounded left (step_at left at) → Accounted param xs a (refused m vs) b
  going_out {o} m vs g e =
      let w = passed_refused g.passed m vs e in
      record {
        lent = lent_by a b _ o g.tried;
        tried = (ap (λ o. after o (each (param xs))) w, lent_by a b _ o g.tried);
        count = λ k ps f i. absurd (never f);
      }
