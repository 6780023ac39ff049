-- Parameters counted by a fold over the walk.
use Prim.Native.Nat.{ℕ, ◌+◌, ◌<◌}
use mathlib.Core.Path.{◌≡◌, sym, ap, subst, ◌∙◌}
use mathlib.Core.List.{List, [], ◌∷◌}
use lib.ListN.{length}
use Rattle.std.specs.Prelude.{Option, None, Some, Result, Ok, Err}
use Rattle.std.specs.Option.{MatchOption}
use Rattle.std.specs.Iterator.{Yields, CallableAtEachTurn}
use Rattle.std.specs.List.{FoldsTo}
use Rattle.bcd.specs.Outcome.{accepted, mapped, bounded, most}
use Rattle.bcd.specs.Answers.{refusal_of, outcome_of}
use Rattle.bcd.specs.declared.error.Refusal.{Refusal}
use Rattle.parameter.specs.declared.Place.{Place}
use Rattle.parameter.specs.declared.Parameters.{Parameters}
use Rattle.parameter.specs.Walk.{places}
use Rattle.parameter.specs.Items.{Gives}
use Rattle.parameter.proofs.Reaching.{Passed, passed_small, passed_next, passed_end, passed_refused}

-- The walk goes on from what it has passed, by turns that each count one parameter.
module _ {F : Type 0} (R : F × ℕ → Result Place Refusal → F × ℕ → Type 0)
    (ok : (p q : F × ℕ) (x : Place) → R p (Ok x) q → q.1 ≡ p.1 + 1) (err : (p q : F × ℕ) (e : Refusal) → R p (Err e) q → ⊥) where
  abbrev pub Steps : Parameters → Option (Result Place Refusal) → Parameters → Type 0
  Steps s r t = Gives s.bytes.now s.at r t.bytes.now t.at

  pub passes :
      (xs : List ℕ) (from : ℕ) (items : List (Result Place Refusal)) (s t : Parameters) (p q : F × ℕ)
      → Passed xs from p.1 s.bytes.now s.at
      → Yields Steps s items t
      → FoldsTo R p items q
      → Passed xs from q.1 t.bytes.now t.at
  passes xs from [] s t p q w same so = subst (λ (r : F × ℕ). Passed xs from r.1 t.bytes.now t.at) so (subst (λ (u : Parameters). Passed xs from p.1 u.bytes.now u.at) same w)
  passes xs from (Err e ∷ items) s t p q w y f = absurd (err p f.0 e f.1)
  passes xs from (Ok x ∷ items) s t p q w y f =
      passes xs from items y.0 t f.0 q
      (subst (λ (n : ℕ). Passed xs from n y.0.bytes.now y.0.at) (sym (ok p f.0 x f.1)) (passed_next w x y.0.at y.1.0 y.1.1)) y.2 f.2

  pub turns :
      {Q : F × ℕ → Result Place Refusal → Type 0} (xs : List ℕ) (from : ℕ) (s : Parameters) (p : F × ℕ)
      → Passed xs from p.1 s.bytes.now s.at
      → ((q : F × ℕ) (x : Place) → q.1 < most → Q q (Ok x))
      → ((q : F × ℕ) (e : Refusal) → Q q (Err e))
      → CallableAtEachTurn Steps R Q s p
  turns {Q} xs from s p w h k = record { at = λ items t q x u y f step. go items t q x u step (passes xs from items s t p q w y f) }
    where
      go : (items : List (Result Place Refusal)) (t : Parameters) (q : F × ℕ) (x : Result Place Refusal) (u : Parameters) → Steps t (Some x) u → Passed xs from q.1 t.bytes.now t.at → Q q x
      go items t q (Ok x) u step w = h q x (passed_small w step.1)
      go items t q (Err e) u step w = k q e

-- The end of the walk, or the refusal that broke it off.
pub ended :
    {N : Type 0} (S : Result Place Refusal → Type 0) (xs : List ℕ) (from n : ℕ) (r : Result ℕ Refusal) (o : Option (Result Place Refusal)) (t u : Parameters)
    → Passed xs from n t.bytes.now t.at
    → Gives t.bytes.now t.at o u.bytes.now u.at
    → (N → outcome_of r ≡ accepted n)
    → ((x : Place) → S (Ok x) → ⊥)
    → ((e : Refusal) → S (Err e) → outcome_of r ≡ refusal_of e)
    → MatchOption o N S
    → outcome_of r ≡ mapped length (bounded xs (places xs from))
ended S xs from n r None t u w step done on off m = done m ∙ ap accepted w.counted ∙ sym (ap (mapped length) (passed_end w step.1))
ended S xs from n r (Some (Ok x)) t u w step done on off m = absurd (on x m)
ended S xs from n r (Some (Err e)) t u w step done on off m = off e m ∙ sym (ap (mapped length) (passed_refused w _ _ step.1))
