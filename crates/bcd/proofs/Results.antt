-- The laws of `outcome_of`: a result by its outcome, and the exit of a `?`.
use Prim.Native.Nat.{ℕ, ◌≤◌, ◌<◌}
use mathlib.Core.Path.{◌≡◌, refl, sym, ap, ◌∙◌}
use mathlib.Core.Bool.{Bool, true, false}
use mathlib.Core.List.{List, [], ◌∷◌}
use lib.Dec.{leb}
use borrow.Author.Tests.{leb-true, leb-false}
use lib.ListN.{length}
use Rattle.std.specs.Prelude.{Result, IsErrAnd}
use Rattle.std.proofs.lemmas.Result.{err_from_is_err_and}
use Rattle.bcd.specs.Outcome.{Outcome, accepted, refused, demand, most, mapped, deliver}
use Rattle.bcd.specs.Answers.{refusal_of, outcome_of}
use Rattle.bcd.specs.declared.error.Refusal.{Refusal}
use Rattle.bcd.proofs.Outcomes.{never, demand_inv, deliver-passed_on}

-- a refusal is the same, whatever was to come
pub refusal_as : {A : Type 0} (B : Type 0) (x : Refusal) {n : ℕ} {vs : List ℕ} → refusal_of {A = A} x ≡ refused n vs → refusal_of {A = B} x ≡ refused n vs
refusal_as B x {n} {vs} e = let a : (refusal_of {A = B} x) ≡ refused n vs = cc in a

-- the exit of a `?`, which returns the callee's refusal
module _ {A : Type 0} (result : Result A Refusal) (x : Refusal) (came : IsErrAnd result (λ y. y ≡ x)) where
  pub exit : outcome_of result ≡ refusal_of x
  exit = let p = err_from_is_err_and result came in ap outcome_of p.1 ∙ ap refusal_of p.2

  pub exit_as : (o : Outcome A) → refusal_of x ≡ o → outcome_of result ≡ o
  exit_as o e = exit ∙ e

-- the same for a writer, which leaves its buffer as it was
module _ (result : Result ℕ Refusal) (x : Refusal) (came : IsErrAnd result (λ y. y ≡ x)) where
  pub exit_passed_on : (o : Outcome (List ℕ)) (out : List ℕ) → refusal_of x ≡ mapped length o → record { answer = outcome_of result; buffer = out } ≡ deliver o out
  exit_passed_on o out e = rw (exit result x came) (deliver-passed_on o _ _ out e)

  pub exit_delivered : (o : Outcome (List ℕ)) (out : List ℕ) → refusal_of x ≡ o → record { answer = outcome_of result; buffer = out } ≡ deliver o out
  exit_delivered o out e = exit_passed_on o out (ap (mapped length) e)

-- what `within` tells: so many octets are few enough, or refused
pub few_octets : {A : Type 0} {a : A} {n : ℕ} → accepted a ≡ demand (leb n most) 12 (n ∷ []) (accepted a) → n ≤ most
few_octets {n = n} e = leb-true n most (demand_inv (leb n most) _ _ _ (sym e)).0

pub many_octets :
    {A : Type 0} (a : A) {n : ℕ} (m : ℕ) (vs : List ℕ)
    → refused m vs ≡ demand (leb n most) 12 (n ∷ []) (accepted a)
    → (most < n) × (m ≡ 12) × (vs ≡ n ∷ [])
many_octets a {n = n} m vs e = go (leb n most) refl e
  where
    go : (b : Bool) → leb n most ≡ b → refused m vs ≡ demand b 12 (n ∷ []) (accepted a) → (most < n) × (m ≡ 12) × (vs ≡ n ∷ [])
    go true t e = absurd (never e)
    go false t e = let h : m ≡ 12 = cc in let k : vs ≡ n ∷ [] = cc in (leb-false n most t, h, k)
