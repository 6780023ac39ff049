-- Sub-parameters that are written from the octets of an address value, one by one.
use Prim.Native.Nat.{ℕ, ◌+◌, ◌*◌, ◌/◌, ◌%◌, ◌≤◌}
use mathlib.Core.Path.{◌≡◌, refl, sym, ap, ◌∙◌}
use mathlib.Core.Bool.{Bool, true, false}
use mathlib.Core.List.{List, [], ◌∷◌, ◌++◌, append-nil}
use native.Mathlib.Omega.{arith}
use borrow.Author.Tests.{leb-true}
use lib.Dec.{leb}
use lib.ListN.{length, take, drop}
use Rattle.bcd.specs.Outcome.{Outcome, accepted, refused, pick, Octets, Delivered, deliver}
use Rattle.bcd.proofs.Outcomes.{accepted_inj, never, deliver_answer}
use Rattle.bcd.proofs.Writing.{untouched, delivered}
use Rattle.parameter.specs.Parameter.{Param, four, four_in, two_at, param_octets, run_octets, most_value, encode_param}
use Rattle.parameter.proofs.Encoding.{encode_within}

-- What is delivered, where it is not refused.
pub record Fits (os out : List ℕ) (n : ℕ) (last : List ℕ) : Type 0 where
  pub count : n ≡ length os
  pub room : length os ≤ length out
  pub holds : last ≡ os ++ drop (length os) out

pub delivered_inv : (os out : List ℕ) {n : ℕ} {last : List ℕ} → record { answer = accepted n; buffer = last } ≡ deliver (accepted os) out → Fits os out n last
unfolding deliver
delivered_inv os out {n} {last} e = go (leb (length os) (length out)) refl e
  where
    go :
        (t : Bool)
        → leb (length os) (length out) ≡ t
        → ◌≡◌ {A = Delivered} (record { answer = accepted n; buffer = last })
        (pick t (record { answer = accepted (length os); buffer = os ++ drop (length os) out }) (record { answer = refused 14 (length os ∷ []); buffer = out }))
        → Fits os out n last
    go true h e = record { count = accepted_inj (ap (λ (d : Delivered). d.answer) e); room = leb-true (length os) (length out) h; holds = ap (λ (d : Delivered). d.buffer) e }
    go false h e = absurd (never (sym (ap (λ (d : Delivered). d.answer) e)))

-- Octets for which there is room are not refused.
pub delivered_never : {X : Type 0} (os out : List ℕ) {n : ℕ} {vs last : List ℕ} → length os ≤ length out → record { answer = refused n vs; buffer = last } ≡ deliver (accepted os) out → X
delivered_never os out h e = absurd (never (deliver_answer os out h e))

-- As many octets are refused alike.
pub refused_alike :
    (os us out : List ℕ) {n : ℕ} {vs last : List ℕ}
    → length os ≡ length us
    → record { answer = refused n vs; buffer = last } ≡ deliver (accepted os) out
    → record { answer = refused n vs; buffer = last } ≡ deliver (accepted us) out
unfolding deliver
refused_alike os us out {n} {vs} {last} l e = go (leb (length os) (length out)) refl e
  where
    go :
        (t : Bool)
        → leb (length os) (length out) ≡ t
        → ◌≡◌ {A = Delivered} (record { answer = refused n vs; buffer = last })
        (pick t (record { answer = accepted (length os); buffer = os ++ drop (length os) out }) (record { answer = refused 14 (length os ∷ []); buffer = out }))
        → ◌≡◌ {A = Delivered} (record { answer = refused n vs; buffer = last })
        (pick (leb (length us) (length out)) (record { answer = accepted (length us); buffer = us ++ drop (length us) out }) (record { answer = refused 14 (length us ∷ []); buffer = out }))
    go true h e = absurd (never (ap (λ (d : Delivered). d.answer) e))
    go false h e = rw (← l, h) e

-- One parameter is written as a run.
pub one_encoded :
    (q : Param) (out : List ℕ) {d : Delivered}
    → length q.value ≤ most_value
    → d ≡ deliver (encode_param q) out
    → d ≡ deliver (accepted (run_octets (q ∷ []))) out
unfolding run_octets
one_encoded q out h e =
    e ∙ ap (λ (o : Outcome (List ℕ)). deliver o out) (encode_within q h) ∙ ap (λ (os : List ℕ). deliver (accepted os) out) (sym (append-nil (param_octets q)))

pub none_delivered : (out : List ℕ) → record { answer = accepted 0; buffer = out } ≡ deliver (accepted (run_octets [])) out
unfolding run_octets
none_delivered out = delivered 0 (untouched out) refl

-- Four octets as a number, written again.
pub four_again : (w : List ℕ) → 4 ≤ length w → Octets w → take 4 w ≡ four (four_in w)
unfolding two_at
four_again [] h o = absurd (omega arith)
four_again (a ∷ []) h o = absurd (omega arith)
four_again (a ∷ b ∷ []) h o = absurd (omega arith)
four_again (a ∷ b ∷ c ∷ []) h o = absurd (omega arith)
four_again (a ∷ b ∷ c ∷ d ∷ w) h (ha, (hb, (hc, (hd, ho)))) =
    let n = (a * 256 + b) * 65536 + (c * 256 + d) in
    let first : n / 65536 / 256 ≡ a = omega arith in
    let second : n / 65536 % 256 ≡ b = omega arith in
    let third : n % 65536 / 256 ≡ c = omega arith in
    let fourth : n % 65536 % 256 ≡ d = omega arith in
    rw (first, second, third, fourth)
