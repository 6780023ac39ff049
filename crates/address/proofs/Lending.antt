-- A writer that may refuse, lent a part of a buffer; and a front that is written after what stands behind it.
use Prim.Native.Nat.{ℕ, ◌≤◌, ◌<◌}
use mathlib.Core.Path.{◌≡◌, refl, sym, ap, ◌∙◌}
use mathlib.Core.List.{List, [], ◌∷◌, ◌++◌, append_assoc}
use native.Mathlib.Omega.{arith}
use lib.ListN.{length, take, drop, length-append, take-append-drop}
use lib.Seq.{drop_at, length-take-le}
use borrow.Rule.Slice.PartMut.{mid_of, put_mid, put_same}
use Rattle.bcd.specs.Outcome.{Outcome, accepted, refused, after, mapped, Delivered, deliver}
use Rattle.bcd.proofs.Outcomes.{never, deliver_refused, deliver_too_long, deliver_answer}
use Rattle.bcd.proofs.Writing.{Begun, begin}

-- Where there was room, the refusal is the definition's, and all is as it was.
pub lent_refused :
    (o : Outcome (List ℕ)) (a k : ℕ) (out : List ℕ) {last : List ℕ} {n : ℕ} {vs : List ℕ}
    → record { answer = refused n vs; buffer = last } ≡ deliver o (mid_of a k out)
    → ((w : List ℕ) → o ≡ accepted w → length w ≤ length (mid_of a k out))
    → (o ≡ refused n vs) × (put_mid a k out last ≡ out)
lent_refused (accepted w) a k out e room = absurd (never (deliver_answer w (mid_of a k out) (room w refl) e))
lent_refused (refused m ws) a k out {last} {n} {vs} e room =
    let d = e ∙ sym (deliver_refused m ws (mid_of a k out)) in
    let number = ap (λ (d : Delivered). d.answer) d in
    let x : m ≡ n = cc in
    let y : ws ≡ vs = cc in
    (rw (x, y), ap (λ (d : Delivered). put_mid a k out d.buffer) d ∙ put_same a k out)

-- An answer means that the definition accepts.
pub lent_accepted :
    (o : Outcome (List ℕ)) (lent : List ℕ) {last : List ℕ} {n : ℕ}
    → record { answer = accepted n; buffer = last } ≡ deliver o lent
    → (w : List ℕ) × (o ≡ accepted w)
lent_accepted (accepted w) lent e = (w, refl)
lent_accepted (refused m ws) lent e = absurd (never (sym (ap (λ (d : Delivered). d.answer) (e ∙ sym (deliver_refused m ws lent)))))

-- A refusal is the same whatever was accepted.
pub refusal_same : {A B C : Type 0} (f : A → B) (o : Outcome A) (r : Outcome C) → after (mapped f o) (λ b. r) ≡ after o (λ a. r)
refusal_same f (accepted a) r = refl
refusal_same f (refused n vs) r = refl

-- Too little room for so many octets, if it is not refused for something else before.
pub short-first :
    (o : Outcome (List ℕ)) (n : ℕ) (out : List ℕ) {answer : Outcome ℕ}
    → answer ≡ after (mapped length o) (λ (k : ℕ). refused 14 (n ∷ []))
    → ((w : List ℕ) → o ≡ accepted w → length w ≡ n)
    → length out < n
    → record { answer = answer; buffer = out } ≡ deliver o out
short-first (accepted w) n out e size h =
    ap (λ (a : Outcome ℕ). record { answer = a; buffer = out }) e ∙ deliver_too_long (accepted w) n out (ap accepted (sym (size w refl))) h
short-first (refused m ws) n out e size h = ap (λ (a : Outcome ℕ). record { answer = a; buffer = out }) e ∙ deliver_refused m ws out

-- The front as it was.
pub front_kept : (out : List ℕ) (n : ℕ) → n ≤ length out → Begun out (take n out) out
front_kept out n h =
    let l = length-take-le n out h in
    begin out (take n out) out (omega arith) (rw l (sym (take-append-drop n out)))

-- Another front in its place.
pub front-written :
    {out d : List ℕ} (p q front e : List ℕ) (n : ℕ)
    → Begun out (p ++ q) d
    → length p ≡ n
    → length front ≡ n
    → e ≡ front ++ drop n d
    → Begun out (front ++ q) e
front-written {out} {d} p q front e n b l m h =
    let rest = drop (length (p ++ q)) out in
    let behind : drop n d ≡ q ++ rest = rw (b.holds, append_assoc) (drop_at p (q ++ rest) n l) in
    let x = length-append p q in
    let y = length-append front q in
    let same : length (front ++ q) ≡ length (p ++ q) = omega arith in
    begin out (front ++ q) e (omega (arith, b.fits))
    (h ∙ ap (λ (t : List ℕ). front ++ t) behind ∙ sym (append_assoc front q rest) ∙ ap (λ (i : ℕ). (front ++ q) ++ drop i out) (sym same))
