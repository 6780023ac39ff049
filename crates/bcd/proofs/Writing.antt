-- A writer that goes from the front: `Begun out p d` says that the buffer, `out` at entry, now is d: p in front, and
-- beyond it what it held.
use Prim.Native.Nat.{ℕ, suc, ◌+◌, ◌≤◌, ◌<◌}
use mathlib.Core.Path.{◌≡◌, refl, sym, ap, ◌∙◌, subst}
use mathlib.Core.List.{List, [], ◌∷◌, ◌++◌, append_assoc, append-nil}
use native.Mathlib.Omega.{arith}
use native.Mathlib.Numerals.{add-one}
use lib.ListN.{length, get_or, set, take, drop, length-append, length-take, length-drop, take-append-drop, drop_of_length-le}
use lib.Seq.{drop-cons, set_at, take_at, drop_at, drop-append-le, drop-drop, length-take-le, take-suc}
use borrow.Rule.Slice.PartMut.{mid_of, put_mid}
use Rattle.bcd.specs.Outcome.{accepted, deliver}
use Rattle.bcd.proofs.Outcomes.{deliver_fits}

pub record Begun {A : Type 0} (out p d : List A) : Type 0 where
  pub holds : d ≡ p ++ drop (length p) out
  pub fits : length p ≤ length out
  pub same : length d ≡ length out

-- q in front of the whole buffer
pub begin : {A : Type 0} (out q d : List A) → length q ≤ length out → d ≡ q ++ drop (length q) out → Begun out q d
begin out q d h e = record { holds = e; fits = h; same = rw (e, length-append, length-drop) (omega arith) }

-- nothing written yet
pub untouched : {A : Type 0} (out : List A) → Begun out [] out
untouched out = begin out [] out (omega arith) refl

-- one element stored behind what was written
pub store : {A : Type 0} {out p d : List A} (n : ℕ) (v : A) → Begun out p d → length p ≡ n → n < length out → Begun out (p ++ (v ∷ [])) (set d n v)
store {A} {out} {p} {d} n v b e h =
    let t : drop (length p) out ≡ get_or out (length p) v ∷ drop (suc (length p)) out = drop-cons out (length p) v (omega arith) in
    let l : length (p ++ (v ∷ [])) ≡ suc (length p) = rw length-append (omega arith) in
    begin out (p ++ (v ∷ [])) (set d n v) (rw l (omega arith))
    (rw (l, b.holds, t, set_at p (get_or out (length p) v) (drop (suc (length p)) out) v n e)
    (sym (append_assoc p (v ∷ []) (drop (suc (length p)) out))))

-- the next element of a list that is written from its front
pub store_next : {out d : List ℕ} (os : List ℕ) (n : ℕ) → Begun out (take n os) d → n < length os → n < length out → Begun out (take (n + 1) os) (set d n (get_or os n 0))
store_next {out} {d} os n b h k =
    let e : take (n + 1) os ≡ take n os ++ (get_or os n 0 ∷ []) = rw add-one (take-suc os n 0 h) in
    subst (λ (p : List ℕ). Begun out p (set d n (get_or os n 0))) (sym e) (store n (get_or os n 0) b (length-take-le n os (omega arith)) k)

beyond : (k n : ℕ) (x : List ℕ) → n ≤ k → k ≤ length x → drop n (take k x) ++ drop k x ≡ drop n x
beyond k n x h l =
    let m : n ≤ length (take k x) = rw (length-take-le k x l) h in
    sym (drop-append-le n (take k x) (drop k x) m) ∙ ap (drop n) (take-append-drop k x)

-- the k octets from a on, lent to a writer that put q in front of them
pub extend :
    {out p d : List ℕ} (q last : List ℕ) (a k : ℕ)
    → Begun out p d
    → length p ≡ a
    → a + k ≤ length out
    → length q ≤ k
    → last ≡ q ++ drop (length q) (mid_of a k d)
    → Begun out (p ++ q) (put_mid a k d last)
extend {out} {p} {d} q last a k b n f h e =
    let x = drop (length p) out in
    let dd : drop a d ≡ x = rw b.holds (drop_at p x a n) in
    let td : take a d ≡ p = rw b.holds (take_at p x a n) in
    let lx : k ≤ length x = rw length-drop (omega arith) in
    let part : last ++ drop k (drop a d) ≡ q ++ drop (length q) x =
    rw (e, dd, append_assoc) (ap (λ (l : List ℕ). q ++ l) (beyond k (length q) x h lx)) in
    begin out (p ++ q) (put_mid a k d last) (rw length-append (omega arith))
    (rw (td, part, append_assoc, length-append) (ap (λ (l : List ℕ). p ++ (q ++ l)) (drop-drop (length q) (length p) out)))

-- the same, where the writer filled all that it was lent
pub extend_all : {out p d : List ℕ} (q : List ℕ) (a k : ℕ) → Begun out p d → length p ≡ a → a + k ≤ length out → length q ≡ k → Begun out (p ++ q) (put_mid a k d q)
extend_all {out} {p} {d} q a k b n f e =
    let short : length (mid_of a k d) ≤ length q = simp (length-take, length-drop) (omega arith) in
    extend q q a k b n f (omega arith) (rw (drop_of_length-le (mid_of a k d) short, append-nil) refl)

-- what was written stands in front
pub in_front : {out p d : List ℕ} (n : ℕ) → Begun out p d → length p ≡ n → take n d ≡ p
in_front {out} {p} {d} n b e = rw b.holds (take_at p (drop (length p) out) n e)

-- all of the buffer is written
pub whole : {out p d : List ℕ} → Begun out p d → length p ≡ length out → d ≡ p
whole {out} {p} {d} b e =
    let short : length out ≤ length p = omega arith in
    b.holds ∙ rw (drop_of_length-le out short, append-nil) refl

-- what was begun with the octets is delivered
pub delivered : {out os d : List ℕ} (n : ℕ) → Begun out os d → length os ≡ n → record { answer = accepted n; buffer = d } ≡ deliver (accepted os) out
delivered {out} {os} {d} n b e = rw (b.holds, ← e) (deliver_fits os out b.fits)
