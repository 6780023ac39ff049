-- `bcd::encode_gt_digits` meets its contract: the loop has checked the first 2 k digits and stored their k octets, and all octets
-- are copied where they fit.
use Prim.Native.Nat.{ℕ, ◌+◌, ◌*◌, ◌/◌, ◌≤◌, ◌<◌}
use borrow.Author.Rules.{rules}
use mathlib.Core.Path.{◌≡◌, refl, sym, ap, ap₂, ◌∙◌, subst}
use mathlib.Core.List.{List, [], ◌∷◌, ◌++◌}
use native.Mathlib.Omega.{arith}
use Rattle.std.specs.Prelude.{Result, IsErrAnd}
use lib.ListN.{length, get_or, take, drop, set, replicate, length-replicate}
use lib.Seq.{take_all, length-take-le}
use borrow.Author.Tests.{ltb-true, ltb-false}
use Rattle.bcd.specs.Outcome.{accepted, refused, mapped, deliver}
use Rattle.bcd.specs.Answers.{refusal_of, outcome_of}
use Rattle.bcd.specs.Digits.{built_in, written, write_digits}
use Rattle.bcd.specs.Steps.{nibble}
use Rattle.bcd.specs.declared.error.Refusal.{Refusal}
use Rattle.bcd.proofs.Results.{exit_delivered}
use Rattle.bcd.proofs.Outcomes.{deliver_refused, deliver_too_long}
use Rattle.bcd.proofs.Characters.{built_in_lawful}
use Rattle.bcd.proofs.Reading.{octet-two, octet_one, low_of, high_of, odd_of}
use Rattle.bcd.proofs.Writing.{Begun, begin, untouched, store_next, in_front, delivered}
use Rattle.bcd.proofs.Writable.{Checked, too_many, checked_more, checked_bad, checked_all, packed-length}
use Rattle.bcd.proofs.encode_gt_digits.Invariants.{octets}
use Rattle.bcd.proofs.encode_gt_digits.Goals.{then-odd-lt1, in-len1+in_ok-packed-2, else-odd-lt1+else-odd-lt2}
use Rattle.bcd.proofs.encode_gt_digits.Goals as goal

module _ (digits : List ℕ) (few : length digits ≤ 255) where
  -- the digit at place i is none
  bad :
      (i : ℕ) (r : Result ℕ Refusal) (x : Refusal) (digit : ℕ) (out : List ℕ)
      → Checked built_in digits i
      → i < length digits
      → IsErrAnd r (λ y. y ≡ x)
      → digit ≡ get_or digits i 0
      → refusal_of x ≡ written digit (built_in.half digit)
      → record { answer = outcome_of r; buffer = out } ≡ deliver (write_digits built_in digits) out
  bad i r x digit out checked h came at e =
      exit_delivered r x came (write_digits built_in digits) out
      (sym (checked_bad built_in built_in_lawful digits i h checked _ _ few (subst (λ c. refusal_of x ≡ written c (built_in.half c)) at e)))

  -- the digit at place i is one
  good :
      (i v digit : ℕ)
      → Checked built_in digits i
      → i < length digits
      → digit ≡ get_or digits i 0
      → accepted (v ∷ []) ≡ written digit (built_in.half digit)
      → (v ≤ 15) × (v ≡ nibble built_in (get_or digits i 0)) × Checked built_in digits (i + 1)
  good i v digit checked h at e =
      checked_more built_in built_in_lawful digits i h checked v (subst (λ c. accepted (v ∷ []) ≡ written c (built_in.half c)) at e)

  -- the next octet is stored
  stored :
      {packed : List ℕ} (k v : ℕ)
      → Begun (replicate 128 0) (take k (octets digits)) packed
      → v ≡ get_or (octets digits) k 0
      → 2 * k < length digits
      → Begun (replicate 128 0) (take (k + 1) (octets digits)) (set packed k v)
  stored k v b e h = rw e (store_next (octets digits) k b (omega (arith, packed-length built_in digits)) (omega (arith, length-replicate {A = ℕ} 128 0)))

  -- all octets are stored: the last pair's, or the odd last digit's
  finished :
      {packed : List ℕ} (i k : ℕ)
      → Checked built_in digits i
      → length digits ≤ i
      → Begun (replicate 128 0) (take k (octets digits)) packed
      → k ≡ (length digits + 1) / 2
      → (accepted (take ((length digits + 1) / 2) packed) ≡ write_digits built_in digits) × (length packed ≡ 128)
  finished {packed} i k checked h b e =
      let l = packed-length built_in digits in
      let all : Begun (replicate 128 0) (octets digits) packed = rw (take_all k (octets digits) (omega arith)) at b in
      (ap accepted (in_front ((length digits + 1) / 2) all l) ∙ sym (checked_all built_in digits i checked h few), b.same ∙ length-replicate {A = ℕ} 128 0)

  odd_last :
      {packed : List ℕ} (n v digit : ℕ)
      → Checked built_in digits (2 * n)
      → length digits ≡ 2 * n + 1
      → Begun (replicate 128 0) (take n (octets digits)) packed
      → digit ≡ get_or digits (2 * n) 0
      → accepted (v ∷ []) ≡ written digit (built_in.half digit)
      → (accepted (take ((length digits + 1) / 2) (set packed n v)) ≡ write_digits built_in digits) × (length (set packed n v) ≡ 128)
  odd_last n v digit checked size b at e =
      let last = good (2 * n) v digit checked (omega arith) at e in
      let more = stored n v b (last.1 ∙ octet_one (nibble built_in) digits n (omega arith) (omega arith)) (omega arith) in
      finished (2 * n + 1) (n + 1) last.2 (omega arith) more (omega arith)

-- the octets of the digits stand in front of the array
module _ (cs d out : List ℕ) (n : ℕ) (e : n ≡ (length cs + 1) / 2) (w : accepted (take ((length cs + 1) / 2) d) ≡ write_digits built_in cs) (room : n ≤ length d) where
  same : accepted (take n d) ≡ write_digits built_in cs
  same = subst (λ k. accepted (take k d) ≡ write_digits built_in cs) (sym e) w

  short : length out < n → record { answer = refused 14 (n ∷ []); buffer = out } ≡ deliver (write_digits built_in cs) out
  short h = deliver_too_long (write_digits built_in cs) n out (ap accepted (sym (length-take-le n d room)) ∙ ap (mapped length) same) h

  copied : (last : List ℕ) → n ≤ length out → last ≡ take n d → record { answer = accepted n; buffer = last ++ drop n out } ≡ deliver (write_digits built_in cs) out
  copied last h s =
      let l = length-take-le n d room in
      rw s (delivered n (begin out (take n d) (take n d ++ drop n out) (omega arith) (rw l)) l ∙ ap (λ o. deliver o out) same)

pub returns-then-given-gt255 : goal.returns-then-given-gt255
returns-then-given-gt255 c = rw (too_many built_in c.args.digits.now c.if-given-gt255.true) (deliver_refused 11 _ c.args.out.now)

pub loop-k-init : goal.loop-k-init
loop-k-init c = (refl, untouched (replicate 128 0))

pub returns-in_err-low : goal.returns-in_err-low
returns-in_err-low c =
    let digits = c.args.digits.now in
    let k = c.loop-k.k in
    bad digits c.if-given-gt255.false (2 * k) _ _ _ c.args.out.now c.loop-k.invariant.0 (omega arith) c.from_residual.ensures.1 (low_of digits k _ _ c.as_chunks.ensures.front (omega arith)) c.in_err-low.ensures

pub returns-in_err-packed : goal.returns-in_err-packed
returns-in_err-packed c =
    let digits = c.args.digits.now in
    let k = c.loop-k.k in
    let low = good digits c.if-given-gt255.false (2 * k) _ _ c.loop-k.invariant.0 (omega arith) (low_of digits k _ _ c.as_chunks.ensures.front (omega arith)) c.in_ok-low.ensures in
    bad digits c.if-given-gt255.false (2 * k + 1) _ _ _ c.args.out.now low.2 (omega arith) c.from_residual-in_err-packed.ensures.1 (high_of digits k _ _ c.as_chunks.ensures.front (omega arith)) c.in_err-packed.ensures

pub overflow_add-packed : goal.overflow_add-packed
overflow_add-packed c =
    let digits = c.args.digits.now in
    let k = c.loop-k.k in
    let low = good digits c.if-given-gt255.false (2 * k) _ _ c.loop-k.invariant.0 (omega arith) (low_of digits k _ _ c.as_chunks.ensures.front (omega arith)) c.in_ok-low.ensures in
    let high = good digits c.if-given-gt255.false (2 * k + 1) _ _ low.2 (omega arith) (high_of digits k _ _ c.as_chunks.ensures.front (omega arith)) c.in_ok-packed.ensures in
    omega (arith, low.0, high.0)

pub loop-k-preserved : goal.loop-k-preserved
loop-k-preserved c =
    let digits = c.args.digits.now in
    let k = c.loop-k.k in
    let low = good digits c.if-given-gt255.false (2 * k) _ _ c.loop-k.invariant.0 (omega arith) (low_of digits k _ _ c.as_chunks.ensures.front (omega arith)) c.in_ok-low.ensures in
    let high = good digits c.if-given-gt255.false (2 * k + 1) _ _ low.2 (omega arith) (high_of digits k _ _ c.as_chunks.ensures.front (omega arith)) c.in_ok-packed.ensures in
    let e : 2 * k + 1 + 1 ≡ 2 * (k + 1) = omega arith in
    let v = ap₂ (λ (x y : ℕ). x * 16 + y) high.1 low.1 ∙ octet-two (nibble built_in) digits k (omega arith) in
    (subst (Checked built_in digits) e high.2, stored digits c.if-given-gt255.false k _ c.loop-k.invariant.1 v (omega arith))

pub returns-in_err-packed-2 : goal.returns-in_err-packed-2
returns-in_err-packed-2 c =
    let digits = c.args.digits.now in
    let k : c.loop-k.k ≡ length digits / 2 = omega (arith, c.as_chunks.ensures.front_len) in
    bad digits c.if-given-gt255.false (2 * (length digits / 2)) _ _ _ c.args.out.now (rw k at c.loop-k.invariant.0) (omega (arith, c.as_chunks.ensures.back_len)) c.from_residual-in_err-packed-2.ensures.1 (odd_of digits _ c.as_chunks.ensures.back) c.in_err-packed-2.ensures

pub returns-then-out-n : goal.returns-then-out-n
returns-then-out-n c =
    let digits = c.args.digits.now in
    let few = c.if-given-gt255.false in
    let front = c.as_chunks.ensures.front_len in
    let back = c.as_chunks.ensures.back_len in
    let n = length digits / 2 in
    let k : c.loop-k.k ≡ n = omega (arith, front) in
    let even = rw k at c.loop-k.invariant in
    let whole : (accepted (take ((length digits + 1) / 2) c.if-odd-lt1.packed) ≡ write_digits built_in digits) × (length c.if-odd-lt1.packed ≡ 128) =
    elim c.if-odd-lt1.branch [
      | then-odd-lt1 w ↦
          let none : 2 * n ≡ length digits = grind (arith, ltb-true, front, back) in
          rw w.packed-is (finished digits few (2 * c.loop-k.k) c.loop-k.k c.loop-k.invariant.0 (omega arith) c.loop-k.invariant.1 (omega arith))
      | in-len1+in_ok-packed-2 w ↦
          let size : length digits ≡ 2 * n + 1 = omega (arith, back) in
          rw (w.packed-is, front) (odd_last digits few n _ _ even.0 size even.1 (odd_of digits _ c.as_chunks.ensures.back) w.in_ok-packed-2.ensures)
      | else-odd-lt1+else-odd-lt2 w ↦ absurd (grind (arith, ltb-false, front, back))
    ] in
    let size : c.div_ceil-n.result ≡ (length digits + 1) / 2 = omega (arith, c.div_ceil-n.ensures) in
    short digits c.if-odd-lt1.packed c.args.out.now c.div_ceil-n.result size whole.0 (omega (arith, whole.1)) c.if-out-n.true

pub returns : goal.returns
returns c =
    let digits = c.args.digits.now in
    let few = c.if-given-gt255.false in
    let front = c.as_chunks.ensures.front_len in
    let back = c.as_chunks.ensures.back_len in
    let n = length digits / 2 in
    let k : c.loop-k.k ≡ n = omega (arith, front) in
    let even = rw k at c.loop-k.invariant in
    let whole : (accepted (take ((length digits + 1) / 2) c.if-odd-lt1.packed) ≡ write_digits built_in digits) × (length c.if-odd-lt1.packed ≡ 128) =
    elim c.if-odd-lt1.branch [
      | then-odd-lt1 w ↦
          let none : 2 * n ≡ length digits = grind (arith, ltb-true, front, back) in
          rw w.packed-is (finished digits few (2 * c.loop-k.k) c.loop-k.k c.loop-k.invariant.0 (omega arith) c.loop-k.invariant.1 (omega arith))
      | in-len1+in_ok-packed-2 w ↦
          let size : length digits ≡ 2 * n + 1 = omega (arith, back) in
          rw (w.packed-is, front) (odd_last digits few n _ _ even.0 size even.1 (odd_of digits _ c.as_chunks.ensures.back) w.in_ok-packed-2.ensures)
      | else-odd-lt1+else-odd-lt2 w ↦ absurd (grind (arith, ltb-false, front, back))
    ] in
    let size : c.div_ceil-n.result ≡ (length digits + 1) / 2 = omega (arith, c.div_ceil-n.ensures) in
    copied digits c.if-odd-lt1.packed c.args.out.now c.div_ceil-n.result size whole.0 (omega (arith, whole.1)) c.copy_from_slice.new.self c.if-out-n.false (search rules)
