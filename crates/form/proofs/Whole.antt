-- The whole of settling: the header in front of the output, and the parameters behind it.
use Prim.Native.Nat.{ℕ, ◌+◌, ◌-◌, ◌≤◌, ◌<◌}
use mathlib.Core.Path.{◌≡◌, sym, ap, ◌∙◌}
use mathlib.Core.List.{List}
use native.Mathlib.Omega.{arith}
use borrow.Author.Tests.{le-leb}
use lib.ListN.{length, get_or}
use borrow.Rule.Slice.PartMut.{mid_of}
use Rattle.bcd.specs.Outcome.{Outcome, accepted, refused, after, mapped, most, fit64, deliver}
use Rattle.bcd.proofs.Outcomes.{never, mapped_inv, deliver_refused, deliver-passed_on, octets-of}
use Rattle.parameter.specs.Parameter.{Param, run_octets, run_length, writable}
use Rattle.parameter.proofs.RoundTrip.{run_length_lem}
use Rattle.parameter.proofs.Running.{sum-writable}
use Rattle.message.specs.Kinds.{Kinds}
use Rattle.message.specs.Framed.{framed_of, named_by, octets_of}
use Rattle.message.proofs.Framing.{octets-length}
use Rattle.message.proofs.Listing.{framed-length}
use Rattle.form.specs.Family.{Family, rewritten, settled_of, LawfulFamily}
use Rattle.form.specs.Steps.Passes.{run_by, Placeable}
use Rattle.form.proofs.Forms.{plain_by, settled_plain}
use Rattle.form.proofs.Passes.{roomy, plain_refused, plain_run, run_room}
use Rattle.form.proofs.Written.{lent-length}

module _ {K M : Type 0} (T : Kinds K) (F : Family M) (L : LawfulFamily F) (xs : List ℕ) (o : (i : ℕ) → get_or xs i 0 < 256) where
  plain : settled_of T F xs ≡ plain_by T (rewritten F) xs
  plain = settled_plain T F L xs (octets-of xs o)

  -- A header that is refused.
  pub unread : (n : ℕ) (vs : List ℕ) → refused n vs ≡ named_by T xs → settled_of T F xs ≡ refused n vs
  unread n vs e = plain ∙ plain_refused T (rewritten F) xs n vs (sym e)

  pub settle_unread :
      (n : ℕ) (vs out : List ℕ) → refused n vs ≡ named_by T xs → record { answer = refused n vs; buffer = out } ≡ deliver (settled_of T F xs) out
  settle_unread n vs out e = deliver_refused n vs out ∙ ap (λ o. deliver o out) (sym (unread n vs e))

  -- A header that is read, and what the first pass answers.
  module _ (h : K × ℕ) (e : accepted h ≡ named_by T xs) where
    form_run : settled_of T F xs ≡ mapped (octets_of T h.0) (run_by (rewritten F) xs)
    form_run = plain ∙ plain_run T (rewritten F) xs h (sym e)

    pub length_refused : (n : ℕ) (vs : List ℕ) → refused n vs ≡ mapped run_length (run_by (rewritten F) xs) → refused n vs ≡ mapped length (settled_of T F xs)
    length_refused n vs k = go (run_by (rewritten F) xs) k ∙ sym (ap (mapped length) form_run)
      where
        go : (r : Outcome (List Param)) → refused n vs ≡ mapped run_length r → refused n vs ≡ mapped length (mapped (octets_of T h.0) r)
        go (accepted qs) k = absurd (never k)
        go (refused m ws) k = k

    pub settle_refused :
        (n : ℕ) (vs out : List ℕ)
        → refused n vs ≡ mapped run_length (run_by (rewritten F) xs)
        → record { answer = refused n vs; buffer = out } ≡ deliver (settled_of T F xs) out
    settle_refused n vs out k = deliver-passed_on (settled_of T F xs) n vs out (length_refused n vs k)

    module _ (run : ℕ) (k : accepted run ≡ mapped run_length (run_by (rewritten F) xs)) where
      -- A form is within the bound, so its length fits.
      pub run_small : 8 + run ≤ most
      run_small =
          let (qs, q, l) = mapped_inv run_length (run_by (rewritten F) xs) (sym k) in
          omega (arith, run_room (rewritten F) (roomy F L) T xs h qs (octets-of xs o) (sym e) q, l)

      -- The length of a form is the header's and the parameters'.
      pub length_run : accepted (8 + run) ≡ mapped length (settled_of T F xs)
      length_run =
          let (qs, q, l) = mapped_inv run_length (run_by (rewritten F) xs) (sym k) in
          let w = form_run ∙ ap (mapped (octets_of T h.0)) q in
          ap accepted (ap (λ (i : ℕ). 8 + i) (sym l) ∙ sym (octets-length T h.0 qs)) ∙ sym (ap (mapped length) w)

      abbrev pub octets : Outcome (List ℕ)
      octets = mapped run_octets (run_by (rewritten F) xs)

      pub counted : accepted run ≡ mapped (λ (os : List ℕ). fit64 (length os)) octets
      counted =
          let (qs, q, l) = mapped_inv run_length (run_by (rewritten F) xs) (sym k) in
          let same : run ≡ fit64 (length (run_octets qs)) = omega (arith, run_length_lem qs, l, run_small) in
          ap accepted same ∙ sym (ap (λ o. mapped (λ (os : List ℕ). fit64 (length os)) (mapped run_octets o)) q)

      pub fits : octets ≡ after octets writable
      fits = sym (sum-writable octets run counted (omega (arith, run_small)))

      -- The form is the header and the parameters.
      pub whole : settled_of T F xs ≡ after octets (λ os. writable (framed_of T h.0 os))
      unfolding octets_of
      whole =
          let (qs, q, l) = mapped_inv run_length (run_by (rewritten F) xs) (sym k) in
          let form = framed_of T h.0 (run_octets qs) in
          let small : length form ≤ most = omega (arith, framed-length T h.0 (run_octets qs), run_length_lem qs, l, run_small) in
          let w : writable form ≡ accepted form = rw (le-leb (length form) most small) in
          form_run ∙ ap (mapped (octets_of T h.0)) q
          ∙ sym (ap (λ o. after (mapped run_octets o) (λ os. writable (framed_of T h.0 os))) q ∙ w)

-- There is room for them behind a header.
pub placeable :
    (f : Param → Outcome (List Param)) (xs d : List ℕ) (run : ℕ)
    → accepted run ≡ mapped run_length (run_by f xs)
    → 8 + run ≤ length d
    → Placeable (run_by f xs) (length (mid_of 8 (length d - 8) d))
placeable f xs d run k room =
    let (qs, q, l) = mapped_inv run_length (run_by f xs) (sym k) in
    let n = lent-length d 8 in
    record { params = qs; settles = q; fits = omega arith }
