-- What reading a message of any protocol ignores: the reserved octet, the message length, and the padding (document 01,
-- 'Records on the wire' and module 2).
use Prim.Native.Nat.{ℕ, ◌+◌, ◌≤◌}
use mathlib.Core.Path.{◌≡◌, refl, sym, ◌∙◌}
use mathlib.Core.Bool.{Bool, true, false}
use mathlib.Core.List.{List, [], ◌∷◌}
use native.Mathlib.Omega.{arith}
use lib.Dec.{leb, eqb}
use lib.ListN.{length}
use borrow.Author.Tests.{le-leb}
use Rattle.bcd.specs.Outcome.{Outcome, accepted, refused, after, demand, mapped, most}
use Rattle.parameter.specs.Parameter.{Param, four_in}
use Rattle.parameter.specs.Walk.{parameters}
use Rattle.parameter.specs.Padding.{Holds}
use Rattle.parameter.proofs.Padding as Run
use Rattle.message.specs.Kinds.{Kinds, kind_of}
use Rattle.message.specs.Framed.{named_by, message_of, read_of}

module _ {K : Type 0} (T : Kinds K) where
  -- Of a header that was read only the type counts.
  same_type :
      (small large one : Bool) (xs ys zs : List ℕ) (type : Outcome K) (n m : ℕ) (ps : Outcome (List Param))
      → after (demand small 12 xs (demand large 1 ys (demand one 2 zs (mapped (λ k. (k, n)) type)))) (λ (h : K × ℕ). mapped (message_of h.0) ps)
      ≡ after (demand small 12 xs (demand large 1 ys (demand one 2 zs (mapped (λ k. (k, m)) type)))) (λ (h : K × ℕ). mapped (message_of h.0) ps)
  same_type true true true xs ys zs (accepted t) n m ps = refl
  same_type true true true xs ys zs (refused k vs) n m ps = refl
  same_type true true false xs ys zs type n m ps = refl
  same_type true false one xs ys zs type n m ps = refl
  same_type false large one xs ys zs type n m ps = refl

  -- The four octets of the message length, whatever they are.
  pub length_ignored :
      (v r c t a b d e i j k l : ℕ) (rest : List ℕ)
      → read_of T (v ∷ r ∷ c ∷ t ∷ a ∷ b ∷ d ∷ e ∷ rest) ≡ read_of T (v ∷ r ∷ c ∷ t ∷ i ∷ j ∷ k ∷ l ∷ rest)
  unfolding read_of named_by
  length_ignored v r c t a b d e i j k l rest =
      let n = length (v ∷ r ∷ c ∷ t ∷ a ∷ b ∷ d ∷ e ∷ rest) in
      same_type (leb n most) (leb 8 n) (eqb v 1) _ _ _ (kind_of T c t) _ _ (parameters rest)

  -- The reserved octet, whatever it is.
  pub reserved_ignored :
      (v r s c t a b d e : ℕ) (rest : List ℕ)
      → read_of T (v ∷ r ∷ c ∷ t ∷ a ∷ b ∷ d ∷ e ∷ rest) ≡ read_of T (v ∷ s ∷ c ∷ t ∷ a ∷ b ∷ d ∷ e ∷ rest)
  unfolding read_of named_by
  reserved_ignored v r s c t a b d e rest = refl

  -- A message of at most 1,048,576 octets whose octets behind the header hold a run: its header decides, and the run is read.
  pub held-read :
      (v r c t a b d e : ℕ) {ps : List Param} {os : List ℕ}
      → Holds ps os
      → 8 + length os ≤ most
      → read_of T (v ∷ r ∷ c ∷ t ∷ a ∷ b ∷ d ∷ e ∷ os) ≡ mapped (λ k. message_of k ps) (demand (eqb v 1) 2 (v ∷ []) (kind_of T c t))
  unfolding read_of named_by
  held-read v r c t a b d e {ps} {os} k h =
      let n = length (v ∷ r ∷ c ∷ t ∷ a ∷ b ∷ d ∷ e ∷ os) in
      rw (le-leb n most (omega arith), le-leb 8 n (omega arith), Run.padding_ignored k) (on (eqb v 1) (kind_of T c t))
    where
      on :
          (one : Bool) (type : Outcome K)
          → after (demand one 2 (v ∷ []) (mapped (λ k. (k, four_in (a ∷ b ∷ d ∷ e ∷ os))) type)) (λ (h : K × ℕ). accepted (message_of h.0 ps))
          ≡ mapped (λ k. message_of k ps) (demand one 2 (v ∷ []) type)
      on true (accepted k) = refl
      on true (refused n vs) = refl
      on false type = refl

  -- Two such messages with the same header and the same run: whatever the padding holds, with the last one missing, and with
  -- under four octets behind it.
  pub padding_ignored :
      (v r c t a b d e : ℕ) {ps : List Param} {os qs : List ℕ}
      → Holds ps os
      → Holds ps qs
      → 8 + length os ≤ most
      → 8 + length qs ≤ most
      → read_of T (v ∷ r ∷ c ∷ t ∷ a ∷ b ∷ d ∷ e ∷ os) ≡ read_of T (v ∷ r ∷ c ∷ t ∷ a ∷ b ∷ d ∷ e ∷ qs)
  padding_ignored v r c t a b d e k l h i = held-read v r c t a b d e k h ∙ sym (held-read v r c t a b d e l i)
