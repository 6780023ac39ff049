-- What no form depends on, in any family, and what a form is read as.
use Prim.Native.Nat.{ℕ, ◌+◌, ◌≤◌}
use mathlib.Core.Path.{◌≡◌, sym, ap₂, ◌∙◌}
use mathlib.Core.List.{List, ◌∷◌}
use lib.ListN.{length}
use Rattle.bcd.specs.Outcome.{Outcome, accepted, refused, after, each, most}
use Rattle.bcd.proofs.Outcomes.{after_inv}
use Rattle.parameter.specs.Parameter.{Param}
use Rattle.parameter.specs.Padding.{Holds}
use Rattle.message.specs.Kinds.{Kinds}
use Rattle.message.specs.Framed.{Framed, message_of, read_of, write_of}
use Rattle.message.proofs.Framing.{read_inv, read_kind, written_reads}
use Rattle.message.proofs.Ignored as Read
use Rattle.form.specs.Family.{settled_by}

module _ {K : Type 0} (T : Kinds K) (f : Param → Outcome (List Param)) where
  -- Messages that are read the same have the same form.
  pub by_reading : (xs ys : List ℕ) → read_of T xs ≡ read_of T ys → settled_by T f xs ≡ settled_by T f ys
  unfolding settled_by
  by_reading xs ys e = rw e

  module _ (v r c t a b d e : ℕ) where
    -- The reserved octet is in no form.
    pub reserved_ignored :
        (s : ℕ) (rest : List ℕ) → settled_by T f (v ∷ r ∷ c ∷ t ∷ a ∷ b ∷ d ∷ e ∷ rest) ≡ settled_by T f (v ∷ s ∷ c ∷ t ∷ a ∷ b ∷ d ∷ e ∷ rest)
    reserved_ignored s rest = by_reading _ _ (Read.reserved_ignored T v r s c t a b d e rest)

    -- The declared length is in no form.
    pub length_ignored :
        (i j k l : ℕ) (rest : List ℕ)
        → settled_by T f (v ∷ r ∷ c ∷ t ∷ a ∷ b ∷ d ∷ e ∷ rest) ≡ settled_by T f (v ∷ r ∷ c ∷ t ∷ i ∷ j ∷ k ∷ l ∷ rest)
    length_ignored i j k l rest = by_reading _ _ (Read.length_ignored T v r c t a b d e i j k l rest)

    -- What the padding holds, whether the last padding is there, and under four octets after the last parameter are in no
    -- form: only the run of parameters that the octets behind the header hold.
    pub padding_ignored :
        {ps : List Param} {os qs : List ℕ}
        → Holds ps os
        → Holds ps qs
        → 8 + length os ≤ most
        → 8 + length qs ≤ most
        → settled_by T f (v ∷ r ∷ c ∷ t ∷ a ∷ b ∷ d ∷ e ∷ os) ≡ settled_by T f (v ∷ r ∷ c ∷ t ∷ a ∷ b ∷ d ∷ e ∷ qs)
    padding_ignored h k l n = by_reading _ _ (Read.padding_ignored T v r c t a b d e h k l n)

  module _ (xs : List ℕ) where
    -- A form is read as the message's type and what f gives of its parameters.
    pub form_read :
        (g : List ℕ)
        → settled_by T f xs ≡ accepted g
        → (m : Framed K) × (ps : List Param)
        × (read_of T xs ≡ accepted m)
        × (each f m.params ≡ accepted ps)
        × (read_of T g ≡ accepted (message_of m.type ps))
    unfolding settled_by
    form_read g e =
        let (m, hm, e1) = after_inv (read_of T xs) _ e in
        let (ps, hp, hw) = after_inv (each f m.params) _ e1 in
        (m, ps, hm, hp, written_reads T (message_of m.type ps) g (read_kind T xs m (read_inv T xs m hm)) hw)

    pub settled_unread : (n : ℕ) (vs : List ℕ) → read_of T xs ≡ refused n vs → settled_by T f xs ≡ refused n vs
    unfolding settled_by
    settled_unread n vs e = rw e

    pub settled-read :
        (m : Framed K)
        → read_of T xs ≡ accepted m
        → settled_by T f xs ≡ after (each f m.params) (λ ps. write_of T (message_of m.type ps))
    unfolding settled_by
    settled-read m e = rw e

  -- Messages that are read as one type, and whose parameters give the same, have the same form or the same refusal.
  pub settled_alike :
      (xs ys : List ℕ) (m n : Framed K)
      → read_of T xs ≡ accepted m
      → read_of T ys ≡ accepted n
      → m.type ≡ n.type
      → each f m.params ≡ each f n.params
      → settled_by T f xs ≡ settled_by T f ys
  settled_alike xs ys m n hm hn t e =
      settled-read xs m hm ∙ ap₂ (λ t o. after o (λ ps. write_of T (message_of t ps))) t e ∙ sym (settled-read ys n hn)
