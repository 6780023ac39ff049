-- What titles declare beyond the digits that they bring is in no meaning and in no form.
use Prim.Native.Nat.{ℕ}
use mathlib.Core.Path.{◌≡◌, refl, sym, ap, ap₂, ◌∙◌}
use mathlib.Core.Bool.{true}
use mathlib.Core.Logic.{inl, inr}
use mathlib.Core.List.{List, [], ◌∷◌}
use Rattle.bcd.specs.Outcome.{Outcome, accepted, mapped, each}
use Rattle.bcd.specs.Digits.{Alphabet}
use Rattle.parameter.specs.Parameter.{Param, param}
use Rattle.address.specs.Address.{address_in, rewrite_address}
use Rattle.address.proofs.Short.{short-reads-the-same, short-settles-the-same}
use Rattle.message.specs.Message.{Message, read_message}
use Rattle.form.specs.Family.{meaning_by}
use Rattle.form.specs.Form.{is_address, settled_param, settled, address, part_in, meaning}
use Rattle.form.specs.ShortTitles.{SameParam, SameParams}
use Rattle.form.proofs.Settling.{settled-address, settled_alike}

module _ (A : Alphabet) where
  -- What is the same of each two is the same of all.
  each_same :
      {X : Type 0} (f : Param → Outcome (List X))
      → ((p q : Param) → SameParam A p q → f p ≡ f q)
      → (ps qs : List Param)
      → SameParams A ps qs
      → each f ps ≡ each f qs
  each_same f same [] [] h = refl
  each_same f same [] (q ∷ qs) h = absurd h
  each_same f same (p ∷ ps) [] h = absurd h
  each_same f same (p ∷ ps) (q ∷ qs) h = rw (same p q h.0, each_same f same ps qs h.1)

  settled_same : (p q : Param) → SameParam A p q → settled_param A p ≡ settled_param A q
  settled_same p q (t, inl e) = ap (settled_param A) (ap₂ param t e)
  settled_same p q (t, inr (h, same)) =
      settled-address A p h
      ∙ ap (mapped (λ w. param p.tag w ∷ [])) (short-settles-the-same A p.tag p.value q.value same)
      ∙ ap (λ tag. mapped (λ w. param tag w ∷ []) (rewrite_address A tag q.value)) t
      ∙ sym (settled-address A q (rw t at h))

  part-address : (p : Param) → is_address p.tag ≡ true → part_in A p ≡ mapped (λ a. address p.tag a ∷ []) (address_in A p.value)
  unfolding part_in
  part-address p h = rw h

  part_same : (p q : Param) → SameParam A p q → part_in A p ≡ part_in A q
  part_same p q (t, inl e) = ap (part_in A) (ap₂ param t e)
  part_same p q (t, inr (h, same)) =
      part-address p h
      ∙ ap₂ (λ tag o. mapped (λ a. address tag a ∷ []) o) t (short-reads-the-same A p.value q.value same)
      ∙ sym (part-address q (rw t at h))

  meaning-read :
      (xs : List ℕ) (m : Message)
      → read_message xs ≡ accepted m
      → meaning A xs ≡ mapped (λ ps. record { type = m.type; parts = ps }) (each (part_in A) m.params)
  unfolding meaning_by
  meaning-read xs m e = rw e

  module _
      (xs ys : List ℕ) (m n : Message)
      (hm : read_message xs ≡ accepted m)
      (hn : read_message ys ≡ accepted n)
      (t : m.type ≡ n.type)
      (same : SameParams A m.params n.params) where
    -- Messages that are read as one type, and as parameters that are the same but for what titles declare beyond the digits that
    -- they bring, mean the same.
    pub short_titles_mean : meaning A xs ≡ meaning A ys
    short_titles_mean =
        meaning-read xs m hm
        ∙ ap₂ (λ t o. mapped (λ ps. record { type = t; parts = ps }) o) t (each_same (part_in A) part_same m.params n.params same)
        ∙ sym (meaning-read ys n hn)

    -- They have the same form or the same refusal.
    pub short_titles_ignored : settled A xs ≡ settled A ys
    short_titles_ignored =
        settled_alike A xs ys m n hm hn t (each_same (settled_param A) settled_same m.params n.params same)
