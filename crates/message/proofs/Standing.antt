-- A message that is read is read into any table, unless the table is too small.
use Prim.Native.Nat.{ℕ}
use mathlib.Core.Path.{◌≡◌, sym, ap, ◌∙◌, subst}
use mathlib.Core.Logic.{⊎_elim, inl, inr}
use mathlib.Core.List.{List, [], ◌∷◌, map}
use lib.ListN.{length, drop, length-map}
use Rattle.bcd.specs.Outcome.{accepted, refused, mapped}
use Rattle.bcd.proofs.Outcomes.{after_inv, mapped_inv}
use Rattle.parameter.specs.declared.Place.{Place}
use Rattle.parameter.specs.Walk.{places, valued, parameters}
use Rattle.parameter.specs.Table.{Table, Tabulated, tabulate, records}
use Rattle.parameter.proofs.Structure.{places-parameters}
use Rattle.parameter.proofs.Walking.{places_inside}
use Rattle.parameter.proofs.Stored.{stored_or_small}
use Rattle.message.specs.declared.types.MessageType.{MessageType}
use Rattle.message.specs.Kinds.{Kinds}
use Rattle.message.specs.Framed.{named_by, Framed, message_of, read_of, places_of}
use Rattle.message.specs.Types.{sua_kinds}
use Rattle.message.specs.Message.{Message, read_message}
use Rattle.message.specs.Listing.{Listing, listing, list_of, listed, record_of, list_message}
use Rattle.message.specs.Standing.{StandsOf, ListsOf, ListsAs}

module _ {K : Type 0} (T : Kinds K) (xs : List ℕ) (t : Table) where
  module _ (h : K × ℕ) (ps : List Place) (e : named_by T xs ≡ accepted h) (w : places xs 8 ≡ accepted ps) where
    abbrev stored : Tabulated
    stored = tabulate (accepted ps) t

    abbrev counted : ℕ → K × ℕ
    counted n = (h.0, n)

    stores : list_of T xs t ≡ listing (mapped counted stored.answer) stored.table
    unfolding list_of places_of
    stores = rw (e, w)

    abbrev message : Framed K
    message = message_of h.0 (map (valued xs) ps)

    lists : ListsOf T xs message t
    lists =
        let n : length ps ≡ length (map (valued xs) ps) = sym (length-map ps (valued xs)) in
        ⊎_elim
        (λ (a, r).
        inl (record {
          answer = ap (λ (l : Listing K). l.answer) stores ∙ ap (mapped counted) a ∙ ap (λ (n : ℕ). accepted (counted n)) n;
          params =
              ap (λ (l : Listing K). records xs l.table (length (map (valued xs) ps))) stores
              ∙ ap (records xs stored.table) (sym n)
              ∙ r;
        }))
        (λ s.
        inr
        (stores
        ∙ ap (λ (s : Tabulated). listing (mapped counted s.answer) s.table) s
        ∙ ap (λ (n : ℕ). listing (refused 13 (n ∷ [])) t) n))
        (stored_or_small xs ps t (places_inside xs 8 ps w))

  -- Reading a message into a table is refused only as 13, and what it stores is the message.
  pub framed-listed : (m : Framed K) → read_of T xs ≡ accepted m → ListsOf T xs m t
  unfolding read_of
  framed-listed m e =
      let (h, hh, e1) = after_inv (named_by T xs) _ e in
      let (qs, hq, j) = mapped_inv (message_of h.0) (parameters (drop 8 xs)) e1 in
      let (ps, hp, k) = mapped_inv (map (valued xs)) (places xs 8) (places-parameters xs 8 ∙ hq) in
      subst (λ (m : Framed K). ListsOf T xs m t) (ap (message_of h.0) k ∙ j) (lists h ps hh hp)

-- And so into an SUA message's record.
pub message-listed : (xs : List ℕ) (m : Message) (t : Table) → read_message xs ≡ accepted m → ListsAs xs m t
unfolding list_message
message-listed xs m t e =
    ⊎_elim
    (λ (s : StandsOf xs m (list_of sua_kinds xs t)). inl (record { answer = ap (mapped record_of) s.answer; params = s.params }))
    (λ s. inr (ap (λ (l : Listing MessageType). listed (mapped record_of l.answer) l.table) s))
    (framed-listed sua_kinds xs t m e)
