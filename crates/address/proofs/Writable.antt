-- Which addresses that were read can be written: those with no ? among the digits of the title, and at most 65,531 octets.
use Prim.Native.Nat.{ℕ, ◌+◌, ◌≤◌, ◌<◌}
use mathlib.Core.Path.{◌≡◌, refl, sym, ap, ◌∙◌, subst}
use mathlib.Core.Bool.{Bool, true, false}
use mathlib.Core.Logic.{◌⊎◌, inl, inr, ⊎_elim, ◌↔◌}
use Rattle.std.specs.Prelude.{Option, None, Some}
use mathlib.Core.List.{List, [], ◌∷◌, ◌++◌, map}
use native.Mathlib.Omega.{arith}
use borrow.Author.Tests.{le-leb, lt-leb, eqb-true, eqb-false}
use lib.Dec.{eqb}
use lib.ListN.{length, get_or, take, drop}
use Rattle.bcd.specs.Outcome.{accepted, refused, mapped, each, All, Octets, most, fit64}
use Rattle.bcd.specs.Digits.{Alphabet, Lawful, halves, built_in, digits_in, write_digits, KnownDigits}
use Rattle.bcd.proofs.Outcomes.{never, each-cons, all_take, all_drop, all_append, octets_at}
use Rattle.bcd.proofs.Halves.{Nibbles, halves-nibbles}
use Rattle.bcd.proofs.Characters.{built_in_lawful, built_in-written}
use Rattle.bcd.proofs.Writable.{nibbles, some_bad}
use Rattle.bcd.proofs.Digits.{read_at_most, read-written}
use Rattle.parameter.specs.Parameter.{Param, most_value}
use Rattle.parameter.proofs.RoundTrip.{all-sized, encode_accepts}
use Rattle.address.specs.Address.{Title, title_in, title_octets, write_title, Address, Piece, title, code, sub, other, as_title, address_in, present, pieces, sub_param, sized, write_address}
use Rattle.address.specs.Lengths.{address_length}
use Rattle.address.specs.Facts.{Known}
use Rattle.address.proofs.Titles.{HasTitle, title_inv}
use Rattle.address.proofs.SubParams.{PieceOf, is_title, Came, pieces-written}
use Rattle.address.proofs.Rewriting.{readable, address_octets, octets-length, written_inv}

-- Characters of half octets: no ? among them, or writing is refused at the first.
known_or_not : (hs : List ℕ) → Nibbles hs → KnownDigits (map built_in.char hs) ⊎ (nibbles built_in (map built_in.char hs) ≡ refused 9 (0x3F ∷ []))
known_or_not [] n = inl tt
known_or_not (h ∷ hs) n = first (eqb (built_in.char h) 0x3F) refl (known_or_not hs n.1)
  where
    Answer : List ℕ → Type 0
    Answer hs = KnownDigits (map built_in.char hs) ⊎ (nibbles built_in (map built_in.char hs) ≡ refused 9 (0x3F ∷ []))

    first : (b : Bool) → eqb (built_in.char h) 0x3F ≡ b → Answer hs → Answer (h ∷ hs)
    first true e r = inr (rw (eqb-true (built_in.char h) 0x3F e))
    first false e (inl k) = inl (eqb-false _ _ e, k)
    first false e (inr r) = inr (rw (built_in-written h n.0 (eqb-false _ _ e), r))

module _ (v : List ℕ) (t : Title) (o : Octets v) (h : HasTitle built_in v t) where
  count_small : get_or v 4 0 ≤ 255
  count_small = omega (arith, octets_at v 4 o)

  -- A title that was read: with no ? it is written, else it is refused as 9.
  pub title_writes : KnownDigits t.digits → (w : List ℕ) × (write_title built_in t ≡ accepted w)
  unfolding write_title
  title_writes k =
      let d = read-written (drop 8 v) (get_or v 4 0) (all_drop (λ (x : ℕ). x < 256) 8 v o) count_small (subst KnownDigits h.digits k) in
      (_, ap (mapped (title_octets t)) (ap (write_digits built_in) h.digits ∙ d))

  pub title_known : KnownDigits t.digits ⊎ (write_title built_in t ≡ refused 9 (0x3F ∷ []))
  unfolding write_title digits_in
  title_known =
      let hs = take (get_or v 4 0) (halves (drop 8 v)) in
      let small = all_take (λ (n : ℕ). n < 16) (get_or v 4 0) (halves (drop 8 v)) (halves-nibbles (drop 8 v) (all_drop (λ (x : ℕ). x < 256) 8 v o)) in
      let few = read_at_most built_in (drop 8 v) (get_or v 4 0) count_small in
      ⊎_elim (λ k. inl (subst KnownDigits (sym h.digits) k))
      (λ r. inr (rw (ap (write_digits built_in) h.digits ∙ some_bad built_in (map built_in.char hs) 9 (0x3F ∷ []) few r)))
      (known_or_not hs small)

came_title : {A : Alphabet} {p : Param} {t : Title} → PieceOf A p (title t) → title_in A p.value ≡ accepted t
came_title (is_title t h e) = e

has_title_lem : {t : Title} (c : Came built_in (title t)) → HasTitle built_in c.param.value t
has_title_lem {t} c = title_inv built_in c.param.value t (came_title c.is)

-- Pieces that came, and whose title has no ?, are written.
abbrev KnownPiece : Piece → Type 0
KnownPiece x = Known (as_title x)

piece_writes : (x : Piece) → Came built_in x → KnownPiece x → (qs : List Param) × (sub_param built_in x ≡ accepted qs)
unfolding sub_param
piece_writes (title t) c k =
    let (w, hw) = title_writes c.param.value t c.fits.octets (has_title_lem c) k in
    (_, ap (mapped {B = List Param} (λ v. record { tag = 0x8001; value = v } ∷ [])) hw)
piece_writes (code n) c k = (_, refl)
piece_writes (sub n) c k = (_, refl)
piece_writes (other p) c k = (_, refl)

pieces_write : (xs : List Piece) → All (Came built_in) xs → All KnownPiece xs → (qs : List Param) × (each (sub_param built_in) xs ≡ accepted qs)
pieces_write [] cs ks = ([], refl)
pieces_write (x ∷ xs) cs ks =
    let (us, hu) = piece_writes x cs.0 ks.0 in
    let (vs, hv) = pieces_write xs cs.1 ks.1 in
    (us ++ vs, each-cons (sub_param built_in) x xs us vs hu hv)

module _ (A : Alphabet) (L : Lawful A) (tag : ℕ) (v : List ℕ) (a : Address) (o : Octets v) (e : address_in A v ≡ accepted a) where
  subs-length : (qs : List Param) → each (sub_param A) (pieces a) ≡ accepted qs → length (address_octets a qs) ≡ address_length a
  subs-length qs h = octets-length a qs ∙ ap (λ (n : ℕ). 4 + n) (pieces-written A L (pieces a) qs (readable A v a o e).came h).size

  pub written-length : (w : List ℕ) → write_address A tag a ≡ accepted w → length w ≡ address_length a
  written-length w d = let k = written_inv A tag a w d in ap length (sym k.octets) ∙ subs-length k.params k.subs

  -- It is at most four octets longer than the octets read, rounded up, so that 64 bits hold it.
  pub length_fits : length v ≤ most → fit64 (address_length a) ≡ address_length a
  length_fits h = omega (arith, (readable A v a o e).room)

  -- Where the title is written, only the length of the whole counts: an other that was read is never too long.
  pub subs_write : (qs : List Param) → each (sub_param A) (pieces a) ≡ accepted qs → write_address A tag a ≡ sized tag (address_octets a qs)
  unfolding write_address
  subs_write qs h =
      let w = pieces-written A L (pieces a) qs (readable A v a o e).came h in
      rw (h, encode_accepts qs (all-sized qs w.fits))

module _ (tag : ℕ) (v : List ℕ) (a : Address) (o : Octets v) (e : address_in built_in v ≡ accepted a) where
  known-pieces : Known a.title → All KnownPiece (pieces a)
  unfolding pieces
  known-pieces k =
      all_append KnownPiece (present title a.title) _ (titles a.title k)
      (all_append KnownPiece (present code a.code) _ (codes a.code)
      (all_append KnownPiece (present sub a.sub) _ (subs a.sub) (others a.others)))
    where
      titles : (t : Option Title) → Known t → All KnownPiece (present title t)
      titles None k = tt
      titles (Some t) k = (k, tt)

      codes : (n : Option ℕ) → All KnownPiece (present code n)
      codes None = tt
      codes (Some n) = (tt, tt)

      subs : (n : Option ℕ) → All KnownPiece (present sub n)
      subs None = tt
      subs (Some n) = (tt, tt)

      others : (ps : List Param) → All KnownPiece (map other ps)
      others [] = tt
      others (p ∷ ps) = (tt, others ps)

  -- The title is known, or refused before all else.
  title_refused_lem :
      (t : Title) (xs : List Piece) (n : ℕ) (vs : List ℕ)
      → pieces a ≡ title t ∷ xs
      → write_title built_in t ≡ refused n vs
      → write_address built_in tag a ≡ refused n vs
  unfolding write_address sub_param
  title_refused_lem t xs n vs h r = rw (h, r)

  title_first : Known a.title ⊎ (write_address built_in tag a ≡ refused 9 (0x3F ∷ []))
  unfolding pieces
  title_first = go a.title refl
    where
      rest : List Piece
      rest = present code a.code ++ (present sub a.sub ++ map other a.others)

      go : (t : Option Title) → a.title ≡ t → Known a.title ⊎ (write_address built_in tag a ≡ refused 9 (0x3F ∷ []))
      go None h = inl (rw h tt)
      go (Some t) h =
          let came : All (Came built_in) (present title (Some t) ++ rest) = rw h at (readable built_in v a o e).came in
          let c = came.0 in
          ⊎_elim (λ k. inl (rw h k)) (λ r. inr (title_refused_lem t rest 9 (0x3F ∷ []) (ap (λ t. present title t ++ rest) h) r))
          (title_known c.param.value t c.fits.octets (has_title_lem c))

  -- A ? in the title: 9.
  pub unknown_refused : (Known a.title → ⊥) → write_address built_in tag a ≡ refused 9 (0x3F ∷ [])
  unknown_refused n = ⊎_elim (λ k. absurd (n k)) (λ r. r) title_first

  -- None, and too long: 10.
  pub too_long_refused :
      Known a.title → most_value < address_length a → write_address built_in tag a ≡ refused 10 (tag ∷ fit64 (address_length a) ∷ [])
  too_long_refused k l =
      let (qs, hq) = pieces_write (pieces a) (readable built_in v a o e).came (known-pieces k) in
      let s = subs-length built_in built_in_lawful tag v a o e qs hq in
      subs_write built_in built_in_lawful tag v a o e qs hq ∙ rw (s, lt-leb (address_length a) most_value l)

  -- An address that was read is written exactly when its title has no ? and its octets are at most 65,531.
  pub writes_exactly : ((w : List ℕ) × (write_address built_in tag a ≡ accepted w)) ↔ (Known a.title × (address_length a ≤ most_value))
  writes_exactly = (to, from)
    where
      to : (w : List ℕ) × (write_address built_in tag a ≡ accepted w) → Known a.title × (address_length a ≤ most_value)
      to (w, d) =
          let known = ⊎_elim (λ k. k) (λ r. absurd (never (sym r ∙ d))) title_first in
          (known, omega (arith, written-length built_in built_in_lawful tag v a o e w d, (written_inv built_in tag a w d).size))

      from : Known a.title × (address_length a ≤ most_value) → (w : List ℕ) × (write_address built_in tag a ≡ accepted w)
      from (k, l) =
          let (qs, hq) = pieces_write (pieces a) (readable built_in v a o e).came (known-pieces k) in
          let s = subs-length built_in built_in_lawful tag v a o e qs hq in
          (address_octets a qs, subs_write built_in built_in_lawful tag v a o e qs hq ∙ rw (s, le-leb (address_length a) most_value l))
