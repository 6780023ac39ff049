-- Titles: what one that was read tells, and that it is read back the same from what it is written as.
use Prim.Native.Nat.{ℕ, ◌+◌, ◌/◌, ◌≤◌, ◌<◌}
use mathlib.Core.Path.{◌≡◌, refl, sym, ap, ◌∙◌, subst}
use mathlib.Core.List.{List, [], ◌∷◌, map}
use native.Mathlib.Omega.{arith}
use borrow.Author.Tests.{le-leb, leb-true}
use lib.Dec.{leb, lit<}
use lib.ListN.{length, get_or, drop, length-drop}
use Rattle.bcd.specs.Outcome.{accepted, mapped, All, Octets, most}
use Rattle.bcd.specs.Digits.{Alphabet, Lawful, digits_in, write_digits}
use Rattle.bcd.specs.Steps.{nibble}
use Rattle.bcd.proofs.Outcomes.{accepted_inj, mapped_inv, demand_inv, bounded-within, all_drop, octets_at}
use Rattle.bcd.proofs.Halves.{Nibbles, pack-octets}
use Rattle.bcd.proofs.Reading.{digits-length}
use Rattle.bcd.proofs.Writable.{write_inv}
use Rattle.bcd.proofs.Digits.{read_at_most, read-written-read}
use Rattle.address.specs.Address.{Title, title_in, read_title, title_octets, write_title}
use Rattle.address.specs.Lengths.{title_length}
use Rattle.address.specs.Facts.{RewrittenTitle}

-- What a title that was read tells.
pub record HasTitle (A : Alphabet) (v : List ℕ) (t : Title) : Type 0 where
  pub long : 8 ≤ length v
  pub gti : t.gti ≡ get_or v 3 0
  pub tt : t.tt ≡ get_or v 5 0
  pub np : t.np ≡ get_or v 6 0
  pub noa : t.noa ≡ get_or v 7 0
  pub digits : t.digits ≡ digits_in A (drop 8 v) (get_or v 4 0)

pub title_inv : (A : Alphabet) (v : List ℕ) (t : Title) → title_in A v ≡ accepted t → HasTitle A v t
unfolding title_in
title_inv A v t e =
    let (long, same) = demand_inv (leb 8 (length v)) _ _ _ e in
    subst (HasTitle A v) (accepted_inj same)
    (record { long = leb-true _ _ long; gti = refl; tt = refl; np = refl; noa = refl; digits = refl })

-- A title that was read has at most 255 digits, and its octets were there.
pub title_digits : (A : Alphabet) (v : List ℕ) (t : Title) → Octets v → HasTitle A v t → length t.digits ≤ 255
title_digits A v t o h = rw h.digits (read_at_most A (drop 8 v) (get_or v 4 0) (omega (arith, octets_at v 4 o)))

pub title_room_lem : (A : Alphabet) (v : List ℕ) (t : Title) → HasTitle A v t → title_length t ≤ length v
title_room_lem A v t h =
    let few = ap length h.digits ∙ digits-length A (drop 8 v) (get_or v 4 0) in
    omega (arith, length-drop 8 v, h.long)

-- What digits that were written tell of their octets.
pub record DigitOctets (cs os : List ℕ) : Type 0 where
  pub count : length os ≡ (length cs + 1) / 2
  pub octets : Octets os

pub digit-octets : (A : Alphabet) → Lawful A → (cs os : List ℕ) → write_digits A cs ≡ accepted os → DigitOctets cs os
digit-octets A L cs os e =
    let g = write_inv A L cs (length os) (sym (ap (mapped length) e)) in
    record { count = g.count; octets = subst Octets (accepted_inj (sym g.octets ∙ e)) (pack-octets (map (nibble A) cs) (small cs g.digits)) }
  where
    small : (cs : List ℕ) → All (λ (c : ℕ). nibble A c ≤ 15) cs → Nibbles (map (nibble A) cs)
    small [] h = tt
    small (c ∷ cs) h = (omega (arith, h.0), small cs h.1)

-- A title that was read and written is read back the same, and takes no more octets.
pub title_rewritten :
    (A : Alphabet)
    → Lawful A
    → (v w : List ℕ) (t : Title)
    → Octets v
    → title_in A v ≡ accepted t
    → write_title A t ≡ accepted w
    → RewrittenTitle A v w t
unfolding title_in write_title
title_rewritten A L v w t o e d =
    let h = title_inv A v t e in
    let (os, hw, same) = mapped_inv (title_octets t) (write_digits A t.digits) d in
    let g = digit-octets A L t.digits os hw in
    let back : digits_in A os (length t.digits) ≡ t.digits =
    subst (λ (ds : List ℕ). write_digits A ds ≡ accepted os → digits_in A os (length ds) ≡ ds) (sym h.digits)
    (read-written-read A L (drop 8 v) (get_or v 4 0) os (all_drop (λ (x : ℕ). x < 256) 8 v o)) hw in
    let at : (i : ℕ) → get_or v i 0 < 256 = λ i. octets_at v i o in
    let count = title_digits A v t o h in
    let room = title_room_lem A v t h in
    let plan : Octets (t.np ∷ t.noa ∷ os) = (omega (arith, at 6, h.np), (omega (arith, at 7, h.noa), g.octets)) in
    let rest : Octets (length t.digits ∷ t.tt ∷ t.np ∷ t.noa ∷ os) = (omega arith, (omega (arith, at 5, h.tt), plan)) in
    subst (λ w. RewrittenTitle A v w t) same (record {
      reads = rw (le-leb 8 (length (title_octets t os)) (omega arith), back);
      size = omega (arith, g.count);
      room = omega (arith, g.count);
      octets = (lit< tt, (lit< tt, (lit< tt, (omega (arith, at 3, h.gti), rest))));
    })

pub title_read_back :
    (A : Alphabet)
    → Lawful A
    → (v w : List ℕ) (t : Title)
    → Octets v
    → read_title A v ≡ accepted t
    → write_title A t ≡ accepted w
    → read_title A w ≡ accepted t
unfolding read_title
title_read_back A L v w t o e d =
    let (within, read) = demand_inv (leb (length v) most) _ _ _ e in
    let r = title_rewritten A L v w t o read d in
    bounded-within w (title_in A w) (omega (arith, leb-true (length v) most within, r.room)) ∙ r.reads
