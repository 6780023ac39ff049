-- There and back: an address of SUA that is converted, and a party address that is.
use Prim.Native.Nat.{ℕ, ◌≤◌, ◌<◌}
use mathlib.Core.Path.{◌≡◌, refl, sym, ap, ◌∙◌, subst}
use mathlib.Core.Bool.{Bool, true, false}
use mathlib.Core.Logic.{◌↔◌}
use Rattle.std.specs.Prelude.{Option, None, Some}
use mathlib.Core.List.{List, [], ◌∷◌, ◌++◌}
use native.Mathlib.Omega.{arith}
use lib.Dec.{leb}
use lib.ListN.{length, get_or, drop}
use Rattle.bcd.specs.Outcome.{Outcome, accepted, refused, after, demand, All, bounded, Octets, most}
use Rattle.bcd.specs.Digits.{built_in}
use Rattle.bcd.proofs.Outcomes.{accepted_inj, never, after_inv, after-demand, demand_inv, bounded-within, all_drop, octets_at}
use Rattle.parameter.specs.Parameter.{Param}
use Rattle.address.specs.Address.{Title, Address, title_in, title, code, sub, read_address, present, pieces, write_address}
use Rattle.address.proofs.Titles as T
use Rattle.address.proofs.SubParams.{PieceOf, is_title, is_sub, Came}
use Rattle.address.proofs.Rewriting.{readable}
use Rattle.sccp.specs.Steps.{convertible}
use Rattle.sccp.specs.Sccp.{sccp_in, converts, sub_octets, sccp_octets, to_sccp, from_sccp}
use Rattle.sccp.specs.Facts.{Back}
use Rattle.sccp.proofs.Invalid.{sccp_invalid}
use Rattle.sccp.proofs.Parts.{Held, HeldIn}
use Rattle.sccp.proofs.Parties.{Carried, party_carried, read_back, write_back}
use Rattle.sccp.proofs.Values.{AddressWritten, address_writes}

-- An address that was read from octets is one that octets hold.
all-front : {A : Type 0} (P : A → Type 0) (xs ys : List A) → All P (xs ++ ys) → All P xs
all-front P [] ys h = tt
all-front P (x ∷ xs) ys h = (h.0, all-front P xs ys h.1)

all_back : {A : Type 0} (P : A → Type 0) (xs ys : List A) → All P (xs ++ ys) → All P ys
all_back P [] ys h = h
all_back P (x ∷ xs) ys h = all_back P xs ys h.1

came_title : {p : Param} {t : Title} → PieceOf built_in p (title t) → title_in built_in p.value ≡ accepted t
came_title (is_title t h e) = e

came_sub : {p : Param} {n : ℕ} → PieceOf built_in p (sub n) → n ≡ get_or p.value 3 0
came_sub (is_sub h l) = refl

held : (t : Title) → Came built_in (title t) → Held t
held t c =
    let v = c.param.value in
    let o = c.fits.octets in
    let h = T.title_inv built_in v t (came_title c.is) in
    record {
      type = omega (arith, h.tt, octets_at v 5 o);
      octets = drop 8 v;
      count = get_or v 4 0;
      all = all_drop (λ (x : ℕ). x < 256) 8 v o;
      few = omega (arith, octets_at v 4 o);
      digits = h.digits;
    }

titles-held : (o : Option Title) → All (Came built_in) (present title o) → HeldIn o
titles-held None c = tt
titles-held (Some t) c = held t c.0

subs-held : (o : Option ℕ) → All (Came built_in) (present sub o) → Octets (sub_octets o)
subs-held None c = tt
subs-held (Some n) c = (omega (arith, came_sub c.0.is, octets_at c.0.param.value 3 c.0.fits.octets), tt)

carried : (a : Address) → All (Came built_in) (pieces a) → Carried a
unfolding pieces
carried a c =
    let rest = all_back (Came built_in) (present code a.code) _ (all_back (Came built_in) (present title a.title) _ c) in
    record {
      title = titles-held a.title (all-front (Came built_in) (present title a.title) _ c);
      sub = subs-held a.sub (all-front (Came built_in) (present sub a.sub) _ rest);
    }

pub address_carried : (v : List ℕ) (a : Address) → Octets v → read_address built_in v ≡ accepted a → Carried a
unfolding read_address
address_carried v a o e =
    let (within, read) = demand_inv (leb (length v) most) _ _ _ e in
    carried a (readable built_in v a o read).came

-- Either way of converting, once the address was read.
pub to_read : (v : List ℕ) (a : Address) → read_address built_in v ≡ accepted a → to_sccp v ≡ sccp_octets a
unfolding to_sccp
to_read v a e = rw e

pub from_read : (xs : List ℕ) → length xs ≤ most → from_sccp xs ≡ after (sccp_in xs) (write_address built_in 0)
unfolding from_sccp
from_read xs h = bounded-within xs _ h

pub from_party : (xs : List ℕ) (a : Address) → length xs ≤ most → sccp_in xs ≡ accepted a → from_sccp xs ≡ write_address built_in 0 a
from_party xs a h e = from_read xs h ∙ ap (λ (o : Outcome Address). after o (write_address built_in 0)) e

-- Each is a reading, and the writing of what it accepts.
pub to_by : (v : List ℕ) → after (after (read_address built_in v) (convertible converts)) sccp_octets ≡ to_sccp v
unfolding to_sccp sccp_octets
to_by v = go (read_address built_in v)
  where
    go : (o : Outcome Address) → after (after o (convertible converts)) sccp_octets ≡ after o sccp_octets
    go (refused n vs) = refl
    go (accepted a) = fit (converts a) refl
      where
        fit : (b : Bool) → converts a ≡ b → after (demand b 17 [] (accepted a)) sccp_octets ≡ sccp_octets a
        fit true e = refl
        fit false e = rw e

pub from_by : (xs : List ℕ) → after (bounded xs (sccp_in xs)) (write_address built_in 0) ≡ from_sccp xs
unfolding from_sccp
from_by xs = after-demand (leb (length xs) most) 12 (length xs ∷ []) (sccp_in xs) (write_address built_in 0)

-- A party address that is read is written as an address value, which is read as the same address.
pub party_writes :
    (xs : List ℕ) (a : Address)
    → Octets xs
    → sccp_in xs ≡ accepted a
    → AddressWritten a
party_writes xs a o e = address_writes a xs (party_carried xs a o e) (read_back xs a o e)

-- What to_sccp gives, from_sccp takes, and gives a value that is read as the address that was converted.
pub sua_back : (v xs : List ℕ) (a : Address) → Octets v → read_address built_in v ≡ accepted a → to_sccp v ≡ accepted xs → Back xs a
sua_back v xs a o e d =
    let h = address_carried v a o e in
    let written = sym (to_read v a e) ∙ d in
    let b = write_back a xs h written in
    let w = address_writes a xs h written in
    record {
      value = w.value;
      converted = from_party xs a (omega (arith, b.short)) b.reads ∙ w.writes;
      reads = w.reads;
    }

-- What from_sccp gives is the value of the address that was read.
record Given (xs w : List ℕ) : Type 0 where
  address : Address
  read : sccp_in xs ≡ accepted address
  written : AddressWritten address
  same : written.value ≡ w

given : (xs w : List ℕ) → Octets xs → from_sccp xs ≡ accepted w → Given xs w
unfolding from_sccp
given xs w o e =
    let (within, e1) = demand_inv (leb (length xs) most) _ _ _ e in
    let (a, ha, hw) = after_inv (sccp_in xs) (write_address built_in 0) e1 in
    let u = party_writes xs a o ha in
    record { address = a; read = ha; written = u; same = accepted_inj (sym u.writes ∙ hw) }

-- What from_sccp gives, to_sccp takes, and gives the party address that was converted.
pub sccp_back : (xs w : List ℕ) → Octets xs → from_sccp xs ≡ accepted w → to_sccp w ≡ accepted xs
sccp_back xs w o e =
    let g = given xs w o e in
    let u = g.written in
    ap to_sccp (sym g.same) ∙ to_read u.value g.address u.reads ∙ read_back xs g.address o g.read

-- It has at most 160 octets.
pub value-short : (xs w : List ℕ) → Octets xs → from_sccp xs ≡ accepted w → length w ≤ 160
value-short xs w o e = let g = given xs w o e in subst (λ (w : List ℕ). length w ≤ 160) g.same g.written.short

-- A party address has at most 135 octets.
pub party_short : (v xs : List ℕ) → Octets v → to_sccp v ≡ accepted xs → length xs ≤ 135
unfolding to_sccp
party_short v xs o e = let (a, ha, d) = after_inv (read_address built_in v) sccp_octets e in (write_back a xs (address_carried v a o ha) d).short

-- from_sccp takes exactly what to_sccp gives.
pub taken_exactly :
    (xs : List ℕ) → Octets xs → ((w : List ℕ) × (from_sccp xs ≡ accepted w)) ↔ ((v : List ℕ) × Octets v × (to_sccp v ≡ accepted xs))
unfolding to_sccp
taken_exactly xs o = (
  (λ (w, e). let g = given xs w o e in (w, subst Octets g.same g.written.octets, sccp_back xs w o e)),
  (λ (v, ov, e).
      let (a, ha, d) = after_inv (read_address built_in v) sccp_octets e in
      let b = sua_back v xs a ov ha e in
      (b.value, b.converted)),
)

-- Octets within the bound are converted, or refused as 18.
pub sccp_refused :
    (xs : List ℕ) (n : ℕ) (vs : List ℕ)
    → length xs ≤ most
    → Octets xs
    → from_sccp xs ≡ refused n vs
    → (n ≡ 18) × (vs ≡ [])
sccp_refused xs n vs h o e = go (sccp_in xs) refl (sym (from_read xs h) ∙ e)
  where
    go : (r : Outcome Address) → sccp_in xs ≡ r → after r (write_address built_in 0) ≡ refused n vs → (n ≡ 18) × (vs ≡ [])
    go (accepted a) s e = absurd (never (sym e ∙ (party_writes xs a o s).writes))
    go (refused m ws) s e = sccp_invalid xs n vs (cc)
