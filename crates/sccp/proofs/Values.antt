-- An address of SUA that converts is written as an address value, which is read as that address.
use Prim.Native.Nat.{ℕ, ◌+◌, ◌≤◌}
use mathlib.Core.Path.{◌≡◌, refl, ap, ◌∙◌, subst}
use mathlib.Core.Bool.{true}
use mathlib.Core.Logic.{⊎_elim}
use Rattle.std.specs.Prelude.{Option, None, Some}
use mathlib.Core.List.{List, [], ◌∷◌, ◌++◌}
use native.Mathlib.Omega.{arith}
use borrow.Author.Tests.{le-leb, leb-true}
use lib.Dec.{lit<, lit≤}
use lib.ListN.{length}
use Rattle.bcd.specs.Outcome.{accepted, each, All, Octets}
use Rattle.bcd.specs.Digits.{built_in, digits_in, write_digits}
use Rattle.bcd.proofs.Outcomes.{mapped_inv, each_append, all_append, bounded-within}
use Rattle.bcd.proofs.Characters.{built_in_lawful}
use Rattle.bcd.proofs.Digits.{read_at_most}
use Rattle.parameter.specs.Parameter.{Param, param, four, four_in, two_at, most_value}
use Rattle.parameter.proofs.RoundTrip.{run_octets_lem, all-sized, encode_accepts}
use Rattle.address.specs.Address.{Title, Address, title_in, write_title, Piece, title, code, sub, address_in, read_address, present, pieces, sub_param, write_address}
use Rattle.address.specs.Address as A
use Rattle.address.specs.Lengths.{total_length}
use Rattle.address.proofs.Titles.{digit-octets}
use Rattle.address.proofs.Pieces.{indicator_small}
use Rattle.address.proofs.SubParams.{PieceOf, is_title, is_code, is_sub, Came, pieces-written}
use Rattle.address.proofs.Rewriting.{address_octets, octets-length, octets-read}
use Rattle.sccp.specs.Sccp.{absent_or, title_converts, sub_octets, title_octets, sccp_octets}
use Rattle.sccp.proofs.Digits.{digits_again}
use Rattle.sccp.proofs.Parts.{code_small, title_converts_lem, HeldIn}
use Rattle.sccp.proofs.Parties.{passes, written_inv, routes_inv, whole, Carried}

total-append : (xs ys : List Piece) → total_length (xs ++ ys) ≡ total_length xs + total_length ys
total-append [] ys = omega arith
total-append (x ∷ xs) ys = omega (arith, total-append xs ys)

-- Pieces that are written, in at most n octets, and could have come as sub-parameters.
record Writes (n : ℕ) (xs : List Piece) : Type 0 where
  came : All (Came built_in) xs
  params : List Param
  subs : each (sub_param built_in) xs ≡ accepted params
  short : total_length xs ≤ n

writes_both : {n m : ℕ} {xs ys : List Piece} → Writes n xs → Writes m ys → Writes (n + m) (xs ++ ys)
writes_both {n} {m} {xs} {ys} h k = record {
  came = all_append (Came built_in) xs ys h.came k.came;
  params = h.params ++ k.params;
  subs = each_append (sub_param built_in) xs ys h.params k.params h.subs k.subs;
  short = omega (arith, total-append xs ys, h.short, k.short);
}

four_back : (n : ℕ) → four_in (four n) ≡ n
unfolding two_at
four_back n = omega arith

code_writes : (o : Option ℕ) → absent_or code_small o ≡ true → Writes 8 (present code o)
unfolding sub_param
code_writes None s = record { came = tt; params = []; subs = refl; short = omega arith }
code_writes (Some n) s =
    let h = leb-true n 16383 s in
    let p = param 0x8002 (four n) in
    let c : PieceOf built_in p (code (four_in (four n))) = is_code refl (lit≤ tt) in
    let octets : Octets (four n) = (omega arith, (omega arith, (omega arith, (omega arith, tt)))) in
    record {
      came = (record { param = p; fits = record { tag = lit< tt; size = lit≤ tt; octets = octets }; is = rw (four_back n) at c }, tt);
      params = p ∷ [];
      subs = refl;
      short = omega arith;
    }

sub_writes : (o : Option ℕ) → Octets (sub_octets o) → Writes 8 (present sub o)
unfolding sub_param
sub_writes None o = record { came = tt; params = []; subs = refl; short = omega arith }
sub_writes (Some n) o =
    let p = param 0x8003 (0 ∷ 0 ∷ 0 ∷ n ∷ []) in
    let octets : Octets (0 ∷ 0 ∷ 0 ∷ n ∷ []) = (lit< tt, (lit< tt, (lit< tt, o))) in
    record {
      came = (record { param = p; fits = record { tag = lit< tt; size = lit≤ tt; octets = octets }; is = is_sub refl (lit≤ tt) }, tt);
      params = p ∷ [];
      subs = refl;
      short = omega arith;
    }

-- The value of a title, with the octets of its digits: it is read as the title, and the title is written so.
title_is :
    (t : Title) (ps : List ℕ)
    → digits_in built_in ps (length t.digits) ≡ t.digits
    → title_in built_in (A.title_octets t ps) ≡ accepted t
unfolding title_in
title_is t ps e = rw (le-leb 8 (length (A.title_octets t ps)) (omega arith), e)

title_sub :
    (t : Title) (ps : List ℕ)
    → write_digits built_in t.digits ≡ accepted ps
    → each (sub_param built_in) (title t ∷ []) ≡ accepted (param 0x8001 (A.title_octets t ps) ∷ [])
unfolding sub_param write_title
title_sub t ps e = rw e

title_writes :
    (o : Option Title) (os : List ℕ)
    → HeldIn o
    → absent_or title_converts o ≡ true
    → title_octets o ≡ accepted os
    → Writes 140 (present title o)
title_writes None os h c e = record { came = tt; params = []; subs = refl; short = omega arith }
title_writes (Some t) os h c e =
    let (ps, hw, same) = mapped_inv {B = List ℕ} _ (write_digits built_in t.digits) e in
    let k = title_converts_lem t c in
    let d = digit-octets built_in built_in_lawful t.digits ps hw in
    let few : length t.digits ≤ 255 = omega (arith, ap length h.digits, read_at_most built_in h.octets h.count h.few) in
    let back = digits_again h.octets h.count t.digits ps h.all h.digits hw in
    let v = A.title_octets t ps in
    let fields : Octets (t.tt ∷ t.np ∷ t.noa ∷ ps) = (h.type, (omega (arith, k.plan), (omega (arith, k.nature), d.octets))) in
    let octets : Octets v = (lit< tt, (lit< tt, (lit< tt, (omega (arith, k.indicator), (omega arith, fields))))) in
    record {
      came = (
        record {
          param = param 0x8001 v;
          fits = record { tag = lit< tt; size = omega (arith, d.count); octets = octets };
          is = is_title t refl (title_is t ps back);
        },
        tt,
      );
      params = param 0x8001 v ∷ [];
      subs = title_sub t ps hw;
      short = omega arith;
    }

-- The pieces of an address that converts.
address-pieces : (a : Address) (os : List ℕ) → Carried a → sccp_octets a ≡ accepted os → Writes 156 (pieces a)
unfolding pieces
address-pieces a os h e =
    let w = written_inv a os e in
    let p = passes a w.converts in
    let t = title_writes a.title w.behind h.title p.title w.title in
    let c = code_writes a.code p.code in
    let s = sub_writes a.sub h.sub in
    let nothing : Writes 0 [] = record { came = tt; params = []; subs = refl; short = omega arith } in
    subst (λ (a : Address). Writes 156 (pieces a)) (whole a p) (writes_both t (writes_both c (writes_both s nothing)))

-- What is written, and that it is read.
pub record AddressWritten (a : Address) : Type 0 where
  pub value : List ℕ
  pub writes : write_address built_in 0 a ≡ accepted value
  pub reads : read_address built_in value ≡ accepted a
  pub octets : Octets value
  pub short : length value ≤ 160

address-written : (a : Address) → a.routing ≤ 4 → Writes 156 (pieces a) → AddressWritten a
unfolding write_address read_address
address-written a r p =
    let qs = p.params in
    let w = pieces-written built_in built_in_lawful (pieces a) qs p.came p.subs in
    let v = address_octets a qs in
    let bits = indicator_small a in
    let short : length v ≤ 160 = omega (arith, octets-length a qs, w.size, p.short) in
    record {
      value = v;
      writes = rw (p.subs, encode_accepts qs (all-sized qs w.fits), le-leb (length v) most_value (omega arith));
      reads = bounded-within v (address_in built_in v) (omega arith) ∙ octets-read built_in a qs r w.reads;
      octets = (omega arith, (omega arith, (omega (arith, bits), (omega (arith, bits), run_octets_lem qs w.fits))));
      short = short;
    }

pub address_writes : (a : Address) (os : List ℕ) → Carried a → sccp_octets a ≡ accepted os → AddressWritten a
address_writes a os h e =
    let p = passes a (written_inv a os e).converts in
    let low : a.routing ≤ 4 = ⊎_elim (λ h. omega arith) (λ h. omega arith) (routes_inv a.routing p.routing) in
    address-written a low (address-pieces a os h e)
