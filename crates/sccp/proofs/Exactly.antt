-- Which addresses of SUA convert: those that meet document 02's conditions, and no other; any other is refused as 17.
use Prim.Native.Nat.{ℕ, ◌≤◌}
use mathlib.Core.Path.{◌≡◌, refl, sym, ap, ◌∙◌, subst}
use mathlib.Core.Bool.{Bool, true, false}
use mathlib.Core.Logic.{◌⊎◌, ⊎_elim, ◌↔◌}
use Rattle.std.specs.Prelude.{Option, None, Some}
use mathlib.Core.List.{List, []}
use borrow.Author.Tests.{le-leb, leb-true, eq-eqb}
use Rattle.bcd.specs.Outcome.{accepted, refused, mapped, Octets}
use Rattle.bcd.specs.Digits.{built_in, write_digits, KnownDigits}
use Rattle.bcd.proofs.Outcomes.{never}
use Rattle.bcd.proofs.Digits.{read-written}
use Rattle.address.specs.Address.{Title, Address, read_address}
use Rattle.sccp.specs.Sccp.{absent_or, routes, title_converts, converts, title_octets, sccp_octets, to_sccp}
use Rattle.sccp.specs.Facts.{TitleConverts, Where, Converts, Exactly}
use Rattle.sccp.proofs.Known.{digits-known}
use Rattle.sccp.proofs.Invalid.{refuses_as}
use Rattle.sccp.proofs.Parts.{code_small, title_converts_lem, HeldIn}
use Rattle.sccp.proofs.Parties.{passes, passed, routes_inv, party_octets, written_inv}
use Rattle.sccp.proofs.Back.{address_carried, to_read}

-- The tests are the conditions, part by part.
titles-to : (o : Option Title) → absent_or title_converts o ≡ true → Where TitleConverts o
titles-to None e = tt
titles-to (Some t) e = title_converts_lem t e

titles_from : (o : Option Title) → Where TitleConverts o → absent_or title_converts o ≡ true
titles_from None h = refl
titles_from (Some t) h =
    let k = digits-known t.digits h.digits in
    rw (eq-eqb t.gti 4 h.indicator, le-leb t.np 15 h.plan, le-leb t.noa 127 h.nature, k)

codes-to : (o : Option ℕ) → absent_or code_small o ≡ true → Where (λ (n : ℕ). n ≤ 16383) o
codes-to None e = tt
codes-to (Some n) e = leb-true n 16383 e

codes_from : (o : Option ℕ) → Where (λ (n : ℕ). n ≤ 16383) o → absent_or code_small o ≡ true
codes_from None h = refl
codes_from (Some n) h = le-leb n 16383 h

routes_from : (n : ℕ) → (n ≡ 1) ⊎ (n ≡ 2) → routes n ≡ true
routes_from n h = ⊎_elim (λ e. rw e) (λ e. rw e) h

pub converts_tells : (a : Address) → (converts a ≡ true) ↔ Converts a
converts_tells a = (to, from)
  where
    to : converts a ≡ true → Converts a
    to e =
        let p = passes a e in
        record {
          routing = routes_inv a.routing p.routing;
          gt = p.gt;
          pc = p.pc;
          ssn = p.ssn;
          title = titles-to a.title p.title;
          code = codes-to a.code p.code;
          others = p.others;
        }

    from : Converts a → converts a ≡ true
    from h =
        passed a (record {
          routing = routes_from a.routing h.routing;
          gt = h.gt;
          pc = h.pc;
          ssn = h.ssn;
          others = h.others;
          title = titles_from a.title h.title;
          code = codes_from a.code h.code;
        })

-- The title of an address that converts is written.
title_written : (o : Option Title) → HeldIn o → absent_or title_converts o ≡ true → (os : List ℕ) × (title_octets o ≡ accepted os)
title_written None h c = (_, refl)
title_written (Some t) h c =
    let k = subst KnownDigits h.digits (title_converts_lem t c).digits in
    let w = ap (write_digits built_in) h.digits ∙ read-written h.octets h.count h.all h.few k in
    (_, ap (mapped {B = List ℕ} _) w)

unconverted : (a : Address) → converts a ≡ false → sccp_octets a ≡ refused 17 []
unfolding sccp_octets
unconverted a e = rw e

pub converts_exactly : (v : List ℕ) (a : Address) → Octets v → read_address built_in v ≡ accepted a → Exactly v a
converts_exactly v a o e = record { where_held = where_held; held = held; elsewhere = go (converts a) refl }
  where
    where_held : Converts a → (xs : List ℕ) × (to_sccp v ≡ accepted xs)
    where_held h =
        let c = (converts_tells a).1 h in
        let (os, w) = title_written a.title (address_carried v a o e).title (passes a c).title in
        (_, to_read v a e ∙ party_octets a os c w)

    held : (xs : List ℕ) → to_sccp v ≡ accepted xs → Converts a
    held xs d = (converts_tells a).0 (written_inv a xs (sym (to_read v a e) ∙ d)).converts

    go : (b : Bool) → converts a ≡ b → (Converts a → ⊥) → to_sccp v ≡ refused 17 []
    go true c n = absurd (n ((converts_tells a).0 c))
    go false c n = to_read v a e ∙ unconverted a c

-- Once the address was read, nothing but 17 is refused.
pub sua_refused :
    (v : List ℕ) (a : Address) (n : ℕ) (vs : List ℕ)
    → Octets v
    → read_address built_in v ≡ accepted a
    → to_sccp v ≡ refused n vs
    → (n ≡ 17) × (vs ≡ [])
sua_refused v a n vs o e d = go (converts a) refl
  where
    go : (b : Bool) → converts a ≡ b → (n ≡ 17) × (vs ≡ [])
    go true c = let (xs, w) = (converts_exactly v a o e).where_held ((converts_tells a).0 c) in absurd (never (sym d ∙ w))
    go false c = refuses_as {A = List ℕ} 17 n vs (sym (to_read v a e ∙ unconverted a c) ∙ d)
