-- Which octets of SCCP convert: those that meet document 02's conditions, and no other.
use Prim.Native.Nat.{ℕ, zero, suc, ◌+◌, ◌-◌, ◌*◌, ◌/◌, ◌%◌, ◌≤◌, ◌<◌}
use mathlib.Core.Path.{◌≡◌, refl, sym, ap, ◌∙◌, subst}
use mathlib.Core.Bool.{Bool, true, false}
use mathlib.Core.Logic.{◌⊎◌, inl, inr, ⊎_elim, ◌↔◌}
use mathlib.Core.List.{List, [], ◌∷◌, ◌++◌}
use native.Mathlib.Omega.{arith}
use borrow.Author.Tests.{le-leb, leb-true, eq-eqb}
use lib.Dec.{leb}
use lib.ListN.{length, get_or, drop, length-drop}
use Rattle.std.specs.Prelude.{Option, None, Some, is_some}
use Rattle.bcd.specs.Outcome.{Outcome, accepted, pick, after, mapped, Octets, most}
use Rattle.bcd.specs.Digits.{built_in, digits_in}
use Rattle.bcd.proofs.Outcomes.{never, after_inv, mapped_inv, demand_inv, all_drop, le_or_lt}
use Rattle.address.specs.Address.{Title, Address, bit, write_address}
use Rattle.sccp.specs.Sccp.{with_parts, code_in, sub_in, digits_of, title_in, nothing_left, title_by, sccp_in, absent_or, code_octets, sub_octets, from_sccp}
use Rattle.sccp.specs.Facts.{DigitsConvert, TitlePartConverts, title_start, PartyConverts}
use Rattle.sccp.proofs.Known.{known-digits, digits-known}
use Rattle.sccp.proofs.Digits.{Counted, digits_inv}
use Rattle.sccp.proofs.Parts.{code_small, title_inv}
use Rattle.sccp.proofs.Parties.{party_inv}
use Rattle.sccp.proofs.Back.{from_read, from_party, party_writes}

-- An outcome accepts something.
abbrev Accepts : {A : Type 0} → Outcome A → Type 0
Accepts {A} o = (a : A) × (o ≡ accepted a)

-- Digits, by the encoding scheme.
counted-by :
    (scheme n count : ℕ)
    → Counted scheme n count
    → ((scheme ≡ 1) × (1 ≤ n) × (count ≡ 2 * n - 1)) ⊎ ((scheme ≡ 2) × (count ≡ 2 * n))
counted-by scheme n count c = go (count % 2) refl
  where
    go : (r : ℕ) → count % 2 ≡ r → ((scheme ≡ 1) × (1 ≤ n) × (count ≡ 2 * n - 1)) ⊎ ((scheme ≡ 2) × (count ≡ 2 * n))
    go zero h = inr (omega (arith, c.by), omega (arith, c.octets))
    go (suc zero) h = inl (omega (arith, c.by), omega (arith, c.octets), omega (arith, c.octets))
    go (suc (suc r)) h = absurd (omega arith)

digits-to : (scheme : ℕ) (xs ds : List ℕ) → digits_of scheme xs ≡ accepted ds → DigitsConvert scheme xs
digits-to scheme xs ds e =
    let d = digits_inv scheme xs ds e in
    record {
      count = d.count;
      by = counted-by scheme (length xs) d.count d.counted;
      few = d.few;
      filler = d.filler;
      digits = known-digits (digits_in built_in xs d.count) d.known;
    }

digits_from : (scheme : ℕ) (xs : List ℕ) → (d : DigitsConvert scheme xs) → digits_of scheme xs ≡ accepted (digits_in built_in xs d.count)
unfolding digits_of
digits_from scheme xs d =
    let few = le-leb d.count 255 d.few in
    let known = digits-known (digits_in built_in xs d.count) d.digits in
    ⊎_elim
    (λ (s, some, n). rw (s, le-leb 1 (length xs) some, ← n, few, d.filler, known))
    (λ (s, n). rw (s, ← n, few, d.filler, known))
    d.by

-- A party address whose first octet is below 64 is routed on its title, any other on SSN and point code.
pub routing_bit : (i : ℕ) (xs : List ℕ) (a : Address) → Octets xs → sccp_in (i ∷ xs) ≡ accepted a → ((i < 64) × (a.routing ≡ 1)) ⊎ ((64 ≤ i) × (a.routing ≡ 2))
routing_bit i xs a o e =
    let h = party_inv i xs a o e in
    let small = leb-true i 127 h.small in
    let routing : a.routing ≡ pick (bit 64 i) 2 1 = ap (λ (a : Address). a.routing) (sym h.address) in
    ⊎_elim
    (λ large. let one : i / 64 % 2 ≡ 1 = omega arith in inr (large, rw (eq-eqb _ _ one) at routing))
    (λ less. let none : i / 64 % 2 ≡ 0 = omega arith in inl (less, rw none at routing))
    (le_or_lt 64 i)

-- A title.
title_to : (xs : List ℕ) (t : Option Title) → title_in xs ≡ accepted t → TitlePartConverts xs
title_to [] t e = absurd (never e)
title_to (x ∷ []) t e = absurd (never e)
title_to (x ∷ y ∷ []) t e = absurd (never e)
title_to (x ∷ plan ∷ nature ∷ xs) t e =
    let (low, e1) = demand_inv (leb nature 127) _ _ _ e in
    let (ds, hd, same) = mapped_inv {B = Option Title} _ (digits_of (plan % 16) xs) e1 in
    record { whole = omega arith; nature = leb-true nature 127 low; digits = digits-to (plan % 16) xs ds hd }

title_from_lem : (xs : List ℕ) → TitlePartConverts xs → Accepts (title_in xs)
title_from_lem [] t = absurd (omega (arith, t.whole))
title_from_lem (x ∷ []) t = absurd (omega (arith, t.whole))
title_from_lem (x ∷ y ∷ []) t = absurd (omega (arith, t.whole))
title_from_lem (x ∷ plan ∷ nature ∷ xs) t =
    let ds = digits_in built_in xs t.digits.count in
    (Some (record { gti = 4; tt = x; np = plan / 16; noa = nature; digits = ds }), rw (le-leb nature 127 t.nature, digits_from (plan % 16) xs t.digits))

-- Point code and SSN, each if it is there: what they take, and the bits of a point code.
parts_inside : (i : ℕ) (code sub : Option ℕ) (ps : List ℕ) → 1 + pick (is_some code) 2 0 + pick (is_some sub) 1 0 ≤ length (i ∷ (code_octets code ++ (sub_octets sub ++ ps)))
parts_inside i None None ps = omega arith
parts_inside i None (Some m) ps = omega arith
parts_inside i (Some n) None ps = omega arith
parts_inside i (Some n) (Some m) ps = omega arith

code_high : (i : ℕ) (code : Option ℕ) (ps : List ℕ) → absent_or code_small code ≡ true → is_some code ≡ true → get_or (i ∷ (code_octets code ++ ps)) 2 0 ≤ 63
code_high i None ps s e = let z : ◌≡◌ {A = ℕ} 0 1 = cc in absurd (omega arith)
code_high i (Some n) ps s e = omega (arith, leb-true n 16383 s)

-- A part that is there.
abbrev picked : Bool → ℕ → Option ℕ
picked b n = pick b (Some n) None

abbrev code_at : ℕ → List ℕ → ℕ
code_at i ys = get_or (i ∷ ys) 2 0 * 256 + get_or (i ∷ ys) 1 0

module _ {A : Type 0} (F : Option ℕ → Option ℕ → List ℕ → Outcome A) (i : ℕ) where
  parts_in :
      (b c : Bool) (ys : List ℕ)
      → 1 + pick b 2 0 + pick c 1 0 ≤ length (i ∷ ys)
      → (b ≡ true → get_or (i ∷ ys) 2 0 ≤ 63)
      → after (code_in b ys) (λ code. after (sub_in c code.1) (λ sub. F code.0 sub.0 sub.1))
      ≡ F (picked b (code_at i ys)) (picked c (get_or (i ∷ ys) (1 + pick b 2 0) 0)) (drop (1 + pick b 2 0 + pick c 1 0) (i ∷ ys))
  parts_in true c [] l h = absurd (omega arith)
  parts_in true c (x ∷ []) l h = absurd (omega arith)
  parts_in true true (x ∷ y ∷ []) l h = absurd (omega arith)
  parts_in true true (x ∷ y ∷ z ∷ ys) l h = rw (le-leb y 63 (h refl))
  parts_in true false (x ∷ y ∷ ys) l h = rw (le-leb y 63 (h refl))
  parts_in false true [] l h = absurd (omega arith)
  parts_in false true (x ∷ ys) l h = refl
  parts_in false false ys l h = refl

-- A party address.
left_none : (ys : List ℕ) → length ys ≡ 0 → nothing_left ys ≡ accepted None
left_none [] l = refl
left_none (y ∷ ys) l = absurd (omega arith)

title_some : (place : ℕ) (xs : List ℕ) (n : ℕ) → ((n ≡ 0) × (length xs ≡ place)) ⊎ ((n ≡ 4) × TitlePartConverts (drop place xs)) → Accepts (title_by n (drop place xs))
title_some place xs n t =
    ⊎_elim
    (λ (e, l). (None, rw e (left_none (drop place xs) (omega (arith, length-drop place xs)))))
    (λ (e, h). let (t, q) = title_from_lem (drop place xs) h in (t, rw e q))
    t

title_part :
    (n : ℕ) (ys : List ℕ) (t : Option Title)
    → pick (is_some t) 4 0 ≡ n
    → title_by n ys ≡ accepted t
    → ((n ≡ 0) × (length ys ≡ 0)) ⊎ ((n ≡ 4) × TitlePartConverts ys)
title_part n ys None e h = inl (sym e, empty ys (rw (← e) at h))
  where
    empty : (ys : List ℕ) → nothing_left ys ≡ accepted None → length ys ≡ 0
    empty [] h = refl
    empty (y ∷ ys) h = absurd (never h)
title_part n ys (Some t) e h = inr (sym e, title_to ys (Some t) (rw (← e) at h))

party_to : (xs : List ℕ) (a : Address) → Octets xs → sccp_in xs ≡ accepted a → PartyConverts xs
unfolding sccp_in
party_to [] a o e = absurd (never e)
party_to (i ∷ ys) a o e =
    let h = party_inv i ys a o.1 e in
    let c = h.has_code in
    let s = h.has_sub in
    let joined : code_octets h.code ++ (sub_octets h.sub ++ h.last) ≡ ys = ap (λ (l : List ℕ). code_octets h.code ++ l) s.octets ∙ c.octets in
    let start : title_start i ≡ 1 + pick (is_some h.code) 2 0 + pick (is_some h.sub) 1 0 = rw (c.present, s.present) in
    let inside : title_start i ≤ length (i ∷ ys) =
    subst (λ (l : List ℕ). title_start i ≤ length (i ∷ l)) joined (rw start (parts_inside i h.code h.sub h.last)) in
    let high : bit 1 i ≡ true → get_or (i ∷ ys) 2 0 ≤ 63 =
    λ t. subst (λ (l : List ℕ). get_or (i ∷ l) 2 0 ≤ 63) joined (code_high i h.code (sub_octets h.sub ++ h.last) c.small (c.present ∙ t)) in
    let rest = drop (title_start i) (i ∷ ys) in
    let (t, ht, same) =
    mapped_inv (λ (t : Option Title). with_parts (pick (bit 64 i) 2 1) (picked (bit 1 i) (code_at i ys)) (picked (bit 2 i) (get_or (i ∷ ys) (1 + pick (bit 1 i) 2 0) 0)) t)
    (title_by (i / 4 % 16) rest)
    (sym (parts_in (λ code sub rest. mapped (with_parts (pick (bit 64 i) 2 1) code sub) (title_by (i / 4 % 16) rest)) i (bit 1 i) (bit 2 i) ys inside high)
    ∙ (demand_inv (leb i 127) _ _ _ e).1) in
    let present = (title_inv (i / 4 % 16) rest t (all_drop (λ (x : ℕ). x < 256) (title_start i) (i ∷ ys) o) ht).present in
    record {
      some = omega arith;
      reserved = leb-true i 127 h.small;
      whole = inside;
      code = high;
      title = ⊎_elim (λ (n, l). inl (n, omega (arith, length-drop (title_start i) (i ∷ ys)))) inr (title_part (i / 4 % 16) rest t present ht);
    }

party_from : (xs : List ℕ) → PartyConverts xs → Accepts (sccp_in xs)
unfolding sccp_in
party_from [] p = absurd (omega (arith, p.some))
party_from (i ∷ ys) p =
    let (t, h) = title_some (title_start i) (i ∷ ys) (i / 4 % 16) p.title in (
      with_parts (pick (bit 64 i) 2 1) (picked (bit 1 i) (code_at i ys)) (picked (bit 2 i) (get_or (i ∷ ys) (1 + pick (bit 1 i) 2 0) 0)) t,
      rw (le-leb i 127 p.reserved, parts_in (λ code sub rest. mapped (with_parts (pick (bit 64 i) 2 1) code sub) (title_by (i / 4 % 16) rest)) i (bit 1 i) (bit 2 i) ys p.whole p.code, h),
    )

pub party_exactly : (xs : List ℕ) → Octets xs → length xs ≤ most → ((w : List ℕ) × (from_sccp xs ≡ accepted w)) ↔ PartyConverts xs
party_exactly xs o h = (to, from)
  where
    to : (w : List ℕ) × (from_sccp xs ≡ accepted w) → PartyConverts xs
    to (w, e) =
        let (a, ha, hw) = after_inv (sccp_in xs) (write_address built_in 0) (sym (from_read xs h) ∙ e) in
        party_to xs a o ha

    from : PartyConverts xs → (w : List ℕ) × (from_sccp xs ≡ accepted w)
    from p =
        let (a, ha) = party_from xs p in
        let w = party_writes xs a o ha in
        (w.value, from_party xs a h ha ∙ w.writes)
