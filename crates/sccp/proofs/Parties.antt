-- Party addresses: one that is read is written again as it stands, and one that is written is read back.
use Prim.Native.Nat.{ℕ, zero, suc, ◌+◌, ◌*◌, ◌/◌, ◌%◌, ◌≤◌, ◌<◌}
use mathlib.Core.Path.{◌≡◌, refl, sym, ap, ap₂, ◌∙◌, subst}
use mathlib.Core.Bool.{Bool, true, false, not}
use mathlib.Core.Logic.{◌⊎◌, inl, inr, ⊎_elim}
use Rattle.std.specs.Prelude.{Option, None, Some, is_some}
use mathlib.Core.List.{List, [], ◌∷◌, ◌++◌}
use native.Mathlib.Omega.{arith}
use borrow.Author.Tests.{leb-true, eqb-true}
use lib.Dec.{leb, eqb}
use lib.ListN.{length}
use Rattle.bcd.specs.Outcome.{accepted, pick, Octets}
use Rattle.bcd.proofs.Outcomes.{never, after_inv, mapped_inv, demand_inv, all_append}
use Rattle.bcd.proofs.Below.{both, below_at}
use Rattle.parameter.specs.Parameter.{Param}
use Rattle.address.specs.Address.{Title, Address, bit}
use Rattle.sccp.specs.Sccp.{with_parts, code_in, sub_in, title_by, sccp_in, same, absent_or, routes, included, alone, title_converts, converts, code_octets, sub_octets, title_octets, indicator, sccp_octets}
use Rattle.sccp.proofs.Parts.{code_small, HasCode, code_inv, code_back, code-octets, HasSub, sub_inv, sub_back, HeldIn, HasTitle, title_inv, title_back}

-- The tests that an address passes that converts.
pub record Passes (a : Address) : Type 0 where
  pub routing : routes a.routing ≡ true
  pub gt : a.gt ≡ is_some a.title
  pub pc : a.pc ≡ is_some a.code
  pub ssn : a.ssn ≡ is_some a.sub
  pub others : a.others ≡ []
  pub title : absent_or title_converts a.title ≡ true
  pub code : absent_or code_small a.code ≡ true

same_inv : (b c : Bool) → same b c ≡ true → b ≡ c
same_inv true true e = refl
same_inv true false e = sym e
same_inv false true e = e
same_inv false false e = refl

same_refl : (b : Bool) → same b b ≡ true
same_refl true = refl
same_refl false = refl

alone_inv : (ps : List Param) → alone ps ≡ true → ps ≡ []
alone_inv [] e = refl
alone_inv (p ∷ ps) e = let z : ◌≡◌ {A = ℕ} 0 1 = cc in absurd (omega arith)

pub routes_inv : (n : ℕ) → routes n ≡ true → (n ≡ 1) ⊎ (n ≡ 2)
routes_inv n e = go (eqb n 1) refl e
  where
    go : (b : Bool) → eqb n 1 ≡ b → pick b true (eqb n 2) ≡ true → (n ≡ 1) ⊎ (n ≡ 2)
    go true h e = inl (eqb-true n 1 h)
    go false h e = inr (eqb-true n 2 e)

pub passes : (a : Address) → converts a ≡ true → Passes a
unfolding converts
passes a e =
    let (r, e1) = both (routes a.routing) _ e in
    let (i, e2) = both (included a) _ e1 in
    let (o, e3) = both (alone a.others) _ e2 in
    let (t, c) = both (absent_or title_converts a.title) _ e3 in
    let (g, i1) = both (same a.gt (is_some a.title)) _ i in
    let (p, s) = both (same a.pc (is_some a.code)) _ i1 in
    record {
      routing = r;
      gt = same_inv a.gt (is_some a.title) g;
      pc = same_inv a.pc (is_some a.code) p;
      ssn = same_inv a.ssn (is_some a.sub) s;
      others = alone_inv a.others o;
      title = t;
      code = c;
    }

pub passed : (a : Address) → Passes a → converts a ≡ true
unfolding converts
passed a p =
    let g = ap (λ (b : Bool). same b (is_some a.title)) p.gt ∙ same_refl (is_some a.title) in
    let c = ap (λ (b : Bool). same b (is_some a.code)) p.pc ∙ same_refl (is_some a.code) in
    let s = ap (λ (b : Bool). same b (is_some a.sub)) p.ssn ∙ same_refl (is_some a.sub) in
    rw (p.routing, g, c, s, ap alone p.others, p.title, p.code)

-- The octets of an address that converts.
pub party_octets :
    (a : Address) (os : List ℕ)
    → converts a ≡ true
    → title_octets a.title ≡ accepted os
    → sccp_octets a ≡ accepted (indicator a ∷ (code_octets a.code ++ (sub_octets a.sub ++ os)))
unfolding sccp_octets
party_octets a os c e = rw (c, e)

-- What an address that was written tells.
pub record IsParty (a : Address) (os : List ℕ) : Type 0 where
  pub converts : converts a ≡ true
  pub behind : List ℕ
  pub title : title_octets a.title ≡ accepted behind
  pub octets : indicator a ∷ (code_octets a.code ++ (sub_octets a.sub ++ behind)) ≡ os

pub written_inv : (a : Address) (os : List ℕ) → sccp_octets a ≡ accepted os → IsParty a os
unfolding sccp_octets
written_inv a os e =
    let (c, e1) = demand_inv (converts a) _ _ _ e in
    let (ps, ht, joined) = mapped_inv {B = List ℕ} _ (title_octets a.title) e1 in
    record { converts = c; behind = ps; title = ht; octets = joined }

-- What a party address that was read tells.
pub record HasParty (i : ℕ) (xs : List ℕ) (a : Address) : Type 0 where
  pub small : leb i 127 ≡ true
  pub code : Option ℕ
  pub sub : Option ℕ
  pub title : Option Title
  pub behind : List ℕ
  pub last : List ℕ
  pub has_code : HasCode (bit 1 i) xs code behind
  pub has_sub : HasSub (bit 2 i) behind sub last
  pub has_title : HasTitle (i / 4 % 16) last title
  pub address : with_parts (pick (bit 64 i) 2 1) code sub title ≡ a

pub party_inv : (i : ℕ) (xs : List ℕ) (a : Address) → Octets xs → sccp_in (i ∷ xs) ≡ accepted a → HasParty i xs a
unfolding sccp_in
party_inv i xs a o e =
    let (small, e1) = demand_inv (leb i 127) _ _ _ e in
    let (code, hc, e2) = after_inv (code_in (bit 1 i) xs) _ e1 in
    let c = code_inv (bit 1 i) xs code o hc in
    let (sub, hs, e3) = after_inv (sub_in (bit 2 i) code.1) _ e2 in
    let s = sub_inv (bit 2 i) code.1 sub c.behind hs in
    let (title, ht, joined) = mapped_inv {B = Address} _ (title_by (i / 4 % 16) sub.1) e3 in
    record {
      small = small;
      code = code.0;
      sub = sub.0;
      title = title;
      behind = code.1;
      last = sub.1;
      has_code = c;
      has_sub = s;
      has_title = title_inv (i / 4 % 16) sub.1 title s.behind ht;
      address = joined;
    }

-- The indicator by its four flags, and the flags by the indicator.
abbrev flags : (code sub title on_title : Bool) → ℕ
flags code sub title on_title = pick code 1 0 + pick sub 2 0 + pick title 16 0 + pick on_title 0 64

weighed : (m : ℕ) → m ≤ 1 → (pick (eqb m 1) 1 0 ≡ m) × (pick (eqb m 1) 2 0 ≡ 2 * m) × (pick (eqb (pick (eqb m 1) 2 1) 1) 0 64 ≡ 64 * m)
weighed zero h = (refl, refl, refl)
weighed (suc zero) h = (refl, refl, refl)
weighed (suc (suc m)) h = absurd (omega arith)

titled : (b : Bool) → pick b 16 0 ≡ 4 * pick b 4 0
titled true = refl
titled false = refl

-- The fields of an octet below 128, put together.
abbrev fields : ℕ → ℕ
fields i = i / 1 % 2 + 2 * (i / 2 % 2) + 4 * (i / 4 % 16) + 64 * (i / 64 % 2)

summed : (i : ℕ) → i ≤ 127 → fields i ≡ i
summed i h = eqb-true (fields i) i (below_at 128 (λ (i : ℕ). eqb (fields i) i) refl i (omega arith))

indicator_is :
    (i : ℕ) (code sub title : Bool)
    → i ≤ 127
    → code ≡ bit 1 i
    → sub ≡ bit 2 i
    → pick title 4 0 ≡ i / 4 % 16
    → flags code sub title (eqb (pick (bit 64 i) 2 1) 1) ≡ i
indicator_is i code sub title h c s t =
    let a : pick code 1 0 ≡ i / 1 % 2 = ap (λ (b : Bool). pick b 1 0) c ∙ (weighed (i / 1 % 2) (omega arith)).0 in
    let b : pick sub 2 0 ≡ 2 * (i / 2 % 2) = ap (λ (b : Bool). pick b 2 0) s ∙ (weighed (i / 2 % 2) (omega arith)).1 in
    let d : pick (eqb (pick (bit 64 i) 2 1) 1) 0 64 ≡ 64 * (i / 64 % 2) = (weighed (i / 64 % 2) (omega arith)).2 in
    rw (a, b, titled title, t, d) (summed i h)

record Flags (i : ℕ) (code sub title on_title : Bool) : Type 0 where
  small : leb i 127 ≡ true
  pc : bit 1 i ≡ code
  ssn : bit 2 i ≡ sub
  gt : i / 4 % 16 ≡ pick title 4 0
  routing : bit 64 i ≡ not on_title

flags_back : (c s t r : Bool) → Flags (flags c s t r) c s t r
flags_back true true true true = record { small = refl; pc = refl; ssn = refl; gt = refl; routing = refl }
flags_back true true true false = record { small = refl; pc = refl; ssn = refl; gt = refl; routing = refl }
flags_back true true false true = record { small = refl; pc = refl; ssn = refl; gt = refl; routing = refl }
flags_back true true false false = record { small = refl; pc = refl; ssn = refl; gt = refl; routing = refl }
flags_back true false true true = record { small = refl; pc = refl; ssn = refl; gt = refl; routing = refl }
flags_back true false true false = record { small = refl; pc = refl; ssn = refl; gt = refl; routing = refl }
flags_back true false false true = record { small = refl; pc = refl; ssn = refl; gt = refl; routing = refl }
flags_back true false false false = record { small = refl; pc = refl; ssn = refl; gt = refl; routing = refl }
flags_back false true true true = record { small = refl; pc = refl; ssn = refl; gt = refl; routing = refl }
flags_back false true true false = record { small = refl; pc = refl; ssn = refl; gt = refl; routing = refl }
flags_back false true false true = record { small = refl; pc = refl; ssn = refl; gt = refl; routing = refl }
flags_back false true false false = record { small = refl; pc = refl; ssn = refl; gt = refl; routing = refl }
flags_back false false true true = record { small = refl; pc = refl; ssn = refl; gt = refl; routing = refl }
flags_back false false true false = record { small = refl; pc = refl; ssn = refl; gt = refl; routing = refl }
flags_back false false false true = record { small = refl; pc = refl; ssn = refl; gt = refl; routing = refl }
flags_back false false false false = record { small = refl; pc = refl; ssn = refl; gt = refl; routing = refl }

routes-pick : (b : Bool) → routes (pick b 2 1) ≡ true
routes-pick true = refl
routes-pick false = refl

-- A party address that is read is written again as it stands.
parts_back : (i : ℕ) (xs : List ℕ) (a : Address) → HasParty i xs a → sccp_octets a ≡ accepted (i ∷ xs)
parts_back i xs a h =
    let r : ℕ = pick (bit 64 i) 2 1 in
    let c = h.has_code in
    let s = h.has_sub in
    let t = h.has_title in
    let b = with_parts r h.code h.sub h.title in
    let conv : converts b ≡ true =
    passed b (record {
      routing = routes-pick (bit 64 i);
      gt = refl;
      pc = refl;
      ssn = refl;
      others = refl;
      title = t.converts;
      code = c.small;
    }) in
    let first = indicator_is i (is_some h.code) (is_some h.sub) (is_some h.title) (leb-true i 127 h.small) in
    ap sccp_octets (sym h.address)
    ∙ party_octets b h.last conv t.writes
    ∙ ap₂ (λ (i : ℕ) (xs : List ℕ). accepted (i ∷ xs))
    (first c.present s.present t.present)
    (ap (λ (l : List ℕ). code_octets h.code ++ l) s.octets ∙ c.octets)

pub read_back : (xs : List ℕ) (a : Address) → Octets xs → sccp_in xs ≡ accepted a → sccp_octets a ≡ accepted xs
unfolding sccp_in
read_back [] a o e = absurd (never e)
read_back (i ∷ xs) a o e = parts_back i xs a (party_inv i xs a o.1 e)

-- An address as octets hold it: its title, and an SSN of one octet.
pub record Carried (a : Address) : Type 0 where
  pub title : HeldIn a.title
  pub sub : Octets (sub_octets a.sub)

pub party_carried : (xs : List ℕ) (a : Address) → Octets xs → sccp_in xs ≡ accepted a → Carried a
unfolding sccp_in
party_carried [] a o e = absurd (never e)
party_carried (i ∷ xs) a o e =
    let h = party_inv i xs a o.1 e in
    subst Carried h.address (record { title = h.has_title.held; sub = h.has_sub.small })

routes_back : (n : ℕ) → routes n ≡ true → pick (not (eqb n 1)) 2 1 ≡ n
routes_back n e = ⊎_elim (λ h. rw h) (λ h. rw h) (routes_inv n e)

party_read :
    (i r : ℕ) (code sub : Option ℕ) (title : Option Title) (b : Bool) (ps : List ℕ)
    → Flags i (is_some code) (is_some sub) (is_some title) b
    → absent_or code_small code ≡ true
    → title_by (pick (is_some title) 4 0) ps ≡ accepted title
    → pick (not b) 2 1 ≡ r
    → sccp_in (i ∷ (code_octets code ++ (sub_octets sub ++ ps))) ≡ accepted (with_parts r code sub title)
unfolding sccp_in
party_read i r code sub title b ps f s t e =
    rw (f.small, f.pc, code_back code (sub_octets sub ++ ps) s, f.ssn, sub_back sub ps, f.gt, t, f.routing, e)

-- An address is made of its parts, where it converts.
pub whole : (a : Address) → Passes a → with_parts a.routing a.code a.sub a.title ≡ a
whole a p = rw (← p.gt, ← p.pc, ← p.ssn, ← p.others)

party_length : (code sub : Option ℕ) (ps : List ℕ) → length ps ≤ 131 → length (code_octets code ++ (sub_octets sub ++ ps)) ≤ 134
party_length None None ps h = omega arith
party_length None (Some n) ps h = omega arith
party_length (Some c) None ps h = omega arith
party_length (Some c) (Some n) ps h = omega arith

pub record PartyBack (a : Address) (os : List ℕ) : Type 0 where
  pub reads : sccp_in os ≡ accepted a
  pub octets : Octets os
  pub short : length os ≤ 135

-- An address that converts is read from what it is written as.
pub write_back : (a : Address) (os : List ℕ) → Carried a → sccp_octets a ≡ accepted os → PartyBack a os
write_back a os h e =
    let w = written_inv a os e in
    let p = passes a w.converts in
    let t = title_back a.title w.behind h.title p.title w.title in
    let f = flags_back (is_some a.code) (is_some a.sub) (is_some a.title) (eqb a.routing 1) in
    let read = party_read (indicator a) a.routing a.code a.sub a.title (eqb a.routing 1) w.behind f in
    let rest = all_append (λ (x : ℕ). x < 256) (sub_octets a.sub) w.behind h.sub t.octets in
    subst (PartyBack a) w.octets (record {
      reads = read p.code t.reads (routes_back a.routing p.routing) ∙ ap accepted (whole a p);
      octets = (omega (arith, leb-true (indicator a) 127 f.small), code-octets a.code _ p.code rest);
      short = omega (arith, party_length a.code a.sub w.behind t.short);
    })
