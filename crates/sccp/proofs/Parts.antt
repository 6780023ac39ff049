-- The parts of a party address: point code, SSN and title. One that was read is written as the octets that it stood in; one
-- that is written is read back.
use Prim.Native.Nat.{ℕ, ◌+◌, ◌-◌, ◌*◌, ◌/◌, ◌%◌, ◌≤◌, ◌<◌}
use mathlib.Core.Path.{◌≡◌, refl, sym, ap, ap₂, subst}
use mathlib.Core.Bool.{Bool, true, false}
use mathlib.Core.Logic.{⊎_elim}
use Rattle.std.specs.Prelude.{Option, None, Some, is_some}
use mathlib.Core.List.{List, [], ◌∷◌, ◌++◌}
use native.Mathlib.Omega.{arith}
use borrow.Author.Tests.{le-leb, leb-true, eqb-true}
use lib.Dec.{leb, eqb}
use lib.ListN.{length}
use Rattle.bcd.specs.Outcome.{accepted, pick, Octets}
use Rattle.bcd.specs.Digits.{built_in, digits_in, write_digits}
use Rattle.bcd.proofs.Outcomes.{accepted_inj, never, mapped_inv, demand_inv}
use Rattle.bcd.proofs.Below.{both}
use Rattle.bcd.proofs.Tests.{chosen}
use Rattle.bcd.proofs.Characters.{built_in_lawful}
use Rattle.bcd.proofs.Digits.{read_at_most}
use Rattle.address.specs.Address.{Title}
use Rattle.address.proofs.Titles.{digit-octets}
use Rattle.sccp.specs.Sccp.{code_in, sub_in, digits_of, title_in, nothing_left, title_by, absent_or, title_converts, code_octets, sub_octets, title_octets}
use Rattle.sccp.specs.Facts.{TitleConverts}
use Rattle.sccp.proofs.Known.{known-digits}
use Rattle.sccp.proofs.Digits.{digits_inv, digits_back, digits-read_back}

-- A point code of 14 bits.
abbrev pub code_small : ℕ → Bool
code_small n = leb n 16383

-- What a point code that was read tells, and the octets behind it.
pub record HasCode (b : Bool) (xs : List ℕ) (code : Option ℕ) (rest : List ℕ) : Type 0 where
  pub present : is_some code ≡ b
  pub octets : code_octets code ++ rest ≡ xs
  pub small : absent_or code_small code ≡ true
  pub behind : Octets rest

pub code_inv : (b : Bool) (xs : List ℕ) (c : Option ℕ × List ℕ) → Octets xs → code_in b xs ≡ accepted c → HasCode b xs c.0 c.1
code_inv false xs c o e =
    subst (λ (c : Option ℕ × List ℕ). HasCode false xs c.0 c.1) (accepted_inj e)
    (record { present = refl; octets = refl; small = refl; behind = o })
code_inv true [] c o e = absurd (never e)
code_inv true (x ∷ []) c o e = absurd (never e)
code_inv true (low ∷ high ∷ xs) c o e =
    let (h, same) = demand_inv (leb high 63) _ _ _ e in
    let small = leb-true high 63 h in
    let l : (high * 256 + low) % 256 ≡ low = omega (arith, o.0) in
    let m : (high * 256 + low) / 256 ≡ high = omega (arith, o.0) in
    subst (λ (c : Option ℕ × List ℕ). HasCode true (low ∷ high ∷ xs) c.0 c.1) (accepted_inj same) (record {
      present = refl;
      octets = ap₂ (λ (a b : ℕ). a ∷ b ∷ xs) l m;
      small = le-leb (high * 256 + low) 16383 (omega (arith, o.0));
      behind = o.1.1;
    })

pub code_back :
    (code : Option ℕ) (rest : List ℕ)
    → absent_or code_small code ≡ true
    → code_in (is_some code) (code_octets code ++ rest) ≡ accepted (code, rest)
code_back None rest s = refl
code_back (Some n) rest s =
    let high : n / 256 ≤ 63 = omega (arith, leb-true n 16383 s) in
    let same : n / 256 * 256 + n % 256 ≡ n = omega arith in
    rw (le-leb (n / 256) 63 high, same)

pub code-octets : (code : Option ℕ) (rest : List ℕ) → absent_or code_small code ≡ true → Octets rest → Octets (code_octets code ++ rest)
code-octets None rest s o = o
code-octets (Some n) rest s o = (omega arith, (omega (arith, leb-true n 16383 s), o))

-- What an SSN that was read tells, and the octets behind it.
pub record HasSub (b : Bool) (xs : List ℕ) (sub : Option ℕ) (rest : List ℕ) : Type 0 where
  pub present : is_some sub ≡ b
  pub octets : sub_octets sub ++ rest ≡ xs
  pub small : Octets (sub_octets sub)
  pub behind : Octets rest

pub sub_inv : (b : Bool) (xs : List ℕ) (s : Option ℕ × List ℕ) → Octets xs → sub_in b xs ≡ accepted s → HasSub b xs s.0 s.1
sub_inv false xs s o e =
    subst (λ (s : Option ℕ × List ℕ). HasSub false xs s.0 s.1) (accepted_inj e)
    (record { present = refl; octets = refl; small = tt; behind = o })
sub_inv true [] s o e = absurd (never e)
sub_inv true (n ∷ xs) s o e =
    subst (λ (s : Option ℕ × List ℕ). HasSub true (n ∷ xs) s.0 s.1) (accepted_inj e)
    (record { present = refl; octets = refl; small = (o.0, tt); behind = o.1 })

pub sub_back : (sub : Option ℕ) (rest : List ℕ) → sub_in (is_some sub) (sub_octets sub ++ rest) ≡ accepted (sub, rest)
sub_back None rest = refl
sub_back (Some n) rest = refl

-- The test of a title is the conditions on it.
pub title_converts_lem : (t : Title) → title_converts t ≡ true → TitleConverts t
title_converts_lem t e =
    let (i, e1) = both (eqb t.gti 4) _ e in
    let (p, e2) = both (leb t.np 15) _ e1 in
    let (n, k) = both (leb t.noa 127) _ e2 in
    record {
      indicator = eqb-true t.gti 4 i;
      plan = leb-true t.np 15 p;
      nature = leb-true t.noa 127 n;
      digits = known-digits t.digits k;
    }

-- A title as octets hold it: a translation type of one octet, and digits as they are read from octets.
pub record Held (t : Title) : Type 0 where
  pub type : t.tt < 256
  pub octets : List ℕ
  pub count : ℕ
  pub all : Octets octets
  pub few : count ≤ 255
  pub digits : t.digits ≡ digits_in built_in octets count

abbrev pub HeldIn : Option Title → Type 0
HeldIn None = Unit {0}
HeldIn (Some t) = Held t

-- What a title that was read tells.
pub record HasTitle (i : ℕ) (xs : List ℕ) (title : Option Title) : Type 0 where
  pub present : pick (is_some title) 4 0 ≡ i
  pub converts : absent_or title_converts title ≡ true
  pub writes : title_octets title ≡ accepted xs
  pub held : HeldIn title

title_of_lem :
    (type plan nature : ℕ) (xs ds : List ℕ)
    → Octets (type ∷ plan ∷ nature ∷ xs)
    → nature ≤ 127
    → digits_of (plan % 16) xs ≡ accepted ds
    → HasTitle 4 (type ∷ plan ∷ nature ∷ xs) (Some (record { gti = 4; tt = type; np = plan / 16; noa = nature; digits = ds }))
title_of_lem type plan nature xs ds o low e =
    let b = digits_back (plan % 16) xs ds o.1.1.1 e in
    let h = digits_inv (plan % 16) xs ds e in
    let whole : plan / 16 * 16 + (2 - length ds % 2) ≡ plan = omega (arith, b.by) in
    record {
      present = refl;
      converts = rw (le-leb (plan / 16) 15 (omega (arith, o.1.0)), le-leb nature 127 low, b.known);
      writes = rw (b.writes, whole);
      held = record { type = o.0; octets = xs; count = h.count; all = o.1.1.1; few = h.few; digits = sym h.digits };
    }

title_in_lem : (xs : List ℕ) (t : Option Title) → Octets xs → title_in xs ≡ accepted t → HasTitle 4 xs t
title_in_lem [] t o e = absurd (never e)
title_in_lem (x ∷ []) t o e = absurd (never e)
title_in_lem (x ∷ y ∷ []) t o e = absurd (never e)
title_in_lem (type ∷ plan ∷ nature ∷ xs) t o e =
    let (low, e1) = demand_inv (leb nature 127) _ _ _ e in
    let (ds, hd, same) = mapped_inv {B = Option Title} _ (digits_of (plan % 16) xs) e1 in
    subst (HasTitle 4 (type ∷ plan ∷ nature ∷ xs)) same (title_of_lem type plan nature xs ds o (leb-true nature 127 low) hd)

no_title_lem : (xs : List ℕ) (t : Option Title) → nothing_left xs ≡ accepted t → HasTitle 0 xs t
no_title_lem [] t e = subst (HasTitle 0 []) (accepted_inj e) (record { present = refl; converts = refl; writes = refl; held = tt })
no_title_lem (x ∷ xs) t e = absurd (never e)

pub title_inv : (i : ℕ) (xs : List ℕ) (t : Option Title) → Octets xs → title_by i xs ≡ accepted t → HasTitle i xs t
title_inv i xs t o e =
    ⊎_elim
    (λ (n, e). subst (λ (i : ℕ). HasTitle i xs t) (sym n) (no_title_lem xs t e))
    (λ (_, e). ⊎_elim
    (λ (n, e). subst (λ (i : ℕ). HasTitle i xs t) (sym n) (title_in_lem xs t o e))
    (λ (_, e). absurd (never e))
    (chosen i 4 _ _ e))
    (chosen i 0 _ _ e)

-- A title that is written is read back, from octets.
pub record TitleBack (title : Option Title) (os : List ℕ) : Type 0 where
  pub reads : title_by (pick (is_some title) 4 0) os ≡ accepted title
  pub octets : Octets os
  pub short : length os ≤ 131

pub title_back :
    (title : Option Title) (os : List ℕ)
    → HeldIn title
    → absent_or title_converts title ≡ true
    → title_octets title ≡ accepted os
    → TitleBack title os
title_back None os h c e = subst (TitleBack None) (accepted_inj e) (record { reads = refl; octets = tt; short = omega arith })
title_back (Some t) os h c e =
    let (ps, hw, same) = mapped_inv {B = List ℕ} _ (write_digits built_in t.digits) e in
    let k = title_converts_lem t c in
    let d = digit-octets built_in built_in_lawful t.digits ps hw in
    let b = digits-read_back h.octets h.count t.digits ps h.all h.digits hw h.few in
    let scheme : (t.np * 16 + (2 - length t.digits % 2)) % 16 ≡ 2 - length t.digits % 2 = omega arith in
    let plan : (t.np * 16 + (2 - length t.digits % 2)) / 16 ≡ t.np = omega arith in
    subst (TitleBack (Some t)) same (record {
      reads = rw (le-leb t.noa 127 k.nature, scheme, plan, b, ← k.indicator);
      octets = (h.type, (omega (arith, k.plan), (omega (arith, k.nature), d.octets)));
      short = omega (arith, d.count, ap length h.digits, read_at_most built_in h.octets h.count h.few);
    })
