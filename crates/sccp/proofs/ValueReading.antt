-- An address value that was read, by the parts that the walk keeps: whether it converts, and what it tells.
use Prim.Native.Nat.{ℕ}
use mathlib.Core.Path.{◌≡◌, refl, sym, ap, ◌∙◌}
use mathlib.Core.Bool.{Bool, true, false, ◌&&◌}
use mathlib.Core.List.{List, [], ◌∷◌, map}
use native.Mathlib.Omega.{arith}
use borrow.Author.Tests.{ne_eqb}
use denote.Enum.Bare.{sameb}
use lib.Dec.{leb, eqb}
use lib.ListN.{length, get_or, length-map}
use Rattle.std.specs.Prelude.{Option, is_some}
use Rattle.bcd.specs.Outcome.{Outcome, accepted, refused, pick, after, demand}
use Rattle.bcd.specs.Answers.{refusal_of}
use Rattle.bcd.specs.declared.error.Refusal.{Refusal}
use Rattle.bcd.specs.Digits.{built_in}
use Rattle.bcd.proofs.Outcomes.{accepted_inj, never, demand_inv}
use Rattle.bcd.proofs.Results.{refusal_as}
use Rattle.parameter.specs.Parameter.{Param, four_in, two_at}
use Rattle.parameter.specs.Walk.{valued}
use Rattle.address.specs.Address as Sua
use Rattle.address.specs.Address.{Address, title_at, address_with, bit, routing_in, read_address}
use Rattle.address.specs.Records.{routing_value}
use Rattle.address.specs.declared.RoutingIndicator.{RoutingIndicator}
use Rattle.address.specs.declared.RoutingIndicator.TheVariants as I
use Rattle.address.specs.contracts.RoutingIndicator.{the_type}
use Rattle.address.specs.Listing.{other_places}
use Rattle.address.specs.Parts.{kept_title, kept_code, kept_sub}
use Rattle.address.specs.Steps.Plan.{Read}
use Rattle.address.specs.declared.parts.Parts.{Parts}
use Rattle.address.proofs.Interpreting.{title_holds, code_holds, sub_holds, others_hold}
use Rattle.address.proofs.Interpreted.{read_whole}
use Rattle.address.proofs.Others.{count_known}
use Rattle.address.proofs.Planning.{kept-some}
use Rattle.sccp.specs.Sccp.{with_parts, same, routes, alone, absent_or, title_converts, converts}
use Rattle.sccp.specs.Steps.{plain_parts, convertible}
use Rattle.sccp.proofs.Parts.{code_small}
use Rattle.sccp.proofs.Parties.{passes, whole}

-- The address of what is kept, and the others.
abbrev pub kept_address : List ℕ → Parts → List Param → Address
kept_address v s others = record {
  routing = two_at v 0;
  gt = bit 4 (get_or v 3 0);
  pc = bit 2 (get_or v 3 0);
  ssn = bit 1 (get_or v 3 0);
  title = kept_title built_in v s.title;
  code = kept_code v s.code;
  sub = kept_sub v s.ssn;
  others = others;
}

alone-counted : (ps : List Param) → alone ps ≡ eqb (length ps) 0
alone-counted [] = refl
alone-counted (p ∷ ps) = sym (ne_eqb (length (p ∷ ps)) 0 (λ e. omega arith))

regrouped : (p a b c e t : Bool) → p && ((a && (b && c)) && (e && t)) ≡ (p && (a && (b && (c && e)))) && t
regrouped true true true c e t = go c
  where
    go : (c : Bool) → c && (e && t) ≡ (c && e) && t
    go true = refl
    go false = refl
regrouped true true false c e t = refl
regrouped true false b c e t = refl
regrouped false a b c e t = refl

-- The routing indicator that was read.
pub routed_as : (n m : ℕ) → accepted n ≡ routing_in m → m ≡ n
routed_as n m e = let (t, same) = demand_inv (leb m 4) 8 (m ∷ []) (accepted m) (sym e) in accepted_inj same

-- The routing by the code's test.
abbrev pub on_title : RoutingIndicator → Bool
on_title i = sameb the_type i I.RouteOnGlobalTitle

routing_told : (i : RoutingIndicator) → routes (routing_value i) ≡ true → pick (on_title i) 1 2 ≡ routing_value i
routing_told I.Reserved e = let z : ◌≡◌ {A = ℕ} 0 1 = cc in absurd (omega arith)
routing_told I.RouteOnGlobalTitle e = refl
routing_told I.RouteOnSsnAndPc e = refl
routing_told I.RouteOnHostname e = let z : ◌≡◌ {A = ℕ} 0 1 = cc in absurd (omega arith)
routing_told I.RouteOnSsnAndIp e = let z : ◌≡◌ {A = ℕ} 0 1 = cc in absurd (omega arith)

-- What converts is itself.
pub convertible_inv : {X : Type 0} (test : X → Bool) (x y : X) → accepted y ≡ convertible test x → (test x ≡ true) × (x ≡ y)
convertible_inv test x y e = let (t, same) = demand_inv (test x) 17 [] (accepted x) (sym e) in (t, accepted_inj same)

-- What is refused for a part is refused for the whole.
refused_part : {X Y : Type 0} (r : Refusal) (t : Bool) (x : X) (y : Y) → refusal_of r ≡ demand t 17 [] (accepted x) → refusal_of r ≡ demand t 17 [] (accepted y)
refused_part r true x y e = absurd (never e)
refused_part {Y = Y} r false x y e = refusal_as Y r e

refused_both : {X Y : Type 0} (r : Refusal) (t b : Bool) (x : X) (y : Y) → refusal_of r ≡ demand t 17 [] (accepted x) → refusal_of r ≡ demand (t && b) 17 [] (accepted y)
refused_both r true b x y e = absurd (never e)
refused_both {Y = Y} r false b x y e = refusal_as Y r e

module _ {v : List ℕ} {s : Parts} (r : Read v s) where
  abbrev others : List Param
  others = map (valued v) (other_places r.known.places)

  abbrev kept : Address
  kept = kept_address v s others

  others_count : length others ≡ s.other_count
  others_count = length-map (other_places r.known.places) (valued v) ∙ sym (count_known r.known)

  read_kept : read_address built_in v ≡ accepted kept
  unfolding address_with
  read_kept =
      let ps = r.known.places in
      read_whole r ∙ rw (title_holds built_in v ps, code_holds built_in v ps, sub_holds built_in v ps, others_hold built_in v ps, ← r.known.parts)

  abbrev fits : Bool
  fits = absent_or title_converts kept.title && absent_or code_small kept.code

  converts_by : converts kept ≡ plain_parts v s && fits
  unfolding converts
  converts_by =
      rw (
        kept-some (title_at built_in) v s.title,
        kept-some four_in v s.code,
        kept-some (λ w. get_or w 3 0) v s.ssn,
        alone-counted others,
        others_count,
      )
      (regrouped (routes (two_at v 0)) (same (bit 4 (get_or v 3 0)) (is_some s.title)) (same (bit 2 (get_or v 3 0)) (is_some s.code)) (same (bit 1 (get_or v 3 0)) (is_some s.ssn)) (eqb s.other_count 0) fits)

  answer : after (read_address built_in v) (convertible converts) ≡ demand (plain_parts v s && fits) 17 [] (accepted kept)
  answer = ap (λ (o : Outcome Address). after o (convertible converts)) read_kept ∙ ap (λ (t : Bool). demand t 17 [] (accepted kept)) converts_by

  pub not_plain : plain_parts v s ≡ false → refused 17 [] ≡ after (read_address built_in v) (convertible converts)
  not_plain e = rw (answer, e)

  module _ (plain : plain_parts v s ≡ true) where
    answer_fits : after (read_address built_in v) (convertible converts) ≡ demand fits 17 [] (accepted kept)
    answer_fits = rw (answer, plain)

    pub no_title :
        (x : Refusal)
        → refusal_of x ≡ convertible (absent_or title_converts) (kept_title built_in v s.title)
        → refusal_of x ≡ after (read_address built_in v) (convertible converts)
    no_title x e =
        let t = absent_or title_converts (kept_title built_in v s.title) in
        refused_both x t (absent_or code_small (kept_code v s.code)) _ kept e ∙ sym answer_fits

    module _ {title : Option Sua.Title} (titled : accepted title ≡ convertible (absent_or title_converts) (kept_title built_in v s.title)) where
      pub no_code :
          (x : Refusal)
          → refusal_of x ≡ convertible (absent_or code_small) (kept_code v s.code)
          → refusal_of x ≡ after (read_address built_in v) (convertible converts)
      no_code x e =
          let t = (convertible_inv (absent_or title_converts) (kept_title built_in v s.title) title titled).0 in
          refused_part x (absent_or code_small (kept_code v s.code)) _ kept e ∙ sym (answer_fits ∙ ap (λ (t : Bool). demand (t && absent_or code_small (kept_code v s.code)) 17 [] (accepted kept)) t)

      pub converted :
          {code sub : Option ℕ} (i : RoutingIndicator)
          → accepted (routing_value i) ≡ routing_in (two_at v 0)
          → accepted code ≡ convertible (absent_or code_small) (kept_code v s.code)
          → sub ≡ kept_sub v s.ssn
          → accepted (with_parts (pick (on_title i) 1 2) code sub title) ≡ after (read_address built_in v) (convertible converts)
      converted {code} {sub} i routed coded subbed =
          let t = convertible_inv (absent_or title_converts) (kept_title built_in v s.title) title titled in
          let c = convertible_inv (absent_or code_small) (kept_code v s.code) code coded in
          let p = passes kept (rw (converts_by, plain, t.0, c.0)) in
          let n = routed_as (routing_value i) (two_at v 0) routed in
          let same : with_parts (pick (on_title i) 1 2) code sub title ≡ kept =
          rw (routing_told i (rw n at p.routing), ← n, ← c.1, subbed, ← t.1) (whole kept p) in
          ap accepted same ∙ sym (rw (answer_fits, t.0, c.0))
