-- An address value that was read, as a record.
use Prim.Native.Nat.{ℕ, zero, suc, ◌+◌, ◌≤◌}
use mathlib.Core.Path.{◌≡◌, refl, sym, ap, ◌∙◌}
use mathlib.Core.Bool.{Bool}
use Rattle.std.specs.Prelude.{Option, None, Some, option_map}
use mathlib.Core.List.{List, map}
use native.Mathlib.Omega.{arith}
use borrow.Author.Tests.{le-leb}
use lib.ListN.{length, get_or, drop, length-map}
use Rattle.bcd.specs.Outcome.{accepted, mapped, Octets}
use Rattle.bcd.specs.Digits.{built_in}
use Rattle.bcd.proofs.Outcomes.{accepted_inj}
use Rattle.parameter.specs.Parameter.{Param, two_at}
use Rattle.parameter.specs.Walk.{valued, parameters}
use Rattle.parameter.specs.declared.Place.{Place}
use Rattle.address.specs.Address.{Title, Address, last, address_with, bit, routing_in, read_address}
use Rattle.address.specs.Records.{routing_value, address_of, title_of}
use Rattle.address.specs.Titles.{record_of}
use Rattle.address.specs.Absent.{record_at, title_value, absent_in}
use Rattle.address.specs.Steps.Kept.{kept_record}
use Rattle.address.specs.Listing.{other_places, routing_named, address_record}
use Rattle.address.specs.Parts.{kept_title, kept_code, kept_sub}
use Rattle.address.specs.Steps.Plan.{HeldIn, Read}
use Rattle.address.specs.declared.GlobalTitle.{GlobalTitle}
use Rattle.address.specs.declared.RoutingIndicator.{RoutingIndicator}
use Rattle.address.specs.declared.SuaAddress.{SuaAddress}
use Rattle.address.specs.declared.parts.Parts.{Parts}
use Rattle.address.proofs.Keeping.{value_at}
use Rattle.address.proofs.Absent.{params_known, value_holds, absent_kept, absent_known}
use Rattle.address.proofs.Interpreting.{title_holds, code_holds, sub_holds, others_hold}
use Rattle.address.proofs.Interpreted.{address, read_whole, accepted_read, title_kept}
use Rattle.address.proofs.Others.{count_known}
use Rattle.address.proofs.Records.{named_back}
use Rattle.address.proofs.TitleRecords.{record_back}

pub sub-kept : (v : List ℕ) (p : Place) → HeldIn v 4 (Some p) → ◌≡◌ {A = Option ℕ} (Some (get_or v (p.start + 3) 0)) (kept_sub v (Some p))
sub-kept v p h = ap Some (sym (value_at v p 3 (omega (arith, h.1))))

-- The record of the title that is kept.
kept_recorded : {v : List ℕ} {s : Parts} (r : Read v s) → option_map (record_of (absent_in built_in v)) (kept_title built_in v s.title) ≡ kept_record built_in v s.title
kept_recorded {v} {s} r = rw (absent_known built_in r) (go s.title)
  where
    go : (k : Option Place) → option_map (record_of (absent_kept built_in v k)) (kept_title built_in v k) ≡ kept_record built_in v k
    go None = refl
    go (Some p) = refl

-- The record of the parts that the walk keeps.
abbrev parts_record : List ℕ → Parts → SuaAddress
parts_record v s = record {
  routing_indicator = routing_named (two_at v 0);
  include_gt = bit 4 (get_or v 3 0);
  include_pc = bit 2 (get_or v 3 0);
  include_ssn = bit 1 (get_or v 3 0);
  global_title = kept_record built_in v s.title;
  point_code = kept_code v s.code;
  ssn = kept_sub v s.ssn;
  other_count = s.other_count;
}

record_known : {v : List ℕ} {s : Parts} (r : Read v s) → address_record (absent_in built_in v) (address r.known) ≡ parts_record v s
unfolding address_with
record_known {v} {s} r =
    let ps = r.known.places in
    let count : length (map (valued v) (other_places ps)) ≡ s.other_count = length-map (other_places ps) (valued v) ∙ sym (count_known r.known) in
    rw (title_holds built_in v ps, code_holds built_in v ps, sub_holds built_in v ps, others_hold built_in v ps, ← r.known.parts, count, kept_recorded r)

pub routing_kept : (n : ℕ) (i : RoutingIndicator) → accepted (routing_value i) ≡ routing_in n → n ≤ 4 → i ≡ routing_named n
routing_kept n i e h = sym (named_back i) ∙ ap routing_named (accepted_inj (e ∙ rw (le-leb n 4 h)))

-- A record of these fields is the address's.
pub record_made :
    {v : List ℕ} {s : Parts} (r : Read v s) (i : RoutingIndicator) (gt pc ssn : Bool) (g : Option GlobalTitle) (c u : Option ℕ)
    → i ≡ routing_named (two_at v 0)
    → gt ≡ bit 4 (get_or v 3 0)
    → pc ≡ bit 2 (get_or v 3 0)
    → ssn ≡ bit 1 (get_or v 3 0)
    → g ≡ kept_record built_in v s.title
    → c ≡ kept_code v s.code
    → u ≡ kept_sub v s.ssn
    → accepted (record {
      routing_indicator = i;
      include_gt = gt;
      include_pc = pc;
      include_ssn = ssn;
      global_title = g;
      point_code = c;
      ssn = u;
      other_count = s.other_count;
    }) ≡ mapped (address_record (absent_in built_in v)) (read_address built_in v)
record_made {v} r i gt pc ssn g c u e1 e2 e3 e4 e5 e6 e7 =
    rw (e1, e2, e3, e4, e5, e6, e7) (ap accepted (sym (record_known r)) ∙ sym (ap (mapped (address_record (absent_in built_in v))) (read_whole r)))

named_value : (n : ℕ) → n ≤ 4 → routing_value (routing_named n) ≡ n
named_value zero h = refl
named_value (suc zero) h = refl
named_value (suc (suc zero)) h = refl
named_value (suc (suc (suc zero))) h = refl
named_value (suc (suc (suc (suc zero)))) h = refl
named_value (suc (suc (suc (suc (suc n))))) h = absurd (omega arith)

title_back : (absent : ℕ) (t : Option Title) → option_map title_of (option_map (record_of absent) t) ≡ t
title_back absent None = refl
title_back absent (Some t) = ap Some (record_back absent t)

-- The record of an address that was read stands for that address, with its others, however many digits are absent.
pub address_back : (absent : ℕ) (a : Address) → a.routing ≤ 4 → address_of (address_record absent a) a.others ≡ a
address_back absent a h = rw (named_value a.routing h, title_back absent a.title)

-- The title of the record is what the value of the last title's sub-parameter is read as, digits and absent ones alike.
pub title_of_last :
    (v : List ℕ) (a : Address)
    → Octets v
    → read_address built_in v ≡ accepted a
    → (ps : List Param)
    × (parameters (drop 4 v) ≡ accepted ps)
    × ((address_record (absent_in built_in v) a).global_title ≡ option_map (record_at built_in) (last title_value ps))
title_of_last v a o e =
    let (s, r) = accepted_read o e in (
      map (valued v) r.known.places,
      params_known r,
      ap (option_map (record_of (absent_in built_in v))) (sym (title_kept r a e))
          ∙ kept_recorded r
          ∙ ap (option_map (record_at built_in)) (sym (value_holds r)),
    )
