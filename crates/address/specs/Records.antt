-- What the records and answers of the code stand for.
use Rattle.std.specs.Prelude.{ℕ, true, false, List, [], ◌∷◌, take, leb}
use Rattle.std.specs.Prelude.{Option, None, Some, option_map, is_some}
use Rattle.bcd.specs.Outcome.{Outcome, accepted, demand, mapped}
use Rattle.parameter.specs.Parameter.{Param}
use Rattle.address.specs.Address.{Title, Address}
use Rattle.address.specs.declared.RoutingIndicator.{RoutingIndicator}
use Rattle.address.specs.declared.RoutingIndicator.TheVariants as I
use Rattle.address.specs.declared.GlobalTitle.{GlobalTitle}
use Rattle.address.specs.declared.SuaAddress.{SuaAddress}

-- The number of a routing indicator (RFC 3868, 3.10.2.1).
abbrev pub routing_value : RoutingIndicator → ℕ
routing_value I.Reserved = 0
routing_value I.RouteOnGlobalTitle = 1
routing_value I.RouteOnSsnAndPc = 2
routing_value I.RouteOnHostname = 3
routing_value I.RouteOnSsnAndIp = 4

-- The title that a record stands for: the count says how many of its 255 digits there are; those that are absent are no part of it.
abbrev pub title_of : GlobalTitle → Title
title_of g = record {
  gti = g.gti;
  tt = g.translation_type;
  np = g.numbering_plan;
  noa = g.nature_of_address;
  digits = take g.count g.digits;
}

-- Writing takes it, unless the count is above 255: 11 (document 01, 'Refused because of the input').
abbrev pub title_given : GlobalTitle → Outcome Title
title_given g = demand (leb g.count 255) 11 (g.count ∷ []) (accepted (title_of g))

-- The title of a record, if it is there: 11.
abbrev pub part_given : Option GlobalTitle → Outcome (Option Title)
part_given None = accepted None
part_given (Some g) = mapped Some (title_given g)

-- The address that a record stands for, with the other sub-parameters that its records in a lent table stand for.
abbrev pub address_of : SuaAddress → List Param → Address
address_of a others = record {
  routing = routing_value a.routing_indicator;
  gt = a.include_gt;
  pc = a.include_pc;
  ssn = a.include_ssn;
  title = option_map title_of a.global_title;
  code = a.point_code;
  sub = a.ssn;
  others = others;
}

-- Writing takes it, unless its title is there with a count above 255: 11.
abbrev pub address_given : SuaAddress → List Param → Outcome Address
address_given a others = mapped (λ t. address_of a others) (part_given a.global_title)

-- The record of a title.
abbrev pub title_record : (gti tt np noa : ℕ) → (digits : List ℕ) → (count absent : ℕ) → GlobalTitle
title_record gti tt np noa digits count absent = record {
  gti = gti;
  translation_type = tt;
  numbering_plan = np;
  nature_of_address = noa;
  digits = digits;
  count = count;
  absent = absent;
}

-- Routed on the title, with or without an SSN; what is there is included (address.rs, `with_gt`).
abbrev pub with_gt : GlobalTitle → Option ℕ → SuaAddress
with_gt gt ssn = record {
  routing_indicator = I.RouteOnGlobalTitle;
  include_gt = true;
  include_pc = false;
  include_ssn = is_some ssn;
  global_title = Some gt;
  point_code = None;
  ssn = ssn;
  other_count = 0;
}

-- Routed on SSN and point code; both are included (address.rs, `with_ssn_pc`).
abbrev pub with_ssn_pc : (ssn code : ℕ) → SuaAddress
with_ssn_pc ssn code = record {
  routing_indicator = I.RouteOnSsnAndPc;
  include_gt = false;
  include_pc = true;
  include_ssn = true;
  global_title = None;
  point_code = Some code;
  ssn = Some ssn;
  other_count = 0;
}
