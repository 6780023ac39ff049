-- The records that one pass keeps: for each of a list of tags, the first record with it.
use Rattle.std.specs.Prelude.{ℕ, suc, List, [], ◌∷◌, map, take, eqb}
use Rattle.std.specs.Prelude.{Option, None, Some, option_map, Err}
use Rattle.bcd.specs.Outcome.{Outcome, pick, mapped}
use Rattle.parameter.specs.declared.Place.{Place}
use Rattle.parameter.specs.Table.{Table, records, first_with}
use Rattle.bcd.specs.declared.error.Refusal.{Refusal}
use Rattle.lookup.specs.declared.screen.Screen.{Screen}

-- The tags of the handling fields, in the order in which their records are kept.
abbrev pub wanted : List ℕ
wanted = 0x0006 ∷ 0x0115 ∷ 0x0116 ∷ 0x0101 ∷ 0x0106 ∷ 0x0102 ∷ 0x0103 ∷ []

-- The place of a tag among tags; none where it is not among them.
abbrev pub place_among : List ℕ → ℕ → Option ℕ
place_among [] tag = None
place_among (t ∷ ts) tag = pick (eqb tag t) (Some 0) (option_map (λ n. suc n) (place_among ts tag))

-- The first record with each tag; 15 looks at every record.
unfoldable pub first_of : (tags : List ℕ) → List ℕ → Table → (count : ℕ) → Outcome (List (Option Place))
first_of tags values t count = mapped (λ ps. map (λ tag. first_with tag (take count t)) tags) (records values t count)

-- One refusal in every field.
abbrev pub refused_screen : Refusal → Screen
refused_screen r = record {
  routing_context = Err r;
  protocol_class = Err r;
  sequence_control = Err r;
  ss7_hop_count = Err r;
  sccp_cause = Err r;
  source_address = Err r;
  destination_address = Err r;
}
