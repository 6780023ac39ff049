-- What is kept of an address value, as the parts of the address; and the refusal of a sub-parameter that is too short.
use Rattle.std.specs.Prelude.{ℕ, Bool, true, false, List, [], ◌∷◌, ◌++◌, map, eqb}
use Rattle.std.specs.Prelude.{Option, None, Some, option_map}
use Rattle.bcd.specs.Outcome.{Outcome, refused}
use Rattle.bcd.specs.Digits.{Alphabet}
use Rattle.parameter.specs.Walk.{valued}
use Rattle.parameter.specs.declared.Place.{Place}
use Rattle.address.specs.Address.{Piece, title, code, sub, other, present}
use Rattle.address.specs.Absent.{record_at}
use Rattle.address.specs.Listing.{other_places}
use Rattle.address.specs.Parts.{kept_value, kept_title, kept_code, kept_sub}
use Rattle.address.specs.declared.GlobalTitle.{GlobalTitle}
use Rattle.address.specs.declared.parts.Parts.{Parts}

-- The refusal of a sub-parameter that is too short for its tag.
abbrev pub short_by : (is_title : Bool) → Place → ℕ × List ℕ
short_by true p = (1, 8 ∷ p.length ∷ [])
short_by false p = (6, p.tag ∷ 4 ∷ p.length ∷ [])

abbrev pub short_numbers : Place → ℕ × List ℕ
short_numbers p = short_by (eqb p.tag 0x8001) p

abbrev pub short_refusal : {X : Type 0} → Place → Outcome X
short_refusal p = refused (short_numbers p).0 (short_numbers p).1

abbrev pub judged : {X : Type 0} → Option Place → Outcome X → Outcome X
judged None o = o
judged (Some p) o = short_refusal p

-- The record of the title that is kept.
abbrev pub kept_record : Alphabet → List ℕ → Option Place → Option GlobalTitle
kept_record A v k = option_map (record_at A) (kept_value v k)

-- The pieces that are written, in their order.
unfoldable pub kept_pieces : Alphabet → List ℕ → Parts → List Place → List Piece
kept_pieces A v s ps =
    present title (kept_title A v s.title)
    ++ (present code (kept_code v s.code) ++ (present sub (kept_sub v s.ssn) ++ map other (map (valued v) (other_places ps))))
