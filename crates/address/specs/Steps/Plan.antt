-- An address value that was interpreted, and can be written.
use Rattle.std.specs.Prelude.{ℕ, ◌+◌, ◌%◌, ◌≤◌, ◌≡◌, List, [], ◌++◌, map, length, get_or}
use Rattle.std.specs.Prelude.{Option, None, Some, Result, Ok, Err}
use Rattle.bcd.specs.Outcome.{accepted, after, each, accepted_or, Octets, most}
use Rattle.bcd.specs.Answers.{refusal_of}
use Rattle.bcd.specs.Digits.{Alphabet, built_in}
use Rattle.bcd.specs.declared.error.Refusal.{Refusal}
use Rattle.parameter.specs.Parameter.{Param, two, two_at, run_octets, run_length, most_value}
use Rattle.parameter.specs.Walk
use Rattle.parameter.specs.Walk.{valued}
use Rattle.parameter.specs.declared.Place.{Place}
use Rattle.address.specs.Address.{sub_param, read_address, write_address}
use Rattle.address.specs.Parts.{nothing, note_all}
use Rattle.address.specs.Again.{with_unknown}
use Rattle.address.specs.Steps.Kept.{kept_pieces}
use Rattle.address.specs.Listing.{other_places}
use Rattle.address.specs.declared.parts.Parts.{Parts}
use Rattle.address.specs.declared.interpret.Digits.{Digits}
use Rattle.address.specs.declared.interpret.Digits.TheVariants as D

-- A sub-parameter that is kept lies inside the value, and has so many octets or more.
abbrev pub HeldIn : List ℕ → (least : ℕ) → Option Place → Type 0
HeldIn v least None = Unit {0}
HeldIn v least (Some p) = (p.start + p.length ≤ length v) × (least ≤ p.length)

-- An address value that reads without refusal but for a sub-parameter that is too short.
pub record Walked (v : List ℕ) (s : Parts) : Type 0 where
  pub octets : Octets v
  pub within : length v ≤ most
  pub long : 4 ≤ length v
  pub routing : two_at v 0 ≤ 4
  pub places : List Place
  pub walked : Walk.places v 4 ≡ accepted places
  pub parts : s ≡ note_all nothing places

-- An address value that reads without refusal.
pub record Read (v : List ℕ) (s : Parts) : Type 0 where
  pub known : Walked v s
  pub whole : s.short ≡ None

-- The octets in front of the sub-parameters: the routing indicator, and the three bits of the address indicator.
abbrev pub head_octets : List ℕ → List ℕ
head_octets v = two (two_at v 0) ++ two (get_or v 3 0 % 8)

abbrev pub wire_of : List ℕ → List Param → List ℕ
wire_of v qs = head_octets v ++ run_octets qs

-- One that can be written, as so many octets. The first argument is the alphabet of the digits.
pub record Plan (A : Alphabet) (v : List ℕ) (s : Parts) (total : ℕ) : Type 0 where
  pub read : Read v s
  pub params : List Param
  pub written : each (sub_param A) (kept_pieces built_in v s read.known.places) ≡ accepted params
  pub size : 4 + run_length params ≡ total
  pub fits : total ≤ most_value

-- The digits that are written: where they are checked, ? is none.
abbrev pub digits_by : Digits → Alphabet
digits_by D.Checked = built_in
digits_by D.Unchecked = with_unknown

-- What measuring a value that was read answers: how many octets it is written as, or why it is refused.
abbrev pub PlanOf : Alphabet → (tag : ℕ) → List ℕ → Parts → Result ℕ Refusal → Type 0
PlanOf A tag v s (Ok n) = Plan A v s n
PlanOf A tag v s (Err r) = after (read_address built_in v) (write_address A tag) ≡ refusal_of r

-- The octets of the others.
unfoldable pub others_octets : List ℕ → List ℕ
others_octets v = run_octets (map (valued v) (other_places (accepted_or [] (Walk.places v 4))))
