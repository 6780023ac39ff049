-- The screen: its worked examples by computation, and 15, which answers in all seven fields.
use Prim.Native.Nat.{ℕ}
use mathlib.Core.Path.{◌≡◌, refl}
use Rattle.std.specs.Prelude.{Option, None, Some}
use mathlib.Core.List.{List, [], ◌∷◌}
use lib.ListN.{take}
use Rattle.bcd.specs.Outcome.{Outcome, accepted, refused}
use Rattle.bcd.specs.Digits.{halves, digits_in}
use Rattle.parameter.specs.Parameter.{Param, four_in, two_at}
use Rattle.parameter.specs.Walk.{headed, step_at, steps, places, parameters}
use Rattle.parameter.specs.Table.{Table, tabulate, rows, record_in, records, first_with, find_param}
use Rattle.address.specs.Address.{title_in, piece_in, address_with, address_in, read_address}
use Rattle.address.specs.Absent.{absent_in}
use Rattle.address.specs.Listing.{address_places, Listed, list_address}
use Rattle.lookup.specs.declared.SccpCause.{SccpCause}
use Rattle.lookup.specs.Accessors.{of_four, read_at, first_read, fourth, cause_in, list_address_at, address_found}
use Rattle.lookup.specs.Screen.{Handling, handling}
use Rattle.lookup.specs.Worked.{worked_values, worked_table, room_for_one, room_for_none, worked_fields, worked_source, worked_destination, refused_with, all_refused, all_outside}

-- The same fields are the same handling.
pub same-handling :
    {context context₁ class class₁ control control₁ hops hops₁ : Outcome (Option ℕ)} {cause cause₁ : Outcome (Option SccpCause)} {source source₁ destination destination₁ : Listed}
    → context ≡ context₁
    → class ≡ class₁
    → control ≡ control₁
    → hops ≡ hops₁
    → cause ≡ cause₁
    → source ≡ source₁
    → destination ≡ destination₁
    → ◌≡◌ {A = Handling} (record { context = context; class = class; control = control; hops = hops; cause = cause; source = source; destination = destination })
    (record { context = context₁; class = class₁; control = control₁; hops = hops₁; cause = cause₁; source = source₁; destination = destination₁ })
same-handling a b c d e f g = rw (a, b, c, d, e, f, g)

-- Both addresses, the destination's title without the digits that it declares; a routing context of three octets, and a later one of four; no source; no room for the source's other; a last
-- record that ends behind the values.
pub worked_screens :
    ◌≡◌ {A = List Handling}
    (handling worked_values (worked_table 0x0102 4 20) 14 room_for_one room_for_one
    ∷ handling worked_values (worked_table 0x0102 3 20) 14 room_for_one room_for_one
    ∷ handling worked_values (worked_table 0 4 20) 14 room_for_one room_for_one
    ∷ handling worked_values (worked_table 0x0102 4 20) 14 room_for_none room_for_one
    ∷ handling worked_values (worked_table 0x0102 4 49) 14 room_for_one room_for_one
    ∷ [])
    (worked_fields (Some 7) worked_source worked_destination
    ∷ worked_fields None worked_source worked_destination
    ∷ worked_fields (Some 7) (refused_with 7 (0x0102 ∷ []) room_for_one) worked_destination
    ∷ worked_fields (Some 7) (refused_with 13 (1 ∷ []) room_for_none) worked_destination
    ∷ all_outside room_for_one room_for_one
    ∷ [])
unfolding
    first_read address_found list_address_at list_address address_places tabulate read_address address_in parameters places steps step_at headed two_at piece_in title_in digits_in halves absent_in address_with
    find_param records rows record_in
worked_screens = refl

-- Where the records are refused, so is each field, and both tables stay as they were.
module _ (values : List ℕ) (t : Table) (count n : ℕ) (vs : List ℕ) (e : records values t count ≡ refused n vs) where
  number_refused : {A : Type 0} (read : List ℕ → Option A) (tag : ℕ) → first_read read tag values t count ≡ refused n vs
  unfolding first_read find_param
  number_refused read tag = rw e

  address_refused : (tag : ℕ) (held : Table) → address_found tag values (find_param values t count tag) held ≡ refused_with n vs held
  unfolding address_found find_param
  address_refused tag held = rw e

  pub refused_in_all : (source destination : Table) → handling values t count source destination ≡ all_refused n vs source destination
  refused_in_all source destination =
      same-handling
      (number_refused (of_four four_in) 0x0006)
      (number_refused (of_four fourth) 0x0115)
      (number_refused (of_four four_in) 0x0116)
      (number_refused (of_four fourth) 0x0101)
      (number_refused (of_four cause_in) 0x0106)
      (address_refused 0x0102 source)
      (address_refused 0x0103 destination)

-- A record that reaches outside is 15 in all seven, and both tables stay as they were.
module _ (values : List ℕ) (t : Table) (count : ℕ) (e : records values t count ≡ refused 15 []) where
  pub outside_in_all : (source destination : Table) → handling values t count source destination ≡ all_outside source destination
  outside_in_all = refused_in_all values t count 15 [] e

-- Where the records lie inside, each field is what the first record with its tag reads as.
module _ (values : List ℕ) (t : Table) (count : ℕ) (ps : List Param) (e : records values t count ≡ accepted ps) where
  number_known : {A : Type 0} (read : List ℕ → Option A) (tag : ℕ) → first_read read tag values t count ≡ accepted (read_at read values (first_with tag (take count t)))
  unfolding first_read find_param
  number_known read tag = rw e

  address_known : (tag : ℕ) (held : Table) → address_found tag values (find_param values t count tag) held ≡ address_found tag values (accepted (first_with tag (take count t))) held
  unfolding find_param
  address_known tag held = rw e

  pub known_in_all :
      (source destination : Table)
      → handling values t count source destination
      ≡ record {
        context = accepted (read_at (of_four four_in) values (first_with 0x0006 (take count t)));
        class = accepted (read_at (of_four fourth) values (first_with 0x0115 (take count t)));
        control = accepted (read_at (of_four four_in) values (first_with 0x0116 (take count t)));
        hops = accepted (read_at (of_four fourth) values (first_with 0x0101 (take count t)));
        cause = accepted (read_at (of_four cause_in) values (first_with 0x0106 (take count t)));
        source = address_found 0x0102 values (accepted (first_with 0x0102 (take count t))) source;
        destination = address_found 0x0103 values (accepted (first_with 0x0103 (take count t))) destination;
      }
  known_in_all source destination =
      same-handling
      (number_known (of_four four_in) 0x0006)
      (number_known (of_four fourth) 0x0115)
      (number_known (of_four four_in) 0x0116)
      (number_known (of_four fourth) 0x0101)
      (number_known (of_four cause_in) 0x0106)
      (address_known 0x0102 source)
      (address_known 0x0103 destination)
