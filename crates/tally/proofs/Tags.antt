-- What a message adds, by numbers: only a message of class 7 and type 1 goes to a member, by its first 0x0103, and its octets are those
-- of its first 0x010B (RFC 3868, 3.1.3, 3.10).
use mathlib.Core.Path.{◌≡◌, refl, sym, ap₂, ◌∙◌}
use mathlib.Core.Bool.{true}
use mathlib.Core.Logic.{◌↔◌}
use mathlib.Core.List.{List, [], ◌∷◌, ◌++◌}
use Rattle.std.specs.Prelude.{None, Some}
use lib.ListN.{length}
use lib.Dec.{eqb}
use borrow.Author.Tests.{eqb-true, ne_eqb}
use Rattle.bcd.specs.Outcome.{accepted}
use Rattle.bcd.proofs.Outcomes.{accepted_inj}
use Rattle.bcd.proofs.Below.{both}
use Rattle.parameter.specs.Parameter.{Param}
use Rattle.address.specs.Address.{Address}
use Rattle.message.specs.declared.types.MessageType.{MessageType}
use Rattle.message.specs.declared.types.MessageType.TheVariants as T
use Rattle.message.specs.Types.{class_of, type_of, from_class_type}
use Rattle.message.proofs.Pairs.{pair_of_type}
use Rattle.form.specs.Form.{Part, raw, address}
use Rattle.tally.specs.Tally.{is_cldt, data_length, destination}
use Rattle.tally.specs.Facts.{Without}

-- The octets are those of the first 0x010B ..
pub first_data :
    (before behind : List Part) (p : Param)
    → Without 0x010B before
    → p.tag ≡ 0x010B
    → data_length (before ++ raw p ∷ behind) ≡ length p.value
first_data [] behind p none e = rw e
first_data (raw q ∷ qs) behind p none e = rw (ne_eqb q.tag 0x010B none.0) (first_data qs behind p none.1 e)
first_data (address tag a ∷ qs) behind p none e = first_data qs behind p none.1 e

-- .. and none where there is no such part.
pub no_data : (ps : List Part) → Without 0x010B ps → data_length ps ≡ 0
no_data [] none = refl
no_data (raw q ∷ qs) none = rw (ne_eqb q.tag 0x010B none.0) (no_data qs none.1)
no_data (address tag a ∷ qs) none = no_data qs none.1

-- The destination is the first 0x0103 ..
pub first_destination :
    (before behind : List Part) (a : Address)
    → Without 0x0103 before
    → destination (before ++ address 0x0103 a ∷ behind) ≡ Some a
first_destination [] behind a none = refl
first_destination (raw q ∷ qs) behind a none = first_destination qs behind a none.1
first_destination (address tag b ∷ qs) behind a none = rw (ne_eqb tag 0x0103 none.0) (first_destination qs behind a none.1)

-- .. and there is none without such a part.
pub no_destination : (ps : List Part) → Without 0x0103 ps → destination ps ≡ None
no_destination [] none = refl
no_destination (raw q ∷ qs) none = no_destination qs none.1
no_destination (address tag b ∷ qs) none = rw (ne_eqb tag 0x0103 none.0) (no_destination qs none.1)

-- A CLDT is one of the 35 types, and the pair 7, 1 is read as it.
pub one_cldt : (m : MessageType) → (is_cldt m ≡ true) ↔ (from_class_type 7 1 ≡ accepted m)
one_cldt m = (to, from)
  where
    to : is_cldt m ≡ true → from_class_type 7 1 ≡ accepted m
    to h =
        let (c, t) = both (eqb (class_of m) 7) (eqb (type_of m) 1) h in
        ap₂ from_class_type (sym (eqb-true (class_of m) 7 c)) (sym (eqb-true (type_of m) 1 t)) ∙ pair_of_type m

    from : from_class_type 7 1 ≡ accepted m → is_cldt m ≡ true
    from e = rw (accepted_inj (sym e ∙ pair_of_type T.Cldt))
