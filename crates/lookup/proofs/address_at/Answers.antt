-- `lookup::address_at` meets its contract: the starts that reading the value stored are moved by its start.
use Rattle.std.proofs.Common.{◌≡◌, ◌∙◌, ◌++◌, sym, ap, ℕ, drop, List, Fits, w8, get_or, arith}
use lib.Seq.{length-take-le}
use Rattle.bcd.specs.Outcome.{Outcome, accepted}
use Rattle.bcd.proofs.Outcomes.{octets-of}
use Rattle.bcd.proofs.Results.{exit}
use Rattle.parameter.specs.declared.Place.{Place}
use Rattle.parameter.specs.Walk.{valued}
use Rattle.parameter.specs.Table.{Table}
use Rattle.address.specs.Listing.{listed, list_address}
use Rattle.address.specs.declared.SuaAddress.{SuaAddress}
use Rattle.lookup.specs.Accessors.{address_found}
use Rattle.lookup.proofs.Accessing.{value-octets}
use Rattle.lookup.proofs.Addresses.{Stored, stored, rows_few, rows_fit, stored-moved, refused-listed, value_small, address-there}
use Rattle.lookup.proofs.address_at.Goals as goal

-- what reading the value tells, of its octets in the values
module _ (values : List ℕ) (p : Place) (t : Table) {v : List ℕ} {held : Table} {o : Outcome SuaAddress} (part : v ≡ (valued values p).value) (read : listed o held ≡ list_address v t) where
  listing : listed o held ≡ list_address (valued values p).value t
  listing = read ∙ ap (λ (v : List ℕ). list_address v t) part

module _ (values : List ℕ) (p : Place) (t : Table) {v : List ℕ} {held : Table} {a : SuaAddress} (fits : (i : ℕ) → Fits w8 (get_or values i 0))
    (part : v ≡ (valued values p).value) (read : listed (accepted a) held ≡ list_address v t) where
  rows_stored : Stored (valued values p).value t a held
  rows_stored = stored (value-octets values p (octets-of values (λ i. (fits i).fits))) (listing values p t part read)

pub slice_bounds-move_starts-end : goal.slice_bounds-move_starts-end
slice_bounds-move_starts-end c = rows_few (rows_stored c.args.values.now c.in-Some.place c.args.others.now c.type_inv.values c.value.ensures c.in_ok-address.ensures)

pub slice_bounds-move_starts-end-2 : goal.slice_bounds-move_starts-end-2
slice_bounds-move_starts-end-2 c =
    sym (length-take-le c.in_ok-address.address.other_count c.decode.new.rows
    (rows_few (rows_stored c.args.values.now c.in-Some.place c.args.others.now c.type_inv.values c.value.ensures c.in_ok-address.ensures)))

pub move_starts-requires : goal.move_starts-requires
move_starts-requires c =
    rows_fit (rows_stored c.args.values.now c.in-Some.place c.args.others.now c.type_inv.values c.value.ensures c.in_ok-address.ensures)
    c.in-Some.place.start (value_small c.args.values.now c.in-Some.place (omega arith) (omega arith))

pub returns : goal.returns
returns c =
    let values = c.args.values.now in
    let a = c.in_ok-address.address in
    let p = c.in-Some.place in
    ap (λ rows. listed (accepted a) (rows ++ drop a.other_count c.decode.new.rows)) c.move_starts.ensures
    ∙ stored-moved (rows_stored values p c.args.others.now c.type_inv.values c.value.ensures c.in_ok-address.ensures) p.start
    (listing values p c.args.others.now c.value.ensures c.in_ok-address.ensures)
    ∙ address-there c.args.tag values p c.args.others.now
    ∙ ap (λ found. address_found c.args.tag values (accepted found) c.args.others.now) (sym c.in-Some.is)

pub returns-in_err-address : goal.returns-in_err-address
returns-in_err-address c =
    let values = c.args.values.now in
    let p = c.in-Some.place in
    ap (λ o. listed o c.decode.new.rows) (exit c.from_residual.result _ c.from_residual.ensures.1)
    ∙ refused-listed p.start c.args.others.now (valued values p).value _ _ c.decode.new.rows
    (listing values p c.args.others.now c.value.ensures c.in_err-address.ensures)
    ∙ address-there c.args.tag values p c.args.others.now
    ∙ ap (λ found. address_found c.args.tag values (accepted found) c.args.others.now) (sym c.in-Some.is)
