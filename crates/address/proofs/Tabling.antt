-- The places of the other sub-parameters, stored in a lent table by a walk: how far it has come.
use Prim.Native.Nat.{ℕ, suc, ◌+◌, ◌≤◌, ◌<◌}
use mathlib.Core.Path.{◌≡◌, refl, sym, ap, ◌∙◌}
use mathlib.Core.Bool.{Bool, true, false}
use mathlib.Core.List.{List, [], ◌∷◌, ◌++◌, append_assoc, append-nil}
use native.Mathlib.Omega.{arith}
use borrow.Author.Tests.{le-leb, lt-leb}
use lib.ListN.{length, get_or, set, drop, length-append, length-drop}
use lib.Seq.{drop-cons, set_at}
use Rattle.bcd.specs.Outcome.{Outcome, accepted, refused, pick, mapped, bounded, most}
use Rattle.bcd.specs.Digits.{built_in}
use Rattle.bcd.proofs.Outcomes.{accepted_inj}
use Rattle.parameter.specs.Walk.{found, step_at, places}
use Rattle.parameter.specs.Table.{Table, Tabulated, tabulated, over, tabulate}
use Rattle.parameter.specs.declared.Place.{Place}
use Rattle.parameter.proofs.Reaching.{Reached, reached_start, walk_more}
use Rattle.address.specs.Address.{read_address}
use Rattle.address.specs.Absent.{absent_in}
use Rattle.address.specs.Listing.{is_other, other_places, address_places, address_record, listed, list_address}
use Rattle.address.specs.Steps.Plan.{Walked, Read}
use Rattle.address.specs.declared.SuaAddress.{SuaAddress}
use Rattle.address.specs.declared.parts.Parts.{Parts}
use Rattle.address.proofs.Interpreted.{address, read_whole}
use Rattle.address.proofs.Others.{others-append, count_known, count_small}
use Rattle.address.proofs.Copying.{reached_front}

-- A lent table, with a sub-parameter stored in a row where it is another one.
abbrev rowed : Place → (row : ℕ) → Table → Table
rowed p row held = pick (is_other p.tag) (set held row p) held

pub record Tabling (v : List ℕ) (t₀ t : Table) (cursor row : ℕ) : Type 0 where
  pub reached : Reached v 4 cursor
  pub rows : t ≡ over (other_places reached.done) t₀
  pub place : length (other_places reached.done) ≡ row

pub tabling_start : (v : List ℕ) (t : Table) → Tabling v t t 4 0
tabling_start v t = record { reached = reached_start v 4; rows = refl; place = refl }

over-length : (ps : List Place) (t : Table) → length ps ≤ length t → length (over ps t) ≡ length t
over-length ps t h = omega (arith, length-append ps (drop (length ps) t), length-drop (length ps) t)

-- One place more, behind those that are stored.
over_more : (ps : List Place) (p : Place) (t : Table) (row : ℕ) → length ps ≡ row → row < length t → set (over ps t) row p ≡ over (ps ++ (p ∷ [])) t
over_more ps p t row e h =
    let rest = drop (suc (length ps)) t in
    let behind : drop (length ps) t ≡ get_or t (length ps) p ∷ rest = drop-cons t (length ps) p (omega arith) in
    let l : length (ps ++ (p ∷ [])) ≡ suc (length ps) = rw length-append (omega arith) in
    rw (behind, l, set_at ps (get_or t (length ps) p) rest p row e) (sym (append_assoc ps (p ∷ []) rest))

rows_next : (done : List Place) (p : Place) (t : Table) (row : ℕ) → length (other_places done) ≡ row → (is_other p.tag ≡ true → row < length t) → rowed p row (over (other_places done) t) ≡ over (other_places (done ++ (p ∷ []))) t
rows_next done p t row e h = go (is_other p.tag) refl ∙ sym (ap (λ (ps : List Place). over ps t) (others-append done (p ∷ [])))
  where
    go : (b : Bool) → is_other p.tag ≡ b → pick b (set (over (other_places done) t) row p) (over (other_places done) t) ≡ over (other_places done ++ pick b (p ∷ []) []) t
    go true o = over_more (other_places done) p t row e (h o)
    go false o = rw append-nil

-- What a turn asks.
pub record Turn (s : Parts) (p : Place) (t : Table) (row : ℕ) : Type 0 where
  pub few : row ≤ most
  pub below : is_other p.tag ≡ true → row < s.other_count
  pub room : is_other p.tag ≡ true → row < length t

module _ {v : List ℕ} {t₀ t : Table} {s : Parts} {cursor row : ℕ} (y : Tabling v t₀ t cursor row) (k : Walked v s) (fits : s.other_count ≤ length t₀)
    (p : Place) (next : ℕ) (e : accepted (found p next) ≡ bounded v (step_at v cursor)) where
  abbrev done : List Place
  done = y.reached.done

  abbrev then_reached : Reached v 4 next
  then_reached = walk_more y.reached p next e

  pub tabling_turn : Turn s p t row
  tabling_turn =
      let (qs, same) = reached_front k.places then_reached k.walked in
      let all = ap length (sym (ap other_places same) ∙ others-append (done ++ (p ∷ [])) qs ∙ ap (λ (ps : List Place). ps ++ other_places qs) (others-append done (p ∷ []))) in
      let sum = length-append (other_places done ++ other_places (p ∷ [])) (other_places qs) in
      let first = length-append (other_places done) (other_places (p ∷ [])) in
      let few : row ≤ s.other_count = omega (arith, y.place, count_known k) in
      let l = ap length y.rows ∙ over-length (other_places done) t₀ (omega (arith, y.place)) in
      let below : is_other p.tag ≡ true → row < s.other_count = λ o. let one : length (other_places (p ∷ [])) ≡ 1 = rw o in omega (arith, y.place, count_known k) in
      record { few = omega (arith, count_small k); below = below; room = λ o. omega (arith, below o) }

  tabled_next : (r : ℕ) (t₁ : Table) → r ≡ row + length (other_places (p ∷ [])) → t₁ ≡ rowed p row t → Tabling v t₀ t₁ next r
  tabled_next r t₁ m h =
      let more = ap length (others-append done (p ∷ [])) ∙ length-append (other_places done) (other_places (p ∷ [])) in
      let turn = tabling_turn in
      record {
        reached = then_reached;
        rows = h ∙ ap (rowed p row) y.rows ∙ rows_next done p t₀ row y.place (λ o. omega (arith, turn.below o));
        place = omega (arith, more, y.place);
      }

  -- It is another one, and stored; or it is none.
  pub tabling_next : is_other p.tag ≡ true → Tabling v t₀ (set t row p) next (row + 1)
  tabling_next o = tabled_next (row + 1) (set t row p) (rw o) (rw o)

  pub tabling_passed : is_other p.tag ≡ false → Tabling v t₀ t next row
  tabling_passed o = tabled_next row t (rw o (omega arith)) (rw o)

-- The places of an address that was read.
pub places-known : {v : List ℕ} {s : Parts} (r : Read v s) → address_places v ≡ accepted (other_places r.known.places)
unfolding address_places
places-known r = rw (read_whole r, r.known.walked)

pub count_places : {v : List ℕ} {s : Parts} (r : Read v s) → accepted s.other_count ≡ mapped length (address_places v)
count_places r = sym (ap (mapped length) (places-known r) ∙ ap accepted (sym (count_known r.known)))

-- A walk that has come to the end has stored them.
pub tabled :
    {v : List ℕ} {t₀ t : Table} {s : Parts} {cursor row : ℕ} (r : Read v s) (y : Tabling v t₀ t cursor row)
    → s.other_count ≤ length t₀
    → places v 4 ≡ accepted y.reached.done
    → tabulated (accepted row) t ≡ tabulate (address_places v) t₀
unfolding tabulate
tabled {v} {t₀} {t} {s} {row = row} r y fits e =
    let same : y.reached.done ≡ r.known.places = accepted_inj (sym e ∙ r.known.walked) in
    let ps = other_places y.reached.done in
    let few : length ps ≤ length t₀ = omega (arith, ap (λ (ps : List Place). length (other_places ps)) same, count_known r.known) in
    let known : address_places v ≡ accepted ps = places-known r ∙ ap (λ (ps : List Place). accepted (other_places ps)) (sym same) in
    rw (known, le-leb (length ps) (length t₀) few, y.rows, ← y.place)

-- Reading into a record and a table: refused, the table too small, or stored.
pub list_refused : (v : List ℕ) (t : Table) (n : ℕ) (vs : List ℕ) → read_address built_in v ≡ refused n vs → listed (refused n vs) t ≡ list_address v t
unfolding list_address address_places tabulate
list_refused v t n vs e = rw e

-- What is listed, by what the table answers.
pub list_known :
    {v : List ℕ} {s : Parts} (r : Read v s) (t : Table) (stored : Tabulated)
    → stored ≡ tabulate (address_places v) t
    → list_address v t ≡ listed (mapped (λ n. address_record (absent_in built_in v) (address r.known)) stored.answer) stored.table
unfolding list_address
list_known r t stored h = rw (read_whole r, ← h)

pub list_small :
    {v : List ℕ} {s : Parts} (r : Read v s) (t : Table)
    → length t < s.other_count
    → listed (refused 13 (s.other_count ∷ [])) t ≡ list_address v t
unfolding tabulate
list_small {v} {s} r t h =
    let ps = other_places r.known.places in
    let small : length t < length ps = omega (arith, count_known r.known) in
    let stored : tabulated (refused 13 (s.other_count ∷ [])) t ≡ tabulate (address_places v) t =
    rw (places-known r, lt-leb (length ps) (length t) small, count_known r.known) in
    sym (list_known r t _ stored)

-- What storing the places and making the record answer.
pub list_done :
    {v : List ℕ} {s : Parts} (r : Read v s) (t held : Table) (n : ℕ) (o : Outcome SuaAddress)
    → tabulated (accepted n) held ≡ tabulate (address_places v) t
    → o ≡ mapped (address_record (absent_in built_in v)) (read_address built_in v)
    → listed o held ≡ list_address v t
list_done {v} r t held n o h e =
    ap (λ (o : Outcome SuaAddress). listed o held) (e ∙ ap (mapped (address_record (absent_in built_in v))) (read_whole r)) ∙ sym (list_known r t _ h)
