-- An address read through an accessor: the starts of its others are moved to count from the first octet of the values.
use Prim.Native.Nat.{ℕ, zero, suc, ◌+◌, ◌^◌, ◌≤◌, ◌<◌}
use mathlib.Core.Path.{◌≡◌, refl, sym, ap, ap₂, ◌∙◌}
use Rattle.std.specs.Prelude.{Some}
use mathlib.Core.Logic.{⊎_elim}
use mathlib.Core.List.{List, [], ◌∷◌, ◌++◌, map}
use native.Mathlib.Omega.{arith}
use lib.ListN.{length, get_or, set, take, drop, length-map, length-append, length-take, length-drop}
use lib.Seq.{take_at, drop_at}
use borrow.Author.Tests.{le-leb, lt-leb}
use Rattle.bcd.specs.Outcome.{Outcome, accepted, refused, after, mapped, All, Octets}
use Rattle.bcd.specs.Digits.{built_in}
use Rattle.bcd.proofs.Outcomes.{accepted_inj, never, le_or_lt}
use Rattle.parameter.specs.declared.Place.{Place}
use Rattle.parameter.specs.Walk.{valued}
use Rattle.parameter.specs.Table.{Table, over, Tabulated, tabulated, tabulate}
use Rattle.parameter.proofs.Records.{nowhere}
use Rattle.address.specs.Address.{Address, read_address}
use Rattle.address.specs.Absent.{absent_in}
use Rattle.address.specs.Listing.{other_places, address_places, address_record, Listed, listed, list_address}
use Rattle.address.specs.declared.SuaAddress.{SuaAddress}
use Rattle.address.proofs.Interpreted.{read_whole, accepted_read}
use Rattle.address.proofs.Tabling.{places-known}
use Rattle.address.proofs.TableBack.{others_count, others_inside, IsListed, list_inv}
use Rattle.lookup.specs.Accessors.{moved, list_address_at, address_found}

-- The first so many rows, moved by a base, in front of the others.
abbrev pub moved_front : (base i : ℕ) → List Place → List Place
moved_front base i ps = map (moved base) (take i ps) ++ drop i ps

module _ (base : ℕ) where
  pub not_yet_moved : (i : ℕ) (ps : List Place) → get_or (moved_front base i ps) i nowhere ≡ get_or ps i nowhere
  not_yet_moved zero ps = refl
  not_yet_moved (suc i) [] = refl
  not_yet_moved (suc i) (p ∷ ps) = not_yet_moved i ps

  pub one_moved : (i : ℕ) (ps : List Place) → i < length ps → set (moved_front base i ps) i (moved base (get_or ps i nowhere)) ≡ moved_front base (suc i) ps
  one_moved zero (p ∷ ps) h = refl
  one_moved (suc i) (p ∷ ps) h = ap (λ qs. moved base p ∷ qs) (one_moved i ps (omega arith))
  one_moved zero [] h = absurd (omega arith)
  one_moved (suc i) [] h = absurd (omega arith)

pub tabulate_fits : (ps : List Place) (t : Table) → length ps ≤ length t → tabulate (accepted ps) t ≡ tabulated (accepted (length ps)) (over ps t)
unfolding tabulate
tabulate_fits ps t h = rw (le-leb (length ps) (length t) h)

pub tabulate_small : (ps : List Place) (t : Table) → length t < length ps → tabulate (accepted ps) t ≡ tabulated (refused 13 (length ps ∷ [])) t
unfolding tabulate
tabulate_small ps t h = rw (lt-leb (length ps) (length t) h)

-- A table that was refused stays as it was, whatever the places would have been moved by.
module _ (base : ℕ) (t : Table) where
  left : (o : Outcome (List Place)) (n : ℕ) (vs : List ℕ) → (tabulate o t).answer ≡ refused n vs → (tabulate o t).table ≡ (tabulate (mapped (map (moved base)) o) t).table
  unfolding tabulate
  left (refused m ws) n vs e = refl
  left (accepted ps) n vs e =
      ⊎_elim
      (λ h. absurd (never (sym (sym (ap (λ (s : Tabulated). s.answer) (tabulate_fits ps t h)) ∙ e))))
      (λ h. let few : length t < length (map (moved base) ps) = rw (length-map ps (moved base)) h in
      ap (λ (s : Tabulated). s.table) (tabulate_small ps t h) ∙ sym (ap (λ (s : Tabulated). s.table) (tabulate_small (map (moved base) ps) t few)))
      (le_or_lt (length ps) (length t))

  pub refused-listed : (v : List ℕ) (n : ℕ) (vs : List ℕ) (held : Table) → listed (refused n vs) held ≡ list_address v t → listed (refused n vs) held ≡ list_address_at base v t
  unfolding list_address list_address_at address_places tabulate
  refused-listed v n vs held e =
      ap₂ listed (ap (λ (l : Listed). l.answer) e)
      (ap (λ (l : Listed). l.table) e ∙ go (read_address built_in v) refl (sym (ap (λ (l : Listed). l.answer) e)))
    where
      go :
          (r : Outcome Address)
          → read_address built_in v ≡ r
          → after r (λ a. mapped (λ n. address_record (absent_in built_in v) a) (tabulate (address_places v) t).answer) ≡ refused n vs
          → (tabulate (address_places v) t).table ≡ (tabulate (mapped (map (moved base)) (address_places v)) t).table
      go (refused m ws) f g = let z : address_places v ≡ refused m ws = rw f in left (address_places v) m ws (ap (λ o. (tabulate o t).answer) z)
      go (accepted a) f g = kept (tabulate (address_places v) t).answer refl g
        where
          kept :
              (answer : Outcome ℕ)
              → (tabulate (address_places v) t).answer ≡ answer
              → mapped (λ n. address_record (absent_in built_in v) a) answer ≡ refused n vs
              → (tabulate (address_places v) t).table ≡ (tabulate (mapped (map (moved base)) (address_places v)) t).table
          kept (refused m ws) k j = left (address_places v) m ws k
          kept (accepted m) k j = absurd (never (sym j))

-- What reading an address into a table stored.
pub record Stored (v : List ℕ) (t : Table) (a : SuaAddress) (held : Table) : Type 0 where
  pub others : List Place
  pub placed : address_places v ≡ accepted others
  pub fits : length others ≤ length t
  pub count : a.other_count ≡ length others
  pub rows : held ≡ over others t
  pub inside : All (λ (p : Place). p.start + p.length ≤ length v) others

pub stored : {v : List ℕ} {t held : Table} {a : SuaAddress} → Octets v → listed (accepted a) held ≡ list_address v t → Stored v t a held
stored {v} {t} {held} {a} octets e =
    let l : IsListed v t a held = list_inv v t held a e in
    let (s, y) = accepted_read octets l.read in
    let ps = other_places y.known.places in
    let told : tabulated (accepted l.count) held ≡ tabulate (accepted ps) t = l.stored ∙ ap (λ o. tabulate o t) (places-known y) in
    ⊎_elim
    (λ h. record {
      others = ps;
      placed = places-known y;
      fits = h;
      count = ap (λ (a : SuaAddress). a.other_count) l.recorded ∙ ap (λ (x : Address). length x.others) (accepted_inj (sym l.read ∙ read_whole y)) ∙ others_count y;
      rows = ap (λ (s : Tabulated). s.table) (told ∙ tabulate_fits ps t h);
      inside = others_inside y;
    })
    (λ h. absurd (never (sym (ap (λ (s : Tabulated). s.answer) (told ∙ tabulate_small ps t h)))))
    (le_or_lt (length ps) (length t))

over-over : {A : Type 0} (xs ys held : List A) → length xs ≡ length ys → over xs (over ys held) ≡ over xs held
over-over xs ys held e = ap (λ l. xs ++ l) (drop_at ys (drop (length ys) held) (length xs) (sym e) ∙ ap (λ n. drop n held) (sym e))

all_small : (base : ℕ) (v : List ℕ) (ps : List Place) → base + length v < 2 ^ 64 → All (λ (p : Place). p.start + p.length ≤ length v) ps → All (λ (p : Place). base + p.start < 2 ^ 64) ps
all_small base v [] small h = tt
all_small base v (p ∷ ps) small h = let i = h.0 in (omega arith, all_small base v ps small h.1)

-- The others' rows that were stored, and moved.
module _ {v : List ℕ} {t held : Table} {a : SuaAddress} (s : Stored v t a held) where
  pub rows_few : a.other_count ≤ length held
  rows_few = omega (arith, ap length s.rows, length-append s.others (drop (length s.others) t), s.count)

  front : take a.other_count held ≡ s.others
  front = ap (take a.other_count) s.rows ∙ take_at s.others (drop (length s.others) t) a.other_count (sym s.count)

  pub rows_fit : (base : ℕ) → base + length v < 2 ^ 64 → All (λ (row : Place). base + row.start < 2 ^ 64) (take a.other_count held)
  rows_fit base small = rw front (all_small base v s.others small s.inside)

  pub stored-moved : (base : ℕ) → listed (accepted a) held ≡ list_address v t → listed (accepted a) (moved_front base a.other_count held) ≡ list_address_at base v t
  unfolding list_address list_address_at
  stored-moved base e =
      let room : length (map (moved base) s.others) ≤ length t = rw (length-map s.others (moved base)) s.fits in
      ap₂ listed (ap (λ (l : Listed). l.answer) e)
      (ap₂ ◌++◌ (ap (map (moved base)) front) (ap₂ drop (s.count ∙ sym (length-map s.others (moved base))) s.rows)
      ∙ over-over (map (moved base) s.others) s.others t (length-map s.others (moved base))
      ∙ sym (ap (λ (o : Outcome (List Place)). (tabulate (mapped (map (moved base)) o) t).table) s.placed
      ∙ ap (λ (s : Tabulated). s.table) (tabulate_fits (map (moved base) s.others) t room)))

-- A place's value ends where the values end, or before.
pub value_small : (values : List ℕ) (p : Place) → length values < 2 ^ 64 → p.start < 2 ^ 64 → p.start + length (valued values p).value < 2 ^ 64
value_small values p h k = omega (arith, length-take p.length (drop p.start values), length-drop p.start values)

-- An address that was found.
pub address-there : (tag : ℕ) (values : List ℕ) (p : Place) (held : Table) → list_address_at p.start (valued values p).value held ≡ address_found tag values (accepted (Some p)) held
unfolding address_found
address-there tag values p held = refl
