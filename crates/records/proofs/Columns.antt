-- A slice of records tells the same as three slices of numbers.
use Prim.Native.Nat.{ℕ, zero, suc}
use mathlib.Core.Path.{◌≡◌, refl, sym, ap, ◌∙◌}
use mathlib.Core.Bool.{Bool, true, false}
use mathlib.Core.List.{List, [], ◌∷◌, ◌++◌, map, map-append}
use native.Mathlib.Omega.{arith}
use lib.Dec.{leb}
use lib.ListN.{length, drop, length-map}
use Rattle.bcd.specs.Outcome.{Outcome, accepted, refused, after, mapped, pick}
use Rattle.parameter.specs.declared.Place.{Place}
use Rattle.parameter.specs.Table.{tabulated, over, tabulate, rows}
use Rattle.message.specs.Message.{read_header, message_places}
use Rattle.message.specs.Listing.{list_message}
use Rattle.message.proofs.Messages.{list-headed}
use Rattle.records.specs.Columns.{Columns, room, Stored, stored, tabulate_columns, counting, list_columns, columns, of_rows, of_message_rows}

drop-map : {A B : Type 0} (f : A → B) (n : ℕ) (xs : List A) → drop n (map f xs) ≡ map f (drop n xs)
drop-map f zero xs = refl
drop-map f (suc n) [] = refl
drop-map f (suc n) (x ∷ xs) = drop-map f n xs

-- one column, in front of what it held
over-map : (f : Place → ℕ) (ps held : List Place) → over (map f ps) (map f held) ≡ map f (over ps held)
over-map f ps held =
    ap (λ n. map f ps ++ drop n (map f held)) (length-map ps f)
    ∙ ap (λ l. map f ps ++ l) (drop-map f (length ps) held)
    ∙ sym (map-append f ps (drop (length ps) held))

columns-room : (held : List Place) → room (columns held) ≡ length held
unfolding room
columns-room held = rw (length-map held (λ (p : Place). p.tag), length-map held (λ (p : Place). p.start), length-map held (λ (p : Place). p.length)) (omega arith)

-- places in front of what three slices held
abbrev put : List Place → Columns → Columns
put ps t = record { tags = over (map (λ p. p.tag) ps) t.tags; starts = over (map (λ p. p.start) ps) t.starts; lengths = over (map (λ p. p.length) ps) t.lengths }

put-columns : (ps held : List Place) → put ps (columns held) ≡ columns (over ps held)
put-columns ps held = λ i. record { tags = over-map (λ p. p.tag) ps held i; starts = over-map (λ p. p.start) ps held i; lengths = over-map (λ p. p.length) ps held i }

-- Reading into records and reading into the three slices of the same numbers answer the same and leave the same behind.
pub rows-columns : (o : Outcome (List Place)) (held : List Place) → tabulate_columns o (columns held) ≡ of_rows (tabulate o held)
unfolding tabulate tabulate_columns
rows-columns (refused n vs) held = refl
rows-columns (accepted ps) held = rw (columns-room held) (on (leb (length ps) (length held)))
  where
    on : (b : Bool)
        → pick b (stored (accepted (length ps)) (put ps (columns held))) (stored (refused 13 (length ps ∷ [])) (columns held))
        ≡ of_rows (pick b (tabulated (accepted (length ps)) (over ps held)) (tabulated (refused 13 (length ps ∷ [])) held))
    on true = ap (stored (accepted (length ps))) (put-columns ps held)
    on false = refl

-- The same of a message.
pub message-rows-columns : (xs : List ℕ) (held : List Place) → list_columns xs (columns held) ≡ of_message_rows (list_message xs held)
unfolding list_columns
message-rows-columns xs held =
    ap
    (λ (t : Stored ℕ). stored (after (read_header xs) (λ h. mapped (counting h.message_type) t.answer)) t.columns)
    (rows-columns (message_places xs) held)
    ∙ sym (ap of_message_rows (list-headed xs held))

-- The three slices tell every record.
pub columns-rows : (ps : List Place) → rows (columns ps).tags (columns ps).starts (columns ps).lengths ≡ ps
unfolding rows
columns-rows [] = refl
columns-rows (p ∷ ps) = ap (λ qs. p ∷ qs) (columns-rows ps)
