-- The row of a destination address, by the title that interpreting its octets keeps.
use Prim.Native.Nat.{ℕ}
use mathlib.Core.Path.{◌≡◌, ap}
use mathlib.Core.List.{List}
use Rattle.std.specs.Prelude.{Option}
use Rattle.bcd.specs.Outcome.{accepted, refused, mapped}
use Rattle.bcd.specs.Digits.{built_in}
use Rattle.address.specs.Address.{Title, Address, read_address}
use Rattle.address.specs.Parts.{interpreted}
use Rattle.address.specs.Parts.{kept_title}
use Rattle.address.specs.declared.interpret.Interpreted.{Interpreted}
use Rattle.address.proofs.Held.{read-of}
use Rattle.address.proofs.Interpreted.{address, read_whole, interpreted_refused, title_kept}
use Rattle.tally.specs.Tally.{title_row}

pub row_refused :
    (ps : List (List ℕ)) (v : List ℕ) (n : ℕ) (vs : List ℕ)
    → refused n vs ≡ interpreted v
    → refused n vs ≡ mapped (λ (a : Address). title_row ps a.title) (read_address built_in v)
row_refused ps v n vs e = rw (interpreted_refused v n vs e)

pub row_kept :
    (ps : List (List ℕ)) (i : Interpreted) (t : Option Title)
    → t ≡ kept_title built_in i.value.now i.parts.title
    → accepted (title_row ps t) ≡ mapped (λ (a : Address). title_row ps a.title) (read_address built_in i.value.now)
row_kept ps i t e =
    let r = read-of i in
    rw (read_whole r, e) (ap (λ t. accepted (title_row ps t)) (title_kept r (address r.known) (read_whole r)))
