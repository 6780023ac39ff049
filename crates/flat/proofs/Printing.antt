-- The texts of the line, stored part by part, and how long they are.
use Prim.Native.Nat.{ℕ, ◌+◌, ◌<◌}
use mathlib.Core.Path.{◌≡◌, sym, subst}
use mathlib.Core.List.{List}
use native.Mathlib.Omega.{arith}
use lib.ListN.{length, get_or, take, length-append}
use Rattle.flat.specs.Line.{decimal, hex, space, words, form_text, refused_line}
use Rattle.flat.specs.declared.writer.Writer.{Writer}
use Rattle.flat.specs.Steps.Emitting.{Writes}
use Rattle.flat.proofs.Emission.{writes_more}
use Rattle.flat.proofs.Lines.{words_more}

-- one octet more of a form
pub word_stored :
    {a b c d : Writer} (xs : List ℕ) (i : ℕ)
    → i < length xs
    → Writes a (words (take i xs)) b
    → Writes b (space i) c
    → Writes c (hex (get_or xs i 0)) d
    → Writes a (words (take (i + 1) xs)) d
word_stored {a} {b} {c} {d} xs i h x y z =
    subst (λ (os : List ℕ). Writes a os d) (sym (words_more xs i h)) (writes_more (writes_more x y) z)

pub form_length : (f : List ℕ) → length (form_text f) ≡ 11 + length (decimal (length f)) + length (words f)
unfolding form_text
form_length f = simp (length-append, length-append) (omega arith)

pub refused_length : (n : ℕ) → length (refused_line n) ≡ 11 + length (decimal n)
unfolding refused_line
refused_length n = simp length-append (omega arith)
