-- The fields of an address in the account, part by part.
use Prim.Native.Nat.{ℕ, ◌+◌, ◌*◌, ◌^◌, ◌<◌, min}
use mathlib.Core.Path.{◌≡◌, sym, ap, ◌∙◌, subst}
use mathlib.Core.List.{List, [], ◌∷◌, ◌++◌, map, map-append}
use native.Mathlib.Omega.{arith}
use native.Mathlib.Numerals.{add-one}
use lib.ListN.{length, get_or, take, drop}
use lib.Seq.{take-suc}
use Rattle.bcd.specs.Outcome.{Octets}
use Rattle.bcd.specs.Digits.{halves, built_in, digits_in}
use Rattle.bcd.proofs.Outcomes.{all_take, all_drop}
use Rattle.bcd.proofs.Halves.{halves-length}
use Rattle.bcd.proofs.Reading.{digits-length, digits-most}
use Rattle.parameter.specs.declared.Place.{Place}
use Rattle.parameter.specs.Walk.{valued}
use Rattle.address.specs.Address.{title_at}
use Rattle.flat.specs.Account.{title_fields}
use Rattle.flat.specs.declared.writer.Writer.{Writer}
use Rattle.flat.specs.Steps.Emitting.{Writes}
use Rattle.flat.proofs.Emission.{writes_none, writes_more}

-- a value's octets are octets
pub value_octets : (v : List ℕ) (p : Place) → Octets v → Octets (valued v p).value
value_octets v p o = all_take (λ (x : ℕ). x < 256) p.length (drop p.start v) (all_drop (λ (x : ℕ). x < 256) p.start v o)

-- the first i digits
pub digits_none : (xs : List ℕ) (a : Writer) → a.at < 2 ^ 64 → Writes a (digits_in built_in xs 0) a
unfolding digits_in
digits_none xs a = writes_none a

pub digits_next :
    {a b c : Writer} (xs : List ℕ) (i octet : ℕ)
    → i < 2 * length xs
    → octet ≡ built_in.char (get_or (halves xs) i 0)
    → Writes a (digits_in built_in xs i) b
    → Writes b (octet ∷ []) c
    → Writes a (digits_in built_in xs (i + 1)) c
unfolding digits_in
digits_next {a} {b} {c} xs i octet h o x y =
    let hs = halves xs in
    let there : i < length hs = omega (arith, halves-length xs) in
    let one : take (i + 1) hs ≡ take i hs ++ (get_or hs i 0 ∷ []) = rw add-one (take-suc hs i 0 there) in
    let more : map built_in.char (take i hs) ++ (octet ∷ []) ≡ map built_in.char (take (i + 1) hs) =
    ap (λ (c : ℕ). map built_in.char (take i hs) ++ (c ∷ [])) o ∙ sym (map-append built_in.char (take i hs) (get_or hs i 0 ∷ [])) ∙ sym (ap (map built_in.char) one) in
    subst (λ (os : List ℕ). Writes a os c) more (writes_more x y)

-- a title's fields, from the count and the digits that were stored
module _ (v : List ℕ) (n : ℕ) (count : n ≡ length (title_at built_in v).digits) where
  pub title_stored :
      {a b : Writer}
      → Writes a (1 ∷ get_or v 3 0 ∷ get_or v 5 0 ∷ get_or v 6 0 ∷ get_or v 7 0 ∷ n ∷ digits_in built_in (drop 8 v) n) b
      → Writes a (1 ∷ title_fields (title_at built_in v)) b
  title_stored {a} {b} x =
      let there : n ≡ min (get_or v 4 0) (2 * length (drop 8 v)) = count ∙ digits-length built_in (drop 8 v) (get_or v 4 0) in
      let digits = ap (digits_in built_in (drop 8 v)) there ∙ digits-most built_in (drop 8 v) (get_or v 4 0) in
      subst (λ (os : List ℕ). Writes a os b)
      (ap (λ (l : List ℕ). 1 ∷ get_or v 3 0 ∷ get_or v 5 0 ∷ get_or v 6 0 ∷ get_or v 7 0 ∷ n ∷ l) digits
      ∙ ap (λ (k : ℕ). 1 ∷ get_or v 3 0 ∷ get_or v 5 0 ∷ get_or v 6 0 ∷ get_or v 7 0 ∷ k ∷ digits_in built_in (drop 8 v) (get_or v 4 0)) count) x
