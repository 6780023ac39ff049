-- The pieces of an address: those that hold are among those that came, take no more room, and give the same address.
use Prim.Native.Nat.{ℕ, ◌+◌, ◌≤◌}
use mathlib.Core.Path.{◌≡◌, refl, ◌∙◌}
use mathlib.Core.Bool.{Bool, true, false}
use Rattle.std.specs.Prelude.{Option, None, Some}
use mathlib.Core.List.{List, [], ◌∷◌, ◌++◌, map}
use native.Mathlib.Omega.{arith}
use Rattle.bcd.specs.Outcome.{All, pick}
use Rattle.bcd.proofs.Outcomes.{all_append}
use Rattle.parameter.specs.Parameter.{Param}
use Rattle.address.specs.Address.{Address, Piece, title, code, sub, other, as_title, as_code, as_sub, later, last, others_in, bit, address_with, indicator, present, pieces}
use Rattle.address.specs.Lengths.{piece_length, total_length}

total-append : (xs ys : List Piece) → total_length (xs ++ ys) ≡ total_length xs + total_length ys
total-append [] ys = omega arith
total-append (x ∷ xs) ys = omega (arith, total-append xs ys)

-- One more piece in front of the one that holds, for any kind of piece.
module _ {X : Type 0} (g : X → Piece) (x : X) where
  front-all : (P : Piece → Type 0) (o : Option X) → P (g x) → All P (present g o) → All P (present g (later (Some x) o))
  front-all P None h k = (h, k)
  front-all P (Some y) h k = k

  front-room : (o : Option X) → total_length (present g (later (Some x) o)) ≤ piece_length (g x) + total_length (present g o)
  front-room None = omega arith
  front-room (Some y) = omega arith

-- The pieces that hold, kind by kind.
abbrev titles : List Piece → List Piece
titles xs = present title (last as_title xs)

abbrev codes : List Piece → List Piece
codes xs = present code (last as_code xs)

abbrev subs : List Piece → List Piece
subs xs = present sub (last as_sub xs)

abbrev others : List Piece → List Piece
others xs = map other (others_in xs)

record Held (P : Piece → Type 0) (xs : List Piece) : Type 0 where
  title : All P (titles xs)
  code : All P (codes xs)
  sub : All P (subs xs)
  others : All P (others xs)

held : (P : Piece → Type 0) (xs : List Piece) → All P xs → Held P xs
held P [] h = record { title = tt; code = tt; sub = tt; others = tt }
held P (title t ∷ xs) h =
    let r = held P xs h.1 in
    record { title = front-all title t P (last as_title xs) h.0 r.title; code = r.code; sub = r.sub; others = r.others }
held P (code n ∷ xs) h =
    let r = held P xs h.1 in
    record { title = r.title; code = front-all code n P (last as_code xs) h.0 r.code; sub = r.sub; others = r.others }
held P (sub n ∷ xs) h =
    let r = held P xs h.1 in
    record { title = r.title; code = r.code; sub = front-all sub n P (last as_sub xs) h.0 r.sub; others = r.others }
held P (other p ∷ xs) h =
    let r = held P xs h.1 in
    record { title = r.title; code = r.code; sub = r.sub; others = (h.0, r.others) }

held-room : (xs : List Piece) → total_length (titles xs) + total_length (codes xs) + total_length (subs xs) + total_length (others xs) ≤ total_length xs
held-room [] = omega arith
held-room (title t ∷ xs) = omega (arith, front-room title t (last as_title xs), held-room xs)
held-room (code n ∷ xs) = omega (arith, front-room code n (last as_code xs), held-room xs)
held-room (sub n ∷ xs) = omega (arith, front-room sub n (last as_sub xs), held-room xs)
held-room (other p ∷ xs) = omega (arith, held-room xs)

module _ (routing bits : ℕ) (xs : List Piece) where
  -- What holds of each piece that came holds of each that is written.
  pub pieces-all : (P : Piece → Type 0) → All P xs → All P (pieces (address_with routing bits xs))
  unfolding pieces address_with
  pieces-all P h =
      let r = held P xs h in
      all_append P (titles xs) _ r.title (all_append P (codes xs) _ r.code (all_append P (subs xs) (others xs) r.sub r.others))

  -- They take no more room than those that came.
  pub pieces_room : total_length (pieces (address_with routing bits xs)) ≤ total_length xs
  unfolding pieces address_with
  pieces_room =
      let t = titles xs in
      let c = codes xs in
      let s = subs xs in
      let o = others xs in
      omega (arith, total-append t (c ++ (s ++ o)), total-append c (s ++ o), total-append s o, held-room xs)

-- A selector passes over pieces of another kind, and finds one of its own where it is the last.
module _ {X : Type 0} (f : Piece → Option X) where
  skip : {Y : Type 0} (g : Y → Piece) → ((y : Y) → f (g y) ≡ None) → (o : Option Y) (xs : List Piece) → last f (present g o ++ xs) ≡ last f xs
  skip g h None xs = refl
  skip g h (Some y) xs = rw (h y)

  find : (g : X → Piece) → ((x : X) → f (g x) ≡ Some x) → (o : Option X) (xs : List Piece) → last f xs ≡ None → last f (present g o ++ xs) ≡ o
  find g h None xs e = e
  find g h (Some x) xs e = rw (h x, e)

  last-others : ((p : Param) → f (other p) ≡ None) → (ps : List Param) → last f (map other ps) ≡ None
  last-others h [] = refl
  last-others h (p ∷ ps) = rw (h p, last-others h ps)

others_skip :
    {Y : Type 0} (g : Y → Piece)
    → ((y : Y) (xs : List Piece) → others_in (g y ∷ xs) ≡ others_in xs)
    → (o : Option Y) (xs : List Piece)
    → others_in (present g o ++ xs) ≡ others_in xs
others_skip g h None xs = refl
others_skip g h (Some y) xs = h y xs

others-others : (ps : List Param) → others_in (map other ps) ≡ ps
others-others [] = refl
others-others (p ∷ ps) = rw (others-others ps)

module _ (a : Address) where
  title_back : last as_title (pieces a) ≡ a.title
  unfolding pieces
  title_back =
      find as_title title (λ t. refl) a.title _
      (skip as_title code (λ n. refl) a.code _ ∙ skip as_title sub (λ n. refl) a.sub _ ∙ last-others as_title (λ p. refl) a.others)

  code_back : last as_code (pieces a) ≡ a.code
  unfolding pieces
  code_back =
      skip as_code title (λ t. refl) a.title _
      ∙ find as_code code (λ n. refl) a.code _ (skip as_code sub (λ n. refl) a.sub _ ∙ last-others as_code (λ p. refl) a.others)

  sub_back : last as_sub (pieces a) ≡ a.sub
  unfolding pieces
  sub_back =
      skip as_sub title (λ t. refl) a.title _
      ∙ skip as_sub code (λ n. refl) a.code _
      ∙ find as_sub sub (λ n. refl) a.sub _ (last-others as_sub (λ p. refl) a.others)

  others_back : others_in (pieces a) ≡ a.others
  unfolding pieces
  others_back =
      others_skip title (λ t xs. refl) a.title _
      ∙ others_skip code (λ n xs. refl) a.code _
      ∙ others_skip sub (λ n xs. refl) a.sub _
      ∙ others-others a.others

-- The indicator is below 8, and gives the three bits.
pub indicator_small : (a : Address) → indicator a ≤ 7
unfolding indicator
indicator_small a = omega (arith, one a.ssn 1, one a.pc 2, one a.gt 4)
  where
    one : (b : Bool) (n : ℕ) → pick b n 0 ≤ n
    one true n = omega arith
    one false n = omega arith

abbrev sum : Bool → Bool → Bool → ℕ
sum g p s = pick s 1 0 + pick p 2 0 + pick g 4 0

bits_back : (a : Address) → (bit 4 (indicator a) ≡ a.gt) × (bit 2 (indicator a) ≡ a.pc) × (bit 1 (indicator a) ≡ a.ssn)
unfolding indicator
bits_back a = go a.gt a.pc a.ssn
  where
    go : (g p s : Bool) → (bit 4 (sum g p s) ≡ g) × (bit 2 (sum g p s) ≡ p) × (bit 1 (sum g p s) ≡ s)
    go true true true = (refl, refl, refl)
    go true true false = (refl, refl, refl)
    go true false true = (refl, refl, refl)
    go true false false = (refl, refl, refl)
    go false true true = (refl, refl, refl)
    go false true false = (refl, refl, refl)
    go false false true = (refl, refl, refl)
    go false false false = (refl, refl, refl)

-- An address is that of its own routing indicator, indicator and pieces.
pub pieces_back : (a : Address) → address_with a.routing (indicator a) (pieces a) ≡ a
unfolding address_with
pieces_back a =
    let b = bits_back a in
    rw (b.0, b.1, b.2, title_back a, code_back a, sub_back a, others_back a)
