-- Sub-parameters: what one that was read is, and that what it is written as is read back the same.
use Prim.Native.Nat.{ℕ, ◌^◌, ◌≤◌, ◌<◌}
use mathlib.Core.Path.{◌≡◌, refl, ap, ◌∙◌, subst}
use mathlib.Core.Logic.{⊎_elim}
use mathlib.Core.List.{List, [], ◌∷◌, ◌++◌}
use native.Mathlib.Omega.{arith}
use borrow.Author.Tests.{leb-true, ne_eqb}
use lib.Dec.{leb, lit<, lit≤}
use lib.ListN.{length, get_or}
use Rattle.bcd.specs.Outcome.{accepted, each, All, Octets}
use Rattle.bcd.specs.Digits.{Alphabet, Lawful}
use Rattle.bcd.proofs.Outcomes.{accepted_inj, mapped_inv, demand_inv, each-cons, each_inv, octets_at}
use Rattle.bcd.proofs.Tests.{chosen}
use Rattle.parameter.specs.Parameter.{Param, padded_length, run_length, Fits, two_at, four, four_in}
use Rattle.address.specs.Address.{Title, title_in, write_title, Piece, title, code, sub, other, four_octets, piece_in, sub_param}
use Rattle.address.specs.Lengths.{piece_length, total_length}
use Rattle.address.proofs.Titles.{title_inv, title_digits, title_room_lem, title_rewritten}

-- The piece that a sub-parameter is.
pub data PieceOf (A : Alphabet) (p : Param) : Piece → Type 0 where
  is_title : (t : Title) → p.tag ≡ 0x8001 → title_in A p.value ≡ accepted t → PieceOf A p (title t)
  is_code : p.tag ≡ 0x8002 → 4 ≤ length p.value → PieceOf A p (code (four_in p.value))
  is_sub : p.tag ≡ 0x8003 → 4 ≤ length p.value → PieceOf A p (sub (get_or p.value 3 0))
  is_other : (p.tag ≡ 0x8001 → ⊥) → (p.tag ≡ 0x8002 → ⊥) → (p.tag ≡ 0x8003 → ⊥) → PieceOf A p (other p)

-- A sub-parameter that was read is one piece.
pub record OnePiece (A : Alphabet) (p : Param) (xs : List Piece) : Type 0 where
  pub piece : Piece
  pub is : PieceOf A p piece
  pub alone : piece ∷ [] ≡ xs

pub piece_inv : (A : Alphabet) (p : Param) (xs : List Piece) → piece_in A p ≡ accepted xs → OnePiece A p xs
unfolding piece_in
piece_inv A p xs e =
    ⊎_elim
    (λ (t, e).
    let (u, hu, same) = mapped_inv (λ t. title t ∷ []) (title_in A p.value) e in
    record { piece = title u; is = is_title u t hu; alone = same })
    (λ (n, e). ⊎_elim
    (λ (t, e). four_inv _ (is_code t) e)
    (λ (m, e). ⊎_elim
    (λ (t, e). four_inv _ (is_sub t) e)
    (λ (k, e). record { piece = other p; is = is_other n m k; alone = accepted_inj e })
    (chosen p.tag 0x8003 _ _ e))
    (chosen p.tag 0x8002 _ _ e))
    (chosen p.tag 0x8001 _ _ e)
  where
    four_inv : (x : Piece) → (4 ≤ length p.value → PieceOf A p x) → four_octets p x ≡ accepted xs → OnePiece A p xs
    four_inv x is e =
        let (long, same) = demand_inv (leb 4 (length p.value)) _ _ _ e in
        record { piece = x; is = is (leb-true _ _ long); alone = accepted_inj same }

-- A piece takes no more room than the sub-parameter that it came as.
pub piece_room : {A : Alphabet} {p : Param} {x : Piece} → PieceOf A p x → piece_length x ≤ padded_length (length p.value)
piece_room {A} {p} (is_title t h e) = omega (arith, title_room_lem A p.value t (title_inv A p.value t e))
piece_room (is_code h l) = omega arith
piece_room (is_sub h l) = omega arith
piece_room (is_other n m k) = omega arith

-- A piece that came as a sub-parameter that the wire can carry.
pub record Came (A : Alphabet) (x : Piece) : Type 0 where
  pub param : Param
  pub fits : Fits param
  pub is : PieceOf A param x

-- Pieces that were read: each came as a sub-parameter, and together they take no more room.
pub record Read (A : Alphabet) (ps : List Param) (xs : List Piece) : Type 0 where
  pub came : All (Came A) xs
  pub room : total_length xs ≤ run_length ps

pub pieces-read : (A : Alphabet) (ps : List Param) (xs : List Piece) → All Fits ps → each (piece_in A) ps ≡ accepted xs → Read A ps xs
unfolding run_length
pieces-read A [] xs fs e = subst (Read A []) (accepted_inj e) (record { came = tt; room = omega arith })
pieces-read A (p ∷ ps) xs fs e =
    let (us, vs, hu, hv, j) = each_inv (piece_in A) p ps xs e in
    let o = piece_inv A p us hu in
    let r = pieces-read A ps vs fs.1 hv in
    subst (Read A (p ∷ ps)) (ap (λ us. us ++ vs) o.alone ∙ j)
    (record { came = (record { param = p; fits = fs.0; is = o.is }, r.came); room = omega (arith, piece_room o.is, r.room) })

-- The sub-parameter that a piece is written as: the wire can carry it, it is read back as that piece, and its length is known.
pub record Back (A : Alphabet) (x : Piece) (q : Param) : Type 0 where
  pub fits : Fits q
  pub reads : piece_in A q ≡ accepted (x ∷ [])
  pub size : padded_length (length q.value) ≡ piece_length x

four_back : (n : ℕ) → four_in (four n) ≡ n
unfolding two_at
four_back n = omega arith

four_small : (v : List ℕ) → Octets v → four_in v < 2 ^ 32
unfolding two_at
four_small v o = omega (arith, octets_at v 0 o, octets_at v 1 o, octets_at v 2 o, octets_at v 3 o)

four-octets : (n : ℕ) → n < 2 ^ 32 → Octets (four n)
four-octets n h = (omega arith, (omega arith, (omega arith, (omega arith, tt))))

back :
    (A : Alphabet)
    → Lawful A
    → (p : Param) (x : Piece) (qs : List Param)
    → Fits p
    → PieceOf A p x
    → sub_param A x ≡ accepted qs
    → (q : Param) × (q ∷ [] ≡ qs) × Back A x q
unfolding piece_in sub_param
back A L p _ qs f (is_title t h e) d =
    let (w, hw, same) = mapped_inv {B = List Param} (λ v. record { tag = 0x8001; value = v } ∷ []) (write_title A t) d in
    let r = title_rewritten A L p.value w t f.octets e hw in
    let few = title_digits A p.value t f.octets (title_inv A p.value t e) in (
      record { tag = 0x8001; value = w },
      same,
      record {
        fits = record { tag = lit< tt; size = omega (arith, r.size); octets = r.octets };
        reads = rw r.reads;
        size = omega (arith, r.size);
      },
    )
back A L p _ qs f (is_code h l) d =
    let n = four_in p.value in (
      record { tag = 0x8002; value = four n },
      accepted_inj d,
      record {
        fits = record { tag = lit< tt; size = lit≤ tt; octets = four-octets n (four_small p.value f.octets) };
        reads = rw (four_back n);
        size = refl;
      },
    )
back A L p _ qs f (is_sub h l) d =
    let n = get_or p.value 3 0 in
    let small = octets_at p.value 3 f.octets in (
      record { tag = 0x8003; value = 0 ∷ 0 ∷ 0 ∷ n ∷ [] },
      accepted_inj d,
      record {
        fits = record { tag = lit< tt; size = lit≤ tt; octets = (lit< tt, (lit< tt, (lit< tt, (small, tt)))) };
        reads = refl;
        size = refl;
      },
    )
back A L p _ qs f (is_other n m k) d =
    (p, accepted_inj d, record { fits = f; reads = rw (ne_eqb _ _ n, ne_eqb _ _ m, ne_eqb _ _ k); size = refl })

pub piece_back :
    (A : Alphabet)
    → Lawful A
    → {x : Piece} (p : Param) (qs : List Param)
    → Fits p
    → PieceOf A p x
    → sub_param A x ≡ accepted qs
    → (q : Param) × (q ∷ [] ≡ qs) × Back A x q
piece_back A L {x} p qs f i d = back A L p x qs f i d

-- Pieces that were written, each as one sub-parameter.
pub record Written (A : Alphabet) (xs : List Piece) (qs : List Param) : Type 0 where
  pub fits : All Fits qs
  pub reads : each (piece_in A) qs ≡ accepted xs
  pub size : run_length qs ≡ total_length xs

pub pieces-written :
    (A : Alphabet)
    → Lawful A
    → (xs : List Piece) (qs : List Param)
    → All (Came A) xs
    → each (sub_param A) xs ≡ accepted qs
    → Written A xs qs
unfolding run_length
pieces-written A L [] qs cs e = subst (Written A []) (accepted_inj e) (record { fits = tt; reads = refl; size = refl })
pieces-written A L (x ∷ xs) qs cs e =
    let (us, vs, hu, hv, j) = each_inv (sub_param A) x xs qs e in
    let c = cs.0 in
    let (q, alone, b) = piece_back A L c.param us c.fits c.is hu in
    let w = pieces-written A L xs vs cs.1 hv in
    subst (Written A (x ∷ xs)) (ap (λ us. us ++ vs) alone ∙ j) (record {
      fits = (b.fits, w.fits);
      reads = each-cons (piece_in A) q vs (x ∷ []) xs b.reads w.reads;
      size = omega (arith, b.size, w.size);
    })
