-- A title that ran short is read as the one with the count of the digits that it brings, and so is an address with such titles;
-- and what is written brings all the digits that it declares.
use Prim.Native.Nat.{ℕ, ◌-◌}
use mathlib.Core.Path.{◌≡◌, refl, sym, ap, ap₂, ◌∙◌, subst}
use mathlib.Core.Bool.{Bool, true, false}
use mathlib.Core.Logic.{⊎_elim}
use Rattle.std.specs.Prelude.{Option, None, Some, option_map, unwrap_or}
use mathlib.Core.List.{List, [], ◌∷◌, ◌++◌, map}
use native.Mathlib.Omega.{arith}
use borrow.Author.Tests.{le-leb, eqb-true}
use lib.Dec.{eqb, leb}
use lib.ListN.{length, get_or, set, take, drop, length-drop, get_or-eq_default}
use Rattle.std.proofs.lemmas.List.{length-set, get_or-set_same, get_or-set_other, set-set, drop-set-lt}
use Rattle.bcd.specs.Outcome.{Outcome, accepted, refused, pick, after, mapped, demand, accepted_or, each, All, Octets}
use Rattle.bcd.specs.Digits.{Alphabet, Lawful, digits_in, write_digits}
use Rattle.bcd.proofs.Outcomes.{le_or_lt, accepted_inj, after_inv, mapped_inv, each_inv, all_append}
use Rattle.bcd.proofs.Reading.{digits-length, digits-most, absent-octets}
use Rattle.parameter.specs.Parameter.{Param, param, two_at, four_in}
use Rattle.parameter.specs.Walk.{parameters}
use Rattle.parameter.proofs.RoundTrip.{round_trip}
use Rattle.address.specs.Address.{Title, Address, title_at, title_in, title_octets, write_title, Piece, title, code, sub, other, four_octets, piece_in, later, last, routing_in, address_with, address_in, pieces, sub_param, rewrite_address}
use Rattle.address.specs.Absent.{absent_at, title_value, absent_among, absent_in, recounted, recounted_param, BringTheSame}
use Rattle.address.proofs.Titles.{digit-octets}
use Rattle.address.proofs.SubParams.{PieceOf, is_title, is_code, is_sub, is_other, Came}
use Rattle.address.proofs.Rewriting.{readable, written_inv, same-meaning}

module _ (A : Alphabet) where
  -- the digits that a count brings, by their own number
  digits_same : (xs : List ℕ) (count : ℕ) → digits_in A xs (length (digits_in A xs count)) ≡ digits_in A xs count
  digits_same xs count = ap (digits_in A xs) (digits-length A xs count) ∙ digits-most A xs count

  module _ (v : List ℕ) where
    abbrev n : ℕ
    n = length (title_at A v).digits

    recounted_count : get_or (recounted A v) 4 0 ≡ n
    recounted_count =
        ⊎_elim
        (λ h. get_or-eq_default (recounted A v) 0 (rw (length-set v 4 n) h)
        ∙ omega (arith, digits-length A (drop 8 v) (get_or v 4 0), length-drop 8 v, h))
        (λ h. get_or-set_same v 4 n 0 h)
        (le_or_lt (length v) 4)

    recounted_title : title_at A (recounted A v) ≡ title_at A v
    recounted_title =
        rw (
          get_or-set_other v 4 3 n 0 (λ e. omega (arith, e)),
          get_or-set_other v 4 5 n 0 (λ e. omega (arith, e)),
          get_or-set_other v 4 6 n 0 (λ e. omega (arith, e)),
          get_or-set_other v 4 7 n 0 (λ e. omega (arith, e)),
          drop-set-lt 8 v 4 n (omega arith),
          recounted_count,
          digits_same (drop 8 v) (get_or v 4 0),
        )

    recounted_again : recounted A (recounted A v) ≡ recounted A v
    recounted_again = ap (λ (t : Title). set (recounted A v) 4 (length t.digits)) recounted_title ∙ set-set v 4 n n

    -- It brings all that it declares.
    pub recounted_whole : absent_at A (recounted A v) ≡ 0
    recounted_whole = ap₂ ◌-◌ recounted_count (ap (λ (t : Title). length t.digits) recounted_title) ∙ omega arith

    -- It is read as the same title.
    pub recounted_reads : title_in A (recounted A v) ≡ title_in A v
    unfolding title_in
    recounted_reads = rw (recounted_title, length-set v 4 n)

  -- as a sub-parameter too
  piece_same : (p : Param) → piece_in A (recounted_param A p) ≡ piece_in A p
  unfolding piece_in
  piece_same p = go (eqb p.tag 0x8001)
    where
      with_value : Bool → List ℕ → Outcome (List Piece)
      with_value b v =
          pick b (mapped (λ t. title t ∷ []) (title_in A v))
          (pick (eqb p.tag 0x8002) (four_octets (param p.tag v) (code (four_in v)))
          (pick (eqb p.tag 0x8003) (four_octets (param p.tag v) (sub (get_or v 3 0)))
          (accepted (other (param p.tag v) ∷ []))))

      go : (b : Bool) → with_value b (pick b (recounted A p.value) p.value) ≡ with_value b p.value
      go true = ap (mapped (λ t. title t ∷ [])) (recounted_reads p.value)
      go false = refl

  pieces_same : (ps : List Param) → each (piece_in A) (map (recounted_param A) ps) ≡ each (piece_in A) ps
  pieces_same [] = refl
  pieces_same (p ∷ ps) = rw (piece_same p, pieces_same ps)

  -- Address values that bring the same are read as the same address, or are refused alike.
  pub short-reads-the-same : (v w : List ℕ) → BringTheSame A v w → address_in A v ≡ address_in A w
  unfolding address_in two_at
  short-reads-the-same v w same = sym (by_head v) ∙ ap₂ from_head same.head same.params ∙ by_head w
    where
      -- what is read of four octets and sub-parameters whose titles declare what they bring
      from_head : List ℕ → Outcome (List Param) → Outcome Address
      from_head h o =
          demand (leb 4 (length h)) 1 (4 ∷ length h ∷ [])
          (after (routing_in (two_at h 0)) (λ routing.
          after o (λ ps. mapped (address_with routing (get_or h 3 0)) (each (piece_in A) ps))))

      behind :
          (bits : ℕ) (r : Outcome ℕ) (o : Outcome (List Param))
          → after r (λ routing. after (mapped (map (recounted_param A)) o) (λ ps. mapped (address_with routing bits) (each (piece_in A) ps)))
          ≡ after r (λ routing. after o (λ ps. mapped (address_with routing bits) (each (piece_in A) ps)))
      behind bits (refused n vs) o = refl
      behind bits (accepted routing) (refused n vs) = refl
      behind bits (accepted routing) (accepted ps) = ap (mapped (address_with routing bits)) (pieces_same ps)

      by_head : (v : List ℕ) → from_head (take 4 v) (mapped (map (recounted_param A)) (parameters (drop 4 v))) ≡ address_in A v
      by_head (a ∷ b ∷ c ∷ d ∷ v) = rw (le-leb 4 (length (a ∷ b ∷ c ∷ d ∷ v)) (omega arith)) (behind d (routing_in (two_at (a ∷ b ∷ c ∷ d ∷ v) 0)) (parameters v))
      by_head [] = refl
      by_head (a ∷ []) = refl
      by_head (a ∷ b ∷ []) = refl
      by_head (a ∷ b ∷ c ∷ []) = refl

  -- They are settled as the same value, or are refused alike.
  pub short-settles-the-same : (tag : ℕ) (v w : List ℕ) → BringTheSame A v w → rewrite_address A tag v ≡ rewrite_address A tag w
  short-settles-the-same tag v w same = same-meaning A tag v w (short-reads-the-same v w same)

  -- One title among the sub-parameters, as it came and with the count of the digits that it brings.
  pub one_title :
      (v w u : List ℕ) (before behind : List Param)
      → take 4 v ≡ take 4 w
      → parameters (drop 4 v) ≡ accepted (before ++ param 0x8001 u ∷ behind)
      → parameters (drop 4 w) ≡ accepted (before ++ param 0x8001 (recounted A u) ∷ behind)
      → BringTheSame A v w
  one_title v w u before behind head pv pw =
      record { head = head; params = rw (pv, pw) (ap accepted (among before)) }
    where
      among :
          (ps : List Param)
          → map (recounted_param A) (ps ++ param 0x8001 u ∷ behind) ≡ map (recounted_param A) (ps ++ param 0x8001 (recounted A u) ∷ behind)
      among [] = rw (recounted_again u)
      among (p ∷ ps) = ap (λ qs. recounted_param A p ∷ qs) (among ps)

-- What is written brings all the digits that it declares.
module _ (A : Alphabet) (L : Lawful A) where
  title_whole : (t : Title) (w : List ℕ) → write_title A t ≡ accepted w → absent_at A w ≡ 0
  unfolding write_title
  title_whole t w e =
      let (os, ho, made) = mapped_inv (title_octets t) (write_digits A t.digits) e in
      let n = length t.digits in
      ap (absent_at A) (sym made) ∙ absent-octets A os n ∙ omega (arith, (digit-octets A L t.digits os ho).count)

  -- a sub-parameter that is no title, or one of which nothing is absent
  abbrev Whole : Param → Type 0
  Whole q = q.tag ≡ 0x8001 → absent_at A q.value ≡ 0

  piece_whole : {p : Param} {x : Piece} (qs : List Param) → PieceOf A p x → sub_param A x ≡ accepted qs → All Whole qs
  unfolding sub_param
  piece_whole qs (is_title t h e) d =
      let (w, hw, made) = mapped_inv (λ v. param 0x8001 v ∷ []) (write_title A t) d in
      subst (All Whole) made ((λ k. title_whole t w hw), tt)
  piece_whole qs (is_code h l) d = subst (All Whole) (accepted_inj d) ((λ k. omega (arith, k)), tt)
  piece_whole qs (is_sub h l) d = subst (All Whole) (accepted_inj d) ((λ k. omega (arith, k)), tt)
  piece_whole qs (is_other n m k) d = subst (All Whole) (accepted_inj d) ((λ t. absurd (n t)), tt)

  pieces_whole : (xs : List Piece) (qs : List Param) → All (Came A) xs → each (sub_param A) xs ≡ accepted qs → All Whole qs
  pieces_whole [] qs h e = subst (All Whole) (accepted_inj e) tt
  pieces_whole (x ∷ xs) qs h e =
      let (us, vs, hu, hv, j) = each_inv (sub_param A) x xs qs e in
      subst (All Whole) j (all_append Whole us vs (piece_whole us h.0.is hu) (pieces_whole xs vs h.1 hv))

  among_whole : (qs : List Param) → All Whole qs → absent_among A qs ≡ 0
  among_whole qs h = none (last title_value qs) (go qs h)
    where
      None-or-whole : Option (List ℕ) → Type 0
      None-or-whole None = Unit {0}
      None-or-whole (Some w) = absent_at A w ≡ 0

      none : (o : Option (List ℕ)) → None-or-whole o → unwrap_or (option_map (absent_at A) o) 0 ≡ 0
      none None h = refl
      none (Some w) h = h

      of_two : (o r : Option (List ℕ)) → None-or-whole o → None-or-whole r → None-or-whole (later o r)
      of_two None r a b = b
      of_two (Some w) None a b = a
      of_two (Some w) (Some u) a b = b

      one : (q : Param) → Whole q → None-or-whole (title_value q)
      one q h = by_tag (eqb q.tag 0x8001) (λ e. h (eqb-true q.tag 0x8001 e))
        where
          by_tag : (b : Bool) → (b ≡ true → absent_at A q.value ≡ 0) → None-or-whole (pick b (Some q.value) None)
          by_tag true h = h refl
          by_tag false h = tt

      go : (qs : List Param) → All Whole qs → None-or-whole (last title_value qs)
      go [] h = tt
      go (q ∷ qs) h = of_two (title_value q) (last title_value qs) (one q h.0) (go qs h.1)

  -- An address value as it is settled: no digit of its title is absent.
  pub settled_whole : (tag : ℕ) (v w : List ℕ) → Octets v → rewrite_address A tag v ≡ accepted w → absent_in A w ≡ 0
  unfolding absent_in rewrite_address
  settled_whole tag v w o e =
      let (a, ha, hw) = after_inv (address_in A v) _ e in
      let r = readable A v a o ha in
      let k = written_inv A tag a w hw in
      ap (absent_in A) (sym k.octets)
      ∙ ap (λ o. absent_among A (accepted_or [] o)) (round_trip k.params)
      ∙ among_whole k.params (pieces_whole (pieces a) k.params r.came k.subs)
