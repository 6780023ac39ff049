-- An address that is given by its record, written, and read back: capitals of its title's digits are read as small letters, and
-- all else is as it was given, where no other sub-parameter has the tag of a title, a point code or an SSN.
use Prim.Native.Nat.{ℕ, ◌≤◌}
use mathlib.Core.Path.{◌≡◌, refl, sym, ap, ◌∙◌}
use Rattle.std.specs.Prelude.{Option, None, Some, option_map}
use mathlib.Core.List.{List, [], ◌∷◌, ◌++◌, map}
use native.Mathlib.Omega.{arith}
use borrow.Author.Tests.{le-leb, ne_eqb}
use lib.ListN.{length}
use Rattle.bcd.specs.Outcome.{Outcome, accepted, after, each, All}
use Rattle.bcd.specs.Digits.{built_in, fold, write_digits}
use Rattle.bcd.proofs.Outcomes.{accepted_inj, after_inv, mapped_inv, each-cons, each_inv, bounded-within, all_append}
use Rattle.bcd.proofs.Digits.{fold_reads}
use Rattle.parameter.specs.Parameter.{Param, four, four_in, two_at}
use Rattle.parameter.specs.Table.{Table, records}
use Rattle.address.specs.Address.{Title, Address, Piece, title, code, sub, other, present, pieces, indicator, title_in, title_octets, write_title, piece_in, sub_param, address_in, read_address, write_address}
use Rattle.address.specs.Records.{routing_value, part_given, address_of, address_given}
use Rattle.address.specs.Given.{encode_address_as}
use Rattle.address.specs.declared.RoutingIndicator.{RoutingIndicator}
use Rattle.address.specs.declared.RoutingIndicator.TheVariants as I
use Rattle.address.specs.declared.SuaAddress.{SuaAddress}
use Rattle.message.specs.Back.{fold_title, fold_address, Other}
use Rattle.address.proofs.Rewriting.{address_octets, written_inv, octets-read}

-- Where there are no capitals, nothing changes.
pub folded_same : (a : Address) → ((t : Title) → a.title ≡ Some t → map fold t.digits ≡ t.digits) → fold_address a ≡ a
folded_same a h = ap (λ (o : Option Title). record { routing = a.routing; gt = a.gt; pc = a.pc; ssn = a.ssn; title = o; code = a.code; sub = a.sub; others = a.others }) (go a.title refl)
  where
    go : (o : Option Title) → a.title ≡ o → option_map fold_title o ≡ o
    go None e = refl
    go (Some t) e = ap (λ (ds : List ℕ). Some (record { gti = t.gti; tt = t.tt; np = t.np; noa = t.noa; digits = ds })) (h t e)

abbrev Kept : Piece → Type 0
Kept (title t) = Unit {0}
Kept (code n) = Unit {0}
Kept (sub n) = Unit {0}
Kept (other p) = Other p

abbrev fold_piece : Piece → Piece
fold_piece (title t) = title (fold_title t)
fold_piece (code n) = code n
fold_piece (sub n) = sub n
fold_piece (other p) = other p

title_back : (t : Title) (w : List ℕ) → write_title built_in t ≡ accepted w → title_in built_in w ≡ accepted (fold_title t)
unfolding write_title title_in
title_back t w e =
    let (os, ho, same) = mapped_inv _ (write_digits built_in t.digits) e in
    let v = title_octets t os in
    ap (title_in built_in) (sym same) ∙ rw (le-leb 8 (length v) (omega arith), fold_reads t.digits os ho)

pub four_back : (n : ℕ) → four_in (four n) ≡ n
unfolding two_at
four_back n = omega arith

piece_back : (x : Piece) (qs : List Param) → Kept x → sub_param built_in x ≡ accepted qs → (q : Param) × (q ∷ [] ≡ qs) × (piece_in built_in q ≡ accepted (fold_piece x ∷ []))
unfolding sub_param piece_in
piece_back (title t) qs k e =
    let (w, hw, same) = mapped_inv {B = List Param} (λ v. record { tag = 0x8001; value = v } ∷ []) (write_title built_in t) e in
    (record { tag = 0x8001; value = w }, same, rw (title_back t w hw))
piece_back (code n) qs k e = (record { tag = 0x8002; value = four n }, accepted_inj e, rw (four_back n))
piece_back (sub n) qs k e = (record { tag = 0x8003; value = 0 ∷ 0 ∷ 0 ∷ n ∷ [] }, accepted_inj e, refl)
piece_back (other p) qs k e = (p, accepted_inj e, rw (ne_eqb _ _ k.title, ne_eqb _ _ k.code, ne_eqb _ _ k.sub))

pieces-read_back : (xs : List Piece) (qs : List Param) → All Kept xs → each (sub_param built_in) xs ≡ accepted qs → each (piece_in built_in) qs ≡ accepted (map fold_piece xs)
pieces-read_back [] qs k e = ap (each (piece_in built_in)) (sym (accepted_inj e))
pieces-read_back (x ∷ xs) qs k e =
    let (us, vs, hu, hv, j) = each_inv (sub_param built_in) x xs qs e in
    let (q, alone, b) = piece_back x us k.0 hu in
    ap (each (piece_in built_in)) (sym (ap (λ (us : List Param). us ++ vs) alone ∙ j))
    ∙ each-cons (piece_in built_in) q vs (fold_piece x ∷ []) (map fold_piece xs) b (pieces-read_back xs vs k.1 hv)

kept-others : (ps : List Param) → All Other ps → All Kept (map other ps)
kept-others [] h = tt
kept-others (p ∷ ps) h = (h.0, kept-others ps h.1)

fold-others : (ps : List Param) → map fold_piece (map other ps) ≡ map other ps
fold-others [] = refl
fold-others (p ∷ ps) = ap (λ (l : List Piece). other p ∷ l) (fold-others ps)

module _ (a : Address) where
  all-kept : All Other a.others → All Kept (pieces a)
  unfolding pieces
  all-kept h =
      all_append Kept (present title a.title) _ (titles a.title)
      (all_append Kept (present code a.code) _ (codes a.code) (all_append Kept (present sub a.sub) _ (subs a.sub) (kept-others a.others h)))
    where
      titles : (o : Option Title) → All Kept (present title o)
      titles None = tt
      titles (Some t) = (tt, tt)

      codes : (o : Option ℕ) → All Kept (present code o)
      codes None = tt
      codes (Some n) = (tt, tt)

      subs : (o : Option ℕ) → All Kept (present sub o)
      subs None = tt
      subs (Some n) = (tt, tt)

  pieces_folded : map fold_piece (pieces a) ≡ pieces (fold_address a)
  unfolding pieces
  pieces_folded = go a.title a.code a.sub
    where
      go :
          (t : Option Title) (c s : Option ℕ)
          → map fold_piece (present title t ++ (present code c ++ (present sub s ++ map other a.others)))
          ≡ present title (option_map fold_title t) ++ (present code c ++ (present sub s ++ map other a.others))
      go None None None = fold-others a.others
      go None None (Some s) = ap (λ (l : List Piece). sub s ∷ l) (fold-others a.others)
      go None (Some c) None = ap (λ (l : List Piece). code c ∷ l) (fold-others a.others)
      go None (Some c) (Some s) = ap (λ (l : List Piece). code c ∷ sub s ∷ l) (fold-others a.others)
      go (Some t) None None = ap (λ (l : List Piece). title (fold_title t) ∷ l) (fold-others a.others)
      go (Some t) None (Some s) = ap (λ (l : List Piece). title (fold_title t) ∷ sub s ∷ l) (fold-others a.others)
      go (Some t) (Some c) None = ap (λ (l : List Piece). title (fold_title t) ∷ code c ∷ l) (fold-others a.others)
      go (Some t) (Some c) (Some s) = ap (λ (l : List Piece). title (fold_title t) ∷ code c ∷ sub s ∷ l) (fold-others a.others)

  -- An address that was written is read back.
  pub address-written_back : (tag : ℕ) (w : List ℕ) → a.routing ≤ 4 → All Other a.others → write_address built_in tag a ≡ accepted w → read_address built_in w ≡ accepted (fold_address a)
  unfolding read_address indicator
  address-written_back tag w r h e =
      let k = written_inv built_in tag a w e in
      let read = pieces-read_back (pieces a) k.params (all-kept h) k.subs ∙ ap accepted pieces_folded in
      let same : address_octets (fold_address a) k.params ≡ w = k.octets in
      bounded-within w (address_in built_in w) (omega (arith, k.size))
      ∙ ap (address_in built_in) (sym same)
      ∙ octets-read built_in (fold_address a) k.params r read

routing_few : (i : RoutingIndicator) → routing_value i ≤ 4
routing_few I.Reserved = omega arith
routing_few I.RouteOnGlobalTitle = omega arith
routing_few I.RouteOnSsnAndPc = omega arith
routing_few I.RouteOnHostname = omega arith
routing_few I.RouteOnSsnAndIp = omega arith

given_is : (a : SuaAddress) (others : List Param) (x : Address) → address_given a others ≡ accepted x → address_of a others ≡ x
given_is a others x e = (mapped_inv _ (part_given a.global_title) e).2

-- An address that was given by its record and its table, written and read back.
pub given_back :
    (tag : ℕ) (a : SuaAddress) (values : List ℕ) (t : Table) (others : List Param) (w : List ℕ)
    → records values t a.other_count ≡ accepted others
    → All Other others
    → encode_address_as tag a values t ≡ accepted w
    → read_address built_in w ≡ accepted (fold_address (address_of a others))
unfolding encode_address_as
given_back tag a values t others w known h e =
    let e1 = sym (ap (λ (o : Outcome (List Param)). after o (λ others. after (address_given a others) (write_address built_in tag))) known) ∙ e in
    let (x, hx, e2) = after_inv (address_given a others) _ e1 in
    let same = given_is a others x hx in
    address-written_back (address_of a others) tag w (routing_few a.routing_indicator) h (ap (write_address built_in tag) same ∙ e2)
