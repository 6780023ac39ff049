-- Addresses: what one that was read tells, that it is read back the same from what it is written as, and that nothing
-- but its meaning is written.
use Prim.Native.Nat.{ℕ, ◌+◌, ◌-◌, ◌*◌, ◌/◌, ◌%◌, ◌≤◌, ◌<◌}
use mathlib.Core.Path.{◌≡◌, sym, ap, ◌∙◌, subst}
use mathlib.Core.Logic.{◌↔◌}
use mathlib.Core.List.{List, ◌++◌}
use native.Mathlib.Omega.{arith}
use borrow.Author.Tests.{le-leb, leb-true}
use lib.Dec.{leb}
use lib.ListN.{length, get_or, drop, length-drop}
use Rattle.bcd.specs.Outcome.{Outcome, accepted, after, each, All, Octets, most}
use Rattle.bcd.specs.Digits.{Alphabet, Lawful}
use Rattle.bcd.proofs.Outcomes.{accepted_inj, after_inv, mapped_inv, demand_inv, bounded-within, all_drop}
use Rattle.parameter.specs.Parameter.{Param, two, round_up, run_octets, run_length, most_value, encode_param, two_at}
use Rattle.parameter.specs.Walk.{parameters}
use Rattle.parameter.proofs.RoundTrip.{run_length_lem, run_octets_lem, round_trip, encode_inv}
use Rattle.parameter.proofs.Reading.{parameters-fit, parameters-room}
use Rattle.address.specs.Address.{Address, Piece, piece_in, address_with, address_in, read_address, indicator, pieces, sub_param, write_address, rewrite_address}
use Rattle.address.specs.Lengths.{total_length}
use Rattle.address.specs.Facts.{Rewritten}
use Rattle.address.proofs.Pieces.{pieces-all, pieces_room, indicator_small, pieces_back}
use Rattle.address.proofs.SubParams.{Came, pieces-read, pieces-written}

-- What an address that was read tells.
pub record HasAddress (A : Alphabet) (v : List ℕ) (a : Address) : Type 0 where
  pub long : 4 ≤ length v
  pub routing : two_at v 0 ≤ 4
  pub params : List Param
  pub walked : parameters (drop 4 v) ≡ accepted params
  pub parts : List Piece
  pub read : each (piece_in A) params ≡ accepted parts
  pub address : address_with (two_at v 0) (get_or v 3 0) parts ≡ a

pub address_inv : (A : Alphabet) (v : List ℕ) (a : Address) → address_in A v ≡ accepted a → HasAddress A v a
unfolding address_in
address_inv A v a e =
    let (long, e1) = demand_inv (leb 4 (length v)) _ _ _ e in
    let (r, hr, e2) = after_inv {A = ℕ} _ _ e1 in
    let (low, same) = demand_inv (leb (two_at v 0) 4) _ _ _ hr in
    let (ps, hp, e3) = after_inv (parameters (drop 4 v)) _ e2 in
    let (xs, hx, e4) = mapped_inv (address_with r (get_or v 3 0)) (each (piece_in A) ps) e3 in
    record {
      long = leb-true _ _ long;
      routing = leb-true _ _ low;
      params = ps;
      walked = hp;
      parts = xs;
      read = hx;
      address = ap (λ r. address_with r (get_or v 3 0) xs) (accepted_inj same) ∙ e4;
    }

-- What writing needs to know of an address that was read from octets.
pub record Readable (A : Alphabet) (v : List ℕ) (a : Address) : Type 0 where
  pub long : 4 ≤ length v
  pub routing : a.routing ≤ 4
  pub came : All (Came A) (pieces a)
  pub room : total_length (pieces a) ≤ round_up (length v - 4)

pub readable : (A : Alphabet) (v : List ℕ) (a : Address) → Octets v → address_in A v ≡ accepted a → Readable A v a
unfolding address_with
readable A v a o e =
    let h = address_inv A v a e in
    let fit = parameters-fit (drop 4 v) h.params (all_drop (λ (x : ℕ). x < 256) 4 v o) h.walked in
    let r = pieces-read A h.params h.parts fit h.read in
    let room = parameters-room (drop 4 v) h.params h.walked in
    let fewer = pieces_room (two_at v 0) (get_or v 3 0) h.parts in
    let rest : length (drop 4 v) ≡ length v - 4 = length-drop 4 v in
    subst (Readable A v) h.address (record {
      long = h.long;
      routing = h.routing;
      came = pieces-all (two_at v 0) (get_or v 3 0) h.parts (Came A) r.came;
      room = omega (arith, r.room);
    })

-- The octets of an address with these sub-parameters.
abbrev pub address_octets : Address → List Param → List ℕ
address_octets a qs = two a.routing ++ two (indicator a) ++ run_octets qs

pub octets-length : (a : Address) (qs : List Param) → length (address_octets a qs) ≡ 4 + run_length qs
octets-length a qs = omega (arith, run_length_lem qs)

-- What an address that was written tells.
pub record IsWritten (A : Alphabet) (a : Address) (w : List ℕ) : Type 0 where
  pub params : List Param
  pub subs : each (sub_param A) (pieces a) ≡ accepted params
  pub octets : address_octets a params ≡ w
  pub size : length w ≤ most_value

pub written_inv : (A : Alphabet) (tag : ℕ) (a : Address) (w : List ℕ) → write_address A tag a ≡ accepted w → IsWritten A a w
unfolding write_address
written_inv A tag a w e =
    let (qs, hq, e1) = after_inv (each (sub_param A) (pieces a)) _ e in
    let (os, ho, e2) = after_inv (each encode_param qs) _ e1 in
    let run = (encode_inv qs os ho).run in
    let (small, same) = demand_inv (leb (length (two a.routing ++ two (indicator a) ++ os)) most_value) _ _ _ e2 in
    let w≡ = accepted_inj same in
    record {
      params = qs;
      subs = hq;
      octets = ap (λ os. two a.routing ++ two (indicator a) ++ os) run ∙ w≡;
      size = subst (λ (w : List ℕ). length w ≤ most_value) w≡ (leb-true _ _ small);
    }

-- An address is read from its octets.
pub octets-read :
    (A : Alphabet) (a : Address) (qs : List Param)
    → a.routing ≤ 4
    → each (piece_in A) qs ≡ accepted (pieces a)
    → address_in A (address_octets a qs) ≡ accepted a
unfolding address_in two_at
octets-read A a qs h e =
    let routing : a.routing / 256 * 256 + a.routing % 256 ≡ a.routing = omega arith in
    let bits : indicator a % 256 ≡ indicator a = omega (arith, indicator_small a) in
    rw (le-leb 4 (length (address_octets a qs)) (omega arith), routing, bits, le-leb a.routing 4 h, round_trip qs, e, pieces_back a)

-- An address that was read and written is read back the same, can be a parameter's value, and takes no more room.
pub rewritten :
    (A : Alphabet)
    → Lawful A
    → (tag : ℕ) (v w : List ℕ) (a : Address)
    → Octets v
    → address_in A v ≡ accepted a
    → write_address A tag a ≡ accepted w
    → Rewritten A v w a
rewritten A L tag v w a o e d =
    let r = readable A v a o e in
    let k = written_inv A tag a w d in
    let qs = k.params in
    let q = pieces-written A L (pieces a) qs r.came k.subs in
    let i = indicator_small a in
    let l = octets-length a qs ∙ ap (λ (n : ℕ). 4 + n) q.size in
    let m = ap length k.octets in
    record {
      reads = ap (address_in A) (sym k.octets) ∙ octets-read A a qs r.routing q.reads;
      size = k.size;
      room = omega (arith, r.room, r.long);
      octets = subst Octets k.octets
          (omega (arith, r.routing), (omega (arith, r.routing), (omega arith, (omega arith, run_octets_lem qs q.fits))));
    }

pub address-read_back :
    (A : Alphabet)
    → Lawful A
    → (tag : ℕ) (v w : List ℕ) (a : Address)
    → Octets v
    → read_address A v ≡ accepted a
    → write_address A tag a ≡ accepted w
    → read_address A w ≡ accepted a
unfolding read_address
address-read_back A L tag v w a o e d =
    let (within, read) = demand_inv (leb (length v) most) _ _ _ e in
    let r = rewritten A L tag v w a o read d in
    bounded-within w (address_in A w) (omega (arith, r.size)) ∙ r.reads

-- Address values that mean the same are written alike, refusals included.
pub same-meaning : (A : Alphabet) (tag : ℕ) (u v : List ℕ) → address_in A u ≡ address_in A v → rewrite_address A tag u ≡ rewrite_address A tag v
unfolding rewrite_address
same-meaning A tag u v e = ap (λ (o : Outcome Address). after o (write_address A tag)) e

-- An address value that is read and written again.
pub record IsRewritten (A : Alphabet) (v w : List ℕ) : Type 0 where
  pub address : Address
  pub read : address_in A v ≡ accepted address
  pub rewritten : Rewritten A v w address

module _ (A : Alphabet) (L : Lawful A) (tag : ℕ) (v w : List ℕ) (o : Octets v) (e : rewrite_address A tag v ≡ accepted w) where
  pub rewrite_inv : IsRewritten A v w
  unfolding rewrite_address
  rewrite_inv =
      let (a, ha, hw) = after_inv (address_in A v) _ e in
      record { address = a; read = ha; rewritten = rewritten A L tag v w a o ha hw }

  -- What is written reads as the value that was given ..
  pub rewrite_reads : address_in A w ≡ address_in A v
  rewrite_reads = rewrite_inv.rewritten.reads ∙ sym rewrite_inv.read

  -- .. and is written again as it stands.
  pub rewrite_again : rewrite_address A tag w ≡ accepted w
  rewrite_again = same-meaning A tag w v rewrite_reads ∙ e

-- Where two address values are written, the octets are the same exactly when the values mean the same.
pub address-meaning :
    (A : Alphabet)
    → Lawful A
    → (tag : ℕ) (u v f g : List ℕ)
    → Octets u
    → Octets v
    → rewrite_address A tag u ≡ accepted f
    → rewrite_address A tag v ≡ accepted g
    → (f ≡ g) ↔ (address_in A u ≡ address_in A v)
address-meaning A L tag u v f g ou ov hf hg = (
  (λ e. sym (rewrite_reads A L tag u f ou hf) ∙ ap (address_in A) e ∙ rewrite_reads A L tag v g ov hg),
  (λ e. accepted_inj (sym hf ∙ same-meaning A tag u v e ∙ hg)),
)
