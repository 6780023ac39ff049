-- Messages under one header, over the message types of any protocol: what reading tells, and reading what was written.
use Prim.Native.Nat.{ℕ, ◌+◌, ◌≤◌, ◌<◌}
use mathlib.Core.Path.{◌≡◌, refl, sym, ap, ap₂, ◌∙◌, subst}
use mathlib.Core.List.{List, ◌++◌, map}
use native.Mathlib.Omega.{arith}
use lib.Dec.{leb, eqb}
use lib.ListN.{length, get_or, drop, length-drop}
use borrow.Author.Tests.{le-leb, leb-true, eqb-true}
use Rattle.bcd.specs.Outcome.{Outcome, accepted, refused, after, mapped, each, All, Octets, most}
use Rattle.bcd.proofs.Outcomes.{accepted_inj, after_inv, mapped_inv, demand_inv, bounded-within, all_drop}
use Rattle.parameter.specs.Parameter.{Param, round_up, run_octets, run_length, encode_param, Sized, Fits, two_at, four_in}
use Rattle.parameter.specs.Walk.{places, valued, parameters}
use Rattle.parameter.proofs.Structure.{places-parameters}
use Rattle.parameter.proofs.RoundTrip.{run_length_lem, run_octets_lem, round_trip, encode_accepts, encode_inv}
use Rattle.parameter.proofs.Reading.{parameters-fit, parameters-room}
use Rattle.message.specs.Kinds.{Kinds, kind_of}
use Rattle.message.specs.Framed.{named_by, Framed, message_of, read_of, places_of, octets_of, write_of}
use Rattle.message.proofs.Found.{kind_pair}

module _ {K : Type 0} (T : Kinds K) where
  pub octets-length : (k : K) (ps : List Param) → length (octets_of T k ps) ≡ 8 + run_length ps
  unfolding octets_of
  octets-length k ps = omega (arith, run_length_lem ps)

  -- The message length is the true one, also where other octets follow.
  pub octets_declared : (k : K) (ps : List Param) (rest : List ℕ) → four_in (drop 4 (octets_of T k ps ++ rest)) ≡ length (octets_of T k ps)
  unfolding octets_of two_at
  octets_declared k ps rest = let n = length (run_octets ps) in omega arith

  pub octets-octets :
      (k : K) (ps : List Param)
      → (T.pair_of k).0 < 256
      → (T.pair_of k).1 < 256
      → All Fits ps
      → 8 + run_length ps ≤ most
      → Octets (octets_of T k ps)
  unfolding octets_of
  octets-octets k ps c t fs h =
      let n = run_length_lem ps in
      (omega arith, (omega arith, (c, (t, (omega arith, (omega arith, (omega arith, (omega arith, run_octets_lem ps fs))))))))

  -- What it tells that a header was read.
  pub record Named (xs : List ℕ) (h : K × ℕ) : Type 0 where
    pub small : length xs ≤ most
    pub large : 8 ≤ length xs
    pub version : get_or xs 0 0 ≡ 1
    pub kind : kind_of T (get_or xs 2 0) (get_or xs 3 0) ≡ accepted h.0
    pub len : four_in (drop 4 xs) ≡ h.1

  pub named_inv : (xs : List ℕ) (h : K × ℕ) → named_by T xs ≡ accepted h → Named xs h
  unfolding named_by
  named_inv xs h e =
      let (small, e1) = demand_inv (leb (length xs) most) _ _ _ e in
      let (large, e2) = demand_inv (leb 8 (length xs)) _ _ _ e1 in
      let (version, e3) = demand_inv (eqb (get_or xs 0 0) 1) _ _ _ e2 in
      let (k, hk, j) = mapped_inv (λ k. (k, four_in (drop 4 xs))) (kind_of T (get_or xs 2 0) (get_or xs 3 0)) e3 in
      record {
        small = leb-true (length xs) most small;
        large = leb-true 8 (length xs) large;
        version = eqb-true (get_or xs 0 0) 1 version;
        kind = hk ∙ ap (λ (h : K × ℕ). accepted h.0) j;
        len = ap (λ (h : K × ℕ). h.1) j;
      }

  -- What it tells that a message was read.
  pub record HasRead (xs : List ℕ) (m : Framed K) : Type 0 where
    pub small : length xs ≤ most
    pub large : 8 ≤ length xs
    pub version : get_or xs 0 0 ≡ 1
    pub class : get_or xs 2 0 ≡ (T.pair_of m.type).0
    pub type : get_or xs 3 0 ≡ (T.pair_of m.type).1
    pub kind : kind_of T (get_or xs 2 0) (get_or xs 3 0) ≡ accepted m.type
    pub walked : parameters (drop 8 xs) ≡ accepted m.params

  pub read_inv : (xs : List ℕ) (m : Framed K) → read_of T xs ≡ accepted m → HasRead xs m
  unfolding read_of
  read_inv xs m e =
      let (h, hh, e1) = after_inv (named_by T xs) _ e in
      let (ps, hp, j) = mapped_inv (message_of h.0) (parameters (drop 8 xs)) e1 in
      let n = named_inv xs h hh in
      let (c, t) = kind_pair T _ _ h.0 n.kind in
      subst (HasRead xs) j (record {
        small = n.small;
        large = n.large;
        version = n.version;
        class = c;
        type = t;
        kind = n.kind;
        walked = hp;
      })

  -- What was read fits, and takes no more room when it is written, but for the padding of the last.
  module _ (xs : List ℕ) (m : Framed K) (r : HasRead xs m) where
    pub read_fits : Octets xs → All Fits m.params
    read_fits o = parameters-fit (drop 8 xs) m.params (all_drop (λ x. x < 256) 8 xs o) r.walked

    pub read_kind : kind_of T (T.pair_of m.type).0 (T.pair_of m.type).1 ≡ accepted m.type
    read_kind = sym (ap₂ (kind_of T) r.class r.type) ∙ r.kind

    pub read-room : 8 + run_length m.params ≤ round_up (length xs)
    read-room = let l = length-drop 8 xs in let h = r.large in omega (arith, parameters-room (drop 8 xs) m.params r.walked)

  -- From a type that is found by its pair and any list within bounds, reading what was written gives that type and that list.
  pub octets-read :
      (k : K) (ps : List Param)
      → kind_of T (T.pair_of k).0 (T.pair_of k).1 ≡ accepted k
      → 8 + run_length ps ≤ most
      → read_of T (octets_of T k ps) ≡ accepted (message_of k ps)
  unfolding read_of named_by octets_of
  octets-read k ps e h =
      let n = run_length_lem ps in
      let xs = octets_of T k ps in
      let named : named_by T xs ≡ accepted (k, four_in (drop 4 xs)) = bounded-within xs _ (omega arith) ∙ rw (le-leb 8 (length xs) (omega arith), e) refl in
      rw (named, round_trip ps) refl

  pub octets-written : (k : K) (ps : List Param) → All Sized ps → 8 + run_length ps ≤ most → write_of T (message_of k ps) ≡ accepted (octets_of T k ps)
  unfolding write_of
  octets-written k ps ss h =
      let l = octets-length k ps in
      rw (encode_accepts ps ss, le-leb (length (octets_of T k ps)) most (omega arith))

  -- What it tells that a message was written.
  pub record HasWritten (m : Framed K) (os : List ℕ) : Type 0 where
    pub octets : os ≡ octets_of T m.type m.params
    pub sizes : All Sized m.params
    pub small : 8 + run_length m.params ≤ most

  pub written_inv : (m : Framed K) (os : List ℕ) → write_of T m ≡ accepted os → HasWritten m os
  unfolding write_of
  written_inv m os e =
      let (us, hu, e1) = after_inv (each encode_param m.params) _ e in
      let (small, e2) = demand_inv (leb (length (octets_of T m.type m.params)) most) _ _ _ e1 in
      record {
        octets = sym (accepted_inj e2);
        sizes = (encode_inv m.params us hu).sizes;
        small = omega (arith, leb-true (length (octets_of T m.type m.params)) most small, octets-length m.type m.params);
      }

  -- Whatever was written reads back, of a type that is found by its pair.
  pub written_reads :
      (m : Framed K) (os : List ℕ)
      → kind_of T (T.pair_of m.type).0 (T.pair_of m.type).1 ≡ accepted m.type
      → write_of T m ≡ accepted os
      → read_of T os ≡ accepted m
  written_reads m os k e = let w = written_inv m os e in ap (read_of T) w.octets ∙ octets-read m.type m.params k w.small

  -- The values at the places are the parameters.
  pub places-values : (xs : List ℕ) → mapped (map (valued xs)) (places_of T xs) ≡ mapped (λ m. m.params) (read_of T xs)
  unfolding read_of places_of
  places-values xs = on (named_by T xs)
    where
      same : (k : K) (o : Outcome (List Param)) → o ≡ mapped (λ (m : Framed K). m.params) (mapped (message_of k) o)
      same k (accepted ps) = refl
      same k (refused n vs) = refl

      on :
          (o : Outcome (K × ℕ))
          → mapped (map (valued xs)) (after o (λ h. places xs 8))
          ≡ mapped (λ (m : Framed K). m.params) (after o (λ h. mapped (message_of h.0) (parameters (drop 8 xs))))
      on (accepted h) = places-parameters xs 8 ∙ same h.0 (parameters (drop 8 xs))
      on (refused n vs) = refl
