-- How far a list of parameters has been measured or written.
use Prim.Native.Nat.{ℕ, ◌+◌, ◌-◌, ◌≤◌, ◌<◌}
use mathlib.Core.Path.{◌≡◌, refl, sym, ap, ◌∙◌, subst}
use mathlib.Core.List.{List, [], ◌∷◌, ◌++◌, map}
use native.Mathlib.Omega.{arith}
use lib.ListN.{length, get_or, take, drop, length-append, length-take, length-drop}
use lib.Seq.{take_all}
use borrow.Author.Tests.{le-leb, lt-leb}
use borrow.Rule.Slice.PartMut.{mid_of, put_mid}
use Rattle.bcd.specs.Outcome.{Outcome, accepted, refused, after, mapped, each, most, fit64, deliver}
use Rattle.bcd.proofs.Outcomes.{accepted_inj, all_at, never, each_more, each_stopped, each-front, mapped_inv, mapped_refused, after_inv, deliver_refused}
use Rattle.bcd.proofs.Writing.{Begun, untouched, extend, delivered}
use Rattle.parameter.specs.declared.Place.{Place}
use Rattle.parameter.specs.Parameter.{Param, param, padded_length, param_octets, most_value, encode_param, encode_params, wire_length, writable, Sized}
use Rattle.parameter.specs.Walk.{valued}
use Rattle.parameter.specs.Table.{Table, records}
use Rattle.parameter.proofs.Records
use Rattle.parameter.proofs.Records.{nowhere, no_param, Held, held-length, value-length, held_inside, held-param, held-value}
use Rattle.parameter.proofs.RoundTrip.{octets-length, encode_inv}
use Rattle.parameter.proofs.Encoding.{wire_encode, wire_inv, encode_within}

-- the first i parameters are measured
pub record Measured (ps : List Param) (i total : ℕ) : Type 0 where
  pub octets : List ℕ
  pub so_far : each encode_param (take i ps) ≡ accepted octets
  pub sum : total ≡ fit64 (length octets)

pub measured_start : (ps : List Param) → Measured ps 0 0
measured_start ps = record { octets = []; so_far = refl; sum = omega arith }

module _ {ps : List Param} {i total : ℕ} (m : Measured ps i total) where
  pub measured_more :
      (next : ℕ) → i < length ps → length (get_or ps i no_param).value ≤ most_value → next ≡ fit64 (total + padded_length (length (get_or ps i no_param).value))
      → Measured ps (i + 1) next
  measured_more next h small e =
      let p = get_or ps i no_param in
      record {
        octets = m.octets ++ param_octets p;
        so_far = each_more encode_param ps i no_param m.octets (param_octets p) h m.so_far (encode_within p small);
        sum = rw (length-append m.octets (param_octets p), octets-length p) (omega (arith, m.sum));
      }

  pub measured_all : length ps ≤ i → accepted total ≡ mapped (λ (os : List ℕ). fit64 (length os)) (each encode_param ps)
  measured_all h = let e = rw (take_all i ps h) at m.so_far in rw e (ap accepted m.sum)

-- one record more is measured, or the first whose value is too long is refused
module _ {values : List ℕ} {t : Table} {count i total : ℕ} (k : Held values t count) (m : Measured (map (valued values) (take count t)) i total) (h : i < count) where
  abbrev row : Place
  row = get_or (take count t) i nowhere

  low : i < length (map (valued values) (take count t))
  low = rw (held-length k) h

  pub measured_row : (n next : ℕ) → accepted n ≡ wire_length row.tag row.length → next ≡ fit64 (total + n) → Measured (map (valued values) (take count t)) (i + 1) next
  measured_row n next e sum =
      let v = held-value k i h in
      let w = wire_inv row.tag row.length n e in
      measured_more m next low (rw v w.0) (rw v (omega (arith, w.1, sum)))

  pub measured_refused : (n : ℕ) (vs : List ℕ) → refused n vs ≡ wire_length row.tag row.length → refused n vs ≡ mapped (λ (os : List ℕ). fit64 (length os)) (after (records values t count) (each encode_param))
  measured_refused n vs e =
      let p = held-param k i h in
      let long : refused n vs ≡ wire_length row.tag (length (valued values row).value) = rw (value-length values row (held_inside k i h)) e in
      let same : encode_param (get_or (map (valued values) (take count t)) i no_param) ≡ refused n vs =
      ap encode_param p ∙ mapped_refused length (encode_param (valued values row)) n vs (long ∙ sym (wire_encode (valued values row))) in
      rw (k.known, each_stopped encode_param (map (valued values) (take count t)) i no_param m.octets n vs low m.so_far same)

-- the first i parameters are written
pub record Running (ps : List Param) (out d : List ℕ) (i at : ℕ) : Type 0 where
  pub octets : List ℕ
  pub so_far : each encode_param (take i ps) ≡ accepted octets
  pub begun : Begun out octets d
  pub place : length octets ≡ at

pub running_start : (ps : List Param) (out : List ℕ) → Running ps out out 0 0
running_start ps out = record { octets = []; so_far = refl; begun = untouched out; place = refl }

module _ {ps : List Param} {out d : List ℕ} {i at : ℕ} (r : Running ps out d i at) (os : List ℕ) (all : each encode_param ps ≡ accepted os) where
  -- the next parameter, within what a length can tell and within the buffer
  pub running_small : i < length ps → length (get_or ps i no_param).value ≤ most_value
  running_small h = all_at Sized ps i no_param (encode_inv ps os all).sizes h

  next : i < length ps → each encode_param (take (i + 1) ps) ≡ accepted (r.octets ++ param_octets (get_or ps i no_param))
  next h =
      each_more encode_param ps i no_param r.octets (param_octets (get_or ps i no_param)) h r.so_far
      (encode_within (get_or ps i no_param) (running_small h))

  pub running_room : i < length ps → at + padded_length (length (get_or ps i no_param).value) ≤ length os
  running_room h =
      let (vs, e) = each-front encode_param ps (i + 1) _ os (next h) all in
      let l = simp (length-append, octets-length) at (ap length e) in
      omega (arith, r.place)

  pub running_more :
      (last : List ℕ)
      → i < length ps
      → length os ≤ length out
      → last ≡ param_octets (get_or ps i no_param) ++ drop (padded_length (length (get_or ps i no_param).value)) (mid_of at (length d - at) d)
      → Running ps out (put_mid at (length d - at) d last) (i + 1) (at + padded_length (length (get_or ps i no_param).value))
  running_more last h fits e =
      let p = get_or ps i no_param in
      let l = octets-length p in
      let room = running_room h in
      record {
        octets = r.octets ++ param_octets p;
        so_far = next h;
        begun =
            extend (param_octets p) last at (length d - at) r.begun r.place (omega (arith, r.begun.same)) (omega (arith, r.begun.same))
            (e ∙ ap (λ (n : ℕ). param_octets p ++ drop n (mid_of at (length d - at) d)) (sym l));
        place = rw (length-append r.octets (param_octets p)) (omega (arith, r.place));
      }

  pub running_all : (n : ℕ) → length ps ≤ i → length os ≡ n → record { answer = accepted n; buffer = d } ≡ deliver (each encode_param ps) out
  running_all n h e =
      let whole : each encode_param ps ≡ accepted r.octets = rw (take_all i ps h) at r.so_far in
      let same : r.octets ≡ os = accepted_inj (sym whole ∙ all) in
      rw whole (delivered n r.begun (ap length same ∙ e))

-- a list's length, and 12, from the sum that was measured
large_list :
    (os out : List ℕ) (n : ℕ)
    → fit64 (length os) ≡ n
    → most < n
    → record { answer = refused 12 (n ∷ []); buffer = out } ≡ deliver (writable os) out
large_list os out n e h =
    let l : most < length os = omega arith in
    rw (lt-leb (length os) most l, e) (deliver_refused 12 (n ∷ []) out)

module _ (o : Outcome (List ℕ)) (n : ℕ) (e : accepted n ≡ mapped (λ (os : List ℕ). fit64 (length os)) o) where
  pub sum_large : (out : List ℕ) → most < n → record { answer = refused 12 (n ∷ []); buffer = out } ≡ deliver (after o writable) out
  sum_large out h =
      let (os, a, k) = mapped_inv (λ (os : List ℕ). fit64 (length os)) o (sym e) in
      large_list os out n k h ∙ ap (λ o. deliver (after o writable) out) (sym a)

  pub sum_exact : n ≤ most → accepted n ≡ mapped length o
  sum_exact h =
      let (os, a, k) = mapped_inv (λ (os : List ℕ). fit64 (length os)) o (sym e) in
      let l : n ≡ length os = omega arith in
      ap accepted l ∙ sym (ap (mapped length) a)

  pub sum-writable : n ≤ most → after o writable ≡ o
  sum-writable h =
      let (os, a, k) = mapped_inv (λ (os : List ℕ). fit64 (length os)) o (sym e) in
      let l : length os ≤ most = omega arith in
      let w : writable os ≡ accepted os = rw (le-leb (length os) most l) in
      ap (λ o. after o writable) a ∙ w ∙ sym a

-- a list of records whose parameters were measured
pub record Ready (values : List ℕ) (t : Table) (count total : ℕ) : Type 0 where
  pub held : Held values t count
  pub octets : List ℕ
  pub all : each encode_param (map (valued values) (take count t)) ≡ accepted octets
  pub size : length octets ≡ total

pub ready :
    (values : List ℕ) (t : Table) (count total : ℕ)
    → accepted total ≡ mapped length (after (records values t count) (each encode_param))
    → Ready values t count total
ready values t count total e =
    let (os, a, l) = mapped_inv length (after (records values t count) (each encode_param)) (sym e) in
    let (qs, r, b) = after_inv (records values t count) (each encode_param) a in
    let k = Records.held values t count qs r in
    record { held = k; octets = os; all = ap (each encode_param) (accepted_inj (sym k.known ∙ r)) ∙ b; size = l }

-- what a turn of the writing loop needs, by its record
pub record Turn (values : List ℕ) (p : Place) (out : List ℕ) (at : ℕ) : Type 0 where
  pub inside : p.start + p.length ≤ length values
  pub small : p.length ≤ most_value
  pub room : at + padded_length p.length ≤ length out

module _ {values out d : List ℕ} {t : Table} {count total i at : ℕ} (y : Ready values t count total)
    (r : Running (map (valued values) (take count t)) out d i at) (fits : total ≤ length out) (h : i < count) where
  abbrev params : List Param
  params = map (valued values) (take count t)

  below : i < length params
  below = rw (held-length y.held) h

  pub running_turn : Turn values (get_or (take count t) i nowhere) d at
  running_turn =
      let v = held-value y.held i h in
      record {
        inside = held_inside y.held i h;
        small = rw (← v) (running_small r y.octets y.all below);
        room = rw (← v) (omega (arith, running_room r y.octets y.all below, y.size, r.begun.same));
      }

  pub running_next :
      (last value : List ℕ) (next : ℕ)
      → value ≡ (valued values (get_or (take count t) i nowhere)).value
      → next ≡ at + padded_length (get_or (take count t) i nowhere).length
      → last ≡ param_octets (param (get_or (take count t) i nowhere).tag value) ++ drop (padded_length (length value)) (mid_of at (length d - at) d)
      → Running params out (put_mid at (length d - at) d last) (i + 1) next
  running_next last value next e n put =
      let v = held-value y.held i h in
      let whole : param (get_or (take count t) i nowhere).tag value ≡ get_or params i no_param = ap (param (get_or (take count t) i nowhere).tag) e ∙ sym (held-param y.held i h) in
      let put' = put ∙ ap (λ (q : Param). param_octets q ++ drop (padded_length (length q.value)) (mid_of at (length d - at) d)) whole in
      let n' : at + padded_length (length (get_or params i no_param).value) ≡ next = rw v (sym n) in
      subst (Running params out (put_mid at (length d - at) d last) (i + 1)) n'
      (running_more r y.octets y.all last below (omega (arith, y.size)) put')

-- a part from a start to an end, as the code lends it
pub part_of : (a b : ℕ) (values : List ℕ) → take (a + b - a) (drop a values) ≡ take b (drop a values)
part_of a b values = let e : a + b - a ≡ b = omega arith in rw e

pub part_length : (a b : ℕ) (values : List ℕ) → a + b ≤ length values → length (take (a + b - a) (drop a values)) ≡ b
part_length a b values h = rw (length-take (a + b - a) (drop a values), length-drop a values) (omega arith)

-- writing a list of records, from its parameters' octets
pub encoded_list : (r : Outcome (List Param)) → after r encode_params ≡ after (after r (each encode_param)) writable
unfolding encode_params
encoded_list (accepted ps) = refl
encoded_list (refused n vs) = refl

-- a sum that was refused
pub sum_refused :
    (o : Outcome (List ℕ)) (n : ℕ) (vs out : List ℕ)
    → refused n vs ≡ mapped (λ (os : List ℕ). fit64 (length os)) o
    → record { answer = refused n vs; buffer = out } ≡ deliver (after o writable) out
sum_refused (accepted os) n vs out e = absurd (never e)
sum_refused (refused m ws) n vs out e = let a : n ≡ m = cc in let b : vs ≡ ws = cc in rw (a, b) (deliver_refused m ws out)
