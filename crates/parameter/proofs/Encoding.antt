-- One parameter: the cases of its definitions, and the buffer after each call of its writer.
use Prim.Native.Nat.{ℕ, ◌+◌, ◌-◌, ◌*◌, ◌/◌, ◌≤◌, ◌<◌}
use mathlib.Core.Path.{◌≡◌, refl, sym, ap, ◌∙◌}
use mathlib.Core.Bool.{Bool, true, false}
use Rattle.std.specs.Prelude.{None, Some}
use mathlib.Core.List.{List, [], ◌∷◌, ◌++◌, append_assoc}
use native.Mathlib.Omega.{arith}
use borrow.Author.Tests.{le-leb, lt-leb, leb-true}
use lib.ListN.{length, take, drop, replicate, take-append-drop, length-append, length-take, length-drop, length-replicate}
use lib.Seq.{drop-drop}
use lib.Dec.{leb}
use borrow.Rule.Slice.PartMut.{mid_of, put_mid}
use Rattle.bcd.specs.Outcome.{Outcome, accepted, refused, after, demand, mapped, most, bounded, deliver}
use Rattle.bcd.proofs.Outcomes.{accepted_inj, never, deliver_refused, demand_inv, after-demand, mapped-demand}
use Rattle.bcd.proofs.Writing.{Begun, begin, extend_all, delivered}
use Rattle.parameter.specs.Parameter.{Param, two, four_in, padded_length, param_octets, most_value, encode_param, wire_length, frame_param, number_in}
use Rattle.parameter.specs.Walk.{Walked, taken, step_at, decode_param}
use Rattle.parameter.proofs.RoundTrip.{octets-length}

-- A value above 65,531 octets is refused as 10 ..
pub wire_beyond : (tag n : ℕ) → 65531 < n → wire_length tag n ≡ refused 10 (tag ∷ n ∷ [])
unfolding wire_length
wire_beyond tag n h = rw (lt-leb n 65531 h)

-- .. and no other is.
pub wire_within : (tag n : ℕ) → n ≤ 65531 → wire_length tag n ≡ accepted (padded_length n)
unfolding wire_length
wire_within tag n h = rw (le-leb n 65531 h)

-- the wire length is the length of what is written
pub wire_encode : (p : Param) → mapped length (encode_param p) ≡ wire_length p.tag (length p.value)
unfolding encode_param wire_length
wire_encode p =
    mapped-demand (leb (length p.value) most_value) 10 _ length (accepted (param_octets p))
    ∙ ap (λ (n : ℕ). demand (leb (length p.value) most_value) 10 (p.tag ∷ length p.value ∷ []) (accepted n)) (octets-length p)

-- So is writing one.
pub encode_within : (p : Param) → length p.value ≤ 65531 → encode_param p ≡ accepted (param_octets p)
unfolding encode_param
encode_within p h = rw (le-leb (length p.value) 65531 h)

pub encode_beyond : (p : Param) → 65531 < length p.value → encode_param p ≡ refused 10 (p.tag ∷ length p.value ∷ [])
unfolding encode_param
encode_beyond p h = rw (lt-leb (length p.value) 65531 h)

pub number_short : (v : List ℕ) → length v < 4 → number_in v ≡ None
unfolding number_in
number_short v h = rw (lt-leb 4 (length v) h)

pub number-four : (v : List ℕ) → 4 ≤ length v → number_in v ≡ Some (four_in v)
unfolding number_in
number-four v h = rw (le-leb 4 (length v) h)

-- reading one parameter goes on from a step at the front
pub decode_step : (xs : List ℕ) (w : Outcome Walked) → w ≡ bounded xs (step_at xs 0) → after w (taken xs) ≡ bounded xs (decode_param xs)
unfolding decode_param
decode_step xs w e = ap (λ (o : Outcome Walked). after o (taken xs)) e ∙ after-demand (leb (length xs) most) 12 _ (step_at xs 0) (taken xs)

pub wire_inv : (tag k n : ℕ) → accepted n ≡ wire_length tag k → (k ≤ most_value) × (n ≡ padded_length k)
unfolding wire_length
wire_inv tag k n e =
    let (t, a) = demand_inv (leb k most_value) 10 _ _ (sym e) in
    (leb-true k most_value t, sym (accepted_inj a))

-- one parameter in front of what the buffer held is delivered
pub put-delivered :
    (p : Param) (n : ℕ) (d out : List ℕ)
    → length p.value ≤ most_value
    → n ≡ padded_length (length p.value)
    → n ≤ length out
    → d ≡ param_octets p ++ drop (padded_length (length p.value)) out
    → record { answer = accepted n; buffer = d } ≡ deliver (encode_param p) out
put-delivered p n d out h e room put =
    let l = octets-length p in
    let b = begin out (param_octets p) d (omega arith) (put ∙ ap (λ (k : ℕ). param_octets p ++ drop k out) (sym l)) in
    rw (encode_within p h) (delivered n b (omega arith))

-- a value v of n octets that stands in place already
module _ (tag n : ℕ) (v out : List ℕ) (l : length v ≡ n) (room : padded_length n ≤ length out) where
  -- the padding after it
  pub pad_behind :
      (d last : List ℕ) (end : ℕ)
      → Begun out (two tag ++ two (n + 4) ++ v) d
      → end ≡ padded_length n
      → last ≡ replicate (length (mid_of (n + 4) (end - (n + 4)) d)) 0
      → Begun out (param_octets (record { tag = tag; value = v })) (put_mid (n + 4) (end - (n + 4)) d last)
  unfolding param_octets
  pad_behind d last end b e zeros =
      let c : 4 + n ≡ n + 4 = omega arith in
      let same : end ≡ (n + 4 + 3) / 4 * 4 = omega (arith, e) in
      let k = (n + 4 + 3) / 4 * 4 - (n + 4) in
      let lent : length (mid_of (n + 4) (end - (n + 4)) d) ≡ k = simp (length-take, length-drop) (omega (arith, b.same, same)) in
      rw (zeros, lent, same, l, c) (extend_all (replicate k 0) (n + 4) k b (simp length-append (omega arith)) (omega arith) (length-replicate k 0))

  -- the tag and the length before it
  pub head_first : (d : List ℕ) → d ≡ two tag ++ drop 2 out → Begun out (two tag) d
  head_first d e = begin out (two tag) d (omega arith) e

  pub head_second : (d last : List ℕ) → Begun out (two tag) d → last ≡ two (n + 4) → Begun out (two tag ++ two (n + 4)) (put_mid 2 2 d last)
  head_second d last b e = rw e (extend_all (two (n + 4)) 2 2 b refl (omega arith) refl)

  -- it stands behind the tag and the length
  pub value-behind : (d : List ℕ) → v ≡ take n (drop 4 out) → Begun out (two tag ++ two (n + 4)) d → Begun out (two tag ++ two (n + 4) ++ v) d
  value-behind d e b =
      let p = two tag ++ two (n + 4) in
      let k : length (p ++ v) ≡ 4 + n = rw (length-append p v) (omega arith) in
      begin out (p ++ v) d (omega arith)
      (b.holds
      ∙ ap (λ (r : List ℕ). p ++ r) (sym (take-append-drop n (drop 4 out)))
      ∙ ap (λ (r : List ℕ). p ++ (take n (drop 4 out) ++ r)) (drop-drop n 4 out)
      ∙ ap (λ (r : List ℕ). p ++ (r ++ drop (4 + n) out)) (sym e)
      ∙ sym (append_assoc p v (drop (4 + n) out))
      ∙ ap (λ (i : ℕ). p ++ v ++ drop i out) (sym k))

pub framed-length : (n : ℕ) (out : List ℕ) → padded_length n ≤ length out → length (take n (drop 4 out)) ≡ n
framed-length n out h = rw (length-take n (drop 4 out), length-drop 4 out) (omega arith)

-- the cases of `frame_param`
module _ (tag n : ℕ) (out : List ℕ) where
  pub frame_beyond : (m : ℕ) (vs : List ℕ) → refused m vs ≡ wire_length tag n → record { answer = refused m vs; buffer = out } ≡ deliver (frame_param tag n out) out
  unfolding frame_param wire_length
  frame_beyond m vs e = go (leb n most_value) e
    where
      rest : Outcome (List ℕ)
      rest =
          demand (leb (padded_length n) (length out)) 14 (padded_length n ∷ [])
          (accepted (param_octets (record { tag = tag; value = take n (drop 4 out) })))

      go :
          (t : Bool)
          → refused m vs ≡ demand t 10 (tag ∷ n ∷ []) (accepted (padded_length n))
          → record { answer = refused m vs; buffer = out } ≡ deliver (demand t 10 (tag ∷ n ∷ []) rest) out
      go true e = absurd (never e)
      go false e = let a : m ≡ 10 = cc in let b : vs ≡ tag ∷ n ∷ [] = cc in rw (a, b) (deliver_refused 10 (tag ∷ n ∷ []) out)

  pub frame_short : n ≤ most_value → length out < padded_length n → record { answer = refused 14 (padded_length n ∷ []); buffer = out } ≡ deliver (frame_param tag n out) out
  unfolding frame_param
  frame_short h k = rw (le-leb n most_value h, lt-leb (padded_length n) (length out) k) (deliver_refused 14 (padded_length n ∷ []) out)

  pub frame_known : n ≤ most_value → padded_length n ≤ length out → frame_param tag n out ≡ accepted (param_octets (record { tag = tag; value = take n (drop 4 out) }))
  unfolding frame_param
  frame_known h k = rw (le-leb n most_value h, le-leb (padded_length n) (length out) k)

  pub frame_delivered :
      (k : ℕ) (d : List ℕ)
      → n ≤ most_value
      → k ≡ padded_length n
      → k ≤ length out
      → d ≡ param_octets (record { tag = tag; value = take n (drop 4 out) }) ++ drop (padded_length n) out
      → record { answer = accepted k; buffer = d } ≡ deliver (frame_param tag n out) out
  frame_delivered k d h e room held =
      let fits : padded_length n ≤ length out = omega arith in
      let p : Param = record { tag = tag; value = take n (drop 4 out) } in
      let l : length (param_octets p) ≡ padded_length n = octets-length p ∙ ap padded_length (framed-length n out fits) in
      let b = begin out (param_octets p) d (omega arith) (held ∙ ap (λ (i : ℕ). param_octets p ++ drop i out) (sym l)) in
      rw (frame_known h fits) (delivered k b (omega arith))
