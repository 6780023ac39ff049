-- An address value that was planned, written part by part.
use Prim.Native.Nat.{ℕ, ◌+◌, ◌-◌, ◌*◌, ◌/◌, ◌%◌, ◌≤◌, ◌<◌}
use mathlib.Core.Path.{◌≡◌, refl, sym, ap, ◌∙◌, subst}
use mathlib.Core.List.{List, [], ◌∷◌, ◌++◌, map, append_assoc, append-nil}
use native.Mathlib.Omega.{arith}
use lib.ListN.{length, get_or, drop, length-append}
use borrow.Rule.Slice.PartMut.{mid_of, put_mid}
use Rattle.bcd.specs.Outcome.{Outcome, accepted, refused, after, mapped, each, deliver}
use Rattle.bcd.specs.Digits.{built_in}
use Rattle.bcd.proofs.Outcomes.{accepted_inj, each_split, deliver_buffer, deliver_answer}
use Rattle.bcd.proofs.Writing.{Begun, extend, delivered}
use Rattle.parameter.specs.Parameter.{Param, two_at, run_octets, run_length}
use Rattle.parameter.specs.Walk.{valued}
use Rattle.parameter.proofs.RoundTrip.{run_length_lem, run_octets-append, run_length-append}
use Rattle.address.specs.Address.{title, present, sub_param, read_address, write_address}
use Rattle.address.specs.Parts.{kept_title, kept_code, kept_sub}
use Rattle.address.specs.Steps.Kept.{kept_pieces}
use Rattle.address.specs.Again.{with_unknown}
use Rattle.address.specs.Listing.{other_places}
use Rattle.address.specs.Steps.Plan.{head_octets, wire_of, Plan, others_octets}
use Rattle.address.specs.declared.interpret.Digits.TheVariants as D
use Rattle.address.specs.declared.parts.Parts.{Parts}
use Rattle.address.proofs.Others.{count_known}
use Rattle.address.proofs.Unknown.{alike, subs-same}
use Rattle.address.proofs.Planning.{param_of, code_param, sub_one, rest, kept-written, others-sum}
use Rattle.address.proofs.Plans.{plan_octets, wire_length_lem}
use Rattle.address.proofs.Putting.{delivered_never}
use Rattle.address.proofs.Copying.{others_of, done-octets, lent_length}

pub head_octets_lem : (v r : List ℕ) → get_or v 1 0 < 256 → get_or v 0 0 ∷ get_or v 1 0 ∷ 0 ∷ (get_or v 3 0 % 8) ∷ r ≡ head_octets v ++ r
unfolding two_at
head_octets_lem v r h =
    let high : (get_or v 0 0 * 256 + get_or v 1 0) / 256 ≡ get_or v 0 0 = omega arith in
    let low : (get_or v 0 0 * 256 + get_or v 1 0) % 256 ≡ get_or v 1 0 = omega arith in
    let none : get_or v 3 0 % 8 / 256 ≡ 0 = omega arith in
    let bits : get_or v 3 0 % 8 % 256 ≡ get_or v 3 0 % 8 = omega arith in
    rw (high, low, none, bits)

-- Sub-parameters that a callee wrote behind what was begun.
pub record Wrote (out p d : List ℕ) (at : ℕ) (qs : List Param) (r : ℕ) (last : List ℕ) : Type 0 where
  pub count : r ≡ run_length qs
  pub begun : Begun out (p ++ run_octets qs) (put_mid at (length d - at) d last)
  pub place : length (p ++ run_octets qs) ≡ at + r

module _ {out p d : List ℕ} (at : ℕ) (b : Begun out p d) (place : length p ≡ at) (o : Outcome (List Param)) (qs : List Param) (known : o ≡ accepted qs)
    (room : at + run_length qs ≤ length out) where
  pub wrote_never :
      {X : Type 0} {n : ℕ} {vs last : List ℕ}
      → record { answer = refused n vs; buffer = last } ≡ deliver (mapped run_octets o) (mid_of at (length d - at) d)
      → X
  wrote_never e =
      let lent = mid_of at (length d - at) d in
      delivered_never (run_octets qs) lent (omega (arith, run_length_lem qs, lent_length d at, b.same))
      (e ∙ ap (λ (o : Outcome (List Param)). deliver (mapped run_octets o) lent) known)

  pub wrote :
      (r : ℕ) (last : List ℕ)
      → record { answer = accepted r; buffer = last } ≡ deliver (mapped run_octets o) (mid_of at (length d - at) d)
      → Wrote out p d at qs r last
  wrote r last e =
      let os = run_octets qs in
      let l = run_length_lem qs in
      let lent = lent_length d at in
      let fit : length os ≤ length (mid_of at (length d - at) d) = omega (arith, b.same) in
      let put = e ∙ ap (λ (o : Outcome (List Param)). deliver (mapped run_octets o) (mid_of at (length d - at) d)) known in
      let count = accepted_inj (deliver_answer os (mid_of at (length d - at) d) fit put) ∙ l in
      record {
        count = count;
        begun = extend os last at (length d - at) b place (omega (arith, b.same)) (omega (arith, b.same)) (deliver_buffer os (mid_of at (length d - at) d) fit put);
        place = rw (length-append p os) (omega arith);
      }

-- Sub-parameters in four lists behind a head: their length and octets.
pub parts-length : (ts cs us os : List Param) → run_length (ts ++ (cs ++ (us ++ os))) ≡ run_length ts + run_length cs + run_length us + run_length os
parts-length ts cs us os =
    let a = run_length-append ts (cs ++ (us ++ os)) in
    let b = run_length-append cs (us ++ os) in
    let c = run_length-append us os in
    omega arith

abbrev pub parts_octets : List ℕ → (ts cs us : List Param) → List ℕ
parts_octets head ts cs us = ((head ++ run_octets ts) ++ run_octets cs) ++ run_octets us

module _ (head : List ℕ) (ts cs us os : List Param) where
  parts-octets : parts_octets head ts cs us ++ run_octets os ≡ head ++ run_octets (ts ++ (cs ++ (us ++ os)))
  parts-octets =
      let t = run_octets ts in
      let c = run_octets cs in
      let u = run_octets us in
      let o = run_octets os in
      append_assoc ((head ++ t) ++ c) u o
      ∙ append_assoc (head ++ t) c (u ++ o)
      ∙ append_assoc head t (c ++ (u ++ o))
      ∙ ap (λ l. head ++ l)
      (sym (run_octets-append ts (cs ++ (us ++ os))
      ∙ ap (λ l. t ++ l) (run_octets-append cs (us ++ os) ∙ ap (λ l. c ++ l) (run_octets-append us os))))

  -- The last list behind the rest: all is written.
  pub parts-done :
      {out d last : List ℕ} (at total : ℕ)
      → Begun out (parts_octets head ts cs us) d
      → length (parts_octets head ts cs us) ≡ at
      → at + run_length os ≤ length out
      → last ≡ run_octets os ++ drop (length (run_octets os)) (mid_of at (length d - at) d)
      → length (head ++ run_octets (ts ++ (cs ++ (us ++ os)))) ≡ total
      → record { answer = accepted total; buffer = put_mid at (length d - at) d last } ≡ deliver (accepted (head ++ run_octets (ts ++ (cs ++ (us ++ os))))) out
  parts-done {out} {d} {last} at total b place room put size =
      let l = run_length_lem os in
      let x = extend (run_octets os) last at (length d - at) b place (omega (arith, b.same)) (omega (arith, b.same)) put in
      delivered total (subst (λ (w : List ℕ). Begun out w (put_mid at (length d - at) d last)) parts-octets x) size

  -- The last list is empty: all is written without it.
  pub parts_none :
      {out d : List ℕ} (total : ℕ)
      → os ≡ []
      → Begun out (parts_octets head ts cs us) d
      → length (head ++ run_octets (ts ++ (cs ++ (us ++ os)))) ≡ total
      → record { answer = accepted total; buffer = d } ≡ deliver (accepted (head ++ run_octets (ts ++ (cs ++ (us ++ os))))) out
  unfolding run_octets
  parts_none {out} {d} total none b size =
      let whole : parts_octets head ts cs us ≡ head ++ run_octets (ts ++ (cs ++ (us ++ os))) =
      sym (append-nil (parts_octets head ts cs us)) ∙ ap (λ ps. parts_octets head ts cs us ++ run_octets ps) (sym none) ∙ parts-octets in
      delivered total (subst (λ (w : List ℕ). Begun out w d) whole b) size

empty : {X : Type 0} (xs : List X) → length xs ≤ 0 → xs ≡ []
empty [] h = refl
empty (x ∷ xs) h = absurd (omega arith)

-- The sub-parameters of a plan, part by part.
pub record Pieces (v : List ℕ) (s : Parts) (total : ℕ) (p : Plan with_unknown v s total) : Type 0 where
  pub titled : List Param
  pub title : each (sub_param with_unknown) (present title (kept_title built_in v s.title)) ≡ accepted titled
  pub whole : titled ++ rest v s p.read.known.places ≡ p.params

pub planned-pieces : {v : List ℕ} {s : Parts} {total : ℕ} (p : Plan with_unknown v s total) → Pieces v s total p
unfolding kept_pieces
planned-pieces {v} {s} p =
    let (us, vs, hu, hv, j) = each_split (sub_param with_unknown) (present title (kept_title built_in v s.title)) _ p.params p.written in
    record { titled = us; title = hu; whole = accepted_inj (sym (kept-written v s p.read.known.places with_unknown us hu) ∙ p.written) }

module _ {v : List ℕ} {s : Parts} {total : ℕ} (p : Plan with_unknown v s total) where
  abbrev pub codes : List Param
  codes = param_of code_param (kept_code v s.code)

  abbrev pub subs : List Param
  subs = param_of sub_one (kept_sub v s.ssn)

  abbrev pub others : List Param
  others = others_of v p.read.known.places

  pub planned-length : 4 + run_length (planned-pieces p).titled + run_length codes + run_length subs + run_length others ≡ total
  planned-length =
      let q = planned-pieces p in
      let l = parts-length q.titled codes subs others in
      omega (arith, ap run_length q.whole, p.size)

  -- There is room for the others.
  pub record OthersRoom (at : ℕ) (d : List ℕ) : Type 0 where
    pub size : s.other_length ≤ length (mid_of at (length d - at) d)
    pub room : length (others_octets v) ≤ length (mid_of at (length d - at) d)

  pub others_room : (out d : List ℕ) {q : List ℕ} (at : ℕ) → Begun out q d → at + run_length others ≤ length out → OthersRoom at d
  others_room out d at b room =
      let l = lent_length d at in
      let o = ap length (done-octets v p.read.known.places p.read.known.walked) in
      record {
        size = omega (arith, others-sum p.read.known, b.same);
        room = omega (arith, run_length_lem others, b.same);
      }

  pub planned-done :
      (out d last : List ℕ) (at : ℕ)
      → Begun out (parts_octets (head_octets v) (planned-pieces p).titled codes subs) d
      → length (parts_octets (head_octets v) (planned-pieces p).titled codes subs) ≡ at
      → at + run_length others ≤ length out
      → last ≡ others_octets v ++ drop (length (others_octets v)) (mid_of at (length d - at) d)
      → record { answer = accepted total; buffer = put_mid at (length d - at) d last } ≡ deliver (after (read_address built_in v) (write_address with_unknown 0)) out
  planned-done out d last at b place room e =
      let q = planned-pieces p in
      let o = done-octets v p.read.known.places p.read.known.walked in
      let put = e ∙ ap (λ l. l ++ drop (length l) (mid_of at (length d - at) d)) o in
      let same = ap (wire_of v) q.whole in
      parts-done (head_octets v) q.titled codes subs others at total b place room put (ap length same ∙ wire_length_lem v p.params ∙ p.size)
      ∙ ap (λ w. deliver (accepted w) out) same
      ∙ ap (λ (o : Outcome (List ℕ)). deliver o out) (sym (plan_octets (alike D.Unchecked) 0 p))

  -- There are no others.
  pub planned_none :
      (out d : List ℕ)
      → s.other_count ≤ 0
      → Begun out (parts_octets (head_octets v) (planned-pieces p).titled codes subs) d
      → record { answer = accepted total; buffer = d } ≡ deliver (after (read_address built_in v) (write_address with_unknown 0)) out
  planned_none out d few b =
      let q = planned-pieces p in
      let none = ap (map (valued v)) (empty (other_places p.read.known.places) (omega (arith, count_known p.read.known))) in
      let same = ap (wire_of v) q.whole in
      parts_none (head_octets v) q.titled codes subs others total none b (ap length same ∙ wire_length_lem v p.params ∙ p.size)
      ∙ ap (λ w. deliver (accepted w) out) same
      ∙ ap (λ (o : Outcome (List ℕ)). deliver o out) (sym (plan_octets (alike D.Unchecked) 0 p))

-- A plan with checked digits is one without.
pub as_read : {v : List ℕ} {s : Parts} {total : ℕ} → Plan built_in v s total → Plan with_unknown v s total
as_read {v} {s} p = record {
  read = p.read;
  params = p.params;
  written = subs-same (kept_pieces built_in v s p.read.known.places) p.params p.written;
  size = p.size;
  fits = p.fits;
}

-- It is written the same; and the tag is told only where the value is too long.
pub any_tag :
    {v : List ℕ} {s : Parts} {total : ℕ} (tag : ℕ) (p : Plan built_in v s total)
    → after (read_address built_in v) (write_address with_unknown 0) ≡ after (read_address built_in v) (write_address built_in tag)
unfolding as_read
any_tag tag p = plan_octets (alike D.Unchecked) 0 (as_read p) ∙ sym (plan_octets (alike D.Checked) tag p)
