-- The second pass over a flat list: its parameters are written, as far as they have been walked.
use Prim.Native.Nat.{ℕ, ◌+◌, ◌-◌, ◌≤◌}
use mathlib.Core.Path.{◌≡◌, refl, sym, ap, ◌∙◌, subst}
use mathlib.Core.List.{List, [], ◌∷◌, ◌++◌, map, map-append, append-nil}
use native.Mathlib.Omega.{arith}
use lib.Dec.{leb}
use lib.ListN.{length, drop, length-append, length-take, length-drop}
use borrow.Author.Tests.{leb-true}
use borrow.Rule.Slice.PartMut.{mid_of, put_mid}
use Rattle.bcd.specs.Outcome.{Outcome, accepted, refused, after, mapped, each, delivered, deliver}
use Rattle.bcd.proofs.Outcomes.{accepted_inj, never, demand_inv, each_inv, each_split, each_append, deliver_buffer, deliver_answer}
use Rattle.bcd.proofs.Writing.{Begun, untouched, extend}
use Rattle.parameter.specs.declared.Place.{Place}
use Rattle.parameter.specs.Parameter.{Param, padded_length, param_octets, most_value, encode_param}
use Rattle.parameter.specs.Walk.{ended, found, valued}
use Rattle.parameter.proofs.RoundTrip.{octets-length}
use Rattle.parameter.proofs.Encoding.{encode_within}
use Rattle.flat.specs.Steps.Entries.{ListFits}
use Rattle.flat.specs.Flat.{flat_step, flat_steps, flat_list}
use Rattle.parameter.proofs.Records.{value-length}
use Rattle.flat.proofs.FlatList.{flat_inside, Walking, walking_start, walking_found, walking_next, walking_end, walking_refused, flat_walked, flat_refused}

-- the parameters of the list are known, and fit in so many places
pub record Known (xs : List ℕ) (room : ℕ) : Type 0 where
  pub walked : List Place
  pub places : flat_steps (length xs) xs 0 ≡ accepted walked
  pub octets : List ℕ
  pub encodes : each encode_param (map (valued xs) walked) ≡ accepted octets
  pub size : length octets ≤ room

pub known : (xs : List ℕ) (room : ℕ) → ListFits (after (flat_list xs) (each encode_param)) room → Known xs room
known xs room h = go (flat_steps (length xs) xs 0) refl
  where
    inner : (ps : List Place) (o : Outcome (List ℕ)) → flat_steps (length xs) xs 0 ≡ accepted ps → each encode_param (map (valued xs) ps) ≡ o → ListFits o room → Known xs room
    inner ps (refused n vs) w e f = absurd f
    inner ps (accepted os) w e f = record { walked = ps; places = w; octets = os; encodes = e; size = f }

    go : (o : Outcome (List Place)) → flat_steps (length xs) xs 0 ≡ o → Known xs room
    go (refused n vs) w = absurd (subst (λ o. ListFits (after o (each encode_param)) room) (flat_refused xs n vs w) h)
    go (accepted ps) w = inner ps (each encode_param (map (valued xs) ps)) w refl (subst (λ o. ListFits (after o (each encode_param)) room) (flat_walked xs ps w) h)

pub record Written (xs out d : List ℕ) (from at : ℕ) : Type 0 where
  pub walking : Walking xs from
  pub octets : List ℕ
  pub so_far : each encode_param (map (valued xs) walking.done) ≡ accepted octets
  pub begun : Begun out octets d
  pub place : length octets ≡ at

pub written_start : (xs out : List ℕ) → Written xs out out 0 0
unfolding walking_start
written_start xs out = record { walking = walking_start xs; octets = []; so_far = refl; begun = untouched out; place = refl }

-- a parameter that is written has a value that a length of 16 bits can tell
encoded_small : (p : Param) (os : List ℕ) → encode_param p ≡ accepted os → (length p.value ≤ most_value) × (param_octets p ≡ os)
unfolding encode_param
encoded_small p os e =
    let d = demand_inv (leb (length p.value) most_value) _ _ _ e in
    (leb-true (length p.value) most_value d.0, accepted_inj d.1)

-- what a turn of the loop needs of the record found
pub record Turn (xs : List ℕ) (q : Place) (at total : ℕ) : Type 0 where
  pub value : length (valued xs q).value ≡ q.length
  pub small : q.length ≤ most_value
  pub room : at + padded_length q.length ≤ total

module _ {xs out d : List ℕ} {from at room : ℕ} (k : Known xs room) (p : Written xs out d from at) where
  pub written_never : (m : ℕ) (vs : List ℕ) → refused m vs ≡ flat_step xs from → ⊥
  written_never m vs e = never (sym (walking_refused p.walking m vs e) ∙ k.places)

  -- all parameters are written
  pub written_all : accepted ended ≡ flat_step xs from → delivered (accepted at) d ≡ deliver (after (flat_list xs) (each encode_param)) out
  written_all e =
      Rattle.bcd.proofs.Writing.delivered at p.begun p.place
      ∙ ap (λ o. deliver o out) (sym p.so_far ∙ sym (ap (λ o. after o (each encode_param)) (flat_walked xs p.walking.done (walking_end p.walking e))))

  module _ (q : Place) (next : ℕ) (e : accepted (found q next) ≡ flat_step xs from) where
    -- what is left of the places behind the one that a step finds
    after-found : (rest : List Place) × (k.walked ≡ p.walking.done ++ q ∷ rest)
    after-found = go (flat_steps (length xs) xs next) refl
      where
        here : accepted k.walked ≡ mapped (λ qs. p.walking.done ++ qs) (mapped (λ ps. q ∷ ps) (flat_steps (length xs) xs next))
        here = sym k.places ∙ walking_found p.walking q next e

        go : (o : Outcome (List Place)) → flat_steps (length xs) xs next ≡ o → (rest : List Place) × (k.walked ≡ p.walking.done ++ q ∷ rest)
        go (accepted rest) w = (rest, accepted_inj (here ∙ ap (λ o. mapped (λ qs. p.walking.done ++ qs) (mapped (λ ps. q ∷ ps) o)) w))
        go (refused m vs) w = absurd (never (sym (here ∙ ap (λ o. mapped (λ qs. p.walking.done ++ qs) (mapped (λ ps. q ∷ ps) o)) w)))

    pub written_turn : Turn xs q at room
    written_turn =
        let (rest, w) = after-found in
        let done = map (valued xs) p.walking.done in
        let all : each encode_param (done ++ (valued xs q ∷ map (valued xs) rest)) ≡ accepted k.octets =
        sym (ap (each encode_param) (ap (map (valued xs)) w ∙ map-append (valued xs) p.walking.done (q ∷ rest))) ∙ k.encodes in
        let (us, vs, hu, hv, j) = each_split encode_param done (valued xs q ∷ map (valued xs) rest) k.octets all in
        let (qs, ts, hq, ht, i) = each_inv encode_param (valued xs q) (map (valued xs) rest) vs hv in
        let (small, same) = encoded_small (valued xs q) qs hq in
        let inside = flat_inside xs from e in
        let l = value-length xs q (omega (arith, inside.ends, inside.within)) in
        let a : length us ≡ at = ap length (accepted_inj (sym hu ∙ p.so_far)) ∙ p.place in
        let b : length qs ≡ padded_length q.length = ap length (sym same) ∙ octets-length (valued xs q) ∙ ap padded_length l in
        let c = length-append us vs in
        let f = length-append qs ts in
        let g = ap length i in
        let z = ap length j in
        record { value = l; small = omega arith; room = omega (arith, k.size) }

    -- the parameter is written into the rest of the output
    module _ (fits : room ≤ length out) {o : Outcome ℕ} {last : List ℕ} (w : delivered o last ≡ deliver (encode_param (valued xs q)) (mid_of at (length d - at) d)) where
      lent : length (mid_of at (length d - at) d) ≡ length d - at
      lent = rw (length-take (length d - at) (drop at d), length-drop at d) (omega arith)

      wire : delivered o last ≡ deliver (accepted (param_octets (valued xs q))) (mid_of at (length d - at) d)
      wire = let t = written_turn in
          w ∙ ap (λ o. deliver o (mid_of at (length d - at) d)) (encode_within (valued xs q) (omega (arith, t.value, t.small)))

      wide : length (param_octets (valued xs q)) ≤ length (mid_of at (length d - at) d)
      wide = let t = written_turn in omega (arith, lent, octets-length (valued xs q), ap padded_length t.value, t.room, p.begun.same)

      pub written-size : o ≡ accepted (padded_length q.length)
      written-size = let t = written_turn in
          deliver_answer (param_octets (valued xs q)) (mid_of at (length d - at) d) wide wire ∙ ap accepted (octets-length (valued xs q) ∙ ap padded_length t.value)

    pub written_more :
        (fits : room ≤ length out) {r : ℕ} {last : List ℕ}
        → delivered (accepted r) last ≡ deliver (encode_param (valued xs q)) (mid_of at (length d - at) d)
        → Written xs out (put_mid at (length d - at) d last) next (at + r)
    written_more fits {r} {last} w =
        let t = written_turn in
        let v = valued xs q in
        let l = octets-length v in
        let lv = ap padded_length t.value in
        let small : length v.value ≤ most_value = omega (arith, t.value, t.small) in
        let size = accepted_inj (written-size fits w) in
        record {
          walking = walking_next p.walking q next e;
          octets = p.octets ++ param_octets v;
          so_far =
              ap (each encode_param) (map-append (valued xs) p.walking.done (q ∷ []))
              ∙ each_append encode_param (map (valued xs) p.walking.done) (v ∷ []) p.octets (param_octets v) p.so_far (one v (encode_within v small));
          begun =
              extend (param_octets v) last at (length d - at) p.begun p.place (omega (arith, p.begun.same)) (omega (arith, p.begun.same, t.room, l, lv))
              (deliver_buffer (param_octets v) (mid_of at (length d - at) d) (wide fits w) (wire fits w));
          place = length-append p.octets (param_octets v) ∙ omega (arith, p.place, l, lv, size);
        }
      where
        one : (v : Param) → encode_param v ≡ accepted (param_octets v) → each encode_param (v ∷ []) ≡ accepted (param_octets v)
        one v e = rw (e, append-nil)
