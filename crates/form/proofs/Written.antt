-- The second pass, parameter by parameter.
use Prim.Native.Nat.{ℕ, ◌+◌, ◌-◌, ◌≤◌}
use mathlib.Core.Path.{◌≡◌, refl, sym, ap, ◌∙◌, subst}
use mathlib.Core.List.{List, [], ◌∷◌, ◌++◌, map, map-append, append-nil}
use native.Mathlib.Omega.{arith}
use lib.ListN.{length, drop, length-take, length-drop}
use borrow.Rule.Slice.PartMut.{mid_of, put_mid}
use Rattle.bcd.specs.Outcome.{Outcome, accepted, refused, mapped, each, bounded, most, deliver}
use Rattle.bcd.proofs.Outcomes.{accepted_inj, never, each_inv, each_split, each_append, bounded-within, deliver_buffer, deliver_answer}
use Rattle.bcd.proofs.Writing.{Begun, untouched, extend, delivered}
use Rattle.parameter.specs.declared.Place.{Place}
use Rattle.parameter.specs.Parameter.{Param, run_octets, run_length, Fits}
use Rattle.parameter.specs.Walk
use Rattle.parameter.specs.Walk.{ended, found, step_at, places, valued}
use Rattle.parameter.proofs.RoundTrip.{run_length_lem, run_length-append, run_octets-append}
use Rattle.parameter.proofs.Reaching.{Reached, reached_start, reached_end, reached_refused, places_turn, walk_step, walk_more}
use Rattle.form.specs.Steps.Passes.{run_by, Placeable}
use Rattle.form.proofs.Passes.{run_walked, run_refused}

-- The form's parameters are known, and fit.
pub record Known (f : Param → Outcome (List Param)) (xs : List ℕ) (room : ℕ) : Type 0 where
  pub walked : List Place
  pub places : places xs 8 ≡ accepted walked
  pub params : List Param
  pub settles : each f (map (valued xs) walked) ≡ accepted params
  pub fits : run_length params ≤ room

pub known : (f : Param → Outcome (List Param)) (xs : List ℕ) (room : ℕ) → Placeable (run_by f xs) room → Known f xs room
known f xs room p = go (Walk.places xs 8) refl
  where
    go : (o : Outcome (List Place)) → Walk.places xs 8 ≡ o → Known f xs room
    go (refused n vs) w = absurd (never (sym (run_refused f xs n vs w) ∙ p.settles))
    go (accepted ps) w =
        record { walked = ps; places = w; params = p.params; settles = sym (run_walked f xs ps w) ∙ p.settles; fits = p.fits }

pub record Placed (f : Param → Outcome (List Param)) (xs out d : List ℕ) (from at : ℕ) : Type 0 where
  pub reached : Reached xs 8 from
  pub params : List Param
  pub so_far : each f (map (valued xs) reached.done) ≡ accepted params
  pub begun : Begun out (run_octets params) d
  pub place : run_length params ≡ at

pub placed_start : (f : Param → Outcome (List Param)) (xs out : List ℕ) → Placed f xs out out 8 0
unfolding run_octets run_length
placed_start f xs out = record { reached = reached_start xs 8; params = []; so_far = refl; begun = untouched out; place = refl }

-- The part of a buffer that is lent from a place on.
pub lent-length : (d : List ℕ) (at : ℕ) → length (mid_of at (length d - at) d) ≡ length d - at
lent-length d at = rw (length-take (length d - at) (drop at d), length-drop at d) (omega arith)

module _ {f : Param → Outcome (List Param)} {xs out d : List ℕ} {from at : ℕ} (k : Known f xs (length out)) (p : Placed f xs out d from at) where
  module _ (q : Place) (next : ℕ) (e : accepted (found q next) ≡ bounded xs (step_at xs from)) where
    -- what is left of the places behind the one that a step finds
    after-found : (rest : List Place) × (k.walked ≡ p.reached.done ++ q ∷ rest)
    after-found = go (places xs next) refl
      where
        here : accepted k.walked ≡ mapped (λ qs. p.reached.done ++ qs) (mapped (λ ps. q ∷ ps) (places xs next))
        here = sym k.places ∙ p.reached.left ∙ ap (mapped (λ qs. p.reached.done ++ qs)) (places_turn xs from _ (walk_step xs from e))

        go : (o : Outcome (List Place)) → places xs next ≡ o → (rest : List Place) × (k.walked ≡ p.reached.done ++ q ∷ rest)
        go (accepted rest) w = (rest, accepted_inj (here ∙ ap (λ o. mapped (λ qs. p.reached.done ++ qs) (mapped (λ ps. q ∷ ps) o)) w))
        go (refused m vs) w = absurd (never (sym (here ∙ ap (λ o. mapped (λ qs. p.reached.done ++ qs) (mapped (λ ps. q ∷ ps) o)) w)))

    -- the parameter found has its part of the form, which fits
    found_part : (qs : List Param) × (f (valued xs q) ≡ accepted qs) × (at + run_length qs ≤ length out)
    found_part =
        let (rest, w) = after-found in
        let done = map (valued xs) p.reached.done in
        let all : each f (done ++ (valued xs q ∷ map (valued xs) rest)) ≡ accepted k.params =
        sym (ap (each f) (ap (map (valued xs)) w ∙ map-append (valued xs) p.reached.done (q ∷ rest))) ∙ k.settles in
        let (us, vs, hu, hv, j) = each_split f done (valued xs q ∷ map (valued xs) rest) k.params all in
        let (qs, ts, hq, ht, i) = each_inv f (valued xs q) (map (valued xs) rest) vs hv in
        let front : p.params ≡ us = accepted_inj (sym p.so_far ∙ hu) in
        let a = run_length-append us vs in
        let b = run_length-append qs ts in
        let c : run_length us ≡ at = ap run_length (sym front) ∙ p.place in
        let g : run_length vs ≡ run_length (qs ++ ts) = ap run_length (sym i) in
        let z : run_length k.params ≡ run_length (us ++ vs) = ap run_length (sym j) in
        (qs, hq, omega (arith, k.fits))

    -- what is put stands there: it has room
    pub turn_room : at ≤ length d
    turn_room = let (qs, hq, room) = found_part in omega (arith, p.begun.same)

    module _ (put : Param → Outcome (List ℕ)) (there : (p : Param) (qs : List Param) → Fits p → f p ≡ accepted qs → put p ≡ accepted (run_octets qs)) (fit : Fits (valued xs q))
        (a : Outcome ℕ) (last : List ℕ) (w : record { answer = a; buffer = last } ≡ deliver (put (valued xs q)) (mid_of at (length d - at) d)) where
      -- the answer is the part's length
      pub turn_answer : (r : ℕ) × (a ≡ accepted r) × (at + r ≤ length d)
      turn_answer =
          let (qs, hq, room) = found_part in
          let l = run_length_lem qs in
          let lent = lent-length d at in
          let size = deliver_answer (run_octets qs) (mid_of at (length d - at) d) (omega (arith, p.begun.same))
          (w ∙ ap (λ o. deliver o (mid_of at (length d - at) d)) (there (valued xs q) qs fit hq)) in
          (length (run_octets qs), size, omega (arith, p.begun.same))

      pub placed_more : (r : ℕ) → a ≡ accepted r → Placed f xs out (put_mid at (length d - at) d last) next (at + r)
      placed_more r ar =
          let (qs, hq, room) = found_part in
          let l = run_length_lem qs in
          let lp = run_length_lem p.params in
          let lent = lent-length d at in
          let fits : length (run_octets qs) ≤ length (mid_of at (length d - at) d) = omega (arith, p.begun.same) in
          let w' = w ∙ ap (λ o. deliver o (mid_of at (length d - at) d)) (there (valued xs q) qs fit hq) in
          let size : r ≡ length (run_octets qs) = accepted_inj (sym ar ∙ deliver_answer (run_octets qs) (mid_of at (length d - at) d) fits w') in
          let one : each f (valued xs q ∷ []) ≡ accepted qs = rw (hq, append-nil) in
          record {
            reached = walk_more p.reached q next e;
            params = p.params ++ qs;
            so_far =
                ap (each f) (map-append (valued xs) p.reached.done (q ∷ []))
                ∙ each_append f (map (valued xs) p.reached.done) (valued xs q ∷ []) p.params qs p.so_far one;
            begun =
                subst (λ (os : List ℕ). Begun out os (put_mid at (length d - at) d last)) (sym (run_octets-append p.params qs))
                (extend (run_octets qs) last at (length d - at) p.begun (lp ∙ p.place) (omega (arith, p.begun.same)) (omega (arith, p.begun.same))
                (deliver_buffer (run_octets qs) (mid_of at (length d - at) d) fits w'));
            place = run_length-append p.params qs ∙ omega (arith, p.place);
          }

  -- the walk has come to its end: all parameters are written
  pub placed_end : accepted ended ≡ bounded xs (step_at xs from) → record { answer = accepted at; buffer = d } ≡ deliver (mapped run_octets (run_by f xs)) out
  placed_end e =
      let same : p.params ≡ k.params =
      accepted_inj (sym p.so_far ∙ ap (λ ps. each f (map (valued xs) ps)) (accepted_inj (sym (reached_end p.reached (walk_step xs from e)) ∙ k.places)) ∙ k.settles) in
      let b = subst (λ (qs : List Param). Begun out (run_octets qs) d) same p.begun in
      delivered at b (run_length_lem k.params ∙ ap run_length (sym same) ∙ p.place)
      ∙ ap (λ o. deliver (mapped run_octets o) out) (sym (run_walked f xs k.walked k.places ∙ k.settles))

  pub placed_never : (m : ℕ) (vs : List ℕ) → length xs ≤ most → refused m vs ≡ bounded xs (step_at xs from) → ⊥
  placed_never m vs h e = never (sym (reached_refused p.reached m vs (sym (e ∙ bounded-within xs (step_at xs from) h))) ∙ k.places)
