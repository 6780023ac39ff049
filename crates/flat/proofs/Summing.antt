-- The first pass over a flat list: what its parameters take, as far as they have been walked.
use Prim.Native.Nat.{ℕ, ◌+◌, ◌≤◌, ◌<◌}
use mathlib.Core.Path.{◌≡◌, refl, sym, ap, ◌∙◌}
use mathlib.Core.List.{List, [], ◌∷◌, ◌++◌, map, map-append}
use mathlib.Core.Logic.{⊎_elim}
use native.Mathlib.Omega.{arith}
use lib.ListN.{length, length-append}
use borrow.Author.Tests.{le-leb, lt-leb}
use Rattle.bcd.specs.Outcome.{Outcome, accepted, refused, after, mapped, each, fit64}
use Rattle.bcd.proofs.Outcomes.{le_or_lt}
use Rattle.parameter.specs.declared.Place.{Place}
use Rattle.parameter.specs.Parameter.{Param, padded_length, param_octets, most_value, encode_param, wire_length}
use Rattle.parameter.specs.Walk.{ended, found, valued}
use Rattle.parameter.proofs.Encoding.{encode_within, encode_beyond}
use Rattle.parameter.proofs.RoundTrip.{octets-length}
use Rattle.flat.specs.Flat.{flat_step, flat_list}
use Rattle.form.proofs.Passes.{each_last}
use Rattle.parameter.proofs.Records.{value-length}
use Rattle.flat.proofs.FlatList.{flat_inside, Walking, walking_start, walking_next, walking_end, walking_refused, flat_walked, flat_refused}

-- how many octets, or the largest number of 64 bits
abbrev pub size : List ℕ → ℕ
size os = fit64 (length os)

wire_within : (tag n : ℕ) → n ≤ most_value → wire_length tag n ≡ accepted (padded_length n)
unfolding wire_length
wire_within tag n h = rw (le-leb n most_value h)

wire_beyond : (tag n : ℕ) → most_value < n → wire_length tag n ≡ refused 10 (tag ∷ n ∷ [])
unfolding wire_length
wire_beyond tag n h = rw (lt-leb n most_value h)

-- the sum with one parameter more
pub sum_more :
    (ps : List Param) (p : Param) (o : Outcome (List ℕ))
    → each encode_param ps ≡ o
    → after (mapped size o) (λ n. mapped (λ m. fit64 (n + m)) (wire_length p.tag (length p.value))) ≡ mapped size (each encode_param (ps ++ (p ∷ [])))
sum_more ps p (refused n vs) e = rw (each_last encode_param ps p, e)
sum_more ps p (accepted os) e = ⊎_elim within beyond (le_or_lt (length p.value) most_value)
  where
    within : length p.value ≤ most_value → mapped (λ m. fit64 (size os + m)) (wire_length p.tag (length p.value)) ≡ mapped size (each encode_param (ps ++ (p ∷ [])))
    within h =
        let l : fit64 (size os + padded_length (length p.value)) ≡ size (os ++ param_octets p) =
        rw (length-append os (param_octets p), octets-length p) (omega arith) in
        rw (each_last encode_param ps p, e, encode_within p h, wire_within p.tag (length p.value) h) (ap accepted l)

    beyond : most_value < length p.value → mapped (λ m. fit64 (size os + m)) (wire_length p.tag (length p.value)) ≡ mapped size (each encode_param (ps ++ (p ∷ [])))
    beyond h = rw (each_last encode_param ps p, e, encode_beyond p h, wire_beyond p.tag (length p.value) h)

pub record Summed (xs : List ℕ) (at : ℕ) (sum : Outcome ℕ) : Type 0 where
  pub walked : Walking xs at
  pub so_far : sum ≡ mapped size (each encode_param (map (valued xs) walked.done))

pub summed_start : (xs : List ℕ) → Summed xs 0 (accepted 0)
unfolding walking_start
summed_start xs = record { walked = walking_start xs; so_far = refl }

pub summed_all :
    {xs : List ℕ} {at : ℕ} {sum : Outcome ℕ} (s : Summed xs at sum)
    → accepted ended ≡ flat_step xs at
    → sum ≡ mapped size (after (flat_list xs) (each encode_param))
summed_all {xs} s e = s.so_far ∙ sym (ap (λ o. mapped size (after o (each encode_param))) (flat_walked xs s.walked.done (walking_end s.walked e)))

module _ {xs : List ℕ} {at : ℕ} {sum : Outcome ℕ} (s : Summed xs at sum) where
  pub summed_more :
      (p : Place) (next : ℕ) (more : Outcome ℕ)
      → accepted (found p next) ≡ flat_step xs at
      → more ≡ after sum (λ n. mapped (λ m. fit64 (n + m)) (wire_length p.tag p.length))
      → Summed xs next more
  summed_more p next more e k =
      let i = flat_inside xs at e in
      let l = value-length xs p (omega (arith, i.ends, i.within)) in
      let ps = map (valued xs) s.walked.done in
      record {
        walked = walking_next s.walked p next e;
        so_far =
            k
            ∙ sym (ap (λ (i : ℕ). after sum (λ n. mapped (λ m. fit64 (n + m)) (wire_length p.tag i))) l)
            ∙ ap (λ t. after t (λ n. mapped (λ m. fit64 (n + m)) (wire_length p.tag (length (valued xs p).value)))) s.so_far
            ∙ sum_more ps (valued xs p) (each encode_param ps) refl
            ∙ sym (ap (λ qs. mapped size (each encode_param qs)) (map-append (valued xs) s.walked.done (p ∷ [])));
      }

  pub summed_refused : (m : ℕ) (vs : List ℕ) → refused m vs ≡ flat_step xs at → refused m vs ≡ mapped size (after (flat_list xs) (each encode_param))
  summed_refused m vs e = sym (ap (λ o. mapped size (after o (each encode_param))) (flat_refused xs m vs (walking_refused s.walked m vs e)))
