-- Settling as the code goes, in any family: the header, then the walk, and each parameter's part of the form in turn.
use Prim.Native.Nat.{ℕ, ◌+◌, ◌≤◌}
use mathlib.Core.Path.{◌≡◌, refl, sym, ap, ◌∙◌}
use mathlib.Core.List.{List, [], ◌∷◌, ◌++◌, map, map-append, append-nil, append_assoc}
use native.Mathlib.Omega.{arith}
use lib.ListN.{length, drop}
use Rattle.bcd.specs.Outcome.{Outcome, accepted, refused, after, mapped, each, All, Octets, most}
use Rattle.bcd.proofs.Outcomes.{accepted_inj, after_inv, mapped_inv, each_inv, octets-of}
use Rattle.parameter.specs.declared.Place.{Place}
use Rattle.parameter.specs.Parameter.{Param, padded_length, round_up, param_octets, run_octets, run_length, Fits}
use Rattle.parameter.specs.Walk.{places, valued, parameters}
use Rattle.parameter.proofs.Structure.{places-parameters}
use Rattle.parameter.proofs.RoundTrip.{run_length-append}
use Rattle.message.specs.Kinds.{Kinds}
use Rattle.message.specs.Framed.{Framed, message_of, named_by, read_of, octets_of}
use Rattle.message.proofs.Framing.{read_inv, read_fits, read-room}
use Rattle.form.specs.Family.{Family, rewritten, LawfulFamily, Carried}
use Rattle.form.specs.Steps.Passes.{sum_of, run_by}
use Rattle.form.proofs.Forms.{plain_by}

pub carried-fits : (p : Param) → Carried p.tag p.value → Fits p
carried-fits p c = record { tag = c.0; size = c.1; octets = octets-of p.value c.2 }

-- What is settled of a parameter takes no more room than it.
abbrev pub Roomy : (Param → Outcome (List Param)) → Type 0
Roomy f = (p : Param) (qs : List Param) → Fits p → f p ≡ accepted qs → run_length qs ≤ padded_length (length p.value)

pub roomy : {M : Type 0} (F : Family M) → LawfulFamily F → Roomy (rewritten F)
roomy F L p qs h e =
    let (ms, hm, hw) = after_inv (F.mean p) (each F.write) e in
    (L p ms qs h hm hw).room

-- the header first
module _ {K : Type 0} (T : Kinds K) (f : Param → Outcome (List Param)) (xs : List ℕ) where
  pub plain_refused : (n : ℕ) (vs : List ℕ) → named_by T xs ≡ refused n vs → plain_by T f xs ≡ refused n vs
  unfolding plain_by read_of
  plain_refused n vs e = rw e refl

  pub plain_run : (h : K × ℕ) → named_by T xs ≡ accepted h → plain_by T f xs ≡ mapped (octets_of T h.0) (run_by f xs)
  unfolding plain_by read_of run_by
  plain_run h e = rw e (go (parameters (drop 8 xs)))
    where
      go :
          (o : Outcome (List Param))
          → after (mapped (message_of h.0) o) (λ (m : Framed K). mapped (octets_of T m.type) (each f m.params))
          ≡ mapped (octets_of T h.0) (after o (each f))
      go (accepted ps) = refl
      go (refused n vs) = refl

module _ (f : Param → Outcome (List Param)) (xs : List ℕ) where
  -- the walk gives the parameters
  pub run_walked : (ps : List Place) → places xs 8 ≡ accepted ps → run_by f xs ≡ each f (map (valued xs) ps)
  unfolding run_by
  run_walked ps e = ap (λ o. after o (each f)) (sym (places-parameters xs 8) ∙ ap (mapped (map (valued xs))) e)

  pub run_refused : (n : ℕ) (vs : List ℕ) → places xs 8 ≡ refused n vs → run_by f xs ≡ refused n vs
  unfolding run_by
  run_refused n vs e = ap (λ o. after o (each f)) (sym (places-parameters xs 8) ∙ ap (mapped (map (valued xs))) e)

-- one element more
pub each_last : {A B : Type 0} (f : A → Outcome (List B)) (xs : List A) (y : A) → each f (xs ++ (y ∷ [])) ≡ after (each f xs) (λ us. mapped (λ vs. us ++ vs) (f y))
each_last {A} {B} f [] y = go (f y)
  where
    go : (o : Outcome (List B)) → after o (λ ys. mapped (λ zs. ys ++ zs) (accepted [])) ≡ mapped (λ vs. [] ++ vs) o
    go (accepted vs) = ap accepted (append-nil vs)
    go (refused n vs) = refl
each_last {A} {B} f (x ∷ xs) y = go (f x) (each f xs) (f y) (each_last f xs y)
  where
    go :
        (a b c : Outcome (List B))
        → each f (xs ++ (y ∷ [])) ≡ after b (λ us. mapped (λ vs. us ++ vs) c)
        → after a (λ ys. mapped (λ zs. ys ++ zs) (each f (xs ++ (y ∷ [])))) ≡ after (after a (λ ys. mapped (λ zs. ys ++ zs) b)) (λ us. mapped (λ vs. us ++ vs) c)
    go (refused n vs) b c e = refl
    go (accepted ys) (refused n vs) c e = rw e
    go (accepted ys) (accepted us) (refused n vs) e = rw e
    go (accepted ys) (accepted us) (accepted vs) e = rw e (ap accepted (sym (append_assoc ys us vs)))

-- what the parameters at places take in the form
abbrev pub taken : (Param → Outcome (List Param)) → List ℕ → List Place → Outcome ℕ
taken f xs ps = mapped run_length (each f (map (valued xs) ps))

pub taken_more :
    (f : Param → Outcome (List Param)) (xs : List ℕ) (ps : List Place) (p : Place)
    → after (taken f xs ps) (λ n. mapped (λ qs. n + run_length qs) (f (valued xs p))) ≡ taken f xs (ps ++ (p ∷ []))
taken_more f xs ps p =
    go (each f (map (valued xs) ps)) (f (valued xs p))
    ∙ sym (ap (mapped run_length) (ap (each f) (map-append (valued xs) ps (p ∷ [])) ∙ each_last f (map (valued xs) ps) (valued xs p)))
  where
    go :
        (a b : Outcome (List Param))
        → after (mapped run_length a) (λ n. mapped (λ qs. n + run_length qs) b) ≡ mapped run_length (after a (λ us. mapped (λ vs. us ++ vs) b))
    go (refused n vs) b = refl
    go (accepted us) (refused n vs) = refl
    go (accepted us) (accepted vs) = ap accepted (sym (run_length-append us vs))

pub one_length : (p : Param) → run_length (p ∷ []) ≡ padded_length (length p.value)
unfolding run_length
one_length p = omega arith

pub one_octets : (p : Param) → run_octets (p ∷ []) ≡ param_octets p
unfolding run_octets
one_octets p = append-nil (param_octets p)

-- a parameter takes at most 65,536 octets, and so sums stay small
module _ (f : Param → Outcome (List Param)) (R : Roomy f) where
  param_small : (p : Param) (qs : List Param) → Fits p → f p ≡ accepted qs → run_length qs ≤ 65536
  param_small p qs h e = omega (arith, R p qs h e, h.size)

  pub sum_small :
      (o : Outcome ℕ) (p : Param) (r : Outcome ℕ) (k : ℕ)
      → Fits p
      → sum_of o ≤ k
      → r ≡ after o (λ n. mapped (λ qs. n + run_length qs) (f p))
      → sum_of r ≤ k + 65536
  sum_small (refused n vs) p r k h s e = rw e (omega arith)
  sum_small (accepted n) p r k h s e = rw e (go (f p) refl)
    where
      go : (o : Outcome (List Param)) → f p ≡ o → sum_of (mapped (λ qs. n + run_length qs) o) ≤ k + 65536
      go (accepted qs) q = let l = param_small p qs h q in omega arith
      go (refused m vs) q = omega arith

  pub length_small : (p : Param) (n : ℕ) → Fits p → accepted n ≡ mapped run_length (f p) → n ≤ 65536
  length_small p n h e =
      let (qs, q, l) = mapped_inv run_length (f p) (sym e) in
      rw (← l) (param_small p qs h q)

  -- all parameters together take no more room
  each_room : (ps qs : List Param) → All Fits ps → each f ps ≡ accepted qs → run_length qs ≤ run_length ps
  unfolding run_length
  each_room [] qs fs e = rw (← accepted_inj e) (omega arith)
  each_room (p ∷ ps) qs fs e =
      let (us, vs, hu, hv, j) = each_inv f p ps qs e in
      let a = R p us fs.0 hu in
      let b = each_room ps vs fs.1 hv in
      rw (← j, run_length-append us vs) (omega arith)

  -- a form is within the bound
  pub run_room :
      {K : Type 0} (T : Kinds K) (xs : List ℕ) (h : K × ℕ) (qs : List Param)
      → Octets xs
      → named_by T xs ≡ accepted h
      → run_by f xs ≡ accepted qs
      → 8 + run_length qs ≤ most
  unfolding run_by read_of
  run_room T xs h qs o e k =
      let (ps, hp, hq) = after_inv (parameters (drop 8 xs)) (each f) k in
      let m : read_of T xs ≡ accepted (message_of h.0 ps) =
      ap (λ o. after o (λ h. mapped (message_of h.0) (parameters (drop 8 xs)))) e ∙ ap (mapped (message_of h.0)) hp in
      let r = read_inv T xs (message_of h.0 ps) m in
      let a = each_room ps qs (read_fits T xs _ r o) hq in
      let b : 8 + run_length ps ≤ round_up (length xs) = read-room T xs _ r in
      omega (arith, a, b, r.small)
