-- Octets that are written one behind the other, and how far the elements of a list have been measured or written.
use Prim.Native.Nat.{ℕ, ◌+◌, ◌-◌, ◌≤◌, ◌<◌}
use mathlib.Core.Path.{◌≡◌, refl, sym, ap, ◌∙◌}
use mathlib.Core.List.{List, [], ◌∷◌, ◌++◌, append_assoc, append-nil}
use native.Mathlib.Omega.{arith}
use lib.ListN.{length, get_or, take, length-append, length-take, length-drop}
use lib.Seq.{take_all}
use borrow.Rule.Slice.PartMut.{mid_of, put_mid}
use Rattle.bcd.specs.Outcome.{Outcome, accepted, refused, after, mapped, each, fit64, deliver}
use Rattle.bcd.proofs.Outcomes.{accepted_inj, never, mapped_inv, each_more, each_stopped, each-front, deliver_buffer, deliver_answer}
use Rattle.bcd.proofs.Writing.{Begun, extend, delivered}
use Rattle.pieces.specs.Parts.{Placeable}

-- What is written of two lists in a row.
pub each_joined :
    {A B : Type 0} (f : A → Outcome (List B)) (xs ys : List A)
    → each f (xs ++ ys) ≡ after (each f xs) (λ us. mapped (λ vs. us ++ vs) (each f ys))
each_joined {A} {B} f [] ys = go (each f ys)
  where
    go : (o : Outcome (List B)) → o ≡ mapped (λ vs. [] ++ vs) o
    go (accepted vs) = refl
    go (refused n vs) = refl
each_joined {A} {B} f (x ∷ xs) ys = rw (each_joined f xs ys) (go (f x) (each f xs) (each f ys))
  where
    go :
        (a b c : Outcome (List B))
        → after a (λ ys. mapped (λ zs. ys ++ zs) (after b (λ us. mapped (λ vs. us ++ vs) c)))
        ≡ after (after a (λ ys. mapped (λ zs. ys ++ zs) b)) (λ us. mapped (λ vs. us ++ vs) c)
    go (refused n vs) b c = refl
    go (accepted s) (refused n vs) c = refl
    go (accepted s) (accepted us) (refused n vs) = refl
    go (accepted s) (accepted us) (accepted vs) = ap accepted (sym (append_assoc s us vs))

-- Octets that a callee wrote behind what was begun.
pub record Wrote (out p d : List ℕ) (at : ℕ) (os : List ℕ) (a : Outcome ℕ) (last : List ℕ) : Type 0 where
  pub count : a ≡ accepted (length os)
  pub begun : Begun out (p ++ os) (put_mid at (length d - at) d last)
  pub place : length (p ++ os) ≡ at + length os

pub lent_length : (d : List ℕ) (at : ℕ) → length (mid_of at (length d - at) d) ≡ length d - at
lent_length d at = simp (length-take, length-drop) (omega arith)

pub wrote :
    {out p d : List ℕ} (at : ℕ) (o : Outcome (List ℕ)) (os : List ℕ) {a : Outcome ℕ} {last : List ℕ}
    → Begun out p d
    → length p ≡ at
    → o ≡ accepted os
    → at + length os ≤ length out
    → record { answer = a; buffer = last } ≡ deliver o (mid_of at (length d - at) d)
    → Wrote out p d at os a last
wrote {out} {p} {d} at o os {a} {last} b place known room e =
    let lent = mid_of at (length d - at) d in
    let fit : length os ≤ length lent = omega (arith, lent_length d at, b.same) in
    let put = e ∙ ap (λ (o : Outcome (List ℕ)). deliver o lent) known in
    record {
      count = deliver_answer os lent fit put;
      begun = extend os last at (length d - at) b place (omega (arith, b.same)) (omega (arith, b.same)) (deliver_buffer os lent fit put);
      place = rw (length-append p os) (omega arith);
    }

module _ {A : Type 0} (f : A → Outcome (List ℕ)) (xs : List A) where
  -- the first i elements are measured
  pub record Measured (i total : ℕ) : Type 0 where
    pub octets : List ℕ
    pub so_far : each f (take i xs) ≡ accepted octets
    pub sum : total ≡ fit64 (length octets)

  -- the first i elements are written
  pub record Running (out d : List ℕ) (i at : ℕ) : Type 0 where
    pub octets : List ℕ
    pub so_far : each f (take i xs) ≡ accepted octets
    pub begun : Begun out octets d
    pub place : length octets ≡ at

module _ {A : Type 0} {f : A → Outcome (List ℕ)} {xs : List A} {i total : ℕ} (m : Measured f xs i total) where
  pub measured_more :
      (next n : ℕ) (x : A)
      → i < length xs
      → accepted n ≡ mapped length (f (get_or xs i x))
      → next ≡ fit64 (total + n)
      → Measured f xs (i + 1) next
  measured_more next n x h e s =
      let (os, k, l) = mapped_inv length (f (get_or xs i x)) (sym e) in
      record {
        octets = m.octets ++ os;
        so_far = each_more f xs i x m.octets os h m.so_far k;
        sum = omega (arith, m.sum, length-append m.octets os);
      }

  pub measured_stopped :
      (n : ℕ) (vs : List ℕ) (x : A)
      → i < length xs
      → refused n vs ≡ mapped length (f (get_or xs i x))
      → refused n vs ≡ mapped (λ (os : List ℕ). fit64 (length os)) (each f xs)
  measured_stopped n vs x h e = rw (each_stopped f xs i x m.octets n vs h m.so_far (go (f (get_or xs i x)) e)) refl
    where
      go : (o : Outcome (List ℕ)) → refused n vs ≡ mapped length o → o ≡ refused n vs
      go (accepted os) e = absurd (never e)
      go (refused k ws) e = let a : n ≡ k = cc in let b : vs ≡ ws = cc in rw (a, b) refl

module _ {A : Type 0} {f : A → Outcome (List ℕ)} {xs : List A} {out d : List ℕ} {i at : ℕ} (r : Running f xs out d i at) (p : Placeable (each f xs) (length out)) where
  -- the next element, within the buffer
  pub running_next : (x : A) → i < length xs → (os : List ℕ) × (f (get_or xs i x) ≡ accepted os) × (at + length os ≤ length out)
  running_next x h = go (f (get_or xs i x)) refl
    where
      go : (o : Outcome (List ℕ)) → f (get_or xs i x) ≡ o → (os : List ℕ) × (f (get_or xs i x) ≡ accepted os) × (at + length os ≤ length out)
      go (refused n vs) e = absurd (never (sym (each_stopped f xs i x r.octets n vs h r.so_far e) ∙ p.encoded))
      go (accepted os) e =
          let (vs, k) = each-front f xs (i + 1) (r.octets ++ os) p.octets (each_more f xs i x r.octets os h r.so_far e) p.encoded in
          (os, e, omega (arith, ap length k, length-append (r.octets ++ os) vs, length-append r.octets os, r.place, p.fits))

  pub running_asked : (x : A) → i < length xs → Placeable (f (get_or xs i x)) (length (mid_of at (length d - at) d))
  running_asked x h =
      let (os, e, room) = running_next x h in
      record { octets = os; encoded = e; fits = omega (arith, lent_length d at, r.begun.same) }

  pub running_more :
      (x : A) (n : ℕ) (last : List ℕ)
      → i < length xs
      → record { answer = accepted n; buffer = last } ≡ deliver (f (get_or xs i x)) (mid_of at (length d - at) d)
      → Running f xs out (put_mid at (length d - at) d last) (i + 1) (at + n)
  running_more x n last h e =
      let (os, k, room) = running_next x h in
      let w = wrote at (f (get_or xs i x)) os r.begun r.place k room e in
      let l : n ≡ length os = accepted_inj w.count in
      record {
        octets = r.octets ++ os;
        so_far = each_more f xs i x r.octets os h r.so_far k;
        begun = w.begun;
        place = w.place ∙ ap (λ (n : ℕ). at + n) (sym l);
      }

  -- nothing is written of an element that is nothing
  pub running_none : (x : A) → i < length xs → f (get_or xs i x) ≡ accepted [] → Running f xs out d (i + 1) at
  running_none x h e = record {
    octets = r.octets;
    so_far = each_more f xs i x r.octets [] h r.so_far e ∙ ap accepted (append-nil r.octets);
    begun = r.begun;
    place = r.place;
  }

  -- no element is refused
  pub running_accepts :
      (x : A) (n : ℕ) (vs last : List ℕ)
      → i < length xs
      → record { answer = refused n vs; buffer = last } ≡ deliver (f (get_or xs i x)) (mid_of at (length d - at) d)
      → ⊥
  running_accepts x n vs last h e =
      let (os, k, room) = running_next x h in
      never (wrote at (f (get_or xs i x)) os r.begun r.place k room e).count

  pub running_fit : (x : A) (n : ℕ) (last : List ℕ) → i < length xs → record { answer = accepted n; buffer = last } ≡ deliver (f (get_or xs i x)) (mid_of at (length d - at) d) → at + n ≤ length out
  running_fit x n last h e = let s = running_more x n last h e in omega (arith, s.place, s.begun.fits)

  pub running_all : length xs ≤ i → record { answer = accepted at; buffer = d } ≡ deliver (each f xs) out
  running_all h = let e = rw (take_all i xs h) at r.so_far in rw e (delivered at r.begun r.place)

-- Octets that were measured, where there is room for them.
pub placeable : (o : Outcome (List ℕ)) (n room : ℕ) → accepted n ≡ mapped length o → n ≤ room → Placeable o room
placeable o n room e h = let (os, a, l) = mapped_inv length o (sym e) in record { octets = os; encoded = a; fits = omega arith }
