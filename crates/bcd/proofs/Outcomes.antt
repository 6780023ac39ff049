-- The laws of outcomes, of `each`, of `deliver` and of octet strings.
use Prim.Native.Nat.{ℕ, zero, suc, ◌+◌, ◌≤◌, ◌<◌}
use mathlib.Core.Path.{◌≡◌, refl, sym, ap, ◌∙◌}
use mathlib.Core.Bool.{Bool, true, false}
use mathlib.Core.Logic.{◌⊎◌, inl, inr}
use mathlib.Core.List.{List, [], ◌∷◌, ◌++◌, append_assoc, append-nil}
use native.Mathlib.Omega.{arith}
use native.Mathlib.Numerals.{add-one}
use lib.ListN.{length, get_or, take, drop, replicate, take-append-drop}
use lib.Seq.{take-suc, split_at}
use lib.Dec.{leb}
use borrow.Author.Tests.{le-leb, lt-leb, leb-true, leb-false}
use Rattle.bcd.specs.Outcome.{Outcome, accepted, refused, after, demand, mapped, each, All, Octets, bounded, Delivered, deliver}

pub accepted_inj : {A : Type 0} {a b : A} → ◌≡◌ {A = Outcome A} (accepted a) (accepted b) → a ≡ b
accepted_inj e = cc

pub never : {A : Type 0} {a : A} {n : ℕ} {vs : List ℕ} → ◌≡◌ {A = Outcome A} (refused n vs) (accepted a) → ⊥
never {A} {a} {n} {vs} e = let z : ◌≡◌ {A = ℕ} 0 1 = cc in omega arith

pub after_inv : {A B : Type 0} {b : B} (o : Outcome A) (f : A → Outcome B) → after o f ≡ accepted b → (a : A) × (o ≡ accepted a) × (f a ≡ accepted b)
after_inv (accepted a) f e = (a, refl, e)
after_inv (refused n vs) f e = absurd (never e)

pub mapped_inv : {A B : Type 0} {b : B} (f : A → B) (o : Outcome A) → mapped f o ≡ accepted b → (a : A) × (o ≡ accepted a) × (f a ≡ b)
mapped_inv f (accepted a) e = (a, refl, accepted_inj e)
mapped_inv f (refused n vs) e = absurd (never e)

pub mapped_refused : {A B : Type 0} (f : A → B) (o : Outcome A) (n : ℕ) (vs : List ℕ) → refused n vs ≡ mapped f o → o ≡ refused n vs
mapped_refused f (accepted a) n vs e = absurd (never (e))
mapped_refused f (refused m ws) n vs e = let a : m ≡ n = cc in let b : ws ≡ vs = cc in rw (a, b)

pub mapped-mapped : {A B C : Type 0} (g : B → C) (f : A → B) (o : Outcome A) → mapped g (mapped f o) ≡ mapped (λ a. g (f a)) o
mapped-mapped g f (accepted a) = refl
mapped-mapped g f (refused n vs) = refl

pub demand_inv : {A : Type 0} {a : A} (t : Bool) (n : ℕ) (vs : List ℕ) (o : Outcome A) → demand t n vs o ≡ accepted a → (t ≡ true) × (o ≡ accepted a)
demand_inv true n vs o e = (refl, e)
demand_inv false n vs o e = absurd (never e)

-- what goes on after a demand, after all
pub after-demand : {A B : Type 0} (t : Bool) (n : ℕ) (vs : List ℕ) (o : Outcome A) (f : A → Outcome B) → after (demand t n vs o) f ≡ demand t n vs (after o f)
after-demand true n vs o f = refl
after-demand false n vs o f = refl

pub mapped-demand : {A B : Type 0} (t : Bool) (n : ℕ) (vs : List ℕ) (f : A → B) (o : Outcome A) → mapped f (demand t n vs o) ≡ demand t n vs (mapped f o)
mapped-demand true n vs f o = refl
mapped-demand false n vs f o = refl

-- two numbers are in order, or the other way round
pub le_or_lt : (a b : ℕ) → (a ≤ b) ⊎ (b < a)
le_or_lt a b = told (leb a b) refl
  where
    told : (t : Bool) → leb a b ≡ t → (a ≤ b) ⊎ (b < a)
    told true e = inl (leb-true a b e)
    told false e = inr (leb-false a b e)

-- Up to 1,048,576 octets nothing is refused as 12 ..
pub bounded-within : {A : Type 0} (xs : List ℕ) (o : Outcome A) → length xs ≤ 1048576 → bounded xs o ≡ o
bounded-within xs o h = rw (le-leb (length xs) 1048576 h)

-- .. and above them everything.
pub bounded_beyond : {A : Type 0} (xs : List ℕ) (o : Outcome A) → 1048576 < length xs → bounded xs o ≡ refused 12 (length xs ∷ [])
bounded_beyond xs o h = rw (lt-leb (length xs) 1048576 h)

module _ {A B : Type 0} (f : A → Outcome (List B)) where
  pub each-cons : (x : A) (xs : List A) (us vs : List B) → f x ≡ accepted us → each f xs ≡ accepted vs → each f (x ∷ xs) ≡ accepted (us ++ vs)
  each-cons x xs us vs h k = rw (h, k)

  pub each_inv :
      (x : A) (xs : List A) (zs : List B)
      → each f (x ∷ xs) ≡ accepted zs
      → (us : List B) × (vs : List B) × (f x ≡ accepted us) × (each f xs ≡ accepted vs) × (us ++ vs ≡ zs)
  each_inv x xs zs e =
      let a = after_inv (f x) _ e in
      let b = mapped_inv (λ vs. a.0 ++ vs) (each f xs) a.2 in
      (a.0, b.0, a.1, b.1, b.2)

  pub each_append :
      (xs ys : List A) (us vs : List B)
      → each f xs ≡ accepted us
      → each f ys ≡ accepted vs
      → each f (xs ++ ys) ≡ accepted (us ++ vs)
  each_append [] ys us vs h k = rw (k, ← accepted_inj h)
  each_append (x ∷ xs) ys us vs h k =
      let (s, t, hs, ht, j) = each_inv x xs us h in
      each-cons x (xs ++ ys) s (t ++ vs) hs (each_append xs ys t vs ht k) ∙ ap accepted (sym (append_assoc s t vs) ∙ ap (λ l. l ++ vs) j)

  pub each_split :
      (xs ys : List A) (zs : List B)
      → each f (xs ++ ys) ≡ accepted zs
      → (us : List B) × (vs : List B) × (each f xs ≡ accepted us) × (each f ys ≡ accepted vs) × (us ++ vs ≡ zs)
  each_split [] ys zs e = ([], zs, refl, e, refl)
  each_split (x ∷ xs) ys zs e =
      let (s, t, hs, ht, j) = each_inv x (xs ++ ys) zs e in
      let (u, v, hu, hv, i) = each_split xs ys t ht in
      (s ++ u, v, each-cons x xs s u hs hu, hv, append_assoc s u v ∙ ap (λ l. s ++ l) i ∙ j)

  -- a refusal after what was accepted
  pub each_refused :
      (xs : List A) (y : A) (ys : List A) (us : List B) (n : ℕ) (vs : List ℕ)
      → each f xs ≡ accepted us
      → f y ≡ refused n vs
      → each f (xs ++ y ∷ ys) ≡ refused n vs
  each_refused [] y ys us n vs e h = rw h
  each_refused (x ∷ xs) y ys us n vs e h =
      let (s, t, hs, ht, j) = each_inv x xs us e in
      rw (hs, each_refused xs y ys t n vs ht h)

  -- a list gone through from its front: one element more, and the first that is refused
  pub each_more :
      (xs : List A) (i : ℕ) (d : A) (us vs : List B)
      → i < length xs
      → each f (take i xs) ≡ accepted us
      → f (get_or xs i d) ≡ accepted vs
      → each f (take (i + 1) xs) ≡ accepted (us ++ vs)
  each_more xs i d us vs h e k =
      let t : take (i + 1) xs ≡ take i xs ++ (get_or xs i d ∷ []) = rw add-one (take-suc xs i d h) in
      let one : each f (get_or xs i d ∷ []) ≡ accepted vs = rw (k, append-nil) in
      ap (each f) t ∙ each_append (take i xs) (get_or xs i d ∷ []) us vs e one

  pub each_stopped :
      (xs : List A) (i : ℕ) (d : A) (us : List B) (n : ℕ) (vs : List ℕ)
      → i < length xs
      → each f (take i xs) ≡ accepted us
      → f (get_or xs i d) ≡ refused n vs
      → each f xs ≡ refused n vs
  each_stopped xs i d us n vs h e k = ap (each f) (split_at xs i d h) ∙ each_refused (take i xs) (get_or xs i d) (drop (suc i) xs) us n vs e k

  -- what the front of a list gives is the front of what the list gives
  pub each-front :
      (xs : List A) (i : ℕ) (us os : List B)
      → each f (take i xs) ≡ accepted us
      → each f xs ≡ accepted os
      → (vs : List B) × (us ++ vs ≡ os)
  each-front xs i us os e k =
      let (u, v, hu, hv, j) = each_split (take i xs) (drop i xs) os (ap (each f) (take-append-drop i xs) ∙ k) in
      (v, ap (λ l. l ++ v) (accepted_inj (sym e ∙ hu)) ∙ j)

pub all_append : {A : Type 0} (P : A → Type 0) (xs ys : List A) → All P xs → All P ys → All P (xs ++ ys)
all_append P [] ys h k = k
all_append P (x ∷ xs) ys h k = (h.0, all_append P xs ys h.1 k)

pub all_take : {A : Type 0} (P : A → Type 0) (n : ℕ) (xs : List A) → All P xs → All P (take n xs)
all_take P zero xs h = tt
all_take P (suc n) [] h = tt
all_take P (suc n) (x ∷ xs) h = (h.0, all_take P n xs h.1)

pub all_drop : {A : Type 0} (P : A → Type 0) (n : ℕ) (xs : List A) → All P xs → All P (drop n xs)
all_drop P zero xs h = h
all_drop P (suc n) [] h = h
all_drop P (suc n) (x ∷ xs) h = all_drop P n xs h.1

pub all_replicate : {A : Type 0} (P : A → Type 0) (n : ℕ) (x : A) → P x → All P (replicate n x)
all_replicate P zero x h = tt
all_replicate P (suc n) x h = (h, all_replicate P n x h)

pub all_at : {A : Type 0} (P : A → Type 0) (xs : List A) (i : ℕ) (d : A) → All P xs → i < length xs → P (get_or xs i d)
all_at P [] i d h l = absurd (omega arith)
all_at P (x ∷ xs) zero d h l = h.0
all_at P (x ∷ xs) (suc i) d h l = all_at P xs i d h.1 (omega arith)

-- an octet string, by its places: what a lent slice of octets tells
pub octets-of : (xs : List ℕ) → ((i : ℕ) → get_or xs i 0 < 256) → Octets xs
octets-of [] h = tt
octets-of (x ∷ xs) h = (h 0, octets-of xs (λ i. h (suc i)))

pub octets_at : (xs : List ℕ) (i : ℕ) → Octets xs → get_or xs i 0 < 256
octets_at [] i h = omega arith
octets_at (x ∷ xs) zero h = h.0
octets_at (x ∷ xs) (suc i) h = octets_at xs i h.1

-- `deliver`, for each way that a writer can end
pub deliver_fits :
    (os out : List ℕ) → length os ≤ length out → record { answer = accepted (length os); buffer = os ++ drop (length os) out } ≡ deliver (accepted os) out
unfolding deliver
deliver_fits os out h = rw (le-leb (length os) (length out) h)

pub deliver-short : (os out : List ℕ) → length out < length os → record { answer = refused 14 (length os ∷ []); buffer = out } ≡ deliver (accepted os) out
unfolding deliver
deliver-short os out h = rw (lt-leb (length os) (length out) h)

pub deliver_refused : (n : ℕ) (vs out : List ℕ) → record { answer = refused n vs; buffer = out } ≡ deliver (refused n vs) out
unfolding deliver
deliver_refused n vs out = refl

-- where only the length of what is written is known
pub deliver_too_long :
    (o : Outcome (List ℕ)) (n : ℕ) (out : List ℕ)
    → accepted n ≡ mapped length o
    → length out < n
    → record { answer = refused 14 (n ∷ []); buffer = out } ≡ deliver o out
deliver_too_long (accepted os) n out e h = let k : n ≡ length os = cc in rw k (deliver-short os out (omega arith))
deliver_too_long (refused m vs) n out e h = absurd (never (sym e))

pub deliver-passed_on :
    (o : Outcome (List ℕ)) (n : ℕ) (vs out : List ℕ)
    → refused n vs ≡ mapped length o
    → record { answer = refused n vs; buffer = out } ≡ deliver o out
deliver-passed_on (accepted os) n vs out e = absurd (never e)
deliver-passed_on (refused m ws) n vs out e = let a : n ≡ m = cc in let b : vs ≡ ws = cc in rw (a, b) (deliver_refused m ws out)

-- what a callee's contract tells its caller, where the octets fit what it was lent
pub deliver_buffer :
    {answer : Outcome ℕ} {last : List ℕ} (os lent : List ℕ)
    → length os ≤ length lent
    → record { answer = answer; buffer = last } ≡ deliver (accepted os) lent
    → last ≡ os ++ drop (length os) lent
deliver_buffer os lent h e = ap (λ (d : Delivered). d.buffer) (e ∙ sym (deliver_fits os lent h))

pub deliver_answer :
    {answer : Outcome ℕ} {last : List ℕ} (os lent : List ℕ)
    → length os ≤ length lent
    → record { answer = answer; buffer = last } ≡ deliver (accepted os) lent
    → answer ≡ accepted (length os)
deliver_answer os lent h e = ap (λ (d : Delivered). d.answer) (e ∙ sym (deliver_fits os lent h))
