-- Which messages of a lawful family have a form, and how the others are refused.
use Prim.Native.Nat.{ℕ}
use mathlib.Core.Path.{◌≡◌, refl, sym, ap, ◌∙◌}
use mathlib.Core.Logic.{◌⊎◌, inl, inr, ⊎_elim, ◌↔◌}
use mathlib.Core.List.{List, [], ◌∷◌, ◌++◌}
use Rattle.bcd.specs.Outcome.{Outcome, accepted, refused, after, mapped, each, All, Octets}
use Rattle.bcd.proofs.Outcomes.{accepted_inj, never, after_inv, mapped_inv, each-cons, each_inv, each_refused}
use Rattle.parameter.specs.Parameter.{Param}
use Rattle.message.specs.Kinds.{Kinds}
use Rattle.message.specs.Framed.{Framed, read_of, octets_of}
use Rattle.form.specs.HasForm.{FirstRefused}
use Rattle.form.specs.Family.{settled_by, Family, rewritten, LawfulFamily}
use Rattle.form.proofs.Forms.{plain_by, settled-same, plain-same, settled_plain}

-- A refusal that is passed on.
pub passed_on :
    {A B : Type 0} {m n : ℕ} {vs ws : List ℕ}
    → ◌≡◌ {A = Outcome A} (refused m vs) (refused n ws)
    → ◌≡◌ {A = Outcome B} (refused m vs) (refused n ws)
passed_on {A} {B} {m} {n} {vs} {ws} e = let a : m ≡ n = cc in let b : vs ≡ ws = cc in rw (a, b)

pub mapped_refuses : {A B : Type 0} (f : A → B) (o : Outcome A) (n : ℕ) (vs : List ℕ) → (mapped f o ≡ refused n vs) ↔ (o ≡ refused n vs)
mapped_refuses f (accepted a) n vs = ((λ e. absurd (never (sym e))), (λ e. absurd (never (sym e))))
mapped_refuses f (refused m ws) n vs = (passed_on, passed_on)

-- The refusals of one step after another.
pub after_refuses :
    {A B : Type 0} (o : Outcome A) (f : A → Outcome B) (n : ℕ) (vs : List ℕ)
    → (after o f ≡ refused n vs) ↔ ((o ≡ refused n vs) ⊎ ((a : A) × (o ≡ accepted a) × (f a ≡ refused n vs)))
after_refuses (accepted a) f n vs = (
  (λ e. inr (a, refl, e)),
  ⊎_elim (λ e. absurd (never (sym e))) (λ (b, h, e). ap f (accepted_inj h) ∙ e),
)
after_refuses (refused m ws) f n vs = ((λ e. inl (passed_on e)), ⊎_elim passed_on (λ (b, h, e). absurd (never h)))

module _ {A B : Type 0} (f : A → Outcome (List B)) where
  -- An element in front that is accepted.
  next : (x : A) (xs : List A) (us : List B) (n : ℕ) (vs : List ℕ) → f x ≡ accepted us → FirstRefused f xs n vs → FirstRefused f (x ∷ xs) n vs
  next x xs us n vs h r = record {
    before = x ∷ r.before;
    here = r.here;
    behind = r.behind;
    split = ap (λ ys. x ∷ ys) r.split;
    given = us ++ r.given;
    accepts = each-cons f x r.before us r.given h r.accepts;
    refuses = r.refuses;
  }

  first_refused : (xs : List A) (n : ℕ) (vs : List ℕ) → each f xs ≡ refused n vs → FirstRefused f xs n vs
  first_refused [] n vs e = absurd (never (sym e))
  first_refused (x ∷ xs) n vs e = on (f x) refl e (λ d. first_refused xs n vs d)
    where
      on :
          (o : Outcome (List B))
          → f x ≡ o
          → after o (λ ys. mapped (λ zs. ys ++ zs) (each f xs)) ≡ refused n vs
          → (each f xs ≡ refused n vs → FirstRefused f xs n vs)
          → FirstRefused f (x ∷ xs) n vs
      on (accepted us) h e ih = next x xs us n vs h (ih ((mapped_refuses (λ zs. us ++ zs) (each f xs) n vs).0 e))
      on (refused m ws) h e ih = record { before = []; here = x; behind = xs; split = refl; given = []; accepts = refl; refuses = h ∙ e }

  pub each_refuses : (xs : List A) (n : ℕ) (vs : List ℕ) → (each f xs ≡ refused n vs) ↔ FirstRefused f xs n vs
  each_refuses xs n vs = (
    first_refused xs n vs,
    (λ r. ap (each f) r.split ∙ each_refused f r.before r.here r.behind r.given n vs r.accepts r.refuses),
  )

  -- A list is accepted exactly where each element is.
  abbrev pub Accepts : A → Type 0
  Accepts x = (ys : List B) × (f x ≡ accepted ys)

  each_all : (xs : List A) (ys : List B) → each f xs ≡ accepted ys → All Accepts xs
  each_all [] ys e = tt
  each_all (x ∷ xs) ys e = let (us, vs, hu, hv, j) = each_inv f x xs ys e in ((us, hu), each_all xs vs hv)

  all-each : (xs : List A) → All Accepts xs → (ys : List B) × (each f xs ≡ accepted ys)
  all-each [] h = ([], refl)
  all-each (x ∷ xs) h =
      let (us, hu) = h.0 in
      let (vs, hv) = all-each xs h.1 in
      (us ++ vs, each-cons f x xs us vs hu hv)

  pub each_accepts : (xs : List A) → ((ys : List B) × (each f xs ≡ accepted ys)) ↔ All Accepts xs
  each_accepts xs = ((λ (ys, e). each_all xs ys e), all-each xs)

pub all_iff : {A : Type 0} (P Q : A → Type 0) → ((x : A) → P x ↔ Q x) → (xs : List A) → All P xs ↔ All Q xs
all_iff P Q e [] = ((λ h. h), (λ h. h))
all_iff P Q e (x ∷ xs) = (
  (λ h. ((e x).0 h.0, (all_iff P Q e xs).0 h.1)),
  (λ h. ((e x).1 h.0, (all_iff P Q e xs).1 h.1)),
)

-- A message is read, each of its elements is put through f, and what they give is written.
module _ {X A B C : Type 0} (o : Outcome X) (elements : X → List A) (f : A → Outcome (List B)) (write : X → List B → C) where
  abbrev pub through : Outcome C
  through = after o (λ m. mapped (write m) (each f (elements m)))

  pub through_accepts : ((c : C) × (through ≡ accepted c)) ↔ ((m : X) × (o ≡ accepted m) × All (Accepts f) (elements m))
  through_accepts = (to, from)
    where
      to : (c : C) × (through ≡ accepted c) → (m : X) × (o ≡ accepted m) × All (Accepts f) (elements m)
      to (c, e) =
          let (m, hm, e1) = after_inv o _ e in
          let (ys, hy, j) = mapped_inv (write m) (each f (elements m)) e1 in
          (m, hm, (each_accepts f (elements m)).0 (ys, hy))

      from : (m : X) × (o ≡ accepted m) × All (Accepts f) (elements m) → (c : C) × (through ≡ accepted c)
      from (m, hm, h) = let (ys, hy) = (each_accepts f (elements m)).1 h in (write m ys, rw (hm, hy))

  pub through_refuses :
      (n : ℕ) (vs : List ℕ)
      → (through ≡ refused n vs) ↔ ((o ≡ refused n vs) ⊎ ((m : X) × (o ≡ accepted m) × FirstRefused f (elements m) n vs))
  through_refuses n vs =
      let (to, from) = after_refuses o (λ m. mapped (write m) (each f (elements m))) n vs in
      let inner : (m : X) → (mapped (write m) (each f (elements m)) ≡ refused n vs) ↔ FirstRefused f (elements m) n vs =
      λ m.
      let (a, b) = mapped_refuses (write m) (each f (elements m)) n vs in
      let (c, d) = each_refuses f (elements m) n vs in
      ((λ e. c (a e)), (λ r. b (d r))) in (
        (λ e. ⊎_elim inl (λ (m, hm, h). inr (m, hm, (inner m).0 h)) (to e)),
        (λ w. from (⊎_elim inl (λ (m, hm, r). inr (m, hm, (inner m).1 r)) w)),
      )

-- What is settled of a parameter, f, is a lawful family's.
module _ {K M : Type 0} (T : Kinds K) (F : Family M) (L : LawfulFamily F) (f : Param → Outcome (List Param)) (same : (p : Param) → f p ≡ rewritten F p)
    (xs : List ℕ) (o : Octets xs) where
  plain : settled_by T f xs ≡ plain_by T f xs
  plain = settled-same T f (rewritten F) same xs ∙ settled_plain T F L xs o ∙ sym (plain-same T f (rewritten F) same xs)

  -- Which messages have a form: those that are read, with each of their parameters settled.
  pub has_form : ((g : List ℕ) × (settled_by T f xs ≡ accepted g)) ↔ ((m : Framed K) × (read_of T xs ≡ accepted m) × All (Accepts f) m.params)
  unfolding plain_by
  has_form =
      let (to, from) = through_accepts (read_of T xs) (λ m. m.params) f (λ m. octets_of T m.type) in
      ((λ (g, e). to (g, sym plain ∙ e)), (λ w. let (g, e) = from w in (g, plain ∙ e)))

  -- Settling refuses as reading does, or else as the first parameter in wire order that is not settled.
  pub refusals :
      (n : ℕ) (vs : List ℕ)
      → (settled_by T f xs ≡ refused n vs)
      ↔ ((read_of T xs ≡ refused n vs)
      ⊎ ((m : Framed K) × (read_of T xs ≡ accepted m) × FirstRefused f m.params n vs))
  unfolding plain_by
  refusals n vs =
      let (to, from) = through_refuses (read_of T xs) (λ m. m.params) f (λ m. octets_of T m.type) n vs in
      ((λ e. to (sym plain ∙ e)), (λ w. plain ∙ from w))
