-- Several routing contexts together: yes exactly under document 02's conditions, and what one context compared with one number is.
use Prim.Native.Nat.{ℕ, zero, suc, ◌*◌, ◌/◌, ◌%◌, ◌≤◌, ◌<◌}
use mathlib.Core.Path.{◌≡◌, refl, sym, ap, ap₂, ◌∙◌, subst}
use mathlib.Core.Bool.{Bool, true, false, ◌&&◌, ◌||◌, and-true, or-false}
use mathlib.Core.Logic.{◌↔◌}
use Rattle.std.specs.Prelude.{Option, None, Some}
use Rattle.std.specs.Int.{w32, from_be_bytes}
use Rattle.std.specs.List.{list_all}
use Rattle.std.specs.Simd.{first_chunks}
use mathlib.Core.List.{List, [], ◌∷◌}
use native.Mathlib.Omega.{arith}
use lib.Dec.{eqb, ltb}
use lib.ListN.{length, drop}
use borrow.Author.Tests.{eq-eqb, lt-ltb}
use Rattle.bcd.specs.Outcome.{Outcome, accepted, refused, mapped, All, every, among}
use Rattle.bcd.proofs.Outcomes.{accepted_inj, never}
use Rattle.bcd.proofs.Tests.{agree, and_iff, eqb_iff, ltb_iff, every_iff, every-same, among_iff}
use Rattle.parameter.specs.declared.Place.{Place}
use Rattle.parameter.specs.Parameter.{two_at, four_in}
use Rattle.parameter.specs.Walk.{valued}
use Rattle.parameter.specs.Table.{Table, table, rows, record_in, records, find_param}
use Rattle.parameter.proofs.Records.{find_outside}
use Rattle.lookup.specs.Accessors.{of_four, read_at, first_read, routing_context}
use Rattle.lookup.specs.Contexts.{contexts_of, all_in_set, all_in_set_at, contexts_in, Member, EveryMember, compared_with}

-- Whether a group of four octets is a context in the set.
abbrev pub known : (set : List ℕ) → List ℕ → Bool
known set group = among (from_be_bytes w32 group) set

groups_all : (set : List ℕ) (k : ℕ) (v : List ℕ) → length v ≡ 4 * k → list_all (known set) (first_chunks 4 k v) ≡ every (λ n. among n set) (contexts_of v)
unfolding contexts_of two_at
groups_all set zero [] h = refl
groups_all set (suc k) (a ∷ b ∷ c ∷ d ∷ v) h =
    let one : from_be_bytes w32 (a ∷ b ∷ c ∷ d ∷ []) ≡ four_in (a ∷ b ∷ c ∷ d ∷ []) = omega arith in
    ap₂ ◌&&◌ (ap (λ n. among n set) one) (groups_all set k v (omega arith))
groups_all set zero (a ∷ v) h = absurd (omega arith)
groups_all set (suc k) (a ∷ b ∷ c ∷ []) h = absurd (omega arith)
groups_all set (suc k) (a ∷ b ∷ []) h = absurd (omega arith)
groups_all set (suc k) (a ∷ []) h = absurd (omega arith)
groups_all set (suc k) [] h = absurd (omega arith)

-- A value of octets in whole groups.
pub all_groups : (set v : List ℕ) → 0 < length v → length v % 4 ≡ 0 → list_all (known set) (first_chunks 4 (length v / 4) v) ≡ all_in_set set v
all_groups set v some whole = rw (lt-ltb 0 (length v) some, eq-eqb (length v % 4) 0 whole) (groups_all set (length v / 4) v (omega arith))

-- The values that octets list, and each four of them.
all-members : (set v : List ℕ) → length v % 4 ≡ 0 → All (Member set) (contexts_of v) ↔ ((i : ℕ) → 4 * i < length v → Member set (four_in (drop (4 * i) v)))
unfolding contexts_of two_at
all-members set [] whole = ((λ u i h. absurd (omega arith)), (λ f. tt))
all-members set (a ∷ b ∷ c ∷ d ∷ v) whole =
    let (to, from) = all-members set v (omega arith) in (
      (λ (here, later). member here (to later)),
      (λ f. (f 0 (omega arith), from (λ i h. subst (λ (l : List ℕ). Member set (four_in l)) (behind i) (f (suc i) (omega arith))))),
    )
  where
    behind : (i : ℕ) → drop (4 * suc i) (a ∷ b ∷ c ∷ d ∷ v) ≡ drop (4 * i) v
    behind i = let e : 4 * suc i ≡ suc (suc (suc (suc (4 * i)))) = omega arith in ap (λ n. drop n (a ∷ b ∷ c ∷ d ∷ v)) e

    member :
        Member set (four_in (a ∷ b ∷ c ∷ d ∷ v))
        → ((i : ℕ) → 4 * i < length v → Member set (four_in (drop (4 * i) v)))
        → (i : ℕ)
        → 4 * i < length (a ∷ b ∷ c ∷ d ∷ v)
        → Member set (four_in (drop (4 * i) (a ∷ b ∷ c ∷ d ∷ v)))
    member here later zero h = here
    member here later (suc i) h = subst (λ (l : List ℕ). Member set (four_in l)) (sym (behind i)) (later i (omega arith))
all-members set (a ∷ b ∷ c ∷ []) whole = absurd (omega arith)
all-members set (a ∷ b ∷ []) whole = absurd (omega arith)
all-members set (a ∷ []) whole = absurd (omega arith)

-- A value passes exactly under the conditions.
value_iff : (set v : List ℕ) → (all_in_set set v ≡ true) ↔ EveryMember set v
value_iff set v =
    let (to, from) = and_iff (ltb_iff 0 (length v)) (and_iff (eqb_iff (length v % 4) 0) (every_iff (λ n. among_iff n set) (contexts_of v))) in (
      (λ e. let (p, (m, a)) = to e in record { positive = p; multiple = m; members = (all-members set v m).0 a }),
      (λ k. from (k.positive, (k.multiple, (all-members set v k.multiple).1 k.members))),
    )

-- At most four octets, and one number.
four : (n : ℕ) (v : List ℕ) → length v ≤ 4 → all_in_set (n ∷ []) v ≡ compared_with n (of_four four_in v)
unfolding contexts_of two_at
four n (a ∷ b ∷ c ∷ d ∷ []) h = and-true (eqb n (four_in (a ∷ b ∷ c ∷ d ∷ [])) || false) ∙ or-false (eqb n (four_in (a ∷ b ∷ c ∷ d ∷ [])))
four n (a ∷ b ∷ c ∷ d ∷ e ∷ v) h = absurd (omega arith)
four n (a ∷ b ∷ c ∷ []) h = refl
four n (a ∷ b ∷ []) h = refl
four n (a ∷ []) h = refl
four n [] h = refl

module _ (values : List ℕ) (t : Table) (count : ℕ) where
  -- Yes exactly where the parameter is there, its value's length is a positive multiple of 4, and each of its values, however many,
  -- is in the set.
  pub every_value :
      (set : List ℕ)
      → (contexts_in values t count set ≡ accepted true)
      ↔ ((p : Place) × (find_param values t count 0x0006 ≡ accepted (Some p)) × EveryMember set (valued values p).value)
  unfolding contexts_in
  every_value set = go (find_param values t count 0x0006)
    where
      go :
          (o : Outcome (Option Place))
          → (mapped (all_in_set_at set values) o ≡ accepted true)
          ↔ ((p : Place) × (o ≡ accepted (Some p)) × EveryMember set (valued values p).value)
      go (refused n vs) = ((λ e. absurd (never e)), (λ (p, e, k). absurd (never e)))
      go (accepted None) = (
        (λ e. let z : ◌≡◌ {A = ℕ} 0 1 = cc in absurd (omega arith)),
        (λ (p, e, k). let z : ◌≡◌ {A = ℕ} 0 1 = cc in absurd (omega arith)),
      )
      go (accepted (Some p)) = (
        (λ e. (p, refl, (value_iff set (valued values p).value).0 (accepted_inj e))),
        (λ (q, e, k). let same : q ≡ p = cc in
            ap accepted ((value_iff set (valued values p).value).1 (subst (λ (r : Place). EveryMember set (valued values r).value) same k))),
      )

  -- Where the first Routing Context, if there is one, has four octets or fewer, and the set one number: the answer is the accessor's
  -- value compared with that number.
  pub one_context :
      (n : ℕ)
      → ((p : Place) → find_param values t count 0x0006 ≡ accepted (Some p) → length (valued values p).value ≤ 4)
      → contexts_in values t count (n ∷ []) ≡ mapped (compared_with n) (routing_context values t count)
  unfolding contexts_in first_read
  one_context n h = go (find_param values t count 0x0006) h
    where
      go :
          (o : Outcome (Option Place))
          → ((p : Place) → o ≡ accepted (Some p) → length (valued values p).value ≤ 4)
          → mapped (all_in_set_at (n ∷ []) values) o ≡ mapped (compared_with n) (mapped (read_at (of_four four_in) values) o)
      go (refused m vs) h = refl
      go (accepted None) h = refl
      go (accepted (Some p)) h = ap accepted (four n (valued values p).value (h p refl))

  -- 15 comes first, whatever the set.
  pub contexts_outside : (set : List ℕ) → records values t count ≡ refused 15 [] → contexts_in values t count set ≡ refused 15 []
  unfolding contexts_in
  contexts_outside set e = ap (mapped (all_in_set_at set values)) (find_outside values t count 0x0006 e)

  -- Two sets with the same numbers answer the same: neither order nor repetition counts.
  pub same_set : (set set₁ : List ℕ) → ((n : ℕ) → Member set n ↔ Member set₁ n) → contexts_in values t count set ≡ contexts_in values t count set₁
  unfolding contexts_in
  same_set set set₁ h = go (find_param values t count 0x0006)
    where
      told : (n : ℕ) → among n set ≡ among n set₁
      told n =
          let (to, from) = among_iff n set in
          let (to₁, from₁) = among_iff n set₁ in
          agree (among n set) (among n set₁) (λ e. from₁ ((h n).0 (to e))) (λ e. from ((h n).1 (to₁ e)))

      go : (o : Outcome (Option Place)) → mapped (all_in_set_at set values) o ≡ mapped (all_in_set_at set₁ values) o
      go (refused n vs) = refl
      go (accepted None) = refl
      go (accepted (Some p)) =
          let v = (valued values p).value in
          ap (λ b. accepted (ltb 0 (length v) && (eqb (length v % 4) 0 && b))) (every-same told (contexts_of v))

-- Two contexts of one octet, one of four, and an octet behind them.
abbrev values : List ℕ
values = 0 ∷ 0 ∷ 0 ∷ 7 ∷ 0 ∷ 0 ∷ 0 ∷ 9 ∷ 1 ∷ 2 ∷ 3 ∷ 4 ∷ 5 ∷ []

-- The first so many octets of them as a Routing Context, beside a set.
abbrev first : (octets : ℕ) → (set : List ℕ) → Outcome Bool
first n = contexts_in values (table (6 ∷ []) (0 ∷ []) (n ∷ [])) 1

-- One value: in the set, and not; several: all in it, in any order, and one, the last or the first, not; an unfinished group; no
-- octets, and three; no such parameter, and none within the count; a later one that is not looked at; and 15, by a record that is
-- not asked for.
pub worked_contexts :
    ◌≡◌ {A = List (Outcome Bool)}
    (first 4 (7 ∷ []) ∷ first 4 (3 ∷ 7 ∷ []) ∷ first 4 (9 ∷ []) ∷ first 4 []
    ∷ first 8 (9 ∷ 7 ∷ []) ∷ first 12 (0x01020304 ∷ 7 ∷ 7 ∷ 9 ∷ []) ∷ first 8 (7 ∷ []) ∷ first 8 (9 ∷ [])
    ∷ first 7 (7 ∷ []) ∷ first 13 (7 ∷ 9 ∷ 0x01020304 ∷ [])
    ∷ first 0 (7 ∷ []) ∷ first 3 (7 ∷ [])
    ∷ contexts_in values (table [] [] []) 0 (7 ∷ [])
    ∷ contexts_in values (table (6 ∷ []) (0 ∷ []) (4 ∷ [])) 0 (7 ∷ [])
    ∷ contexts_in values (table (4 ∷ 6 ∷ 6 ∷ []) (0 ∷ 4 ∷ 0 ∷ []) (4 ∷ 4 ∷ 4 ∷ [])) 3 (7 ∷ [])
    ∷ contexts_in values (table (6 ∷ 4 ∷ []) (0 ∷ 10 ∷ []) (4 ∷ 4 ∷ [])) 2 (7 ∷ [])
    ∷ [])
    (accepted true ∷ accepted true ∷ accepted false ∷ accepted false
    ∷ accepted true ∷ accepted true ∷ accepted false ∷ accepted false
    ∷ accepted false ∷ accepted false
    ∷ accepted false ∷ accepted false
    ∷ accepted false
    ∷ accepted false
    ∷ accepted false
    ∷ refused 15 []
    ∷ [])
unfolding contexts_in contexts_of two_at find_param records rows record_in
worked_contexts = refl
