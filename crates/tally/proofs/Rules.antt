-- A member list and rows are valid exactly by document 02's rules.
use Prim.Native.Nat.{ℕ, zero, suc, ◌+◌, ◌*◌, ◌≤◌, ◌<◌}
use mathlib.Core.Path.{◌≡◌, refl, sym, ap, ap₂, subst, subst₂, ◌∙◌}
use mathlib.Core.Bool.{Bool, true, false, not, ◌&&◌}
use mathlib.Core.Logic.Iff
use mathlib.Core.Logic.{◌↔◌}
use mathlib.Core.List.{List, [], ◌∷◌, ◌++◌, map, flatten}
use native.Mathlib.Omega.{arith}
use lib.ListN.{length, get_or, take, drop, length-append, length-map, length-drop, take-append-drop}
use lib.Seq.{take-append_seam, drop-append_seam, length-take-le}
use borrow.Author.Tests.{eqb-true, not-true}
use Rattle.std.specs.List.{sum}
use Rattle.std.proofs.lemmas.List.Folds.{list_all-append, list_all-map}
use Rattle.bcd.specs.Outcome.{All}
use Rattle.bcd.proofs.Outcomes.{all_at}
use Rattle.parameter.specs.Parameter.{most_value}
use Rattle.bcd.proofs.Below.{both}
use Rattle.bcd.proofs.Tests.{and_iff, eqb_iff, ltb_iff, leb_iff, every_iff}
use Rattle.tally.specs.Members.{between, every, same, members, distinct, valid_lengths, valid_members}
use Rattle.tally.specs.Rows.{Rows, most_messages, within, valid_rows}
use Rattle.tally.specs.Facts.{MemberList, OpenRows}
use Rattle.tally.proofs.Beginning.{same_true, same_self}
use Rattle.tally.proofs.Lists.{between_inv, between_in, sum_cons}

on_not_off : {t : Bool} → t ≡ true → t ≡ false → ⊥
on_not_off {t} e f = let z : ◌≡◌ {A = ℕ} 0 1 = cc in omega arith

moved : {P : Type 0} {a b : Bool} → a ≡ b → (b ≡ true) ↔ P → (a ≡ true) ↔ P
moved e h = ((λ t. h.0 (sym e ∙ t)), (λ x. e ∙ h.1 x))

between_iff : (low high n : ℕ) → (between low high n ≡ true) ↔ ((low ≤ n) × (n ≤ high))
between_iff low high n = (between_inv low high n, (λ (l, h). between_in low high n l h))

every_flatten : {A : Type 0} (test : A → Bool) (xss : List (List A)) → every test (flatten xss) ≡ every (every test) xss
unfolding flatten
every_flatten test [] = refl
every_flatten test (xs ∷ xss) = list_all-append test xs (flatten xss) ∙ ap (λ b. every test xs && b) (every_flatten test xss)

-- Two prefixes are the same exactly where they are equal.
same_iff : (p q : List ℕ) → (same p q ≡ true) ↔ (p ≡ q)
same_iff p q = (same_true p q, (λ e. subst (λ q. same p q ≡ true) e (same_self p)))

not_iff : {P : Type 0} {b : Bool} → (b ≡ true) ↔ P → (not b ≡ true) ↔ (P → ⊥)
not_iff {P} {b} h = ((λ e x. on_not_off (h.1 x) (not-true b e)), (λ f. off b (λ e. f (h.0 e))))
  where
    off : (t : Bool) → (t ≡ true → ⊥) → not t ≡ true
    off true f = absurd (f refl)
    off false f = refl

-- No prefix is the same as a later one.
abbrev Distinct : List (List ℕ) → Type 0
Distinct ps = (i j : ℕ) → i < j → j < length ps → get_or ps i [] ≡ get_or ps j [] → ⊥

all_of : {A : Type 0} (P : A → Type 0) (d : A) (xs : List A) → ((j : ℕ) → j < length xs → P (get_or xs j d)) → All P xs
all_of P d [] h = tt
all_of P d (x ∷ xs) h = (h 0 (omega arith), all_of P d xs (λ j l. h (suc j) (omega arith)))

distinct_cons : (p : List ℕ) (ps : List (List ℕ)) → All (λ q. p ≡ q → ⊥) ps → Distinct ps → Distinct (p ∷ ps)
distinct_cons p ps a d i zero l m e = absurd (omega arith)
distinct_cons p ps a d zero (suc j) l m e = all_at (λ q. p ≡ q → ⊥) ps j [] a (omega arith) e
distinct_cons p ps a d (suc i) (suc j) l m e = d i j (omega arith) (omega arith) e

distinct_iff : (ps : List (List ℕ)) → (distinct ps ≡ true) ↔ Distinct ps
distinct_iff [] = ((λ e i j l m. absurd (omega arith)), (λ d. refl))
distinct_iff (p ∷ ps) =
    let (to, from) = and_iff (every_iff (λ q. not_iff (same_iff p q)) ps) (distinct_iff ps) in (
      (λ e. let (a, d) = to e in distinct_cons p ps a d),
      (λ d. from (
        all_of (λ q. p ≡ q → ⊥) [] ps (λ j l. d 0 (suc j) (omega arith) (omega arith)),
        (λ i j l m. d (suc i) (suc j) (omega arith) (omega arith)),
      )),
    )

-- What is lent of prefixes, taken apart again.
pub members-lent : (ps : List (List ℕ)) → members (flatten ps) (map length ps) ≡ ps
unfolding members flatten
members-lent [] = refl
members-lent (p ∷ ps) =
    ap₂ (λ q qs. q ∷ qs) (take-append_seam p (flatten ps))
    (ap (λ ds. members ds (map length ps)) (drop-append_seam p (flatten ps)) ∙ members-lent ps)

sum_lengths : (ps : List (List ℕ)) → sum (map length ps) ≡ length (flatten ps)
unfolding flatten
sum_lengths [] = refl
sum_lengths (p ∷ ps) = omega (arith, length-append p (flatten ps), sum_lengths ps, sum_cons (length p) (map length ps))

lent_back : (ds ns : List ℕ) → sum ns ≡ length ds → (flatten (members ds ns) ≡ ds) × (map length (members ds ns) ≡ ns)
unfolding members flatten
lent_back [] [] e = (refl, refl)
lent_back (d ∷ ds) [] e = absurd (omega arith)
lent_back ds (n ∷ ns) e =
    let (joined, lengths) = lent_back (drop n ds) ns (omega (arith, length-drop n ds, sum_cons n ns)) in (
      ap (λ r. take n ds ++ r) joined ∙ take-append-drop n ds,
      ap₂ (λ x xs. x ∷ xs) (length-take-le n ds (omega (arith, sum_cons n ns))) lengths,
    )

-- The rules, for what is lent of prefixes.
rules : (ps : List (List ℕ)) → (valid_members (flatten ps) (map length ps) ≡ true) ↔ MemberList ps
unfolding valid_members
rules ps =
    let ns = map length ps in
    let count = length-map ps length in
    let number = between_iff 1 64 (length ns) in
    let short = moved (list_all-map (between 1 15) length ps) (every_iff (λ p. between_iff 1 15 (length p)) ps) in
    let all = eqb_iff (sum ns) (length (flatten ps)) in
    let decimal = moved (every_flatten (between 0x30 0x39) ps) (every_iff (every_iff (between_iff 0x30 0x39)) ps) in
    let unlike = moved (ap distinct (members-lent ps)) (distinct_iff ps) in
    let (to, from) = and_iff (and_iff number (and_iff short all)) (and_iff decimal unlike) in (
      (λ e. let (l, r) = to e in record {
        some = omega arith;
        few = omega arith;
        short = l.1.0;
        decimal = r.0;
        distinct = r.1;
      }),
      (λ m. from (((omega arith, omega arith), (m.short, sum_lengths ps)), (m.decimal, m.distinct))),
    )

-- Characters and lengths are valid exactly where they are those of members that keep the rules.
pub valid_members_lem :
    (ds ns : List ℕ)
    → (valid_members ds ns ≡ true) ↔ ((ps : List (List ℕ)) × MemberList ps × (flatten ps ≡ ds) × (map length ps ≡ ns))
unfolding valid_members
valid_members_lem ds ns = (
  (λ e.
      let lengths = (both (valid_lengths (length ds) ns) _ e).0 in
      let sums = (both (every (between 1 15) ns) _ (both (between 1 64 (length ns)) _ lengths).1).1 in
      let (joined, taken) = lent_back ds ns (eqb-true (sum ns) (length ds) sums) in
      (members ds ns, (rules (members ds ns)).0 (subst₂ (λ ds ns. valid_members ds ns ≡ true) (sym joined) (sym taken) e), joined, taken)),
  (λ (ps, m, joined, lengths). subst₂ (λ ds ns. valid_members ds ns ≡ true) joined lengths ((rules ps).1 m)),
)

-- Octets are covered by messages, place by place.
abbrev Covered : (messages octets : List ℕ) → Type 0
Covered ms os = (i : ℕ) → get_or os i 0 ≤ most_value * get_or ms i 0

covered_cons : (m o : ℕ) (ms os : List ℕ) → o ≤ most_value * m → Covered ms os → Covered (m ∷ ms) (o ∷ os)
covered_cons m o ms os h c zero = h
covered_cons m o ms os h c (suc i) = c i

within_iff : (ms os : List ℕ) → length ms ≡ length os → (within ms os ≡ true) ↔ Covered ms os
within_iff [] [] l = ((λ e i. omega arith), (λ c. refl))
within_iff [] (o ∷ os) l = absurd (omega arith)
within_iff (m ∷ ms) [] l = absurd (omega arith)
within_iff (m ∷ ms) (o ∷ os) l =
    let (to, from) = and_iff (leb_iff o (most_value * m)) (within_iff ms os (omega arith)) in (
      (λ e. let (h, c) = to e in covered_cons m o ms os h c),
      (λ c. from (c 0, (λ i. c (suc i)))),
    )

-- Rows are valid exactly where they keep the rules.
pub valid_rows_lem : (n : ℕ) (r : Rows) → (valid_rows n r ≡ true) ↔ OpenRows n r
unfolding valid_rows
valid_rows_lem n r =
    let messages = eqb_iff (length r.messages) (n + 2) in
    let octets = eqb_iff (length r.octets) (n + 2) in
    let few = ltb_iff (sum r.messages) most_messages in
    let (to, from) = and_iff messages (and_iff octets (and_iff few (Iff.rfl {A = within r.messages r.octets ≡ true}))) in (
      (λ e.
          let (l, (k, (f, w))) = to e in
          record { messages = l; octets = k; few = f; covered = (within_iff r.messages r.octets (l ∙ sym k)).0 w }),
      (λ o. from (o.messages, (o.octets, (o.few, (within_iff r.messages r.octets (o.messages ∙ sym o.octets)).1 o.covered)))),
    )
