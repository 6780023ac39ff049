-- What the walk keeps is what reading gives: the first sub-parameter that is too short is the refusal, the last of each
-- kind holds, and the others stay in order.
use Prim.Native.Nat.{ℕ, ◌+◌, ◌≤◌, ◌<◌}
use mathlib.Core.Path.{◌≡◌, refl, ap, ◌∙◌}
use mathlib.Core.Bool.{Bool, true, false}
use mathlib.Core.Logic.{◌⊎◌, inl, inr}
use Rattle.std.specs.Prelude.{Option, None, Some, option_map}
use mathlib.Core.List.{List, [], ◌∷◌, ◌++◌, map}
use native.Mathlib.Omega.{arith}
use borrow.Author.Tests.{le-leb, lt-leb, lt-ltb, le-ltb, ne_eqb, eqb-true}
use lib.Dec.{eqb}
use lib.ListN.{length, get_or, drop}
use lib.Seq.{get_or-take, get_or-drop}
use Rattle.bcd.specs.Outcome.{Outcome, accepted, refused, pick, after, mapped, each, All}
use Rattle.bcd.specs.Digits.{Alphabet}
use Rattle.bcd.proofs.Outcomes.{le_or_lt}
use Rattle.parameter.specs.Parameter.{four_in}
use Rattle.parameter.specs.Walk.{valued, places}
use Rattle.parameter.specs.declared.Place.{Place}
use Rattle.parameter.proofs.Records.{value-length}
use Rattle.address.specs.Address.{title_at, title_in, four_octets, Piece, title, code, sub, other, piece_in, later, last}
use Rattle.address.specs.Parts.{sooner, noted_title, noted_code, noted_ssn, noted_other, noted, note_all}
use Rattle.address.specs.Steps.Kept.{short_by, short_refusal, judged}
use Rattle.address.specs.declared.parts.Parts.{Parts}
use Rattle.parameter.proofs.Walking.{steps_induct}

-- a fact of the three tests of a tag, by the four kinds
pub kinds :
    (P : Bool → Bool → Bool → Type 0) (t : ℕ)
    → P true false false
    → P false true false
    → P false false true
    → P false false false
    → P (eqb t 0x8001) (eqb t 0x8002) (eqb t 0x8003)
kinds P t a b c d = first (eqb t 0x8001) refl
  where
    third : (r : Bool) → eqb t 0x8003 ≡ r → P false false r
    third true e = c
    third false e = d

    second : (q : Bool) → eqb t 0x8002 ≡ q → P false q (eqb t 0x8003)
    second true e = let f = eqb-true t 0x8002 e in rw (ne_eqb t 0x8003 (λ g. omega arith)) b
    second false e = third (eqb t 0x8003) refl

    first : (p : Bool) → eqb t 0x8001 ≡ p → P p (eqb t 0x8002) (eqb t 0x8003)
    first true e =
        let f = eqb-true t 0x8001 e in
        rw (ne_eqb t 0x8002 (λ g. omega arith), ne_eqb t 0x8003 (λ g. omega arith)) a
    first false e = second (eqb t 0x8002) refl

-- the same, where the three tags are known not to be 0
pub kinds-tagged :
    (P : Bool → Bool → Bool → Type 0) (t : ℕ)
    → (0 < t → P true false false)
    → (0 < t → P false true false)
    → (0 < t → P false false true)
    → P false false false
    → P (eqb t 0x8001) (eqb t 0x8002) (eqb t 0x8003)
kinds-tagged P t a b c d = on (le_or_lt t 0)
  where
    on : (t ≤ 0) ⊎ (0 < t) → P (eqb t 0x8001) (eqb t 0x8002) (eqb t 0x8003)
    on (inl l) = let e : t ≡ 0 = omega arith in rw e d
    on (inr l) = kinds P t (a l) (b l) (c l) d

-- the least octets that a value has by its tag
abbrev least : Place → ℕ
least p = pick (eqb p.tag 0x8001) 8 (pick (eqb p.tag 0x8002) 4 (pick (eqb p.tag 0x8003) 4 0))

pub note_short : (s : Parts) (p : Place) → (noted s p).short ≡ sooner s.short p (least p)
unfolding noted
note_short s p =
    kinds (λ a b c. (pick a (noted_title s p) (pick b (noted_code s p) (pick c (noted_ssn s p) (noted_other s p)))).short
    ≡ sooner s.short p (pick a 8 (pick b 4 (pick c 4 0)))) p.tag refl refl refl (unshort s.short)
  where
    unshort : (k : Option Place) → k ≡ sooner k p 0
    unshort None = rw (le-ltb p.length 0 (omega arith))
    unshort (Some k) = refl

pub judged-mapped : {X Y : Type 0} (f : X → Y) (k : Option Place) (o : Outcome X) → mapped f (judged k o) ≡ judged k (mapped f o)
judged-mapped f None o = refl
judged-mapped f (Some k) o = refl

module _ (v : List ℕ) where
  abbrev pub Inside : Place → Type 0
  Inside p = p.start + p.length ≤ length v

  -- the octets of a value, by their places in the whole
  pub value_at : (p : Place) (i : ℕ) → i < p.length → get_or (valued v p).value i 0 ≡ get_or v (p.start + i) 0
  value_at p i h = get_or-take p.length (drop p.start v) i 0 h ∙ get_or-drop p.start v i 0

module _ (A : Alphabet) (v : List ℕ) where
  -- the piece that a sub-parameter is, if it is long enough
  abbrev pub piece_by : Bool → Bool → Bool → Place → Piece
  piece_by a b c p =
      pick a (title (title_at A (valued v p).value))
      (pick b (code (four_in (valued v p).value))
      (pick c (sub (get_or (valued v p).value 3 0)) (other (valued v p))))

  abbrev pub piece_at : Place → Piece
  piece_at p = piece_by (eqb p.tag 0x8001) (eqb p.tag 0x8002) (eqb p.tag 0x8003) p

  -- A sub-parameter is that piece, or it is refused.
  module _ (p : Place) (inside : Inside v p) where
    piece_long : least p ≤ p.length → piece_in A (valued v p) ≡ accepted (piece_at p ∷ [])
    unfolding piece_in title_in
    piece_long = kinds (λ a b c. pick a 8 (pick b 4 (pick c 4 0)) ≤ p.length →
        pick a (mapped (λ t. title t ∷ []) (title_in A (valued v p).value))
        (pick b (four_octets (valued v p) (code (four_in (valued v p).value)))
        (pick c (four_octets (valued v p) (sub (get_or (valued v p).value 3 0)))
        (accepted (other (valued v p) ∷ []))))
        ≡ accepted (piece_by a b c p ∷ [])) p.tag
        (λ h. rw (le-leb 8 (length (valued v p).value) (rw (value-length v p inside) h)))
        (λ h. rw (le-leb 4 (length (valued v p).value) (rw (value-length v p inside) h)))
        (λ h. rw (le-leb 4 (length (valued v p).value) (rw (value-length v p inside) h)))
        (λ h. refl)

    piece_short : p.length < least p → piece_in A (valued v p) ≡ short_refusal p
    unfolding piece_in title_in
    piece_short = kinds (λ a b c. p.length < pick a 8 (pick b 4 (pick c 4 0)) →
        pick a (mapped (λ t. title t ∷ []) (title_in A (valued v p).value))
        (pick b (four_octets (valued v p) (code (four_in (valued v p).value)))
        (pick c (four_octets (valued v p) (sub (get_or (valued v p).value 3 0)))
        (accepted (other (valued v p) ∷ []))))
        ≡ refused (short_by a p).0 (short_by a p).1) p.tag
        (λ h. rw (lt-leb 8 (length (valued v p).value) (rw (value-length v p inside) h), value-length v p inside))
        (λ h. rw (lt-leb 4 (length (valued v p).value) (rw (value-length v p inside) h), value-length v p inside))
        (λ h. rw (lt-leb 4 (length (valued v p).value) (rw (value-length v p inside) h), value-length v p inside))
        (λ h. absurd (omega arith))

    -- one sub-parameter more: it is refused, unless one before it was
    piece_judged :
        (s : Parts) (rest : Outcome (List Piece))
        → judged s.short (after (piece_in A (valued v p)) (λ ys. mapped (λ zs. ys ++ zs) rest))
        ≡ mapped (λ zs. piece_at p ∷ zs) (judged (noted s p).short rest)
    piece_judged s rest = rw (note_short s p) (on s.short (le_or_lt (least p) p.length))
      where
        on :
            (k : Option Place)
            → (least p ≤ p.length) ⊎ (p.length < least p)
            → judged k (after (piece_in A (valued v p)) (λ ys. mapped (λ zs. ys ++ zs) rest))
            ≡ mapped (λ zs. piece_at p ∷ zs) (judged (sooner k p (least p)) rest)
        on (Some k) l = refl
        on None (inl l) = rw (piece_long l, le-ltb p.length (least p) l)
        on None (inr l) = rw (piece_short l, lt-ltb p.length (least p) l)

  -- All of them: the first that is too short refuses.
  pub pieces-judged :
      (s : Parts) (ps : List Place)
      → All (Inside v) ps
      → judged s.short (each (piece_in A) (map (valued v) ps)) ≡ judged (note_all s ps).short (accepted (map piece_at ps))
  unfolding note_all
  pieces-judged s [] h = refl
  pieces-judged s (p ∷ ps) h =
      piece_judged p h.0 s (each (piece_in A) (map (valued v) ps))
      ∙ ap (mapped (λ zs. piece_at p ∷ zs)) (pieces-judged (noted s p) ps h.1)
      ∙ judged-mapped (λ zs. piece_at p ∷ zs) (note_all (noted s p) ps).short (accepted (map piece_at ps))

-- What is told of what is told.
pub map-map : {X Y Z : Type 0} (g : Y → Z) (f : X → Y) (o : Option X) → option_map g (option_map f o) ≡ option_map (λ x. g (f x)) o
map-map g f None = refl
map-map g f (Some x) = refl

-- a value stands behind the octets in front of the sub-parameters
abbrev pub Behind : Place → Type 0
Behind p = 0 < p.start

pub places_behind : (v : List ℕ) (ps : List Place) → places v 4 ≡ accepted ps → All Behind ps
unfolding places
places_behind v ps =
    steps_induct v (λ at ps. All Behind ps) (λ at. tt) (λ at next p ps f ih. (omega (arith, f.start), ih)) (length v) 4 ps

-- The later of three.
pub later-later : {X : Type 0} (a b c : Option X) → later a (later b c) ≡ later (later a b) c
later-later None b c = refl
later-later (Some x) None c = refl
later-later (Some x) (Some y) None = refl
later-later (Some x) (Some y) (Some z) = refl

-- Of what is read at places of a tag the last one is kept, for any tag: a piece, or a value.
module _ {X Y : Type 0} (tag : ℕ) (read_at : Place → Y) (select : Y → Option X) (part : Place → X) (field : Parts → Option Place)
    (picks : (p : Place) → select (read_at p) ≡ pick (eqb p.tag tag) (Some (part p)) None)
    (keeps : (s : Parts) (p : Place) → field (noted s p) ≡ pick (eqb p.tag tag) (Some p) (field s)) where
  holds_one : (s : Parts) (p : Place) → later (option_map part (field s)) (select (read_at p)) ≡ option_map part (field (noted s p))
  holds_one s p = rw (picks p, keeps s p) (go (eqb p.tag tag) (field s))
    where
      go : (t : Bool) (k : Option Place) → later (option_map part k) (pick t (Some (part p)) None) ≡ option_map part (pick t (Some p) k)
      go true None = refl
      go true (Some k) = refl
      go false None = refl
      go false (Some k) = refl

  pub last_holds : (s : Parts) (ps : List Place) → later (option_map part (field s)) (last select (map read_at ps)) ≡ option_map part (field (note_all s ps))
  unfolding note_all
  last_holds s [] = go (field s)
    where
      go : (k : Option Place) → later (option_map part k) None ≡ option_map part k
      go None = refl
      go (Some k) = refl
  last_holds s (p ∷ ps) =
      later-later (option_map part (field s)) (select (read_at p)) (last select (map read_at ps))
      ∙ ap (λ o. later o (last select (map read_at ps))) (holds_one s p)
      ∙ last_holds (noted s p) ps
