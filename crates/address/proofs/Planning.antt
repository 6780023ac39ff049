-- An address value that was interpreted: how many octets it is written as, and when it is refused.
use Prim.Native.Nat.{ℕ, ◌+◌, ◌-◌, ◌≤◌}
use mathlib.Core.Path.{◌≡◌, refl, sym, ap, ap₂, ◌∙◌}
use mathlib.Core.Bool.{Bool, true, false}
use Rattle.std.specs.Prelude.{Option, None, Some, option_map, is_some}
use mathlib.Core.List.{List, [], ◌∷◌, ◌++◌, map, append-nil}
use native.Mathlib.Omega.{arith}
use borrow.Author.Tests.{leb-true, ltb-false}
use lib.Dec.{leb, ltb}
use lib.ListN.{length, get_or, take, drop, length-drop}
use lib.Seq.{take_all}
use Rattle.bcd.specs.Outcome.{Outcome, accepted, refused, pick, after, mapped, each, All, Octets, most}
use Rattle.bcd.specs.Digits.{Alphabet, Lawful, built_in, digits_in, read_digits, write_digits}
use Rattle.bcd.proofs.Outcomes.{accepted_inj, never, mapped_inv, demand_inv, bounded-within, each_append}
use Rattle.bcd.proofs.Characters.{built_in_lawful}
use Rattle.bcd.proofs.Writable.{write_inv}
use Rattle.parameter.specs.Parameter.{Param, four, four_in, padded_length, run_length, two_at}
use Rattle.parameter.specs.Walk
use Rattle.parameter.specs.Walk.{valued}
use Rattle.parameter.specs.declared.Place.{Place}
use Rattle.parameter.proofs.Walking.{places_inside}
use Rattle.parameter.proofs.Structure.{places-parameters}
use Rattle.parameter.proofs.RoundTrip.{run_length-append}
use Rattle.parameter.proofs.Reading.{parameters-room}
use Rattle.address.specs.Address.{Title, Piece, title_octets, write_title, title, code, sub, other, present, sub_param}
use Rattle.address.specs.Parts.{nothing, noted, note_all, sooner}
use Rattle.address.specs.Parts.{kept_value, kept_title, kept_code, kept_sub}
use Rattle.address.specs.Steps.Kept.{kept_pieces}
use Rattle.address.specs.Listing.{other_places}
use Rattle.address.specs.Steps.Plan.{HeldIn, Walked}
use Rattle.address.specs.declared.parts.Parts.{Parts}
use Rattle.address.proofs.Keeping.{kinds, Inside}
use Rattle.address.proofs.Interpreting.{by, others-length}

pub each_one : {A B : Type 0} (f : A → Outcome (List B)) (x : A) → each f (x ∷ []) ≡ f x
each_one {A} {B} f x = go (f x)
  where
    go : (o : Outcome (List B)) → after o (λ ys. mapped (λ zs. ys ++ zs) (accepted [])) ≡ o
    go (accepted ys) = ap accepted (append-nil ys)
    go (refused n vs) = refl

pub mapped_refused : {A B : Type 0} (f : A → B) (o : Outcome A) {n : ℕ} {vs : List ℕ} → refused n vs ≡ mapped f o → o ≡ refused n vs
mapped_refused f (accepted a) e = absurd (never e)
mapped_refused f (refused m ws) {n} {vs} e = let a : m ≡ n = cc in let b : ws ≡ vs = cc in rw (a, b)

-- An address value whose sub-parameters were walked.
pub walked :
    (v : List ℕ) (s : Parts)
    → Octets v
    → length v ≤ most
    → 4 ≤ length v
    → two_at v 0 ≤ 4
    → accepted s ≡ mapped (note_all nothing) (Walk.places v 4)
    → Walked v s
walked v s o within long routing e =
    let (ps, w, p) = mapped_inv (note_all nothing) (Walk.places v 4) (sym e) in
    record { octets = o; within = within; long = long; routing = routing; places = ps; walked = w; parts = sym p }

-- A title's octets on the wire, by its digits.
pub title_sized : (A : Alphabet) (t : Title) → mapped run_length (sub_param A (title t)) ≡ mapped (λ n. padded_length (8 + n)) (mapped length (write_digits A t.digits))
unfolding sub_param write_title run_length
title_sized A t = go (write_digits A t.digits)
  where
    go :
        (o : Outcome (List ℕ))
        → mapped run_length (mapped (λ v. record { tag = 0x8001; value = v } ∷ []) (mapped (title_octets t) o))
        ≡ mapped (λ n. padded_length (8 + n)) (mapped length o)
    go (accepted os) = ap accepted (omega arith)
    go (refused n vs) = refl

read-digits : (xs : List ℕ) (count : ℕ) → length xs ≤ most → after (read_digits built_in xs count) (write_digits built_in) ≡ write_digits built_in (digits_in built_in xs count)
unfolding read_digits
read-digits xs count h = ap (λ (o : Outcome (List ℕ)). after o (write_digits built_in)) (bounded-within xs (accepted (digits_in built_in xs count)) h)

pub whole_part : (a : ℕ) (v : List ℕ) → take (length v - a) (drop a v) ≡ drop a v
whole_part a v = take_all (length v - a) (drop a v) (omega (arith, length-drop a v))

pub read_part :
    (v : List ℕ) (count : ℕ)
    → length v ≤ most
    → after (read_digits built_in (take (length v - 8) (drop 8 v)) count) (write_digits built_in) ≡ write_digits built_in (digits_in built_in (drop 8 v) count)
read_part v count h =
    ap (λ xs. after (read_digits built_in xs count) (write_digits built_in)) (whole_part 8 v)
    ∙ read-digits (drop 8 v) count (omega (arith, length-drop 8 v))

-- What a title that is there takes, by its digits.
pub title_takes :
    (A : Alphabet) (t : Title) (o : Outcome ℕ)
    → o ≡ mapped length (write_digits A t.digits)
    → mapped (λ n. padded_length (8 + n)) o ≡ mapped run_length (each (sub_param A) (title t ∷ []))
title_takes A t o e =
    ap (mapped (λ n. padded_length (8 + n))) e ∙ sym (title_sized A t) ∙ ap (mapped run_length) (sym (each_one (sub_param A) (title t)))

-- It takes at most 140 octets.
module _ (A : Alphabet) (L : Lawful A) where
  pub digits_few : (cs : List ℕ) (n : ℕ) → accepted n ≡ mapped length (write_digits A cs) → n ≤ 128
  unfolding write_digits
  digits_few cs n e =
      let (os, w, k) = mapped_inv length (write_digits A cs) (sym e) in
      let (few, p) = demand_inv (leb (length cs) 255) 11 _ _ w in
      let g = write_inv A L cs n e in
      omega (arith, leb-true (length cs) 255 few, g.count)

  title_small : (t : Title) (n : ℕ) → accepted n ≡ mapped run_length (sub_param A (title t)) → n ≤ 140
  title_small t n e =
      let (k, hk, same) = mapped_inv (λ n. padded_length (8 + n)) (mapped length (write_digits A t.digits)) (sym (e ∙ title_sized A t)) in
      let s = digits_few t.digits k (sym hk) in
      omega arith

  pub title_few : (o : Option Title) (n : ℕ) → accepted n ≡ mapped run_length (each (sub_param A) (present title o)) → n ≤ 140
  unfolding run_length
  title_few (Some t) n e = title_small t n (e ∙ ap (mapped run_length) (each_one (sub_param A) (title t)))
  title_few None n e = let z : n ≡ 0 = accepted_inj e in omega arith

pub digits_small : (cs : List ℕ) (n : ℕ) → accepted n ≡ mapped length (write_digits built_in cs) → n ≤ 128
digits_small = digits_few built_in built_in_lawful

-- Where none is too short, what is kept lies inside the value and is long enough.
pub record Sound (v : List ℕ) (s : Parts) : Type 0 where
  pub title : HeldIn v 8 s.title
  pub code : HeldIn v 4 s.code
  pub ssn : HeldIn v 4 s.ssn

some_none : {X : Type 0} {x : X} → ◌≡◌ {A = Option X} (Some x) None → ⊥
some_none {x = x} e = let z : ◌≡◌ {A = Bool} true false = ap is_some e in let n : ◌≡◌ {A = ℕ} 0 1 = cc in omega arith

sooner_none : (k : Option Place) (p : Place) (least : ℕ) → sooner k p least ≡ None → (k ≡ None) × (least ≤ p.length)
sooner_none (Some k) p least e = absurd (some_none e)
sooner_none None p least e = (refl, ltb-false p.length least (go (ltb p.length least) e))
  where
    go : (t : Bool) → pick t (Some p) None ≡ None → t ≡ false
    go true e = absurd (some_none e)
    go false e = refl

module _ (v : List ℕ) where
  note_sound : (s : Parts) (p : Place) → Inside v p → (s.short ≡ None → Sound v s) → (noted s p).short ≡ None → Sound v (noted s p)
  unfolding noted
  note_sound s p h f =
      kinds (λ a b c. (by a b c s p).short ≡ None → Sound v (by a b c s p)) p.tag
      (λ e. let (t, l) = sooner_none s.short p 8 e in let k = f t in record { title = (h, l); code = k.code; ssn = k.ssn })
      (λ e. let (t, l) = sooner_none s.short p 4 e in let k = f t in record { title = k.title; code = (h, l); ssn = k.ssn })
      (λ e. let (t, l) = sooner_none s.short p 4 e in let k = f t in record { title = k.title; code = k.code; ssn = (h, l) })
      (λ e. let k = f e in record { title = k.title; code = k.code; ssn = k.ssn })

  notes_sound : (s : Parts) (ps : List Place) → All (Inside v) ps → (s.short ≡ None → Sound v s) → (note_all s ps).short ≡ None → Sound v (note_all s ps)
  unfolding note_all
  notes_sound s [] h f e = f e
  notes_sound s (p ∷ ps) h f e = notes_sound (noted s p) ps h.1 (note_sound s p h.0 f) e

  fewer : (ps : List Place) → run_length (map (valued v) (other_places ps)) ≤ run_length (map (valued v) ps)
  unfolding run_length
  fewer [] = omega arith
  fewer (p ∷ ps) =
      kinds (λ a b c. run_length (map (valued v) (pick (pick a false (pick b false (pick c false true))) (p ∷ other_places ps) (other_places ps))) ≤ run_length (map (valued v) (p ∷ ps))) p.tag
      (omega (arith, fewer ps)) (omega (arith, fewer ps)) (omega (arith, fewer ps)) (omega (arith, fewer ps))

module _ {v : List ℕ} {s : Parts} (k : Walked v s) where
  inside : All (Inside v) k.places
  inside = places_inside v 4 k.places k.walked

  pub sound : s.short ≡ None → Sound v s
  sound e = rw k.parts (notes_sound v nothing k.places inside (λ e. record { title = tt; code = tt; ssn = tt }) (rw k.parts at e))

  pub others-sum : s.other_length ≡ run_length (map (valued v) (other_places k.places))
  others-sum = ap (λ (s : Parts). s.other_length) k.parts ∙ others-length v nothing k.places inside ∙ omega arith

  pub others_small : s.other_length ≤ most
  others_small =
      let params = sym (places-parameters v 4) ∙ ap (mapped (map (valued v))) k.walked in
      let room = parameters-room (drop 4 v) (map (valued v) k.places) params in
      omega (arith, others-sum, fewer v k.places, length-drop 4 v, k.within, k.long)

-- What is written of each kind.
abbrev pub param_of : {X : Type 0} → (X → Param) → Option X → List Param
param_of f None = []
param_of f (Some x) = f x ∷ []

abbrev pub code_param : ℕ → Param
code_param n = record { tag = 0x8002; value = four n }

abbrev pub sub_one : ℕ → Param
sub_one n = record { tag = 0x8003; value = 0 ∷ 0 ∷ 0 ∷ n ∷ [] }

module _ (A : Alphabet) where
  pub code-params : (o : Option ℕ) → each (sub_param A) (present code o) ≡ accepted (param_of code_param o)
  unfolding sub_param
  code-params None = refl
  code-params (Some n) = refl

  pub sub-params : (o : Option ℕ) → each (sub_param A) (present sub o) ≡ accepted (param_of sub_one o)
  unfolding sub_param
  sub-params None = refl
  sub-params (Some n) = refl

  other_params : (qs : List Param) → each (sub_param A) (map other qs) ≡ accepted qs
  unfolding sub_param
  other_params [] = refl
  other_params (q ∷ qs) = rw (other_params qs)

-- What is made of a part is there where the part is.
pub map-some : {X Y : Type 0} (f : X → Y) (o : Option X) → is_some (option_map f o) ≡ is_some o
map-some f None = refl
map-some f (Some x) = refl

-- what is told of the octets of what is kept is there where it is
pub kept-some : {X : Type 0} (f : List ℕ → X) (v : List ℕ) (k : Option Place) → is_some (option_map f (kept_value v k)) ≡ is_some k
kept-some f v k = map-some f (kept_value v k) ∙ map-some (λ (p : Place). (valued v p).value) k

-- A point code or an SSN takes eight octets.
pub four-length : (f : ℕ → Param) → ((n : ℕ) → length (f n).value ≡ 4) → (o : Option ℕ) → run_length (param_of f o) ≡ pick (is_some o) 8 0
unfolding run_length
four-length f h (Some n) = rw (h n)
four-length f h None = refl

each-first_refused :
    {A B : Type 0} (f : A → Outcome (List B)) (xs ys : List A) (n : ℕ) (vs : List ℕ) → each f xs ≡ refused n vs → each f (xs ++ ys) ≡ refused n vs
each-first_refused f [] ys n vs e = absurd (never (sym e))
each-first_refused {A} {B} f (x ∷ xs) ys n vs e = go (f x) (each f xs) refl e (each-first_refused f xs ys n vs)
  where
    go :
        (o : Outcome (List B)) (r : Outcome (List B))
        → each f xs ≡ r
        → after o (λ us. mapped (λ zs. us ++ zs) r) ≡ refused n vs
        → (each f xs ≡ refused n vs → each f (xs ++ ys) ≡ refused n vs)
        → after o (λ us. mapped (λ zs. us ++ zs) (each f (xs ++ ys))) ≡ refused n vs
    go (accepted us) (accepted zs) q e ih = absurd (never (sym e))
    go (accepted us) (refused m ws) q e ih = ap (mapped (λ zs. us ++ zs)) (ih (q ∙ e))
    go (refused m ws) r q e ih = e

-- The sub-parameters that are written behind the title's, of any point code, SSN and others.
abbrev pub behind : (c s : Option ℕ) → List Param → List Param
behind c s os = param_of code_param c ++ (param_of sub_one s ++ os)

pub behind-length :
    (c s : Option ℕ) (os : List Param) → run_length (behind c s os) ≡ pick (is_some c) 8 0 + (pick (is_some s) 8 0 + run_length os)
behind-length c s os =
    run_length-append (param_of code_param c) _
    ∙ ap₂ (λ (a b : ℕ). a + b) (four-length code_param (λ n. refl) c)
    (run_length-append (param_of sub_one s) _ ∙ ap (λ (a : ℕ). a + run_length os) (four-length sub_one (λ n. refl) s))

-- The sub-parameters of any title, point code, SSN and others.
module _ (A : Alphabet) (t : Option Title) (c s : Option ℕ) (os : List Param) where
  abbrev parts : List Piece
  parts = present title t ++ (present code c ++ (present sub s ++ map other os))

  pub parts-written : (qs : List Param) → each (sub_param A) (present title t) ≡ accepted qs → each (sub_param A) parts ≡ accepted (qs ++ behind c s os)
  parts-written qs e =
      each_append (sub_param A) (present title t) _ qs (behind c s os) e
      (each_append (sub_param A) (present code c) _ _ _ (code-params A c)
      (each_append (sub_param A) (present sub s) _ _ _ (sub-params A s) (other_params A os)))

  pub parts_refused : (n : ℕ) (vs : List ℕ) → each (sub_param A) (present title t) ≡ refused n vs → each (sub_param A) parts ≡ refused n vs
  parts_refused n vs e = each-first_refused (sub_param A) (present title t) _ n vs e

module _ (v : List ℕ) (s : Parts) (ps : List Place) where
  abbrev pub rest : List Param
  rest = behind (kept_code v s.code) (kept_sub v s.ssn) (map (valued v) (other_places ps))

  pub rest-length :
      run_length rest ≡ pick (is_some s.code) 8 0 + (pick (is_some s.ssn) 8 0 + run_length (map (valued v) (other_places ps)))
  rest-length =
      behind-length (kept_code v s.code) (kept_sub v s.ssn) (map (valued v) (other_places ps))
      ∙ rw (kept-some four_in v s.code, kept-some (λ w. get_or w 3 0) v s.ssn) refl

  pub kept-written :
      (A : Alphabet) (qs : List Param)
      → each (sub_param A) (present title (kept_title built_in v s.title)) ≡ accepted qs
      → each (sub_param A) (kept_pieces built_in v s ps) ≡ accepted (qs ++ rest)
  unfolding kept_pieces
  kept-written A = parts-written A (kept_title built_in v s.title) (kept_code v s.code) (kept_sub v s.ssn) (map (valued v) (other_places ps))

  pub kept_refused :
      (A : Alphabet) (n : ℕ) (vs : List ℕ)
      → each (sub_param A) (present title (kept_title built_in v s.title)) ≡ refused n vs
      → each (sub_param A) (kept_pieces built_in v s ps) ≡ refused n vs
  unfolding kept_pieces
  kept_refused A = parts_refused A (kept_title built_in v s.title) (kept_code v s.code) (kept_sub v s.ssn) (map (valued v) (other_places ps))
