-- The account of an address and of a parameter.
use Prim.Native.Nat.{ℕ, ◌+◌, ◌*◌, ◌/◌, ◌%◌, ◌≤◌}
use mathlib.Core.Path.{◌≡◌, refl, sym, ap, ◌∙◌, subst}
use mathlib.Core.Bool.{Bool, true, false}
use mathlib.Core.List.{List, [], ◌∷◌, ◌++◌, map, append_assoc, append-nil}
use native.Mathlib.Omega.{arith}
use lib.ListN.{length, get_or, drop, length-append, length-map, length-take, length-drop}
use Rattle.std.specs.Prelude.{Option, None, Some, option_map}
use Rattle.bcd.specs.Outcome.{Outcome, accepted, refused, pick, mapped, accepted_or, Octets, most}
use Rattle.bcd.specs.Digits.{built_in, digits_in}
use Rattle.bcd.proofs.Outcomes.{accepted_inj, after_inv, mapped_inv, bounded-within, octets-of, octets_at}
use Rattle.bcd.proofs.Reading.{digits-length}
use Rattle.parameter.specs.declared.Place.{Place}
use Rattle.parameter.specs.Parameter.{two, four, two_at}
use Rattle.parameter.specs.Walk.{valued, places}
use Rattle.address.specs.Address.{Title, title_at, address_in, read_address, address_with}
use Rattle.address.specs.Parts.{kept_title, kept_code, kept_sub}
use Rattle.address.specs.Listing.{other_places}
use Rattle.address.specs.Steps.Plan.{Read}
use Rattle.address.specs.Parts.{interpreted}
use Rattle.address.specs.declared.parts.Parts.{Parts}
use Rattle.address.specs.declared.interpret.Interpreted.{Interpreted}
use Rattle.address.specs.declared.interpret.TitleValue.{TitleValue}
use Rattle.address.proofs.Keeping.{piece_at}
use Rattle.address.proofs.Interpreting.{title_holds, code_holds, sub_holds}
use Rattle.address.proofs.Plans.{indicator_bits}
use Rattle.address.proofs.Interpreted.{read_whole, interpreted-read, interpreted_refused, accepted_read}
use Rattle.address.proofs.Others.{count_known, walk_few}
use Rattle.form.specs.Form.{is_address}
use Rattle.message.specs.Accessors.{moved}
use Rattle.flat.specs.Account.{place_octets, places_octets, marked, title_fields, address_fields, address_account, param_account}
use Rattle.flat.specs.declared.writer.Writer.{Writer}
use Rattle.flat.specs.Steps.Emitting.{Writes, Tried, listed, others_fields, parts_fields}
use Rattle.flat.proofs.Emission.{writes_more}
use Rattle.flat.proofs.Describing.{value_octets}
use Rattle.flat.proofs.OtherPlaces.{listed-length}

-- an address value that was interpreted was read
pub whole : (it : Interpreted) → Read it.value.now it.parts
whole it = interpreted-read (octets-of it.value.now it.fits) it.read

-- a part that is there, told by another
marked_map : {X Y : Type 0} (f : Y → List ℕ) (g : X → Y) (o : Option X) → marked f (option_map g o) ≡ marked (λ x. f (g x)) o
marked_map f g None = refl
marked_map f g (Some x) = refl

pub title_marked :
    (o : Option TitleValue) (k : Option Title) {a b : Writer}
    → option_map (λ (t : TitleValue). title_at built_in t.octets.now) o ≡ k
    → Writes a (marked (λ (t : TitleValue). title_fields (title_at built_in t.octets.now)) o) b
    → Writes a (marked title_fields k) b
title_marked o k {a} {b} e x =
    subst (λ (os : List ℕ). Writes a os b) (sym (marked_map title_fields (λ (t : TitleValue). title_at built_in t.octets.now) o) ∙ ap (marked title_fields) e) x

pub part_marked :
    {X : Type 0} (f : X → List ℕ) (o : Option (List ℕ)) (k : Option X) {a b : Writer}
    → o ≡ option_map f k
    → Writes a (marked (λ (os : List ℕ). os) o) b
    → Writes a (marked f k) b
part_marked f o k {a} {b} e x = subst (λ (os : List ℕ). Writes a os b) (ap (marked (λ (os : List ℕ). os)) e ∙ marked_map (λ (os : List ℕ). os) f k) x

-- what the parts of an address take
pub title_small : (v : List ℕ) (k : Option Place) → Octets v → length (marked title_fields (kept_title built_in v k)) ≤ 262
title_small v None o = omega arith
title_small v (Some p) o =
    let w = (valued v p).value in
    let l = digits-length built_in (drop 8 w) (get_or w 4 0) in
    let b = octets_at w 4 (value_octets v p o) in
    let few : length (digits_in built_in (drop 8 w) (get_or w 4 0)) ≤ 255 = omega arith in
    omega arith

pub code_small : (v : List ℕ) (k : Option Place) → length (marked four (kept_code v k)) ≤ 5
code_small v None = omega arith
code_small v (Some p) = omega arith

pub sub_small : (v : List ℕ) (k : Option Place) → length (marked (λ (n : ℕ). n ∷ []) (kept_sub v k)) ≤ 2
sub_small v None = omega arith
sub_small v (Some p) = omega arith

-- the fields that were stored one after the other
pub parts_stored :
    (base : ℕ) (v : List ℕ) (s : Parts) {a b : Writer}
    → Octets v
    → Writes a
    (((((get_or v 0 0 ∷ get_or v 1 0 ∷ (get_or v 3 0 % 8) ∷ []) ++ marked title_fields (kept_title built_in v s.title)) ++ marked four (kept_code v s.code))
    ++ marked (λ (n : ℕ). n ∷ []) (kept_sub v s.ssn))
    ++ others_fields base v s) b
    → Writes a (parts_fields base v s) b
unfolding parts_fields two_at
parts_stored base v s {a} {b} o x =
    let T = marked title_fields (kept_title built_in v s.title) in
    let C = marked four (kept_code v s.code) in
    let S = marked (λ (n : ℕ). n ∷ []) (kept_sub v s.ssn) in
    let O = others_fields base v s in
    let h = octets_at v 1 o in
    let high : get_or v 0 0 ≡ (get_or v 0 0 * 256 + get_or v 1 0) / 256 = omega arith in
    let low : get_or v 1 0 ≡ (get_or v 0 0 * 256 + get_or v 1 0) % 256 = omega arith in
    let joined : (T ++ C) ++ S ++ O ≡ T ++ (C ++ (S ++ O)) = append_assoc (T ++ C) S O ∙ append_assoc T C (S ++ O) in
    let whole : get_or v 0 0 ∷ get_or v 1 0 ∷ (get_or v 3 0 % 8) ∷ ((T ++ C) ++ S ++ O) ≡ two (get_or v 0 0 * 256 + get_or v 1 0) ++ ((get_or v 3 0 % 8) ∷ (T ++ (C ++ (S ++ O)))) =
    ap (λ (l : List ℕ). get_or v 0 0 ∷ get_or v 1 0 ∷ (get_or v 3 0 % 8) ∷ l) joined
    ∙ ap (λ (a : ℕ). a ∷ get_or v 1 0 ∷ (get_or v 3 0 % 8) ∷ (T ++ (C ++ (S ++ O)))) high
    ∙ ap (λ (b : ℕ). (get_or v 0 0 * 256 + get_or v 1 0) / 256 ∷ b ∷ (get_or v 3 0 % 8) ∷ (T ++ (C ++ (S ++ O)))) low in
    subst (λ (os : List ℕ). Writes a os b) whole x

pub parts_small : (base : ℕ) {v : List ℕ} {s : Parts} (r : Read v s) → length (parts_fields base v s) ≤ 12 * most
unfolding parts_fields
parts_small base {v} {s} r =
    let T = marked title_fields (kept_title built_in v s.title) in
    let C = marked four (kept_code v s.code) in
    let S = marked (λ (n : ℕ). n ∷ []) (kept_sub v s.ssn) in
    let O = others_fields base v s in
    let walked : listed base (accepted_or [] (places v 4)) ≡ listed base r.known.places = ap (λ o. listed base (accepted_or [] o)) r.known.walked in
    omega (arith, title_small v s.title r.known.octets, code_small v s.code, sub_small v s.ssn, length-append T (C ++ (S ++ O)), length-append C (S ++ O), length-append S O, ap length walked, listed-length base r.known.places, walk_few r.known)

-- there are no others
pub others_none : (base : ℕ) {v : List ℕ} {s : Parts} (r : Read v s) {a b : Writer} → s.other_count ≡ 0 → Writes a (four s.other_count) b → Writes a (others_fields base v s) b
unfolding places_octets
others_none base {v} {s} r {a} {b} e x =
    let none : listed base (accepted_or [] (places v 4)) ≡ [] =
    ap (λ o. listed base (accepted_or [] o)) r.known.walked
    ∙ ap (λ ps. places_octets (map (moved base) ps)) (empty (other_places r.known.places) (omega (arith, e, count_known r.known))) in
    subst (λ (os : List ℕ). Writes a os b) (sym (ap (λ (l : List ℕ). four s.other_count ++ l) none ∙ append-nil (four s.other_count))) x
  where
    empty : (ps : List Place) → length ps ≡ 0 → ps ≡ []
    empty [] e = refl
    empty (p ∷ ps) e = absurd (omega (arith, e))

-- the account of an address value that was read, and of one that was not
pub account_read : (base : ℕ) {v : List ℕ} {s : Parts} (r : Read v s) → address_account built_in base v ≡ accepted (parts_fields base v s)
unfolding address_account address_fields parts_fields read_address address_with
account_read base {v} {s} r =
    let ps = r.known.places in
    let read : address_in built_in v ≡ accepted (address_with (two_at v 0) (get_or v 3 0) (map (piece_at built_in v) ps)) =
    sym (bounded-within v (address_in built_in v) r.known.within) ∙ read_whole r in
    let count : length (map (moved base) (other_places ps)) ≡ s.other_count = length-map (other_places ps) (moved base) ∙ sym (count_known r.known) in
    rw (read, r.known.walked, indicator_bits (two_at v 0) (get_or v 3 0) (map (piece_at built_in v) ps), title_holds built_in v ps, code_holds built_in v ps, sub_holds built_in v ps, count, ← r.known.parts)

pub account_refused :
    (base : ℕ) (v : List ℕ) (n : ℕ) (vs : List ℕ) → length v ≤ most → read_address built_in v ≡ refused n vs → address_account built_in base v ≡ refused n vs
unfolding address_account read_address
account_refused base v n vs h e =
    let read : address_in built_in v ≡ refused n vs = sym (bounded-within v (address_in built_in v) h) ∙ e in
    rw read

-- a value is no longer than its place says
pub value_short : (xs : List ℕ) (p : Place) → length (valued xs p).value ≤ p.length
value_short xs p = rw length-take (omega arith)

-- the account of a parameter: its place, and an address
module _ (xs : List ℕ) (p : Place) {a b : Writer} (x : Writes a (place_octets p) b) where
  known : is_address p.tag ≡ true → (o : Outcome (List ℕ)) → address_account built_in p.start (valued xs p).value ≡ o → param_account built_in xs p ≡ mapped (λ os. place_octets p ++ os) o
  unfolding param_account
  known t o f = rw (t, f)

  pub param_raw : is_address p.tag ≡ false → Tried a (param_account built_in xs p) (accepted (tt {0})) b
  unfolding param_account
  param_raw t = (place_octets p, rw (t, append-nil), x)

  pub param_read :
      Octets xs
      → is_address p.tag ≡ true
      → (it : Interpreted) {c : Writer}
      → it.value.now ≡ (valued xs p).value
      → Writes b (parts_fields p.start it.value.now it.parts) c
      → Tried a (param_account built_in xs p) (accepted (tt {0})) c
  param_read o t it {c} e y =
      let v = (valued xs p).value in
      let r : Read v it.parts = interpreted-read (value_octets xs p o) (rw e at it.read) in
      (place_octets p ++ parts_fields p.start v it.parts, known t _ (account_read p.start r), writes_more x (rw e at y))

  pub param_unread :
      p.length ≤ most
      → is_address p.tag ≡ true
      → (n : ℕ) (vs : List ℕ)
      → refused n vs ≡ interpreted (valued xs p).value
      → Tried {A = Unit {0}} a (param_account built_in xs p) (refused n vs) b
  param_unread h t n vs e =
      let v = (valued xs p).value in
      (known t _ (account_refused p.start v n vs (omega (arith, value_short xs p, h)) (interpreted_refused v n vs e)), x.lent)

-- how long an account is at most
address_small : (base : ℕ) (v os : List ℕ) → Octets v → length v ≤ most → address_account built_in base v ≡ accepted os → length os ≤ 12 * most
unfolding address_account read_address
address_small base v os o h e =
    let (a, f, g) = after_inv (address_in built_in v) _ e in
    let (s, r) = accepted_read o (bounded-within v (address_in built_in v) h ∙ f) in
    omega (arith, parts_small base r, ap length (accepted_inj (sym e ∙ account_read base r)))

module _ (xs : List ℕ) (octets : Octets xs) where
  pub param_small : length xs ≤ most → (p : Place) (os : List ℕ) → param_account built_in xs p ≡ accepted os → length os ≤ 13 * most
  unfolding param_account
  param_small within p os e =
      let (us, f, g) = mapped_inv (λ os. place_octets p ++ os) (pick (is_address p.tag) (address_account built_in p.start (valued xs p).value) (accepted [])) e in
      let value : length (valued xs p).value ≤ most = rw (length-take p.length (drop p.start xs), length-drop p.start xs) (omega (arith, within)) in
      omega (arith, go (is_address p.tag) us value f, ap length g)
    where
      go : (t : Bool) (us : List ℕ) → length (valued xs p).value ≤ most → pick t (address_account built_in p.start (valued xs p).value) (accepted []) ≡ accepted us → length us ≤ 12 * most
      go true us h f = address_small p.start (valued xs p).value us (value_octets xs p octets) h f
      go false us h f = omega (arith, ap length (accepted_inj f))
