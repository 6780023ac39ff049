-- An address that is given by its record: when it is refused, its length, and its octets.
use Prim.Native.Nat.{ℕ, ◌+◌, ◌-◌, ◌≤◌, ◌<◌}
use mathlib.Core.Path.{◌≡◌, refl, sym, ap, ◌∙◌}
use Rattle.std.specs.Prelude.{Option, None, Some, option_map}
use mathlib.Core.List.{List, [], ◌∷◌, ◌++◌, append_assoc}
use native.Mathlib.Omega.{arith}
use borrow.Author.Tests.{le-leb, lt-leb, leb-true}
use borrow.Rule.Slice.PartMut.{mid_of, put_mid}
use lib.Dec.{leb}
use lib.ListN.{length, length-append}
use Rattle.bcd.specs.Outcome.{Outcome, accepted, refused, after, mapped, each, All, fit64, deliver}
use Rattle.bcd.specs.Digits.{built_in}
use Rattle.bcd.proofs.Outcomes.{accepted_inj, never, after_inv, mapped_inv, demand_inv, mapped-demand, each_inv, each_append, deliver_buffer}
use Rattle.bcd.proofs.Writing.{Begun}
use Rattle.parameter.specs.Parameter.{Param, param, run_octets, run_length, most_value, encode_param, encode_params, Sized}
use Rattle.parameter.specs.Table.{Table, records}
use Rattle.parameter.proofs.RoundTrip.{run_length_lem, run_length-append, encode_accepts, encode_inv, encode_params_accepts}
use Rattle.address.specs.Address.{indicator, pieces, sized, write_address}
use Rattle.address.specs.Records.{title_of, address_of}
use Rattle.address.specs.Given.{encode_address_as}
use Rattle.address.specs.Given.{given_param}
use Rattle.address.specs.Steps.GivenParts.{given_title, given_head, four_length, within, length_with}
use Rattle.address.specs.declared.SuaAddress.{SuaAddress}
use Rattle.address.proofs.Planning.{mapped_refused, param_of, code_param, sub_one, four-length, parts-written, parts_refused}
use Rattle.address.proofs.Putting.{delivered_never}
use Rattle.address.proofs.Copying.{lent_length}
use Rattle.address.proofs.Delivering.{parts_octets, parts-length, parts-done}
use Rattle.address.proofs.GivenParts.{title_accepts, title_refuses, title_small}

-- Elements behind those that were accepted.
each-last_refused :
    {A B : Type 0} (f : A → Outcome (List B)) (xs ys : List A) (us : List B) (n : ℕ) (vs : List ℕ)
    → each f xs ≡ accepted us
    → each f ys ≡ refused n vs
    → each f (xs ++ ys) ≡ refused n vs
each-last_refused f [] ys us n vs e h = h
each-last_refused f (x ∷ xs) ys us n vs e h =
    let (s, t, hs, ht, j) = each_inv f x xs us e in
    rw (hs, each-last_refused f xs ys t n vs ht h)

each-behind :
    {A B : Type 0} (f : A → Outcome (List B)) (xs ys : List A) (us : List B)
    → each f xs ≡ accepted us
    → each f (xs ++ ys) ≡ mapped (λ vs. us ++ vs) (each f ys)
each-behind {A} {B} f xs ys us e = go (each f ys) refl
  where
    go : (o : Outcome (List B)) → each f ys ≡ o → each f (xs ++ ys) ≡ mapped (λ vs. us ++ vs) o
    go (accepted vs) h = each_append f xs ys us vs e h
    go (refused n vs) h = each-last_refused f xs ys us n vs e h

-- Where a run is short, no value in it is too long.
run_sized : (qs : List Param) → run_length qs ≤ most_value → All Sized qs
unfolding run_length
run_sized [] h = tt
run_sized (q ∷ qs) h = (omega arith, run_sized qs (omega arith))

-- The sub-parameters of the point code and the SSN.
abbrev pub codes_of : SuaAddress → List Param
codes_of a = param_of code_param a.point_code

abbrev pub subs_of : SuaAddress → List Param
subs_of a = param_of sub_one a.ssn

-- In front of the others, and with them.
abbrev front_of : SuaAddress → List Param → List Param
front_of a ts = ts ++ (codes_of a ++ subs_of a)

abbrev pub whole_of : SuaAddress → (titled others : List Param) → List Param
whole_of a ts os = ts ++ (codes_of a ++ (subs_of a ++ os))

front-whole : (a : SuaAddress) (ts os : List Param) → whole_of a ts os ≡ front_of a ts ++ os
front-whole a ts os = ap (λ l. ts ++ l) (sym (append_assoc (codes_of a) (subs_of a) os)) ∙ sym (append_assoc ts (codes_of a ++ subs_of a) os)

front_length : (a : SuaAddress) (ts : List Param) → run_length (front_of a ts) ≡ run_length ts + four_length a.point_code + four_length a.ssn
front_length a ts =
    let x = run_length-append ts (codes_of a ++ subs_of a) in
    let y = run_length-append (codes_of a) (subs_of a) in
    let c = four-length code_param (λ n. refl) a.point_code in
    let s = four-length sub_one (λ n. refl) a.ssn in
    omega arith

pub given_one : (tag : ℕ) (f : ℕ → List ℕ) (o : Option ℕ) → given_param tag (option_map f o) ≡ param_of (λ n. param tag (f n)) o
given_one tag f None = refl
given_one tag f (Some n) = refl

pub eight : {X : Type 0} (o : Option X) → four_length o ≤ 8
eight None = omega arith
eight (Some x) = omega arith

-- The length of an address value, with what its title takes: each refusal, and the sum.
module _ (tag : ℕ) (taken : Outcome ℕ) (a : SuaAddress) (values : List ℕ) (t : Table) where
  pub with_outside : (n : ℕ) (vs : List ℕ) → records values t a.other_count ≡ refused n vs → length_with tag taken a values t ≡ refused n vs
  unfolding length_with
  with_outside n vs e = rw e

  module _ (os : List Param) (inside : records values t a.other_count ≡ accepted os) where
    pub with_untitled : (n : ℕ) (vs : List ℕ) → taken ≡ refused n vs → length_with tag taken a values t ≡ refused n vs
    unfolding length_with
    with_untitled n vs e = rw (inside, e)

    module _ (k : ℕ) (there : taken ≡ accepted k) where
      with_sum : length_with tag taken a values t ≡ after (each encode_param os) (λ w. within tag (4 + k + four_length a.point_code + four_length a.ssn + length w))
      unfolding length_with
      with_sum = rw (inside, there)

      abbrev measured_others : Outcome ℕ
      measured_others = mapped (λ (w : List ℕ). fit64 (length w)) (after (records values t a.other_count) (each encode_param))

      others_measured : measured_others ≡ mapped (λ (w : List ℕ). fit64 (length w)) (each encode_param os)
      others_measured = ap (λ (o : Outcome (List Param)). mapped (λ (w : List ℕ). fit64 (length w)) (after o (each encode_param))) inside

      pub with_refused : (n : ℕ) (vs : List ℕ) → refused n vs ≡ measured_others → length_with tag taken a values t ≡ refused n vs
      with_refused n vs e =
          let r = mapped_refused (λ (w : List ℕ). fit64 (length w)) (each encode_param os) (e ∙ others_measured) in
          with_sum ∙ rw r

      module _ (m total : ℕ) (measured : accepted m ≡ measured_others) (sum : total ≡ fit64 (4 + k + four_length a.point_code + four_length a.ssn + m)) where
        pub with_long : most_value < total → length_with tag taken a values t ≡ refused 10 (tag ∷ total ∷ [])
        with_long h =
            let (w, hw, f) = mapped_inv (λ (w : List ℕ). fit64 (length w)) (each encode_param os) (sym (measured ∙ others_measured)) in
            let n = 4 + k + four_length a.point_code + four_length a.ssn + length w in
            let same : fit64 n ≡ total = omega arith in
            with_sum ∙ rw hw (rw (lt-leb n most_value (omega arith), same))

        pub with_counted : total ≤ most_value → length_with tag taken a values t ≡ accepted total
        with_counted h =
            let (w, hw, f) = mapped_inv (λ (w : List ℕ). fit64 (length w)) (each encode_param os) (sym (measured ∙ others_measured)) in
            let n = 4 + k + four_length a.point_code + four_length a.ssn + length w in
            let same : n ≡ total = omega arith in
            with_sum ∙ rw hw (rw (le-leb n most_value (omega arith), same))

module _ (tag : ℕ) (a : SuaAddress) (values : List ℕ) (t : Table) where
  abbrev listed : Outcome (List Param)
  listed = records values t a.other_count

  abbrev titled : Outcome (List Param)
  titled = given_title a.global_title

  -- A record that reaches outside.
  pub given_outside : (n : ℕ) (vs : List ℕ) → listed ≡ refused n vs → encode_address_as tag a values t ≡ refused n vs
  unfolding encode_address_as
  given_outside n vs e = rw e

  module _ (os : List Param) (known : listed ≡ accepted os) where
    -- A title that is refused.
    pub given_untitled : (n : ℕ) (vs : List ℕ) → titled ≡ refused n vs → encode_address_as tag a values t ≡ refused n vs
    unfolding encode_address_as write_address pieces
    given_untitled n vs e =
        rw known
        (title_refuses (address_of a os) (write_address built_in tag) a.global_title n vs e
        (λ h. rw (parts_refused built_in (option_map title_of a.global_title) a.point_code a.ssn os n vs h)))

    module _ (ts : List Param) (e : titled ≡ accepted ts) where
      front_small : run_length (front_of a ts) ≤ 156
      front_small =
          let c = eight a.point_code in
          let s = eight a.ssn in
          omega (arith, front_length a ts, title_small a.global_title (run_length ts) (sym (ap (mapped run_length) e)))

      given-pieces : encode_address_as tag a values t ≡ after (each encode_param (whole_of a ts os)) (λ w. sized tag (given_head a ++ w))
      unfolding encode_address_as write_address pieces indicator
      given-pieces =
          let (goes, one) = title_accepts (address_of a os) a.global_title ts e in
          rw (known, goes, parts-written built_in (option_map title_of a.global_title) a.point_code a.ssn os ts one)

      pieces_runs : each encode_param (whole_of a ts os) ≡ mapped (λ w. run_octets (front_of a ts) ++ w) (each encode_param os)
      pieces_runs =
          let small = encode_accepts (front_of a ts) (run_sized (front_of a ts) (omega (arith, front_small))) in
          ap (each encode_param) (front-whole a ts os) ∙ each-behind encode_param (front_of a ts) os (run_octets (front_of a ts)) small

      given_runs : encode_address_as tag a values t ≡ after (mapped (λ w. run_octets (front_of a ts) ++ w) (each encode_param os)) (λ w. sized tag (given_head a ++ w))
      given_runs = given-pieces ∙ ap (λ (o : Outcome (List ℕ)). after o (λ w. sized tag (given_head a ++ w))) pieces_runs

  -- Its length, with what its title takes.
  pub given_measured : mapped length (encode_address_as tag a values t) ≡ length_with tag (mapped run_length titled) a values t
  given_measured = listing listed refl
    where
      measured : (ts : List Param) (o : Outcome (List ℕ)) → mapped length (after (mapped (λ w. run_octets (front_of a ts) ++ w) o) (λ w. sized tag (given_head a ++ w))) ≡ after o (λ w. within tag (4 + run_length ts + four_length a.point_code + four_length a.ssn + length w))
      measured ts (accepted w) =
          let u = run_octets (front_of a ts) in
          let all = given_head a ++ (u ++ w) in
          let sum : length all ≡ 4 + run_length ts + four_length a.point_code + four_length a.ssn + length w = omega (arith, length-append u w, run_length_lem (front_of a ts), front_length a ts) in
          mapped-demand (leb (length all) most_value) 10 (tag ∷ fit64 (length all) ∷ []) length (accepted all) ∙ ap (within tag) sum
      measured ts (refused n vs) = refl

      titling : (os : List Param) → listed ≡ accepted os → (o : Outcome (List Param)) → titled ≡ o → mapped length (encode_address_as tag a values t) ≡ length_with tag (mapped run_length titled) a values t
      titling os inside (accepted ts) e =
          ap (mapped length) (given_runs os inside ts e)
          ∙ measured ts (each encode_param os)
          ∙ sym (with_sum tag (mapped run_length titled) a values t os inside (run_length ts) (ap (mapped run_length) e))
      titling os inside (refused n vs) e =
          ap (mapped length) (given_untitled os inside n vs e)
          ∙ sym (with_untitled tag (mapped run_length titled) a values t os inside n vs (ap (mapped run_length) e))

      listing : (o : Outcome (List Param)) → listed ≡ o → mapped length (encode_address_as tag a values t) ≡ length_with tag (mapped run_length titled) a values t
      listing (accepted os) inside = titling os inside titled refl
      listing (refused n vs) e =
          ap (mapped length) (given_outside n vs e)
          ∙ sym (with_outside tag (mapped run_length titled) a values t n vs e)

-- An address that is written, as so many octets.
pub record Known (tag : ℕ) (a : SuaAddress) (values : List ℕ) (t : Table) (total : ℕ) : Type 0 where
  pub others : List Param
  pub titled : List Param
  pub title : given_title a.global_title ≡ accepted titled
  pub encoded : after (records values t a.other_count) encode_params ≡ accepted (run_octets others)
  pub octets : encode_address_as tag a values t ≡ accepted (given_head a ++ run_octets (whole_of a titled others))
  pub size : 4 + run_length titled + run_length (codes_of a) + run_length (subs_of a) + run_length others ≡ total
  pub fits : total ≤ most_value

module _ (tag : ℕ) (a : SuaAddress) (values : List ℕ) (t : Table) (total : ℕ) (e : accepted total ≡ mapped length (encode_address_as tag a values t)) where
  known-titled :
      (w : List ℕ)
      → encode_address_as tag a values t ≡ accepted w
      → length w ≡ total
      → (os : List Param) (inside : records values t a.other_count ≡ accepted os) (ts : List Param)
      → given_title a.global_title ≡ accepted ts
      → Known tag a values t total
  known-titled w hw l os inside ts title =
      let (x, hx, rest) = after_inv (each encode_param (whole_of a ts os)) _ (sym (given-pieces tag a values t os inside ts title) ∙ hw) in
      let (y, hy, j) = mapped_inv (λ w. run_octets (front_of a ts) ++ w) (each encode_param os) (sym (pieces_runs tag a values t os inside ts title) ∙ hx) in
      let (small, same) = demand_inv (leb (length (given_head a ++ x)) most_value) _ _ _ rest in
      let all = encode_inv (whole_of a ts os) x hx in
      let sizes = (encode_inv os y hy).sizes in
      let octets : given_head a ++ run_octets (whole_of a ts os) ≡ w = ap (λ l. given_head a ++ l) all.run ∙ accepted_inj same in
      let sum = parts-length ts (codes_of a) (subs_of a) os in
      let size : 4 + run_length (whole_of a ts os) ≡ total = omega (arith, run_length_lem (whole_of a ts os), ap length octets) in
      let fits : total ≤ most_value = omega (arith, leb-true (length (given_head a ++ x)) most_value small, ap length (accepted_inj same)) in
      record {
        others = os;
        titled = ts;
        title = title;
        encoded = ap (λ (o : Outcome (List Param)). after o encode_params) inside ∙ encode_params_accepts os sizes (omega arith);
        octets = hw ∙ ap accepted (sym octets);
        size = omega arith;
        fits = fits;
      }

  pub given-known : Known tag a values t total
  unfolding encode_address_as
  given-known =
      let (w, hw, l) = mapped_inv length (encode_address_as tag a values t) (sym e) in
      let (os, inside, rest) = after_inv (records values t a.other_count) _ hw in
      go w hw l os inside (given_title a.global_title) refl
    where
      go :
          (w : List ℕ)
          → encode_address_as tag a values t ≡ accepted w
          → length w ≡ total
          → (os : List Param)
          → records values t a.other_count ≡ accepted os
          → (o : Outcome (List Param))
          → given_title a.global_title ≡ o
          → Known tag a values t total
      go w hw l os inside (accepted ts) h = known-titled w hw l os inside ts h
      go w hw l os inside (refused n vs) h = absurd (never (sym (given_untitled tag a values t os inside n vs h) ∙ hw))

-- The others behind the rest: all is written.
pub given-done :
    {tag : ℕ} {a : SuaAddress} {values : List ℕ} {t : Table} {total : ℕ} (k : Known tag a values t total) {out d last : List ℕ} {p : Outcome ℕ} (at : ℕ)
    → Begun out (parts_octets (given_head a) k.titled (codes_of a) (subs_of a)) d
    → length (parts_octets (given_head a) k.titled (codes_of a) (subs_of a)) ≡ at
    → at + run_length k.others ≤ length out
    → record { answer = p; buffer = last } ≡ deliver (after (records values t a.other_count) encode_params) (mid_of at (length d - at) d)
    → record { answer = accepted total; buffer = put_mid at (length d - at) d last } ≡ deliver (encode_address_as tag a values t) out
given-done {tag} {a} {values} {t} {total} k {out} {d} {last} at b place room e =
    let lent = mid_of at (length d - at) d in
    let fit : length (run_octets k.others) ≤ length lent = omega (arith, run_length_lem k.others, lent_length d at, b.same) in
    let put = deliver_buffer (run_octets k.others) lent fit (e ∙ ap (λ (o : Outcome (List ℕ)). deliver o lent) k.encoded) in
    let whole = whole_of a k.titled k.others in
    let size : length (given_head a ++ run_octets whole) ≡ total = omega (arith, run_length_lem whole, parts-length k.titled (codes_of a) (subs_of a) k.others, k.size) in
    parts-done (given_head a) k.titled (codes_of a) (subs_of a) k.others at total b place room put size
    ∙ ap (λ (o : Outcome (List ℕ)). deliver o out) (sym k.octets)

-- There is room for the others.
pub given_never :
    {X : Type 0} {tag : ℕ} {a : SuaAddress} {values : List ℕ} {t : Table} {total : ℕ} (k : Known tag a values t total) {out p d last : List ℕ} (at : ℕ) {n : ℕ} {vs : List ℕ}
    → Begun out p d
    → at + run_length k.others ≤ length out
    → record { answer = refused n vs; buffer = last } ≡ deliver (after (records values t a.other_count) encode_params) (mid_of at (length d - at) d)
    → X
given_never k {out} {p} {d} at b room e =
    let lent = mid_of at (length d - at) d in
    delivered_never (run_octets k.others) lent (omega (arith, run_length_lem k.others, lent_length d at, b.same))
    (e ∙ ap (λ (o : Outcome (List ℕ)). deliver o lent) k.encoded)
