-- The address value of an address that converts: its parts, and that it is written.
use Prim.Native.Nat.{ℕ, ◌+◌, ◌-◌, ◌≤◌, ◌<◌}
use mathlib.Core.Path.{◌≡◌, refl, sym, ap, ◌∙◌, subst}
use mathlib.Core.Bool.{Bool, true, false}
use mathlib.Core.List.{List, [], ◌∷◌, ◌++◌, append_assoc, append-nil}
use native.Mathlib.Omega.{arith}
use borrow.Author.Tests.{le-leb}
use borrow.Rule.Slice.PartMut.{mid_of, put_mid}
use lib.ListN.{length, take, drop, length-append, length-take, length-drop, take-append-drop}
use lib.Seq.{length-take-le}
use Rattle.std.specs.Prelude.{Option, None, Some, option_map, is_some}
use Rattle.bcd.specs.Outcome.{Outcome, accepted, refused, pick, after, mapped, each, All, deliver}
use Rattle.bcd.specs.Digits.{built_in}
use Rattle.bcd.proofs.Outcomes.{all_append, deliver_answer, deliver_too_long}
use Rattle.bcd.proofs.Writing.{Begun, begin, extend, extend_all, delivered}
use Rattle.parameter.specs.Parameter.{Param, param, two, four, param_octets, run_octets, run_length, most_value, Sized}
use Rattle.parameter.specs.Parameter.{encode_param, frame_param}
use Rattle.parameter.specs.Table.{over}
use Rattle.parameter.proofs.RoundTrip.{octets-length, run_length_lem, encode_accepts}
use Rattle.parameter.proofs.Encoding.{frame_known}
use Rattle.parameter.proofs.InPlace.{framed-there}
use Rattle.address.specs.Address as Sua
use Rattle.address.specs.Address.{sub_param, write_title, write_address, pieces, sized}
use Rattle.address.specs.Given.{given_param}
use Rattle.address.specs.Steps.GivenParts.{sub_value}
use Rattle.address.proofs.Planning.{each_one, param_of, code_param, sub_one, map-some, four-length, parts-written}
use Rattle.address.proofs.Delivering.{Wrote, wrote, wrote_never, parts-length, parts_none}
use Rattle.address.proofs.Numbers
use Rattle.address.proofs.Numbers.{behind, Stands, coded, subbed}
use Rattle.sccp.specs.Steps.{title_from, address_from, packed, title_param, param_length, head_from, value_length}
use Rattle.sccp.specs.declared.common.Title.{Title}
use Rattle.sccp.specs.declared.common.Common.{Common}
use Rattle.sccp.proofs.Copying.{packed-length, digits_count, digits-written}
use Rattle.sccp.proofs.Writing.{Put, put-behind}

-- The value of a title in front of its digits, all of it, and the sub-parameter, if the title is there.
abbrev pub title_head : Title → List ℕ
title_head t = 0 ∷ 0 ∷ 0 ∷ 4 ∷ t.digits.count ∷ t.translation_type ∷ t.numbering_plan ∷ t.nature_of_address ∷ []

abbrev pub title_one : Title → Param
title_one t = param 0x8001 (title_head t ++ packed t.digits)

abbrev pub title_params : Option Title → List Param
title_params None = []
title_params (Some t) = title_one t ∷ []

pub title_known : (t : Option Title) → title_param t ≡ accepted (title_params t)
unfolding sub_param write_title
title_known None = refl
title_known (Some t) = each_one (sub_param built_in) (Sua.title (title_from t)) ∙ rw (digits-written t.digits, digits_count t.digits)

pub title_size : (t : Option Title) → run_length (title_params t) ≡ param_length t
unfolding run_length
title_size None = refl
title_size (Some t) = omega (arith, packed-length t.digits)

title_small : (t : Option Title) → All Sized (title_params t)
title_small None = tt
title_small (Some t) = (omega (arith, packed-length t.digits, t.digits.whole, t.digits.few), tt)

one_run : (q : Param) → run_octets (q ∷ []) ≡ param_octets q
unfolding run_octets
one_run q = append-nil (param_octets q)

-- The front of a title's value copied to the fifth octet, then its digits, then tag, length and padding put round them.
module _ (t : Title) (out head : List ℕ) (room : param_length (Some t) ≤ length out) (copied : head ≡ title_head t) where
  abbrev pub headed : List ℕ
  headed = put_mid 4 8 out head

  kept : Begun out (take 4 out) out
  kept =
      let l = length-take-le 4 out (omega arith) in
      begin out (take 4 out) out (omega (arith, l)) (sym (take-append-drop 4 out) ∙ ap (λ (k : ℕ). take 4 out ++ drop k out) (sym l))

  headed_begun : Begun out (take 4 out ++ title_head t) headed
  headed_begun =
      subst (λ (h : List ℕ). Begun out (take 4 out ++ title_head t) (put_mid 4 8 out h)) (sym copied)
      (extend_all (title_head t) 4 8 kept (length-take-le 4 out (omega arith)) (omega arith) refl)

  headed_place : length (take 4 out ++ title_head t) ≡ 12
  headed_place = length-append (take 4 out) (title_head t) ∙ omega (arith, length-take-le 4 out (omega arith))

  module _ {r : ℕ} {last : List ℕ} (put : record { answer = accepted r; buffer = last } ≡ deliver (accepted (packed t.digits)) (mid_of 12 (length headed - 12) headed)) where
    abbrev pub whole : List ℕ
    whole = put_mid 12 (length headed - 12) headed last

    valued : Put out (take 4 out ++ title_head t) (packed t.digits) headed 12 r last
    valued = put-behind (packed t.digits) 12 headed_begun headed_place (omega (arith, packed-length t.digits)) r last put

    abbrev value : List ℕ
    value = title_head t ++ packed t.digits

    -- As one writer would have put the whole value there.
    at_once : whole ≡ put_mid 4 (length out - 4) out (over value (mid_of 4 (length out - 4) out))
    at_once =
        let l = packed-length t.digits in
        let b = extend-over (omega (arith, l)) in
        valued.begun.holds ∙ ap (λ (l : List ℕ). l ++ drop (length l) out) (append_assoc (take 4 out) (title_head t) (packed t.digits)) ∙ sym b.holds
      where
        extend-over : 4 + length value ≤ length out → Begun out (take 4 out ++ value) (put_mid 4 (length out - 4) out (over value (mid_of 4 (length out - 4) out)))
        extend-over h = extend value _ 4 (length out - 4) kept (length-take-le 4 out (omega arith)) (omega arith) (omega arith) refl

    pub title_written :
        {answer : Outcome ℕ} {d : List ℕ}
        → record { answer = answer; buffer = d } ≡ deliver (frame_param 0x8001 (8 + r) whole) whole
        → record { answer = answer; buffer = d } ≡ deliver (mapped run_octets (title_param (Some t))) out
    title_written {answer} {d} e =
        let l = packed-length t.digits in
        let n : 8 + r ≡ length value = omega (arith, valued.count) in
        let small : length value ≤ most_value = omega (arith, t.digits.whole, t.digits.few) in
        let framed = framed-there 0x8001 value out _ d small (omega arith) refl
        (e ∙ ap (λ (n : ℕ). deliver (frame_param 0x8001 n whole) whole) n ∙ ap (λ (h : List ℕ). deliver (frame_param 0x8001 (length value) h) h) at_once) in
        let held = param 0x8001 (take (8 + r) (drop 4 whole)) in
        let long : length held.value ≡ 8 + r = simp (length-take, length-drop) (omega (arith, valued.begun.same)) in
        let fit : length (param_octets held) ≤ length whole = omega (arith, octets-length held, valued.begun.same) in
        let known = frame_known 0x8001 (8 + r) whole (omega arith) (omega (arith, valued.begun.same)) in
        let count = deliver_answer (param_octets held) whole fit (e ∙ ap (λ (o : Outcome (List ℕ)). deliver o whole) known) in
        let size : length (param_octets (title_one t)) ≡ length (param_octets held) = omega (arith, octets-length held, octets-length (title_one t)) in
        ap (λ (a : Outcome ℕ). record { answer = a; buffer = d }) count
        ∙ delivered (length (param_octets held)) framed size
        ∙ ap (λ (os : List ℕ). deliver (accepted os) out) (sym (one_run (title_one t)))
        ∙ ap (λ (o : Outcome (List Param)). deliver (mapped run_octets o) out) (sym (title_known (Some t)))

pick-most : (b : Bool) (n : ℕ) → pick b n 0 ≤ n
pick-most true n = omega arith
pick-most false n = omega arith

write_steps :
    (tag : ℕ) (head : List ℕ) (o : Outcome (List Param)) (qs : List Param)
    → o ≡ accepted qs
    → All Sized qs
    → length (head ++ run_octets qs) ≤ most_value
    → after o (λ ps. after (each encode_param ps) (λ os. sized tag (head ++ os))) ≡ accepted (head ++ run_octets qs)
write_steps tag head o qs e small h = rw (e, encode_accepts qs small, le-leb (length (head ++ run_octets qs)) most_value h)

-- The octets of an address: the sub-parameters of each part ..
module _ (p : Common) where
  abbrev pub titles : List Param
  titles = title_params p.title

  abbrev pub codes : List Param
  codes = Numbers.codes p.point_code p.ssn

  abbrev pub subs : List Param
  subs = Numbers.subs p.point_code p.ssn

  -- .. the front up to the title, and all sub-parameters.
  abbrev pub up_to_title : List ℕ
  up_to_title = head_from p ++ run_octets titles

  abbrev all : List Param
  all = titles ++ (codes ++ (subs ++ []))

  codes-size : run_length codes ≡ pick (is_some p.point_code) 8 0
  codes-size = four-length code_param (λ n. refl) p.point_code

  subs-size : run_length subs ≡ pick (is_some p.ssn) 8 0
  subs-size = four-length sub_one (λ n. refl) p.ssn

  all-size : 4 + run_length all ≡ value_length p
  unfolding run_length
  all-size = omega (arith, parts-length titles codes subs [], title_size p.title, codes-size, subs-size)

  four_small : (f : ℕ → Param) → ((n : ℕ) → length (f n).value ≡ 4) → (o : Option ℕ) → All Sized (param_of f o)
  four_small f h None = tt
  four_small f h (Some n) = (omega (arith, h n), tt)

  all_small : All Sized all
  all_small =
      all_append Sized titles (codes ++ (subs ++ [])) (title_small p.title)
      (all_append Sized codes (subs ++ []) (four_small code_param (λ n. refl) p.point_code)
      (all_append Sized subs [] (four_small sub_one (λ n. refl) p.ssn) tt))

  title_few : (t : Option Title) → param_length t ≤ 140
  title_few None = omega arith
  title_few (Some t) = omega (arith, t.digits.whole, t.digits.few)

  ends_small : value_length p ≤ 160
  ends_small = omega (arith, title_few p.title, pick-most (is_some p.point_code) 8, pick-most (is_some p.ssn) 8)

  value-size : length (head_from p ++ run_octets all) ≡ value_length p
  value-size = length-append (head_from p) (run_octets all) ∙ omega (arith, run_length_lem all, all-size)

  pieces-known : each (sub_param built_in) (pieces (address_from p)) ≡ accepted all
  unfolding pieces
  pieces-known =
      parts-written built_in (option_map title_from p.title) p.point_code p.ssn [] titles (title_known p.title)

  head_known : two (address_from p).routing ++ two (Sua.indicator (address_from p)) ≡ head_from p
  unfolding Sua.indicator
  head_known = rw (map-some title_from p.title)

  pub value-known : write_address built_in 0 (address_from p) ≡ accepted (head_from p ++ run_octets all)
  unfolding write_address
  value-known =
      let ps = each (sub_param built_in) (pieces (address_from p)) in
      ap (λ (h : List ℕ). after ps (λ ps. after (each encode_param ps) (λ os. sized 0 (h ++ os)))) head_known
      ∙ write_steps 0 (head_from p) ps all pieces-known all_small (omega (arith, value-size, ends_small))

  -- Too little room.
  pub value_short :
      (out : List ℕ)
      → length out < value_length p
      → record { answer = refused 14 (value_length p ∷ []); buffer = out } ≡ deliver (write_address built_in 0 (address_from p)) out
  value_short out h =
      deliver_too_long (write_address built_in 0 (address_from p)) (value_length p) out
      (ap accepted (sym value-size) ∙ sym (ap (mapped length) value-known)) h

-- The buffer once the title is written behind the head.
pub record Titled (p : Common) (out d : List ℕ) (at : ℕ) : Type 0 where
  pub stands : Stands out (up_to_title p) d at
  pub room : at + run_length (codes p) + run_length (subs p) ≤ length out

module _ (p : Common) (out : List ℕ) (room : value_length p ≤ length out) {first : List ℕ} (head : first ≡ head_from p ++ drop 4 out) where
  front : Begun out (head_from p) first
  front = begin out (head_from p) first (omega arith) head

  title-room : 4 + run_length (titles p) ≤ length out
  title-room = omega (arith, title_size p.title)

  pub title_never :
      {X : Type 0} {n : ℕ} {vs x : List ℕ}
      → record { answer = refused n vs; buffer = x } ≡ deliver (mapped run_octets (title_param p.title)) (mid_of 4 (length first - 4) first)
      → X
  title_never = wrote_never 4 front refl (title_param p.title) (titles p) (title_known p.title) title-room

  module _ {a : ℕ} {x : List ℕ} (put_a : record { answer = accepted a; buffer = x } ≡ deliver (mapped run_octets (title_param p.title)) (mid_of 4 (length first - 4) first)) where
    abbrev second : List ℕ
    second = behind 4 first x

    wrote-title : Wrote out (head_from p) first 4 (titles p) a x
    wrote-title = wrote 4 front refl (title_param p.title) (titles p) (title_known p.title) title-room a x put_a

    pub titled : Titled p out second (4 + a)
    titled = record {
      stands = record { begun = wrote-title.begun; place = wrote-title.place };
      room = omega (arith, wrote-title.count, title_size p.title, codes-size p, subs-size p);
    }

    -- The point code and the SSN behind it: all is written.
    pub value_done :
        {code sub : Option (List ℕ)} {b e : ℕ} {y z : List ℕ}
        → (code ≡ option_map four p.point_code)
        → record { answer = accepted b; buffer = y } ≡ deliver (accepted (run_octets (given_param 0x8002 code))) (mid_of (4 + a) (length second - (4 + a)) second)
        → (sub ≡ option_map sub_value p.ssn)
        → record { answer = accepted e; buffer = z } ≡ deliver (accepted (run_octets (given_param 0x8003 sub))) (mid_of (4 + a + b) (length (behind (4 + a) second y) - (4 + a + b)) (behind (4 + a) second y))
        → record { answer = accepted (4 + a + b + e); buffer = behind (4 + a + b) (behind (4 + a) second y) z } ≡ deliver (write_address built_in 0 (address_from p)) out
    value_done {b = b} {e = e} code-is put_b sub-is put_e =
        let c = coded p.point_code p.ssn titled.stands titled.room code-is put_b in
        let s = subbed p.point_code p.ssn titled.stands titled.room code-is put_b sub-is put_e in
        parts_none (head_from p) (titles p) (codes p) (subs p) [] (4 + a + b + e) refl s.begun
        (value-size p ∙ omega (arith, wrote-title.count, c.count, s.count, title_size p.title, codes-size p, subs-size p))
        ∙ ap (λ (o : Outcome (List ℕ)). deliver o out) (sym (value-known p))
