-- The party address of an address that converts: its parts, and that it is written.
use Prim.Native.Nat.{ℕ, ◌+◌, ◌-◌, ◌*◌, ◌/◌, ◌%◌, ◌≤◌, ◌<◌}
use mathlib.Core.Path.{◌≡◌, refl, sym, ap, ◌∙◌, subst}
use mathlib.Core.Bool.{Bool, true, false}
use mathlib.Core.List.{List, [], ◌∷◌, ◌++◌, append_assoc}
use native.Mathlib.Omega.{arith}
use borrow.Author.Tests.{le-leb}
use borrow.Rule.Slice.PartMut.{mid_of, put_mid}
use lib.ListN.{length, set, drop, length-append}
use Rattle.std.specs.Prelude.{Option, None, Some, option_map, unwrap_or, is_some}
use Rattle.std.specs.Int.{to_le_bytes}
use mir.Syntax.{w16}
use Rattle.bcd.specs.Outcome.{Outcome, accepted, refused, pick, mapped, deliver}
use Rattle.bcd.proofs.Outcomes.{deliver_too_long}
use Rattle.bcd.proofs.Writing.{Begun, untouched, begin, store, delivered}
use Rattle.sccp.specs.Sccp.{absent_or, routes, title_converts, converts}
use Rattle.sccp.specs.Sccp.{code_octets, sub_octets, title_octets, indicator, sccp_octets}
use Rattle.sccp.specs.Steps.{title_from, address_from, packed, title_length, party_length}
use Rattle.sccp.specs.declared.common.Title.{Title}
use Rattle.sccp.specs.declared.common.Common.{Common}
use Rattle.sccp.proofs.Copying.{packed-length, digits_count, digits-written}
use Rattle.sccp.proofs.Parts.{code_small}
use Rattle.sccp.proofs.Parties.{passed, party_octets}
use Rattle.sccp.proofs.Writing.{Put, put-behind}

-- The octets of a title in front of its digits, and all of them, if it is there.
abbrev pub title_head : Title → List ℕ
title_head t = t.translation_type ∷ (t.numbering_plan * 16 + (2 - t.digits.count % 2)) ∷ t.nature_of_address ∷ []

abbrev pub title_run : Option Title → List ℕ
title_run None = []
title_run (Some t) = title_head t ++ packed t.digits

pub title_known : (t : Option Title) → title_octets (option_map title_from t) ≡ accepted (title_run t)
title_known None = refl
title_known (Some t) = rw (digits-written t.digits, digits_count t.digits)

pub title_size : (t : Option Title) → length (title_run t) ≡ title_length t
title_size None = refl
title_size (Some t) = omega (arith, packed-length t.digits)

-- The digits put behind what stands in front of them.
pub title_put :
    (t : Title) (out held : List ℕ) (r : ℕ) (last : List ℕ)
    → title_length (Some t) ≤ length out
    → held ≡ title_head t ++ drop 3 out
    → record { answer = accepted r; buffer = last } ≡ deliver (accepted (packed t.digits)) (mid_of 3 (length held - 3) held)
    → record { answer = accepted (3 + r); buffer = put_mid 3 (length held - 3) held last } ≡ deliver (title_octets (option_map title_from (Some t))) out
title_put t out held r last room e put =
    let l = packed-length t.digits in
    let first = begin out (title_head t) held (omega arith) e in
    let b = put-behind (packed t.digits) 3 first refl (omega arith) r last put in
    delivered (3 + r) b.begun b.place ∙ ap (λ (o : Outcome (List ℕ)). deliver o out) (sym (title_known (Some t)))

-- An address whose parts are there as its records say converts.
routed : (b : Bool) → routes (pick b 1 2) ≡ true
routed true = refl
routed false = refl

pub title_fits : (t : Option Title) → absent_or title_converts (option_map title_from t) ≡ true
title_fits None = refl
title_fits (Some t) = rw (le-leb t.numbering_plan 15 t.plan, le-leb t.nature_of_address 127 t.nature, t.digits.known)

pub code_fits : (o : Option ℕ) → unwrap_or o 0 ≤ 16383 → absent_or code_small o ≡ true
code_fits None h = refl
code_fits (Some n) h = le-leb n 16383 h

pub sound_converts : (p : Common) → converts (address_from p) ≡ true
sound_converts p =
    passed (address_from p) (record {
      routing = routed p.on_title;
      gt = refl;
      pc = refl;
      ssn = refl;
      others = refl;
      title = title_fits p.title;
      code = code_fits p.point_code p.code;
    })

code-size : (o : Option ℕ) → length (code_octets o) ≡ pick (is_some o) 2 0
code-size None = refl
code-size (Some n) = refl

sub-size : (o : Option ℕ) → length (sub_octets o) ≡ pick (is_some o) 1 0
sub-size None = refl
sub-size (Some n) = refl

-- The octets of a point code and of an SSN as they are put.
pub low_first : (n : Option ℕ) (o : Option (List ℕ)) → unwrap_or n 0 ≤ 16383 → o ≡ option_map (to_le_bytes w16) n → unwrap_or o [] ≡ code_octets n
low_first None o h e = rw e refl
low_first (Some n) o h e = let a : n / 256 % 256 ≡ n / 256 = omega (arith, h) in rw (e, a) refl

pub alone : (n : Option ℕ) (o : Option (List ℕ)) → o ≡ option_map (λ n. n ∷ []) n → unwrap_or o [] ≡ sub_octets n
alone None o e = rw e refl
alone (Some n) o e = rw e refl

module _ (p : Common) where
  -- Its front, up to the point code and up to the SSN, and all of it.
  abbrev pub up_to_code : List ℕ
  up_to_code = (indicator (address_from p) ∷ []) ++ code_octets p.point_code

  abbrev pub up_to_sub : List ℕ
  up_to_sub = up_to_code ++ sub_octets p.ssn

  abbrev pub party_run : List ℕ
  party_run = up_to_sub ++ title_run p.title

  pub party_known : sccp_octets (address_from p) ≡ accepted party_run
  party_known =
      party_octets (address_from p) (title_run p.title) (sound_converts p) (title_known p.title)
      ∙ ap accepted
      (sym (append_assoc up_to_code (sub_octets p.ssn) (title_run p.title)
      ∙ append_assoc (indicator (address_from p) ∷ []) (code_octets p.point_code) (sub_octets p.ssn ++ title_run p.title)))

  pub party_size : length party_run ≡ party_length p
  party_size =
      let a = length-append up_to_sub (title_run p.title) in
      let b = length-append up_to_code (sub_octets p.ssn) in
      omega (arith, code-size p.point_code, sub-size p.ssn, title_size p.title)

  -- Too little room.
  pub party_short : (out : List ℕ) → length out < party_length p → record { answer = refused 14 (party_length p ∷ []); buffer = out } ≡ deliver (sccp_octets (address_from p)) out
  party_short out h =
      deliver_too_long (sccp_octets (address_from p)) (party_length p) out
      (ap accepted (sym party_size) ∙ sym (ap (mapped length) party_known)) h

-- The buffer after the address indicator, and after each part that a writer put behind it.
module _ (p : Common) (out : List ℕ) (room : party_length p ≤ length out) {i : ℕ} (is : i ≡ indicator (address_from p)) where
  abbrev pub first : List ℕ
  first = set out 0 i

  indicated : Begun out (indicator (address_from p) ∷ []) first
  indicated =
      subst (λ (i : ℕ). Begun out (indicator (address_from p) ∷ []) (set out 0 i)) (sym is)
      (store 0 (indicator (address_from p)) (untouched out) refl (omega arith))

  code-room : 1 + length (code_octets p.point_code) ≤ length out
  code-room = omega (arith, code-size p.point_code)

  module _ {a : ℕ} {x : List ℕ} (put_a : record { answer = accepted a; buffer = x } ≡ deliver (accepted (code_octets p.point_code)) (mid_of 1 (length first - 1) first)) where
    coded : Put out (indicator (address_from p) ∷ []) (code_octets p.point_code) first 1 a x
    coded = put-behind (code_octets p.point_code) 1 indicated refl code-room a x put_a

    abbrev pub second : List ℕ
    second = put_mid 1 (length first - 1) first x

    sub-room : 1 + a + length (sub_octets p.ssn) ≤ length out
    sub-room = omega (arith, coded.count, code-size p.point_code, sub-size p.ssn)

    module _ {b : ℕ} {y : List ℕ} (put_b : record { answer = accepted b; buffer = y } ≡ deliver (accepted (sub_octets p.ssn)) (mid_of (1 + a) (length second - (1 + a)) second)) where
      subbed : Put out (up_to_code p) (sub_octets p.ssn) second (1 + a) b y
      subbed = put-behind (sub_octets p.ssn) (1 + a) coded.begun coded.place sub-room b y put_b

      abbrev pub third : List ℕ
      third = put_mid (1 + a) (length second - (1 + a)) second y

      title-room : 1 + a + b + length (title_run p.title) ≤ length out
      title-room = omega (arith, coded.count, subbed.count, code-size p.point_code, sub-size p.ssn, title_size p.title)

      module _ {e : ℕ} {z : List ℕ} (put_e : record { answer = accepted e; buffer = z } ≡ deliver (title_octets (option_map title_from p.title)) (mid_of (1 + a + b) (length third - (1 + a + b)) third)) where
        titled : Put out (up_to_sub p) (title_run p.title) third (1 + a + b) e z
        titled =
            put-behind (title_run p.title) (1 + a + b) subbed.begun subbed.place title-room e z
            (put_e ∙ ap (λ (o : Outcome (List ℕ)). deliver o (mid_of (1 + a + b) (length third - (1 + a + b)) third)) (title_known p.title))

        pub party_done :
            record { answer = accepted (1 + a + b + e); buffer = put_mid (1 + a + b) (length third - (1 + a + b)) third z }
            ≡ deliver (sccp_octets (address_from p)) out
        party_done =
            delivered (1 + a + b + e) titled.begun titled.place
            ∙ ap (λ (o : Outcome (List ℕ)). deliver o out) (sym (party_known p))
