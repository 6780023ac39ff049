-- The program's line fits its buffer, whatever the input.
use Prim.Native.Nat.{ℕ, ◌/◌, ◌≤◌, ◌<◌}
use mathlib.Core.Path.{◌≡◌, refl, sym, ap, ◌∙◌}
use mathlib.Core.Logic.{⊎_elim}
use mathlib.Core.List.{List, [], ◌∷◌, ◌++◌}
use native.Mathlib.Omega.{arith}
use lib.ListN.{length, take, drop, length-append, length-drop}
use lib.Seq.{take_at, take_all, length-take-le}
use borrow.Author.Tests.{leb-true, lt-leb}
use lib.Dec.{leb}
use Rattle.bcd.specs.declared.error.Refusal.{Refusal}
use Rattle.bcd.specs.Outcome.{Outcome, accepted, refused, Octets, Delivered, delivered, deliver}
use Rattle.bcd.specs.Answers.{numbered, refusal_of}
use Rattle.bcd.specs.Digits.{built_in}
use Rattle.bcd.proofs.Outcomes.{accepted_inj, never, le_or_lt, demand_inv, deliver_refused, deliver-short, deliver_buffer, deliver_answer}
use Rattle.parameter.specs.Table.{over}
use Rattle.report.proofs.Reports.{number_small}
use Rattle.parameter.specs.Parameter.{param_octets, run_octets, encode_param, two_at}
use Rattle.parameter.specs.Walk.{headed, step_at, steps, places, parameters}
use Rattle.message.specs.Kinds.{kind_of}
use Rattle.message.specs.Framed.{named_by, read_of, octets_of, write_of}
use Rattle.form.specs.Family.{settled_by}
use Rattle.form.specs.Form.{settled_param, settled}
use Rattle.form.proofs.Demand3.{form_room}
use Rattle.flat.specs.Line.{decimal_in, decimal, words_from, form_text, refused_line, most_taken, most_printed, settled_input, line_of, program_line, Printed}
use Rattle.flat.specs.declared.writer.Writer.{Writer}
use Rattle.flat.specs.Steps.Emitting.{Writes}
use Rattle.flat.proofs.Emission.{writes_begun}
use Rattle.flat.proofs.Lines.{decimal_one, decimal-digits, decimal-short, words-length}
use Rattle.flat.proofs.Printing.{form_length, refused_length}
use Rattle.std.specs.Prelude.{Option, None, Some, IfSome}

-- at most five digits below 100,000
five_digits : (n : ℕ) → n < 100000 → length (decimal n) ≤ 5
five_digits n h =
    let one : length (decimal (n / 10 / 10 / 10 / 10)) ≤ 1 = omega (arith, ap length (decimal_one (n / 10 / 10 / 10 / 10) (omega arith))) in
    decimal-digits 4 n (decimal-digits 3 (n / 10) (decimal-digits 2 (n / 10 / 10) (decimal-digits 1 (n / 10 / 10 / 10) one)))

-- The line of a form that the program makes, and of any refusal.
pub form_fits : (f : List ℕ) → length f ≤ most_taken → length (form_text f) ≤ most_printed
form_fits f h = omega (arith, form_length f, words-length f, five_digits (length f) (omega arith))

pub refusal_fits : (r : Refusal) → length (refused_line (numbered r).0) ≤ most_printed
refusal_fits r = omega (arith, refused_length (numbered r).0, decimal-short (numbered r).0, number_small r)

-- what a writer's answer tells of what it was to write
pub record Written (o : Outcome (List ℕ)) (form : List ℕ) (n : ℕ) (g : List ℕ) : Type 0 where
  pub octets : List ℕ
  pub whole : o ≡ accepted octets
  pub fits : n ≤ length form
  pub same : length g ≡ length form
  pub front : take n g ≡ octets

pub written : (o : Outcome (List ℕ)) (n : ℕ) (form g : List ℕ) → delivered (accepted n) g ≡ deliver o form → Written o form n g
written (refused m vs) n form g e = absurd (never (sym (ap (λ (d : Delivered). d.answer) (e ∙ sym (deliver_refused m vs form)))))
written (accepted os) n form g e = ⊎_elim yes no (le_or_lt (length os) (length form))
  where
    no : length form < length os → Written (accepted os) form n g
    no h = absurd (never (sym (ap (λ (d : Delivered). d.answer) (e ∙ sym (deliver-short os form h)))))

    yes : length os ≤ length form → Written (accepted os) form n g
    yes h =
        let k : n ≡ length os = accepted_inj (deliver_answer os form h e) in
        let b : g ≡ os ++ drop (length os) form = deliver_buffer os form h e in
        record {
          octets = os;
          whole = refl;
          fits = omega arith;
          same = rw (b, length-append, length-drop) (omega arith);
          front = rw b (take_at os (drop (length os) form) n (sym k));
        }

retold : {m n : ℕ} {ws vs : List ℕ} → ◌≡◌ {A = Outcome ℕ} (refused n vs) (refused m ws) → ◌≡◌ {A = Outcome (List ℕ)} (refused m ws) (refused n vs)
retold {m} {n} {ws} {vs} e = let a : m ≡ n = cc in let b : ws ≡ vs = cc in rw (a, b)

-- a refusal with room enough is the input's
unwritten :
    (o : Outcome (List ℕ)) (n : ℕ) (vs form g : List ℕ)
    → ((os : List ℕ) → o ≡ accepted os → length os ≤ length form)
    → delivered (refused n vs) g ≡ deliver o form
    → o ≡ refused n vs
unwritten (refused m ws) n vs form g h e = retold (ap (λ (d : Delivered). d.answer) (e ∙ sym (deliver_refused m ws form)))
unwritten (accepted os) n vs form g h e = absurd (never (deliver_answer os form (h os refl) e))

-- the form of what the program takes is no longer than what it takes
form_small : (xs : List ℕ) → Octets xs → (f : List ℕ) → settled_input xs ≡ accepted f → length f ≤ most_taken
unfolding settled_input
form_small xs o f e =
    let d = demand_inv (leb (length xs) most_taken) _ _ (settled built_in xs) e in
    omega (arith, leb-true (length xs) most_taken d.0, (form_room xs f o d.1).0)

-- a line stored at the front of the buffer
module _ (xs : List ℕ) {a b : Writer} (front : a.at ≡ 0) (wide : most_printed ≤ length a.out.now) where
  line_is : (l : List ℕ) → program_line xs ≡ l → length l ≤ most_printed → Writes a l b → Printed xs a.out.now b.at b.out.now
  line_is l e h w =
      let begun = writes_begun w front (omega (arith, h, wide)) in
      let count : b.at ≡ length l = omega (arith, h, w.behind, front) in
      record {
        count = count ∙ ap length (sym e);
        line = begun.holds ∙ ap (λ (l : List ℕ). over l a.out.now) (sym e);
      }

  module _ (o : Octets xs) (form g : List ℕ) (room : most_taken ≤ length form) where
    pub line_refused :
        (r : Refusal)
        → delivered (refusal_of r) g ≡ deliver (settled_input xs) form
        → Writes a (refused_line (numbered r).0) b
        → Printed xs a.out.now b.at b.out.now
    unfolding program_line
    line_refused r s w =
        let e = unwritten (settled_input xs) _ _ form g (λ f h. omega (arith, form_small xs o f h)) s in
        line_is (refused_line (numbered r).0) (ap line_of e) (refusal_fits r) w

    pub line_formed :
        (n : ℕ)
        → delivered (accepted n) g ≡ deliver (settled_input xs) form
        → Writes a (form_text (take n g)) b
        → Printed xs a.out.now b.at b.out.now
    unfolding program_line
    line_formed n s w =
        let f = written (settled_input xs) n form g s in
        let small = form_small xs o f.octets f.whole in
        line_is (form_text f.octets) (ap line_of f.whole) (form_fits f.octets small) (rw f.front at w)

-- An input has the line of its first 65,537 octets: where there are more, both are refused as 12.
pub line_cut : (xs : List ℕ) → program_line (take 65537 xs) ≡ program_line xs
unfolding program_line settled_input
line_cut xs = ⊎_elim short long (le_or_lt (length xs) most_taken)
  where
    short : length xs ≤ most_taken → program_line (take 65537 xs) ≡ program_line xs
    short h = ap program_line (take_all 65537 xs (omega (arith, h)))

    long : most_taken < length xs → program_line (take 65537 xs) ≡ program_line xs
    long h =
        let cut : length (take 65537 xs) ≡ 65537 = length-take-le 65537 xs (omega (arith, h)) in
        rw (lt-leb (length (take 65537 xs)) most_taken (omega (arith, cut)), lt-leb (length xs) most_taken h)

-- So what is printed of them is printed of the input.
pub printed_cut :
    (input : Option (List ℕ)) (xs out held : List ℕ) (n : ℕ)
    → IfSome input (λ all. xs ≡ take 65537 all)
    → Printed xs out n held
    → IfSome input (λ all. Printed all out n held)
printed_cut None xs out held n e p = tt
printed_cut (Some all) xs out held n e p =
    let same : program_line xs ≡ program_line all = ap program_line e ∙ line_cut all in
    record { count = p.count ∙ ap length same; line = p.line ∙ ap (λ (l : List ℕ). over l out) same }

-- S4 and S5 print `(refused 5)` and `(form 16 (01000301 00000010 00040005 41000000))`.
abbrev asp : List ℕ
asp = 0x01 ∷ 0x00 ∷ 0x03 ∷ 0x01 ∷ 0x00 ∷ 0x00 ∷ 0x00 ∷ 0x08 ∷ []

pub worked_refusal :
    program_line (asp ++ 0x00 ∷ 0x04 ∷ 0x00 ∷ 0x03 ∷ [])
    ≡ 0x28 ∷ 0x72 ∷ 0x65 ∷ 0x66 ∷ 0x75 ∷ 0x73 ∷ 0x65 ∷ 0x64 ∷ 0x20 ∷ 0x35 ∷ 0x29 ∷ 0x0A ∷ []
unfolding program_line settled_input refused_line decimal decimal_in settled_by settled_param read_of named_by kind_of parameters places steps step_at headed two_at
worked_refusal = refl

pub worked_form :
    program_line (asp ++ 0x00 ∷ 0x04 ∷ 0x00 ∷ 0x05 ∷ 0x41 ∷ [])
    ≡ 0x28 ∷ 0x66 ∷ 0x6F ∷ 0x72 ∷ 0x6D ∷ 0x20 ∷ 0x31 ∷ 0x36 ∷ 0x20 ∷ 0x28 ∷ 0x30 ∷ 0x31 ∷ 0x30 ∷ 0x30 ∷ 0x30 ∷ 0x33 ∷
    0x30 ∷ 0x31 ∷ 0x20 ∷ 0x30 ∷ 0x30 ∷ 0x30 ∷ 0x30 ∷ 0x30 ∷ 0x30 ∷ 0x31 ∷ 0x30 ∷ 0x20 ∷ 0x30 ∷ 0x30 ∷ 0x30 ∷ 0x34 ∷
    0x30 ∷ 0x30 ∷ 0x30 ∷ 0x35 ∷ 0x20 ∷ 0x34 ∷ 0x31 ∷ 0x30 ∷ 0x30 ∷ 0x30 ∷ 0x30 ∷ 0x30 ∷ 0x30 ∷ 0x29 ∷ 0x29 ∷ 0x0A ∷ []
unfolding program_line settled_input form_text decimal decimal_in words_from settled_by settled_param read_of named_by octets_of write_of kind_of parameters places steps step_at headed two_at run_octets param_octets encode_param
worked_form = refl
