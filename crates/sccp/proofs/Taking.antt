-- A party address that is read: the octets of its parts are taken one behind the other.
use Prim.Native.Nat.{ℕ, zero, suc, ◌+◌, ◌*◌, ◌/◌, ◌%◌, ◌≤◌}
use mathlib.Core.Path.{◌≡◌, refl, sym, ap, ◌∙◌}
use mathlib.Core.Bool.{Bool, true, false}
use mathlib.Core.List.{List, [], ◌∷◌}
use native.Mathlib.Omega.{arith}
use borrow.Author.Tests.{le-leb}
use lib.Dec.{eqb}
use lib.ListN.{length, get_or, drop}
use Rattle.std.specs.Prelude.{Option, None, Some, option_map, unwrap_or}
use Rattle.bcd.specs.Outcome.{Outcome, accepted, pick, mapped}
use Rattle.bcd.specs.Answers.{refusal_of}
use Rattle.bcd.specs.declared.error.Refusal.{Refusal}
use Rattle.bcd.proofs.Outcomes.{accepted_inj, never}
use Rattle.address.specs.Address.{Title, bit}
use Rattle.sccp.specs.Sccp.{with_parts, code_in, sub_in, title_by, sccp_in}
use Rattle.sccp.specs.Steps.{taken}

-- The number of a point code's octets, and of an SSN's.
abbrev pub low_high : List ℕ → ℕ
low_high os = get_or os 1 0 * 256 + get_or os 0 0

abbrev pub one : List ℕ → ℕ
one os = get_or os 0 0

code_taken :
    (b : Bool) (xs : List ℕ) (os : Option (List ℕ)) (rest : List ℕ) (n : Option ℕ)
    → accepted (os, rest) ≡ taken 2 b xs
    → n ≡ option_map low_high os
    → unwrap_or n 0 ≤ 16383
    → code_in b xs ≡ accepted (n, rest)
code_taken false xs os rest n t e h =
    let p = accepted_inj t in
    let is : n ≡ None = e ∙ ap (option_map low_high) (ap (λ (p : Option (List ℕ) × List ℕ). p.0) p) in
    rw (is, ap (λ (p : Option (List ℕ) × List ℕ). p.1) p) refl
code_taken true [] os rest n t e h = absurd (never (sym t))
code_taken true (x ∷ []) os rest n t e h = absurd (never (sym t))
code_taken true (low ∷ high ∷ xs) os rest n t e h =
    let p = accepted_inj (rw (le-leb 2 (length (low ∷ high ∷ xs)) (omega arith)) at t) in
    let is : n ≡ Some (high * 256 + low) = e ∙ ap (option_map low_high) (ap (λ (p : Option (List ℕ) × List ℕ). p.0) p) in
    let small : high * 256 + low ≤ 16383 = rw is at h in
    rw (is, ap (λ (p : Option (List ℕ) × List ℕ). p.1) p, le-leb high 63 (omega (arith, small))) refl

sub_taken :
    (b : Bool) (xs : List ℕ) (os : Option (List ℕ)) (rest : List ℕ)
    → accepted (os, rest) ≡ taken 1 b xs
    → sub_in b xs ≡ accepted (option_map one os, rest)
sub_taken false xs os rest t =
    let p = accepted_inj t in
    rw (ap (λ (p : Option (List ℕ) × List ℕ). p.0) p, ap (λ (p : Option (List ℕ) × List ℕ). p.1) p) refl
sub_taken true [] os rest t = absurd (never (sym t))
sub_taken true (n ∷ xs) os rest t =
    let p = accepted_inj (rw (le-leb 1 (length (n ∷ xs)) (omega arith)) at t) in
    rw (ap (λ (p : Option (List ℕ) × List ℕ). p.0) p, ap (λ (p : Option (List ℕ) × List ℕ). p.1) p) refl

-- What is left to be read is the title.
pub by_title :
    (v : List ℕ) {os ps : Option (List ℕ)} {xs ys : List ℕ} (code : Option ℕ)
    → 1 ≤ length v
    → get_or v 0 0 ≤ 127
    → accepted (os, xs) ≡ taken 2 (eqb (get_or v 0 0 % 2) 1) (drop 1 v)
    → code ≡ option_map low_high os
    → unwrap_or code 0 ≤ 16383
    → accepted (ps, ys) ≡ taken 1 (eqb (get_or v 0 0 / 2 % 2) 1) xs
    → sccp_in v ≡ mapped (with_parts (pick (bit 64 (get_or v 0 0)) 2 1) code (option_map one ps)) (title_by (get_or v 0 0 / 4 % 16) ys)
unfolding sccp_in
by_title [] code h s c e f t = absurd (omega (arith, h))
by_title (i ∷ rest) {os} {ps} {xs} {ys} code h s c e f t =
    let same : i % 2 ≡ i / 1 % 2 = omega arith in
    rw (le-leb i 127 s, code_taken (bit 1 i) rest os xs code (rw same at c) e f, sub_taken (bit 2 i) xs ps ys t) refl

-- The routing by the code's test.
routing_bit : (b : ℕ) → b ≤ 1 → ◌≡◌ {A = ℕ} (pick (eqb b 0) 1 2) (pick (eqb b 1) 2 1)
routing_bit zero h = refl
routing_bit (suc zero) h = refl
routing_bit (suc (suc b)) h = absurd (omega (arith, h))

-- The address of the parts, and one whose title is refused.
module _ (v : List ℕ) (code sub : Option ℕ) {o : Outcome (Option Title)} (left : sccp_in v ≡ mapped (with_parts (pick (bit 64 (get_or v 0 0)) 2 1) code sub) o) where
  pub title_taken : {title : Option Title} → accepted title ≡ o → accepted (with_parts (pick (eqb (get_or v 0 0 / 64 % 2) 0) 1 2) code sub title) ≡ sccp_in v
  title_taken t = rw (routing_bit (get_or v 0 0 / 64 % 2) (omega arith)) (ap (mapped (with_parts (pick (bit 64 (get_or v 0 0)) 2 1) code sub)) t ∙ sym left)

  pub title_refused : (x : Refusal) → refusal_of x ≡ o → refusal_of x ≡ sccp_in v
  title_refused x t = ap (mapped (with_parts (pick (bit 64 (get_or v 0 0)) 2 1) code sub)) t ∙ sym left
