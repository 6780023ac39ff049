-- `tally::members::Members::meant` meets its contract: what has a form means something, and adds that.
use mathlib.Core.Path.{◌≡◌, sym, ap, ◌∙◌}
use native.Mathlib.Omega.{arith}
use borrow.Author.Rules.{rules}
use borrow.Author.Tests.{tests}
use Rattle.message.specs.declared.types.MessageType.TheVariants as T
use Rattle.tally.specs.Tally.{meant}
use Rattle.tally.proofs.Meaning.{length_at}
use Rattle.tally.proofs.Gaining.{told, told_header, no_header, told_first, no_first, no_row, cldt_row, none_row, other_row, told_gain}
use Rattle.tally.proofs.members.Members.meant.Goals as goal
use Rattle.tally.proofs.members.Members.meant.Goals.{in-Some+in_ok-row-in-Some, in_default, in_default-via-in-Some+else-eq, in_default-via-in_default}

pub returns-in_err-header : goal.returns-in_err-header
returns-in_err-header c =
    let t = told c.args.input.now _ (λ i. omega (arith, c.type_inv.input i)) c.in_ok-settled_length.ensures in
    absurd (no_header t c.in_err-header.ensures)

pub returns-in_err-destination : goal.returns-in_err-destination
returns-in_err-destination c =
    let t = told c.args.input.now _ (λ i. omega (arith, c.type_inv.input i)) c.in_ok-settled_length.ensures in
    absurd (no_first t c.in_err-destination.ensures)

pub returns-in_err-row-in-Some : goal.returns-in_err-row-in-Some
returns-in_err-row-in-Some c =
    let t = told c.args.input.now _ (λ i. omega (arith, c.type_inv.input i)) c.in_ok-settled_length.ensures in
    let found = told_first t c.in_ok-destination.ensures in
    absurd (no_row t c.args.self.now (sym (ap (λ d. d.0) found) ∙ c.in-Some.is) (rw c.value.ensures at c.in_err-row-in-Some.ensures))

pub returns : goal.returns
returns c =
    let t = told c.args.input.now _ (λ i. omega (arith, c.type_inv.input i)) c.in_ok-settled_length.ensures in
    let found = told_first t c.in_ok-destination.ensures in
    let type = told_header t c.in_ok-header.ensures in
    let row : c.match-destination.row ≡ (meant c.args.self.now t.meant).row =
    elim c.match-destination.branch [
      | in-Some+in_ok-row-in-Some w ↦ w.row-is ∙ cldt_row t c.args.self.now (let y : c.in_ok-header.header.message_type ≡ T.Cldt = search (rules, tests) in sym type ∙ y) (sym (ap (λ d. d.0) found) ∙ w.in-Some.is) (rw w.value.ensures at w.in_ok-row-in-Some.ensures)
      | in_default w ↦ w.row-is ∙ w.count-row.ensures.value ∙ elim w.in_default.branch [
        | in_default-via-in-Some+else-eq u ↦ other_row t c.args.self.now (λ y. let z : c.in_ok-header.header.message_type ≡ T.Cldt = type ∙ y in search (rules, tests))
        | in_default-via-in_default u ↦ none_row t c.args.self.now (sym (ap (λ d. d.0) found) ∙ u.in_default.is)
      ]
    ] in
    let octets : c.map_or-octets.result ≡ length_at c.in_ok-destination.«data» = search rules in
    rw octets (told_gain t c.args.self.now row (ap (λ d. d.1) found))
