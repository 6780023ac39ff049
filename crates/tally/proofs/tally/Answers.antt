-- `tally::tally` meets its contract: list and rows are valid, and one row gains what the message adds.
use mathlib.Core.Path.{◌≡◌, sym, ap, ◌∙◌}
use mathlib.Core.Bool.{true}
use mathlib.Core.Logic.{inl, inr}
use native.Mathlib.Omega.{arith}
use lib.ListN.{length}
use Rattle.bcd.specs.Outcome.{accepted}
use Rattle.tally.specs.Members.{valid_members}
use Rattle.tally.specs.Rows.{Rows, rows, valid_rows}
use Rattle.tally.specs.Tally.{tallied}
use Rattle.tally.proofs.Loading.{load_lengths, load_digits, loaded}
use Rattle.tally.proofs.Calls.{call_gains, has_room}
use Rattle.tally.proofs.Day.{list_first}
use Rattle.tally.proofs.tally.Goals as goal
use Rattle.tally.proofs.tally.Goals.{then-not-valid_lengths-via-then-not-valid_lengths, then-not-valid_lengths-via-else-not-valid_lengths+then-not-decimal, then-not-distinct-via-then-not-distinct, then-not-distinct-via-else-not-distinct+then-not-valid}

pub returns-then-not-valid_lengths : goal.returns-then-not-valid_lengths
returns-then-not-valid_lengths c =
    let refused = list_first c.args.digits.now c.args.lengths.now c.args.input.now (rows c.args.messages.now c.args.octets.now) in
    elim c.then-not-valid_lengths.branch [
      | then-not-valid_lengths-via-then-not-valid_lengths w ↦ sym (refused (inl (sym (load_lengths c.args.digits.now c.args.lengths.now (sym c.valid_lengths.ensures ∙ w.if-not-valid_lengths.true)))))
      | then-not-valid_lengths-via-else-not-valid_lengths+then-not-decimal w ↦ sym (refused (inl (sym (load_digits c.args.digits.now c.args.lengths.now (sym w.decimal.ensures ∙ w.if-not-decimal.true)))))
    ]

pub returns-then-not-distinct : goal.returns-then-not-distinct
returns-then-not-distinct c =
    let listed : c.distinct.result ≡ valid_members c.args.digits.now c.args.lengths.now =
    loaded c.args.digits.now c.args.lengths.now c.valid_lengths.ensures c.if-not-valid_lengths.false c.decimal.ensures c.if-not-decimal.false c.numbers-numbers.ensures c.distinct.ensures in
    let refused = list_first c.args.digits.now c.args.lengths.now c.args.input.now (rows c.args.messages.now c.args.octets.now) in
    elim c.then-not-distinct.branch [
      | then-not-distinct-via-then-not-distinct w ↦ sym (refused (inl (sym listed ∙ w.if-not-distinct.true)))
      | then-not-distinct-via-else-not-distinct+then-not-valid w ↦ sym (refused (inr (sym w.valid.ensures ∙ w.if-not-valid.true)))
    ]

pub new-requires : goal.new-requires
new-requires c =
    let listed : c.distinct.result ≡ valid_members c.args.digits.now c.args.lengths.now =
    loaded c.args.digits.now c.args.lengths.now c.valid_lengths.ensures c.if-not-valid_lengths.false c.decimal.ensures c.if-not-decimal.false c.numbers-numbers.ensures c.distinct.ensures in
    record { valid = sym listed ∙ c.if-not-distinct.false; same = c.numbers-numbers.ensures }

pub gain-requires : goal.gain-requires
gain-requires c =
    rw (c.place-gain.ensures, c.new.ensures)
    (has_room c.args.digits.now c.args.lengths.now c.args.input.now (rows c.args.messages.now c.args.octets.now) (λ i. omega (arith, c.type_inv.input i)) (sym c.valid.ensures ∙ c.if-not-valid.false))

pub returns : goal.returns
returns c =
    let listed : valid_members c.args.digits.now c.args.lengths.now ≡ true =
    sym (loaded c.args.digits.now c.args.lengths.now c.valid_lengths.ensures c.if-not-valid_lengths.false c.decimal.ensures c.if-not-decimal.false c.numbers-numbers.ensures c.distinct.ensures)
    ∙ c.if-not-distinct.false in
    let valid : valid_rows (length c.args.lengths.now) (rows c.args.messages.now c.args.octets.now) ≡ true = sym c.valid.ensures ∙ c.if-not-valid.false in
    ap (λ (r : Rows). tallied (accepted c.place-gain.result.row) r) c.gain.ensures
    ∙ sym (call_gains c.args.digits.now c.args.lengths.now c.args.input.now (rows c.args.messages.now c.args.octets.now) c.place-gain.result (rw (listed, valid)) (rw c.new.ensures at c.place-gain.ensures))
