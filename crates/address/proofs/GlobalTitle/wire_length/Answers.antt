-- `address::GlobalTitle::wire_length` meets its contract.
use borrow.Author.Rules.{rules}
use Prim.Native.Nat.{◌+◌, ◌/◌}
use mathlib.Core.Path.{◌≡◌, ap, ◌∙◌}
use native.Mathlib.Omega.{arith}
use borrow.Author.Tests.{le-leb}
use lib.ListN.{length}
use Rattle.bcd.specs.Outcome.{accepted}
use Rattle.bcd.proofs.Results.{exit}
use Rattle.parameter.specs.Parameter.{padded_length}
use Rattle.address.proofs.Planning.{digits_small}
use Rattle.address.proofs.GivenParts.{title_many, title_counted}
use Rattle.address.proofs.TitleRecords.{digits_taken}
use Rattle.address.proofs.GlobalTitle.wire_length.Goals as goal
use Rattle.address.proofs.GlobalTitle.wire_length.Goals.{in-Checked+in_ok-octets-in-Checked, in-Unchecked}

pub returns-then-count-gt255 : goal.returns-then-count-gt255
returns-then-count-gt255 c = title_many c.args.self.now c.args.digits c.if-count-gt255.true

pub returns-in_err-octets-in-Checked : goal.returns-in_err-octets-in-Checked
returns-in_err-octets-in-Checked c =
    rw c.in-Checked.is (exit c.from_residual.result _ c.from_residual.ensures.1 ∙ title_counted c.args.self.now _ c.if-count-gt255.false c.in_err-octets-in-Checked.ensures)

pub overflow_add-octets : goal.overflow_add-octets
overflow_add-octets c = elim c.match-digits.branch [
  | in-Checked+in_ok-octets-in-Checked w ↦ let s = digits_small _ _ w.in_ok-octets-in-Checked.ensures in omega (arith, w.octets-is)
  | in-Unchecked w ↦ omega (arith, w.octets-is, w.div_ceil-octets.ensures, c.if-count-gt255.false)
]

pub next_multiple_of-requires-clause-fits : goal.next_multiple_of-requires-clause-fits
next_multiple_of-requires-clause-fits c = elim c.match-digits.branch [
  | in-Checked+in_ok-octets-in-Checked w ↦ let s = digits_small _ _ w.in_ok-octets-in-Checked.ensures in omega (arith, w.octets-is)
  | in-Unchecked w ↦ omega (arith, w.octets-is, w.div_ceil-octets.ensures, c.if-count-gt255.false)
]

pub returns : goal.returns
returns c =
    let size : c.next_multiple_of.result ≡ padded_length (8 + c.match-digits.octets) = omega (arith, c.next_multiple_of.ensures.value) in
    elim c.match-digits.branch [
      | in-Checked+in_ok-octets-in-Checked w ↦ rw (w.in-Checked.is, size, w.octets-is) (title_counted c.args.self.now _ c.if-count-gt255.false w.in_ok-octets-in-Checked.ensures)
      | in-Unchecked w ↦
          let g = c.args.self.now in
          let long : length g.digits ≡ 255 = search rules in
          let l = digits_taken g (omega (arith, long, c.if-count-gt255.false)) in
          let half : c.match-digits.octets ≡ (g.count + 1) / 2 = omega (arith, w.octets-is, w.div_ceil-octets.ensures) in
          rw (w.in-Unchecked.is, le-leb g.count 255 c.if-count-gt255.false, l) (ap accepted (size ∙ ap (λ k. padded_length (8 + k)) half))
    ]
