-- `address::interpret::TitleValue::put` meets its contract.
use Prim.Native.Nat.{ℕ, ◌+◌, ◌%◌}
use mathlib.Core.Path.{sym, ap, ◌∙◌}
use lib.Seq.{length-take-le}
use mathlib.Core.List.{List}
use native.Mathlib.Omega.{arith}
use lib.ListN.{get_or, set, drop, length-set, length-drop}
use borrow.Rule.Slice.PartMut.{same_len_mid}
use Rattle.bcd.specs.Outcome.{Delivered, accepted}
use Rattle.bcd.specs.Digits.{built_in}
use Rattle.bcd.proofs.Reading.{digits-length}
use Rattle.bcd.proofs.Results.{exit}
use Rattle.address.proofs.Titling.{put_refused, put, cleared, put_even, put_odd}
use Rattle.address.proofs.interpret.TitleValue.put.Goals as goal

pub returns-in_err-length : goal.returns-in_err-length
returns-in_err-length c =
    rw (exit c.from_residual.result _ c.from_residual.ensures.1)
    (put_refused c.args.self c.digit_count-digits.result c.digit_count-digits.ensures.value c.args.out.now c.encode.new.out (omega (arith, c.div_ceil-octets.ensures)) c.in_err-length.ensures)

pub slice_bounds-fill-end : goal.slice_bounds-fill-end
slice_bounds-fill-end c =
    let p = put c.args.self c.digit_count-digits.result c.digit_count-digits.ensures.value c.args.out.now c.encode.new.out (omega (arith, c.div_ceil-octets.ensures)) c.in_ok-length.ensures in
    omega (arith, p.takes, p.room, p.whole)

pub bounds-out-8 : goal.bounds-out-8
bounds-out-8 c =
    let p = put c.args.self c.digit_count-digits.result c.digit_count-digits.ensures.value c.args.out.now c.encode.new.out (omega (arith, c.div_ceil-octets.ensures)) c.in_ok-length.ensures in
    omega (arith, p.takes, p.room, p.whole, same_len_mid 4 3 c.encode.new.out c.fill.new.self c.fill.auto.self)

pub bounds-out-octets : goal.bounds-out-octets
bounds-out-octets c =
    let p = put c.args.self c.digit_count-digits.result c.digit_count-digits.ensures.value c.args.out.now c.encode.new.out (omega (arith, c.div_ceil-octets.ensures)) c.in_ok-length.ensures in
    omega (arith, length-set {A = ℕ}, p.takes, p.room, p.whole, same_len_mid 4 3 c.encode.new.out c.fill.new.self c.fill.auto.self, c.div_ceil-octets.ensures)

pub bounds-out-octets-then-digits-eq1 : goal.bounds-out-octets-then-digits-eq1
bounds-out-octets-then-digits-eq1 c =
    let p = put c.args.self c.digit_count-digits.result c.digit_count-digits.ensures.value c.args.out.now c.encode.new.out (omega (arith, c.div_ceil-octets.ensures)) c.in_ok-length.ensures in
    omega (arith, length-set {A = ℕ}, p.takes, p.room, p.whole, same_len_mid 4 3 c.encode.new.out c.fill.new.self c.fill.auto.self, c.div_ceil-octets.ensures)

pub returns-then-digits-eq1 : goal.returns-then-digits-eq1
returns-then-digits-eq1 c =
    let i = 11 + c.div_ceil-octets.result in
    let same = cleared c.args.self c.digit_count-digits.result c.digit_count-digits.ensures.value c.args.out.now c.encode.new.out (omega (arith, c.div_ceil-octets.ensures)) c.in_ok-length.ensures (c.fill.ensures.after (λ y h. h)) in
    ap {B = Delivered} (λ (l : List ℕ). record { answer = accepted c.in_ok-length.length; buffer = set l i (get_or l i 0 % 16) }) same
    ∙ put_odd c.args.self c.digit_count-digits.result c.digit_count-digits.ensures.value c.args.out.now c.encode.new.out (omega (arith, c.div_ceil-octets.ensures)) c.in_ok-length.ensures i c.if-digits-eq1.true (omega (arith, c.div_ceil-octets.ensures))

pub returns-else-digits-eq1 : goal.returns-else-digits-eq1
returns-else-digits-eq1 c =
    let same = cleared c.args.self c.digit_count-digits.result c.digit_count-digits.ensures.value c.args.out.now c.encode.new.out (omega (arith, c.div_ceil-octets.ensures)) c.in_ok-length.ensures (c.fill.ensures.after (λ y h. h)) in
    ap {B = Delivered} (λ (l : List ℕ). record { answer = accepted c.in_ok-length.length; buffer = l }) same
    ∙ put_even c.args.self c.digit_count-digits.result c.digit_count-digits.ensures.value c.args.out.now c.encode.new.out (omega (arith, c.div_ceil-octets.ensures)) c.in_ok-length.ensures c.if-digits-eq1.false

pub slice_bounds-encode-end : goal.slice_bounds-encode-end
slice_bounds-encode-end c =
    let v = c.args.self.octets.now in
    sym (length-take-le (8 + c.div_ceil-octets.result) v (omega (arith, c.div_ceil-octets.ensures, c.digit_count-digits.ensures.value, digits-length built_in (drop 8 v) (get_or v 4 0), length-drop 8 v, c.args.self.long)))
