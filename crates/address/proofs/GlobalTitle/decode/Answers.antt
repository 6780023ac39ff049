-- `address::GlobalTitle::decode` meets its contract.
use mathlib.Core.Path.{ap, ◌∙◌}
use Prim.Native.Nat.{ℕ}
use mathlib.Core.List.{List}
use lib.ListN.{get_or}
use Rattle.bcd.specs.Outcome.{mapped}
use Rattle.bcd.specs.Digits.{built_in, digits_record, read_digits}
use Rattle.bcd.proofs.Results.{exit, few_octets, many_octets}
use Rattle.address.proofs.Planning.{whole_part}
use Rattle.address.proofs.TitleRecords.{title_beyond, title_few, title_done, title_never}
use Rattle.address.proofs.GlobalTitle.decode.Goals as goal

pub returns-in_err-within : goal.returns-in_err-within
returns-in_err-within c =
    let (h, a, b) = many_octets tt _ _ c.in_err-within.ensures in
    rw (exit c.from_residual.result _ c.from_residual.ensures.1, a, b) (title_beyond c.args.value.now h)

pub returns-then-n-lt-HEADER_SIZE : goal.returns-then-n-lt-HEADER_SIZE
returns-then-n-lt-HEADER_SIZE c = title_few c.args.value.now (few_octets c.in_ok-within.ensures) c.if-n-lt-HEADER_SIZE.true

pub returns-in_err-read : goal.returns-in_err-read
returns-in_err-read c =
    let v = c.args.value.now in
    title_never v (few_octets c.in_ok-within.ensures) c.if-n-lt-HEADER_SIZE.false _ _
    (c.in_err-read.ensures ∙ ap (λ (xs : List ℕ). mapped (digits_record (get_or v 4 0)) (read_digits built_in xs (get_or v 4 0))) (whole_part 8 v))

pub returns : goal.returns
returns c =
    let v = c.args.value.now in
    title_done v (few_octets c.in_ok-within.ensures) c.if-n-lt-HEADER_SIZE.false c.in_ok-read.read
    (c.in_ok-read.ensures ∙ ap (λ (xs : List ℕ). mapped (digits_record (get_or v 4 0)) (read_digits built_in xs (get_or v 4 0))) (whole_part 8 v))
