-- The record of a title that was read (document 01, 'Rust forms that cannot stay': its digits are 255 octets and a count).
use Rattle.std.specs.Prelude.{List, ◌++◌, ℕ, length, drop, replicate}
use Rattle.address.specs.Address.{Title}
use Rattle.address.specs.Records.{title_record}
use Rattle.address.specs.declared.GlobalTitle.{GlobalTitle}

abbrev pub zeros : List ℕ
zeros = replicate 255 0

-- The record of a title: its digits in front of zeros, and how many of those declared are absent.
abbrev pub record_of : (absent : ℕ) → Title → GlobalTitle
record_of absent t =
    title_record t.gti t.tt t.np t.noa (t.digits ++ drop (length t.digits) zeros) (length t.digits) absent
