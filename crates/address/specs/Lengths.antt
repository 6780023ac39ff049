-- How many octets titles and addresses are written as (RFC 3868, 3.10.2).
use Rattle.std.specs.Prelude.{ℕ, ◌+◌, ◌/◌, List, [], ◌∷◌, length}
use Rattle.parameter.specs.Parameter.{padded_length}
use Rattle.address.specs.Address.{Title, Address, Piece, title, code, sub, other, pieces}

-- The value of a title: eight octets, and two digits to an octet (RFC 3868, 3.10.2.3).
abbrev pub title_length : Title → ℕ
title_length t = 8 + (length t.digits + 1) / 2

-- The sub-parameter that a piece is written as, padding included.
abbrev pub piece_length : Piece → ℕ
piece_length (title t) = padded_length (title_length t)
piece_length (code n) = padded_length 4
piece_length (sub n) = padded_length 4
piece_length (other p) = padded_length (length p.value)

abbrev pub total_length : List Piece → ℕ
total_length [] = 0
total_length (x ∷ xs) = piece_length x + total_length xs

-- An address value: routing indicator, address indicator, sub-parameters.
abbrev pub address_length : Address → ℕ
address_length a = 4 + total_length (pieces a)
