-- `bcd::nibble_to_char` meets its contract: each arm's half octet has that character.
use native.Mathlib.Omega.{arith}
use Rattle.bcd.proofs.Characters.{char_decimal, char_other}
use Rattle.bcd.proofs.nibble_to_char.Goals as goal

pub returns-in-0-to-9 : goal.returns-in-0-to-9
returns-in-0-to-9 c = char_decimal c.args.nibble (omega arith)

pub returns-in_default : goal.returns-in_default
returns-in_default c = char_other c.args.nibble (omega arith)
