-- `flat::writer::Writer::others` meets its contract: the loop has stored the places before the position.
use mathlib.Core.Path.{◌≡◌}
use Rattle.flat.proofs.OtherPlaces.{Listing}
use Rattle.flat.proofs.writer.Writer.others.Given as goal

abbrev pub invariant-loop-place : goal.invariant-loop-place
invariant-loop-place l = (l.place-iterator.bytes.now ≡ l.it.value.now) × Listing l.it.value.now l.base l.initial.self l.place-iterator.at l.self
