-- A reader that carries a message's octets (document 01, 'Rust forms that cannot stay').
use Rattle.std.specs.Prelude.{ℕ, ◌+◌, ◌-◌, ◌≡◌, List, [], ◌∷◌, length}
use Rattle.std.specs.Prelude.{Option, None, Some, Result, Ok, Err}
use Rattle.std.specs.Borrow.{Bor}
use Rattle.bcd.specs.Outcome.{Outcome, accepted, refused, after, mapped, bounded}
use Rattle.bcd.specs.Answers.{refusal_of}
use Rattle.bcd.specs.declared.error.Refusal.{Refusal}
use Rattle.parameter.specs.Parameter.{Param}
use Rattle.parameter.specs.declared.Place.{Place}
use Rattle.parameter.specs.Walk.{Walked, ended, found, step_at, valued}
use Rattle.message.specs.declared.header.CommonHeader.{CommonHeader}
use Rattle.message.specs.Message.{Message, message, read_header}
use Rattle.records.specs.declared.reader.Reader.{Reader}

-- Where a new reader stands: behind the header's 8 octets; at the end, where the header was refused.
abbrev pub start_of : Outcome CommonHeader → (end : ℕ) → ℕ
start_of (accepted h) end = 8
start_of (refused n vs) end = end

-- A new reader of a message's octets.
abbrev pub opened : Bor (List ℕ) → Reader
opened bytes = record { bytes = bytes; at = start_of (read_header bytes.now) (length bytes.now) }

-- What a reader gives next: what a step of the cursor at its position finds in its octets; 12, then 5 or 6.
abbrev pub next_of : Reader → Outcome Walked
next_of r = bounded r.bytes.now (step_at r.bytes.now r.at)

-- Where a reader goes on after a step; where no parameter was found, it stays.
abbrev pub moved_to : Outcome Walked → (at : ℕ) → ℕ
moved_to (accepted (found p next)) at = next
moved_to (accepted ended) at = at
moved_to (refused n vs) at = at

-- The reader moved on: the same octets, at the next position.
abbrev pub moved_on : Reader → Reader
moved_on r = record { bytes = r.bytes; at = moved_to (next_of r) r.at }

-- What a step answers of what was found: the place and the reader moved on; none at the end.
abbrev pub given : Reader → Walked → Option (Place × Reader)
given r ended = None
given r (found p next) = Some (p, record { bytes = r.bytes; at = next })

-- What the iterator gives, and the reader behind it: as a step, but a refusal leaves no octets, so that it is the last item.
abbrev pub Gives : Reader → Option (Result Place Refusal) → Reader → Type 0
Gives r None s = (next_of r ≡ accepted ended) × (s ≡ r)
Gives r (Some (Ok p)) s = (next_of r ≡ accepted (found p s.at)) × (s ≡ moved_on r)
Gives r (Some (Err e)) s = (next_of r ≡ refusal_of e) × (s.bytes.now ≡ []) × (s.at ≡ r.at)

-- A bound on how many items come.
abbrev pub ahead : Reader → ℕ
ahead r = length r.bytes.now + (length r.bytes.now - r.at)

-- What stepping a reader to its end gives: each parameter that it finds, then the end or a refusal.
pub data Steps : Reader → Outcome (List Param) → Type 0 where
  ends : (r : Reader) → next_of r ≡ accepted ended → Steps r (accepted [])
  stops : (r : Reader) (n : ℕ) (vs : List ℕ) → next_of r ≡ refused n vs → Steps r (refused n vs)
  finds :
      (r : Reader) (p : Place) (next : ℕ) (o : Outcome (List Param))
      → next_of r ≡ accepted (found p next)
      → Steps (moved_on r) o
      → Steps r (mapped (λ ps. valued r.bytes.now p ∷ ps) o)

-- The message that a header, and what stepping gave, tell.
abbrev pub told : Outcome CommonHeader → Outcome (List Param) → Outcome Message
told header o = after header (λ h. mapped (message h.message_type) o)
