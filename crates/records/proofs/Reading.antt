-- Stepping a reader of a message to its end gives the message's parameters, or its refusal.
use Prim.Native.Nat.{ℕ, zero, suc, ◌+◌, ◌*◌, ◌≤◌, ◌<◌}
use mathlib.Core.Path.{◌≡◌, refl, sym, ap, ◌∙◌}
use mathlib.Core.List.{List, [], ◌∷◌, map}
use Rattle.std.specs.Prelude.{Some}
use native.Mathlib.Omega.{arith}
use lib.Dec.{leb}
use lib.ListN.{length, drop}
use denote.Ref.{Bor}
use Rattle.bcd.specs.Outcome.{Outcome, accepted, refused, after, mapped, most, bounded}
use Rattle.bcd.proofs.Outcomes.{never, demand_inv, bounded-within}
use Rattle.parameter.specs.Parameter.{Param}
use Rattle.parameter.specs.declared.Place.{Place}
use Rattle.parameter.specs.Walk.{Walked, ended, found, step_at, onward, places, valued, parameters}
use Rattle.parameter.proofs.Walking.{Found, step_inv}
use Rattle.parameter.proofs.Reaching.{places_turn, walk_some}
use Rattle.parameter.proofs.Structure.{places-parameters}
use Rattle.message.specs.declared.header.CommonHeader.{CommonHeader}
use Rattle.message.specs.Message.{message, read_header, read_message}
use Rattle.message.proofs.Messages.{header_within, read-headed}
use Rattle.records.specs.declared.reader.Reader.{Reader}
use Rattle.records.specs.Reader.{start_of, opened, next_of, given, ahead, moved_to, moved_on, Steps, ends, stops, finds, told}

pushed :
    (xs : List ℕ) (p : Place) (o : Outcome (List Place))
    → mapped (λ ps. valued xs p ∷ ps) (mapped (map (valued xs)) o) ≡ mapped (map (valued xs)) (mapped (λ ps. p ∷ ps) o)
pushed xs p (accepted ps) = refl
pushed xs p (refused n vs) = refl

module _ (xs : List ℕ) (within : length xs ≤ most) (at : ℕ) where
  -- the parameters from a position on, of what a step there finds
  turned : (w : Outcome Walked) → bounded xs (step_at xs at) ≡ w → mapped (map (valued xs)) (after w (onward (places xs))) ≡ mapped (map (valued xs)) (places xs at)
  turned w e =
      ap (λ o. mapped (map (valued xs)) (after o (onward (places xs)))) (sym e ∙ bounded-within xs (step_at xs at) within)
      ∙ sym (ap (mapped (map (valued xs))) (places_turn xs at _ refl))

-- What stepping gives are the parameters at the places from the reader's position on.
pub steps-places : (r : Reader) (o : Outcome (List Param)) → length r.bytes.now ≤ most → Steps r o → o ≡ mapped (map (valued r.bytes.now)) (places r.bytes.now r.at)
steps-places r o within (ends _ e) = turned r.bytes.now within r.at (accepted ended) e
steps-places r o within (stops _ n vs e) = turned r.bytes.now within r.at (refused n vs) e
steps-places r o within (finds _ p next o' e rest) =
    let xs = r.bytes.now in
    ap (mapped (λ ps. valued xs p ∷ ps)) (steps-places (moved_on r) o' within rest ∙ ap (λ w. mapped (map (valued xs)) (places xs (moved_to w r.at))) e)
    ∙ pushed xs p (places xs next)
    ∙ turned xs within r.at (accepted (found p next)) e

-- Whatever stepping a new reader to its end gives, with the header it tells the message that is read, or its refusal.
pub reader_reads : (bytes : Bor (List ℕ)) (o : Outcome (List Param)) → Steps (opened bytes) o → told (read_header bytes.now) o ≡ read_message bytes.now
reader_reads bytes o s = on (read_header bytes.now) refl ∙ sym (read-headed bytes.now)
  where
    on : (h : Outcome CommonHeader) → read_header bytes.now ≡ h → told h o ≡ after h (λ k. mapped (message k.message_type) (parameters (drop 8 bytes.now)))
    on (refused n vs) e = refl
    on (accepted k) e =
        ap (mapped (message k.message_type))
        (steps-places (opened bytes) o (header_within bytes.now k e) s
        ∙ ap (λ h. mapped (map (valued bytes.now)) (places bytes.now (start_of h (length bytes.now)))) e
        ∙ places-parameters bytes.now 8)

abbrev Ending : Reader → Type 0
Ending r = (o : Outcome (List Param)) × Steps r o

one_step : (r : Reader) (w : Outcome Walked) → next_of r ≡ w → ((p : Place) (next : ℕ) → next_of r ≡ accepted (found p next) → Ending (moved_on r)) → Ending r
one_step r (accepted ended) e on = (accepted [], ends r e)
one_step r (accepted (found p next)) e on = let (o, s) = on p next e in (_, finds r p next o e s)
one_step r (refused n vs) e on = (refused n vs, stops r n vs e)

found_at : (r : Reader) (p : Place) (next : ℕ) → next_of r ≡ accepted (found p next) → Found r.bytes.now r.at p next
found_at r p next e = step_inv r.bytes.now r.at (demand_inv (leb (length r.bytes.now) most) _ _ _ e).1

-- what the reader that was moved on has ahead of it, and that octets are there where a step is refused
pub moved_less : (r : Reader) (p : Place) (m : Reader) → accepted (Some (p, m)) ≡ mapped (given r) (next_of r) → ahead m < ahead r
moved_less r p m e = go (next_of r) refl e
  where
    go : (w : Outcome Walked) → next_of r ≡ w → accepted (Some (p, m)) ≡ mapped (given r) w → ahead m < ahead r
    go (accepted (found q next)) k j =
        let f = found_at r q next k in
        let pair : ◌≡◌ {A = Place × Reader} (p, m) (q, record { bytes = r.bytes; at = next }) = cc in
        rw (ap (λ x. x.1) pair) (omega (arith, f.forward, f.within, f.least))
    go (accepted ended) k j = let z : ◌≡◌ {A = ℕ} 0 1 = cc in absurd (omega arith)
    go (refused n vs) k j = absurd (never (sym j))

pub refused_some : (r : Reader) (n : ℕ) (vs : List ℕ) → refused n vs ≡ mapped (given r) (next_of r) → 0 < length r.bytes.now
refused_some r n vs e = go (next_of r) refl e
  where
    go : (w : Outcome Walked) → next_of r ≡ w → refused n vs ≡ mapped (given r) w → 0 < length r.bytes.now
    go (refused m ws) k j = walk_some r.bytes.now r.at m ws (sym k)
    go (accepted w) k j = absurd (never j)

-- a reader with at most four times so many octets ahead
ending : (n : ℕ) (r : Reader) → length r.bytes.now ≤ r.at + 4 * n → Ending r
ending zero r few = one_step r (next_of r) refl (λ p next e. let f = found_at r p next e in absurd (omega (arith, f.least, f.within)))
ending (suc n) r few = one_step r (next_of r) refl (λ p next e.
    let f = found_at r p next e in
    let moved : (moved_on r).at ≡ next = ap (λ w. moved_to w r.at) e in
    ending n (moved_on r) (omega (arith, f.forward, moved)))

-- Every reader comes to its end, wherever it stands.
pub reader_ends : (r : Reader) → (o : Outcome (List Param)) × Steps r o
reader_ends r = ending (length r.bytes.now) r (omega arith)
