-- An address value that was read, by the parts that the walk keeps.
use Prim.Native.Nat.{ℕ}
use mathlib.Core.Path.{◌≡◌, refl, sym, ap, ◌∙◌}
use mathlib.Core.Bool.{true}
use Rattle.std.specs.Prelude.{Option, None, Some}
use mathlib.Core.List.{List, map}
use borrow.Author.Tests.{leb-true}
use lib.Dec.{leb}
use lib.ListN.{length, get_or}
use Rattle.bcd.specs.Outcome.{Outcome, accepted, refused, Octets, most}
use Rattle.bcd.specs.Digits.{built_in}
use Rattle.bcd.proofs.Outcomes.{accepted_inj, never, after_inv, mapped_inv, demand_inv}
use Rattle.parameter.specs.Parameter.{two_at}
use Rattle.parameter.specs.Walk
use Rattle.parameter.specs.Walk.{valued, places}
use Rattle.parameter.specs.declared.Place.{Place}
use Rattle.parameter.proofs.Structure.{places-parameters}
use Rattle.address.specs.Address.{Address, address_with, address_in, read_address}
use Rattle.address.specs.Parts.{nothing, note_all, interpreted}
use Rattle.address.specs.Parts.{kept_title}
use Rattle.address.specs.Steps.Kept.{judged, short_refusal}
use Rattle.address.specs.Steps.Plan.{Walked, Read}
use Rattle.address.specs.declared.parts.Parts.{Parts}
use Rattle.address.proofs.Keeping.{piece_at}
use Rattle.address.proofs.Interpreting.{title_holds, read-parts}
use Rattle.address.proofs.Planning.{walked}
use Rattle.address.proofs.Rewriting.{HasAddress, address_inv}

module _ {v : List ℕ} {s : Parts} (k : Walked v s) where
  abbrev pub address : Address
  address = address_with (two_at v 0) (get_or v 3 0) (map (piece_at built_in v) k.places)

  pub read_known : read_address built_in v ≡ judged s.short (accepted address)
  read_known = rw k.parts (read-parts built_in v k.places k.within k.long k.routing k.walked)

  pub read_short : (p : Place) → s.short ≡ Some p → read_address built_in v ≡ short_refusal p
  read_short p e = read_known ∙ rw e

pub read_whole : {v : List ℕ} {s : Parts} (r : Read v s) → read_address built_in v ≡ accepted (address r.known)
read_whole r = read_known r.known ∙ rw r.whole

-- The parts of an address value that was read are what interpreting it gives.
pub read-interpreted : {v : List ℕ} {s : Parts} → Read v s → accepted s ≡ interpreted v
unfolding interpreted
read-interpreted r = rw (read_whole r, r.known.walked) (ap accepted r.known.parts)

pub refused_interpreted : (v : List ℕ) (n : ℕ) (vs : List ℕ) → read_address built_in v ≡ refused n vs → refused n vs ≡ interpreted v
unfolding interpreted
refused_interpreted v n vs e = rw e

-- And the other way round.
unjudged : {X : Type 0} (x y : X) (k : Option Place) → judged k (accepted x) ≡ accepted y → k ≡ None
unjudged x y None e = refl
unjudged x y (Some p) e = absurd (never e)

record Placed (v : List ℕ) (a : Address) : Type 0 where
  within : leb (length v) most ≡ true
  has : HasAddress built_in v a
  places : List Place
  walked : Walk.places v 4 ≡ accepted places

placed : (v : List ℕ) (a : Address) → read_address built_in v ≡ accepted a → Placed v a
unfolding read_address
placed v a e =
    let (within, read) = demand_inv (leb (length v) most) _ _ (address_in built_in v) e in
    let h = address_inv built_in v a read in
    let (ps, w, same) = mapped_inv (map (valued v)) (places v 4) (places-parameters v 4 ∙ h.walked) in
    record { within = within; has = h; places = ps; walked = w }

pub interpreted-read : {v : List ℕ} {s : Parts} → Octets v → accepted s ≡ interpreted v → Read v s
unfolding interpreted
interpreted-read {v} {s} o e =
    let (a, ha, f) = after_inv (read_address built_in v) _ (sym e) in
    let p = placed v a ha in
    let k = walked v s o (leb-true _ _ p.within) p.has.long p.has.routing (sym f) in
    record { known = k; whole = unjudged (address k) a s.short (sym (read_known k) ∙ ha) }

pub accepted_read : {v : List ℕ} {a : Address} → Octets v → read_address built_in v ≡ accepted a → (s : Parts) × Read v s
unfolding interpreted
accepted_read {v} {a} o e = let p = placed v a e in (note_all nothing p.places, interpreted-read o (rw (e, p.walked)))

pub interpreted_refused : (v : List ℕ) (n : ℕ) (vs : List ℕ) → refused n vs ≡ interpreted v → read_address built_in v ≡ refused n vs
unfolding interpreted
interpreted_refused v n vs e = go (read_address built_in v) refl
  where
    again : {m : ℕ} {ws : List ℕ} → ◌≡◌ {A = Outcome Parts} (refused n vs) (refused m ws) → ◌≡◌ {A = Outcome Address} (refused m ws) (refused n vs)
    again {m} {ws} g = let a : m ≡ n = cc in let b : ws ≡ vs = cc in rw (a, b)

    go : (o : Outcome Address) → read_address built_in v ≡ o → read_address built_in v ≡ refused n vs
    go (accepted a) h =
        let p = placed v a h in
        absurd (never {a = note_all nothing p.places} (e ∙ rw (h, p.walked)))
    go (refused m ws) h = h ∙ again (e ∙ rw h)

-- The title that is kept is the address's.
pub title_kept : {v : List ℕ} {s : Parts} (r : Read v s) (a : Address) → read_address built_in v ≡ accepted a → kept_title built_in v s.title ≡ a.title
unfolding address_with
title_kept {v} r a e =
    rw r.known.parts (sym (title_holds built_in v r.known.places))
    ∙ ap (λ (a : Address). a.title) (accepted_inj (sym (read_whole r) ∙ e))
