-- `pieces::Part::put` meets its contract.
use Prim.Native.Nat.{ℕ}
use mathlib.Core.Path.{◌≡◌, refl, sym, ap, ◌∙◌, subst}
use mathlib.Core.List.{List}
use native.Mathlib.Omega.{arith}
use Rattle.bcd.specs.Outcome.{Outcome, deliver}
use Rattle.bcd.proofs.Outcomes.{never}
use Rattle.parameter.specs.Parameter.{encode_param}
use Rattle.pieces.specs.PointCodes.{pack_codes}
use Rattle.pieces.specs.Parts.{part_written, affected, Placeable}
use Rattle.pieces.specs.declared.Part.{Part}
use Rattle.pieces.proofs.Placing.{as_param, codes_param, there, answer_known, value_put}
use Rattle.pieces.proofs.Part.put.Goals as goal

-- by the part's case
asked : {part part' : Part} (room : ℕ) → part ≡ part' → Placeable (part_written part) room → Placeable (part_written part') room
asked room e h = subst (λ (part : Part). Placeable (part_written part) room) e h

told : {part part' : Part} (out : List ℕ) → part ≡ part' → deliver (part_written part') out ≡ deliver (part_written part) out
told out e = ap (λ (part : Part). deliver (part_written part) out) (sym e)

-- point codes are a value that is framed
coded : (codes : List ℕ) (room : ℕ) → Placeable (encode_param (affected codes)) room → Placeable (as_param 0x0012 (pack_codes codes)) room
coded codes room h = subst (λ (o : Outcome (List ℕ)). Placeable o room) (sym (codes_param codes)) h

pub returns-in-Number : goal.returns-in-Number
returns-in-Number c = rw (c.in-Number.is) c.put_number.ensures

pub returns-in-Octet : goal.returns-in-Octet
returns-in-Octet c = rw (c.in-Octet.is) c.encode.ensures

pub returns-in-Octets : goal.returns-in-Octets
returns-in-Octets c = rw (c.in-Octets.is) c.encode-in-Octets.ensures

pub slice_bounds-pack_affected_point_codes-count : goal.slice_bounds-pack_affected_point_codes-count
slice_bounds-pack_affected_point_codes-count c =
    let h = coded _ _ (asked _ c.in-Codes.is c.requires) in
    omega (arith, (there 0x0012 _ c.args.out.now h).room)

pub slice_bounds-pack_affected_point_codes-start : goal.slice_bounds-pack_affected_point_codes-start
slice_bounds-pack_affected_point_codes-start c =
    let h = coded _ _ (asked _ c.in-Codes.is c.requires) in
    omega (arith, (there 0x0012 _ c.args.out.now h).room)

pub returns-in_err-length-in-Codes : goal.returns-in_err-length-in-Codes
returns-in_err-length-in-Codes c =
    let h = coded _ _ (asked _ c.in-Codes.is c.requires) in
    absurd (never (answer_known 0x0012 _ c.args.out.now h c.in_err-length-in-Codes.ensures))

pub returns-in_ok-length-in-Codes : goal.returns-in_ok-length-in-Codes
returns-in_ok-length-in-Codes c =
    let h = coded _ _ (asked _ c.in-Codes.is c.requires) in
    value_put 0x0012 _ c.args.out.now h c.in_ok-length-in-Codes.ensures _ refl c.frame.ensures
    ∙ ap (λ (o : Outcome (List ℕ)). deliver o c.args.out.now) (codes_param _)
    ∙ told c.args.out.now c.in-Codes.is

pub slice_bounds-encode_as-count : goal.slice_bounds-encode_as-count
slice_bounds-encode_as-count c =
    let h = asked _ c.in-Address.is c.requires in
    omega (arith, (there _ _ c.args.out.now h).room)

pub slice_bounds-encode_as-start : goal.slice_bounds-encode_as-start
slice_bounds-encode_as-start c =
    let h = asked _ c.in-Address.is c.requires in
    omega (arith, (there _ _ c.args.out.now h).room)

pub returns-in_err-length-in-Address : goal.returns-in_err-length-in-Address
returns-in_err-length-in-Address c =
    let h = asked _ c.in-Address.is c.requires in
    absurd (never (answer_known _ _ c.args.out.now h c.in_err-length-in-Address.ensures))

pub returns-in_ok-length-in-Address : goal.returns-in_ok-length-in-Address
returns-in_ok-length-in-Address c =
    let h = asked _ c.in-Address.is c.requires in
    value_put _ _ c.args.out.now h c.in_ok-length-in-Address.ensures _ refl c.frame-in-Address.ensures
    ∙ told c.args.out.now c.in-Address.is
