-- An address value as the code holds it: it was read, and what it keeps lies inside it.
use Prim.Native.Nat.{ℕ, ◌+◌, ◌*◌, ◌≤◌, ◌<◌}
use mathlib.Core.Path.{◌≡◌, sym, ap, ◌∙◌}
use Rattle.std.specs.Prelude.{Option, None, Some, option_map, MatchOption, IsSomeAnd}
use mathlib.Core.List.{List}
use native.Mathlib.Omega.{arith}
use lib.ListN.{length, get_or}
use borrow.Author.Tests.{le-leb}
use Rattle.bcd.specs.Outcome.{accepted, mapped, Octets}
use Rattle.bcd.specs.Digits.{Alphabet, built_in}
use Rattle.bcd.proofs.Outcomes.{bounded-within, octets-of, all_take, all_drop}
use Rattle.parameter.specs.Parameter.{four}
use Rattle.parameter.specs.Walk.{valued}
use Rattle.parameter.specs.declared.Place.{Place}
use Rattle.parameter.proofs.Records.{value-length}
use Rattle.address.specs.Address.{title_at, title_in, read_title}
use Rattle.address.specs.Titles.{record_of}
use Rattle.address.specs.Absent.{absent_at, record_at}
use Rattle.address.specs.Parts.{kept_value, kept_title}
use Rattle.address.specs.declared.interpret.TitleValue.{TitleValue}
use Rattle.address.specs.Steps.Plan.{HeldIn, Read}
use Rattle.address.specs.declared.interpret.Interpreted.{Interpreted}
use Rattle.address.proofs.Keeping.{map-map}
use Rattle.address.proofs.Interpreted.{interpreted-read}
use Rattle.address.proofs.Planning.{Sound, sound}

pub octets-held : (i : Interpreted) → Octets i.value.now
octets-held i = octets-of i.value.now i.fits

pub value-octets : (i : Interpreted) (p : Place) → Octets (valued i.value.now p).value
value-octets i p = all_take (λ (x : ℕ). x < 256) p.length _ (all_drop (λ (x : ℕ). x < 256) p.start i.value.now (octets-held i))

pub read-of : (i : Interpreted) → Read i.value.now i.parts
read-of i = interpreted-read (octets-held i) i.read

pub sound-of : (i : Interpreted) → Sound i.value.now i.parts
sound-of i = let r = read-of i in sound r.known r.whole

-- A sub-parameter that is kept, where it lies and how long its value is.
pub record Lies (v : List ℕ) (least : ℕ) (p : Place) : Type 0 where
  pub inside : p.start + p.length ≤ length v
  pub size : length (valued v p).value ≡ p.length
  pub enough : least ≤ length (valued v p).value

pub lies : (v : List ℕ) (least : ℕ) (o : Option Place) (p : Place) → HeldIn v least o → o ≡ Some p → Lies v least p
lies v least o p held e =
    let h : HeldIn v least (Some p) = rw e at held in
    let l = value-length v p h.0 in
    record { inside = h.0; size = l; enough = omega (arith, h.1) }

-- What `title` hands out holds the octets of the title that is kept, and so is read as it.
pub titled :
    (A : Alphabet) (v : List ℕ) (o : Option TitleValue) (k : Option Place)
    → option_map (λ (t : TitleValue). t.octets.now) o ≡ kept_value v k
    → option_map (λ (t : TitleValue). title_at A t.octets.now) o ≡ kept_title A v k
titled A v o k e = sym (map-map (title_at A) (λ (t : TitleValue). t.octets.now) o) ∙ ap (option_map (title_at A)) e

-- A title's octets are read without refusal, as a record with how many digits are absent.
pub title_recorded :
    (t : TitleValue)
    → mapped (record_of (absent_at built_in t.octets.now)) (read_title built_in t.octets.now)
    ≡ accepted (record_at built_in t.octets.now)
unfolding read_title title_in
title_recorded t =
    let v = t.octets.now in
    ap (mapped (record_of (absent_at built_in v))) (bounded-within v (title_in built_in v) t.within)
    ∙ rw (le-leb 8 (length v) t.long)

-- What `map` of `u32::from_be_bytes` gives of the four octets of a number: the number again.
pub of_octets :
    {P : List ℕ → ℕ → Type 0} (o : Option ℕ) (octets : Option (List ℕ)) (n : Option ℕ)
    → ((w : List ℕ) (r : ℕ) → P w r → r ≡ ((get_or w 0 0 * 256 + get_or w 1 0) * 256 + get_or w 2 0) * 256 + get_or w 3 0)
    → octets ≡ option_map four o
    → MatchOption octets (n ≡ None) (λ x. IsSomeAnd n (P x))
    → n ≡ o
of_octets None octets n told e h = rw e at h
of_octets {P} (Some k) octets n told e h = go n (rw e at h)
  where
    go : (n : Option ℕ) → IsSomeAnd n (P (four k)) → n ≡ Some k
    go None h = absurd h
    go (Some r) h = let t = told (four k) r h in ap Some (omega arith)
