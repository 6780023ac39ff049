-- The account of an M3UA message's parameter.
use Prim.Native.Nat.{ℕ, ◌+◌, ◌≤◌}
use mathlib.Core.Path.{◌≡◌, refl, sym, ap, ◌∙◌}
use mathlib.Core.Bool.{Bool, true, false}
use mathlib.Core.List.{List, [], ◌++◌, append-nil}
use native.Mathlib.Omega.{arith}
use lib.ListN.{length, length-drop}
use Rattle.bcd.specs.Outcome.{Outcome, accepted, refused, pick, mapped, Octets, most}
use Rattle.bcd.proofs.Outcomes.{accepted_inj, mapped_inv, bounded-within}
use Rattle.parameter.specs.declared.Place.{Place}
use Rattle.parameter.specs.Walk.{valued}
use Rattle.m3ua.specs.ProtocolData.{Data, data_in, read_data}
use Rattle.m3ua.specs.Form.{is_protocol_data}
use Rattle.m3ua.proofs.Data.{data_inv}
use Rattle.flat.specs.Account.{place_octets, data_fields, data_account}
use Rattle.flat.specs.declared.writer.Writer.{Writer}
use Rattle.flat.specs.Steps.Emitting.{Writes, Tried, Small}
use Rattle.flat.proofs.Emission.{writes_more}
use Rattle.flat.proofs.Accounting.{value_short}

pub data_small : (xs : List ℕ) → Octets xs → Small data_account xs
unfolding data_account data_fields
data_small xs octets within p os e =
    let (us, f, g) = mapped_inv (λ os. place_octets p ++ os) (pick (is_protocol_data p.tag) (mapped (data_fields p.start) (data_in (valued xs p).value)) (accepted [])) e in
    omega (arith, go (is_protocol_data p.tag) us f, ap length g)
  where
    go : (t : Bool) (us : List ℕ) → pick t (mapped (data_fields p.start) (data_in (valued xs p).value)) (accepted []) ≡ accepted us → length us ≤ 20
    go true us f = let (d, hd, same) = mapped_inv (data_fields p.start) (data_in (valued xs p).value) f in omega (arith, ap length same)
    go false us f = omega (arith, ap length (accepted_inj f))

-- its place, and Protocol Data that is read or refused
module _ (xs : List ℕ) (p : Place) {a b : Writer} (x : Writes a (place_octets p) b) where
  pub data_raw : is_protocol_data p.tag ≡ false → Tried a (data_account xs p) (accepted (tt {0})) b
  unfolding data_account
  data_raw t = (place_octets p, rw (t, append-nil), x)

  abbrev v : List ℕ
  v = (valued xs p).value

  within : (o : Outcome Data) → p.length ≤ most → o ≡ read_data v → o ≡ data_in v
  within o h e = e ∙ bounded-within v (data_in v) (omega (arith, value_short xs p, h))

  -- the user's data ends with the value
  pub payload_short : (d : Data) → p.length ≤ most → accepted d ≡ read_data v → p.start + length d.payload ≤ p.start + p.length
  payload_short d h e =
      let k = data_inv v d (sym (within (accepted d) h e)) in
      omega (arith, ap length k.payload, length-drop 12 v, value_short xs p)

  pub data_told :
      p.length ≤ most
      → is_protocol_data p.tag ≡ true
      → {d : Data} {c : Writer}
      → accepted d ≡ read_data v
      → Writes b (data_fields p.start d) c
      → Tried a (data_account xs p) (accepted (tt {0})) c
  unfolding data_account
  data_told h t {d} {c} e y = (place_octets p ++ data_fields p.start d, rw (t, sym (within (accepted d) h e)) refl, writes_more x y)

  pub data_unread :
      p.length ≤ most
      → is_protocol_data p.tag ≡ true
      → (n : ℕ) (vs : List ℕ)
      → refused n vs ≡ read_data v
      → Tried {A = Unit {0}} a (data_account xs p) (refused n vs) b
  unfolding data_account
  data_unread h t n vs e = (rw (t, sym (within (refused n vs) h e)) refl, x.lent)
