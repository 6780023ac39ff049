-- What octets mean, by their header and the places of their parameters: the type, the first Data and the first destination.
use Prim.Native.Nat.{ℕ, ◌+◌, ◌≤◌, ◌<◌}
use mathlib.Core.Path.{◌≡◌, refl, sym, ap, ◌∙◌, subst}
use mathlib.Core.Bool.{Bool, true, false}
use mathlib.Core.Logic.{◌⊎◌, ⊎_elim, inl, inr}
use Rattle.std.specs.Prelude.{Option, None, Some}
use mathlib.Core.List.{List, [], ◌∷◌, ◌++◌, map}
use native.Mathlib.Omega.{arith}
use borrow.Author.Tests.{eqb-true, ne_eqb}
use lib.Dec.{eqb}
use lib.ListN.{length, get_or, drop}
use Rattle.bcd.specs.Outcome.{accepted, pick, each, All, most}
use Rattle.bcd.specs.Digits.{built_in}
use Rattle.bcd.proofs.Outcomes.{accepted_inj, after_inv, mapped_inv, each_inv, octets-of}
use Rattle.parameter.specs.declared.Place.{Place}
use Rattle.parameter.specs.Parameter.{Param}
use Rattle.parameter.specs.Walk.{places, valued, parameters}
use Rattle.parameter.specs.Table.{first_with}
use Rattle.parameter.proofs.Walking.{places_inside}
use Rattle.parameter.proofs.Structure.{places-parameters}
use Rattle.parameter.proofs.Records.{value-length}
use Rattle.address.specs.Address.{Address, address_in}
use Rattle.message.specs.declared.header.CommonHeader.{CommonHeader}
use Rattle.message.specs.Message.{Message, message, read_header, read_message}
use Rattle.message.proofs.Messages.{message_inv, read-headed}
use Rattle.form.specs.Family.{meaning_by}
use Rattle.form.specs.Form.{settled, is_address, is_hop_counter, Part, raw, address, part_in, Meaning, meaning}
use Rattle.form.proofs.Tags.{address_tags}
use Rattle.form.proofs.Demand3.{read_back}
use Rattle.tally.specs.Tally.{data_length, destination}

-- A parameter is an address that is read; or it is a hop counter, of which nothing is kept, or stays raw.
pub part_inv :
    (p : Param) (us : List Part)
    → part_in built_in p ≡ accepted us
    → ((is_address p.tag ≡ true) × (a : Address) × (address_in built_in p.value ≡ accepted a) × (address p.tag a ∷ [] ≡ us))
    ⊎ ((is_address p.tag ≡ false) × (pick (is_hop_counter p.tag) [] (raw p ∷ []) ≡ us))
unfolding part_in
part_inv p us e = on (is_address p.tag) refl
  where
    on :
        (b : Bool)
        → is_address p.tag ≡ b
        → ((is_address p.tag ≡ true) × (a : Address) × (address_in built_in p.value ≡ accepted a) × (address p.tag a ∷ [] ≡ us))
        ⊎ ((is_address p.tag ≡ false) × (pick (is_hop_counter p.tag) [] (raw p ∷ []) ≡ us))
    on true h =
        let (a, ha, k) = mapped_inv (λ (a : Address). address p.tag a ∷ []) (address_in built_in p.value) (rw h at e) in
        inl (h, a, ha, k)
    on false h = inr (h, accepted_inj (rw h at e))

-- no address is Data, and what stays raw is no destination
address_no_data : (tag : ℕ) → is_address tag ≡ true → eqb tag 0x010B ≡ false
address_no_data tag h = ne_eqb tag 0x010B (λ e. ⊎_elim (λ f. omega arith) (λ f. omega arith) ((address_tags tag).0 h))

raw_no_destination : (tag : ℕ) → is_address tag ≡ false → eqb tag 0x0103 ≡ false
raw_no_destination tag h =
    ne_eqb tag 0x0103 (λ e. let t = (address_tags tag).1 (inr e) in let z : ◌≡◌ {A = ℕ} 0 1 = cc in omega arith)

-- a hop counter, of which there is no part, is neither
pub other_data :
    (p : Param) (vs : List Part)
    → data_length (pick (is_hop_counter p.tag) [] (raw p ∷ []) ++ vs) ≡ pick (eqb p.tag 0x010B) (length p.value) (data_length vs)
other_data p vs = on (is_hop_counter p.tag) refl
  where
    on :
        (c : Bool)
        → is_hop_counter p.tag ≡ c
        → data_length (pick c [] (raw p ∷ []) ++ vs) ≡ pick (eqb p.tag 0x010B) (length p.value) (data_length vs)
    on true h = rw (eqb-true p.tag 0x0101 h)
    on false h = refl

other_destination : (p : Param) (c : Bool) (vs : List Part) → destination vs ≡ destination (pick c [] (raw p ∷ []) ++ vs)
other_destination p true vs = refl
other_destination p false vs = refl

abbrev pub length_at : Option Place → ℕ
length_at None = 0
length_at (Some p) = p.length

-- An address read at a place, or none.
abbrev pub ReadAt : List ℕ → Option Place → Option Address → Type 0
ReadAt xs None o = o ≡ None
ReadAt xs (Some p) o = (a : Address) × (address_in built_in (valued xs p).value ≡ accepted a) × (o ≡ Some a)

module _ (xs : List ℕ) where
  data_first :
      (ps : List Place) (parts : List Part)
      → All (λ (p : Place). p.start + p.length ≤ length xs) ps
      → each (part_in built_in) (map (valued xs) ps) ≡ accepted parts
      → data_length parts ≡ length_at (first_with 0x010B ps)
  data_first [] parts h e = ap data_length (sym (accepted_inj e))
  data_first (p ∷ ps) parts h e =
      let (us, vs, hu, hv, j) = each_inv (part_in built_in) (valued xs p) (map (valued xs) ps) parts e in
      ap data_length (sym j) ∙ ⊎_elim (λ (t, a, ha, k). kept us vs t k) (λ (t, k). first us vs k) (part_inv (valued xs p) us hu) ∙ rest vs (data_first ps vs h.1 hv)
    where
      rest : (vs : List Part) → data_length vs ≡ length_at (first_with 0x010B ps) → pick (eqb p.tag 0x010B) p.length (data_length vs) ≡ length_at (first_with 0x010B (p ∷ ps))
      rest vs ih = on (eqb p.tag 0x010B)
        where
          on : (b : Bool) → pick b p.length (data_length vs) ≡ length_at (pick b (Some p) (first_with 0x010B ps))
          on true = refl
          on false = ih

      kept : (us vs : List Part) {a : Address} → is_address p.tag ≡ true → address p.tag a ∷ [] ≡ us → data_length (us ++ vs) ≡ pick (eqb p.tag 0x010B) p.length (data_length vs)
      kept us vs t k = rw (← k, address_no_data p.tag t)

      first :
          (us vs : List Part)
          → pick (is_hop_counter p.tag) [] (raw (valued xs p) ∷ []) ≡ us
          → data_length (us ++ vs) ≡ pick (eqb p.tag 0x010B) p.length (data_length vs)
      first us vs k =
          ap (λ (us : List Part). data_length (us ++ vs)) (sym k)
          ∙ other_data (valued xs p) vs
          ∙ ap (λ n. pick (eqb p.tag 0x010B) n (data_length vs)) (value-length xs p h.0)

  destination-first :
      (ps : List Place) (parts : List Part)
      → each (part_in built_in) (map (valued xs) ps) ≡ accepted parts
      → ReadAt xs (first_with 0x0103 ps) (destination parts)
  destination-first [] parts e = ap destination (sym (accepted_inj e))
  destination-first (p ∷ ps) parts e =
      let (us, vs, hu, hv, j) = each_inv (part_in built_in) (valued xs p) (map (valued xs) ps) parts e in
      subst (λ (parts : List Part). ReadAt xs (first_with 0x0103 (p ∷ ps)) (destination parts)) j
      (⊎_elim (λ (t, a, ha, k). read us vs a ha k (destination-first ps vs hv)) (λ (t, k). kept us vs t k (destination-first ps vs hv))
      (part_inv (valued xs p) us hu))
    where
      read :
          (us vs : List Part) (a : Address)
          → address_in built_in (valued xs p).value ≡ accepted a
          → address p.tag a ∷ [] ≡ us
          → ReadAt xs (first_with 0x0103 ps) (destination vs)
          → ReadAt xs (first_with 0x0103 (p ∷ ps)) (destination (us ++ vs))
      read us vs a ha k ih = subst (λ (us : List Part). ReadAt xs (first_with 0x0103 (p ∷ ps)) (destination (us ++ vs))) k (on (eqb p.tag 0x0103))
        where
          on : (b : Bool) → ReadAt xs (pick b (Some p) (first_with 0x0103 ps)) (pick b (Some a) (destination vs))
          on true = (a, ha, refl)
          on false = ih

      kept :
          (us vs : List Part)
          → is_address p.tag ≡ false
          → pick (is_hop_counter p.tag) [] (raw (valued xs p) ∷ []) ≡ us
          → ReadAt xs (first_with 0x0103 ps) (destination vs)
          → ReadAt xs (first_with 0x0103 (p ∷ ps)) (destination (us ++ vs))
      kept us vs t k ih =
          rw (← k, ← other_destination (valued xs p) (is_hop_counter p.tag) vs, raw_no_destination p.tag t) ih

-- A message that has a form.
pub record Formed (xs : List ℕ) : Type 0 where
  pub form : List ℕ
  pub settles : settled built_in xs ≡ accepted form

-- Octets that mean something: their header, the places of their parameters, and what these mean.
pub record Means (xs : List ℕ) (w : Meaning) : Type 0 where
  pub small : length xs ≤ most
  pub header : CommonHeader
  pub headed : read_header xs ≡ accepted header
  pub type : header.message_type ≡ w.type
  pub found : List Place
  pub walked : places xs 8 ≡ accepted found
  pub parts : each (part_in built_in) (map (valued xs) found) ≡ accepted w.parts

pub means : (xs : List ℕ) (w : Meaning) → meaning built_in xs ≡ accepted w → Means xs w
unfolding meaning_by
means xs w e =
    let (m, hm, e1) = after_inv (read_message xs) _ e in
    let (h, hh, e2) = after_inv (read_header xs) _ (sym (read-headed xs) ∙ hm) in
    let (qs, hq, typed) = mapped_inv (message h.message_type) (parameters (drop 8 xs)) e2 in
    let (ps, hp, j) = mapped_inv _ (each (part_in built_in) m.params) e1 in
    let r = message_inv xs m hm in
    let (found, hf, same) = mapped_inv (map (valued xs)) (places xs 8) (places-parameters xs 8 ∙ r.walked) in
    subst (Means xs) j
    (record {
      small = r.small;
      header = h;
      headed = hh;
      type = ap (λ (m : Message). m.type) typed;
      found = found;
      walked = hf;
      parts = ap (each (part_in built_in)) same ∙ hp;
    })

module _ {xs : List ℕ} {w : Meaning} (m : Means xs w) where
  -- The first Data and the first destination.
  pub means_data : length_at (first_with 0x010B m.found) ≡ data_length w.parts
  means_data = sym (data_first xs m.found w.parts (places_inside xs 8 m.found m.walked) m.parts)

  pub means_destination : ReadAt xs (first_with 0x0103 m.found) (destination w.parts)
  means_destination = destination-first xs m.found w.parts m.parts

-- A message that has a form means something.
pub formed_means : (xs : List ℕ) → ((i : ℕ) → get_or xs i 0 < 256) → Formed xs → (w : Meaning) × (meaning built_in xs ≡ accepted w)
formed_means xs o f = let (same, (w, h)) = read_back xs f.form (octets-of xs o) f.settles in (w, sym same ∙ h)
