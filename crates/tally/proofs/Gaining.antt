-- What a message that has a form adds, by its header, its first destination and its first Data.
use Prim.Native.Nat.{ℕ, ◌≤◌, ◌<◌}
use mathlib.Core.Path.{◌≡◌, refl, sym, ap, ap₂, ◌∙◌}
use mathlib.Core.Bool.{Bool, true, false}
use mathlib.Core.List.{List}
use native.Mathlib.Omega.{arith}
use borrow.Author.Tests.{eqb-true}
use lib.Dec.{eqb}
use lib.ListN.{length, get_or, drop, length-take, length-drop}
use Rattle.std.specs.Prelude.{Option, None, Some, Result, Ok, Err}
use Rattle.std.specs.Result.{result_unwrap_or}
use Rattle.bcd.specs.Outcome.{Outcome, accepted, refused, pick, after, mapped, bounded, most}
use Rattle.bcd.specs.Answers.{outcome_of}
use Rattle.bcd.specs.declared.error.Refusal.{Refusal}
use Rattle.bcd.specs.Digits.{built_in}
use Rattle.bcd.proofs.Below.{both}
use Rattle.bcd.proofs.Outcomes.{accepted_inj, never, mapped_inv, bounded-within}
use Rattle.parameter.specs.declared.Place.{Place}
use Rattle.parameter.specs.Walk.{places, valued}
use Rattle.parameter.specs.Table.{first_with}
use Rattle.address.specs.Address.{Address, address_in, read_address}
use Rattle.message.specs.declared.header.CommonHeader.{CommonHeader}
use Rattle.message.specs.declared.types.MessageType.{MessageType}
use Rattle.message.specs.declared.types.MessageType.TheVariants as T
use Rattle.message.specs.Message.{read_header}
use Rattle.message.specs.Types.{class_of, type_of, from_class_type}
use Rattle.message.proofs.Pairs.{pair_of_type}
use Rattle.form.specs.Form.{settled, Meaning, meaning}
use Rattle.tally.specs.Rows.{gain}
use Rattle.tally.specs.Tally.{is_cldt, destination, destination_row, title_row, meant, or_else}
use Rattle.tally.proofs.Looking.{firsts}
use Rattle.tally.proofs.Meaning.{Formed, Means, means, formed_means, means_data, means_destination, ReadAt, length_at}

-- A CLDT, by its class and type.
cldt_only : (t : MessageType) → is_cldt t ≡ true → t ≡ T.Cldt
cldt_only t e =
    let (c, k) = both (eqb (class_of t) 7) (eqb (type_of t) 1) e in
    accepted_inj (sym (pair_of_type t) ∙ ap₂ from_class_type (eqb-true (class_of t) 7 c) (eqb-true (type_of t) 1 k) ∙ pair_of_type T.Cldt)

not_cldt : (t : MessageType) → (t ≡ T.Cldt → ⊥) → is_cldt t ≡ false
not_cldt t n = go (is_cldt t) refl
  where
    go : (b : Bool) → is_cldt t ≡ b → is_cldt t ≡ false
    go true e = absurd (n (cldt_only t e))
    go false e = e

-- The row of a CLDT with a first destination.
placed_row : (ps : List (List ℕ)) (t : MessageType) (d : Option Address) (a : Address) → t ≡ T.Cldt → d ≡ Some a → title_row ps a.title ≡ pick (is_cldt t) (destination_row ps d) (length ps)
placed_row ps t d a e f = rw (e, f) refl

-- A message that has a form: what it means, by its header, and by the places of its first destination and its first Data.
pub record Told (xs : List ℕ) : Type 0 where
  pub formed : Formed xs
  pub meant : Meaning
  pub known : meaning built_in xs ≡ accepted meant
  pub means : Means xs meant

pub told : (xs : List ℕ) (n : ℕ) → ((i : ℕ) → get_or xs i 0 < 256) → accepted n ≡ mapped length (settled built_in xs) → Told xs
told xs n o e =
    let (f, hf, l) = mapped_inv length (settled built_in xs) (sym e) in
    let formed : Formed xs = record { form = f; settles = hf } in
    let (w, h) = formed_means xs o formed in
    record { formed = formed; meant = w; known = h; means = means xs w h }

module _ {xs : List ℕ} (t : Told xs) where
  abbrev first : ℕ → Option Place
  first tag = first_with tag t.means.found

  pub told_header : {h : CommonHeader} → accepted h ≡ read_header xs → h.message_type ≡ t.meant.type
  told_header e = ap (λ (h : CommonHeader). h.message_type) (accepted_inj (e ∙ t.means.headed)) ∙ t.means.type

  pub no_header : {n : ℕ} {vs : List ℕ} → refused n vs ≡ read_header xs → ⊥
  no_header e = never (e ∙ t.means.headed)

  told_firsts : bounded xs (mapped firsts (places xs 8)) ≡ accepted (firsts t.means.found)
  told_firsts = rw (bounded-within xs (mapped firsts (places xs 8)) t.means.small, t.means.walked) refl

  pub told_first : {d : Option Place × Option Place} → accepted d ≡ bounded xs (mapped firsts (places xs 8)) → d ≡ firsts t.means.found
  told_first e = accepted_inj (e ∙ told_firsts)

  pub no_first : {n : ℕ} {vs : List ℕ} → refused n vs ≡ bounded xs (mapped firsts (places xs 8)) → ⊥
  no_first e = never (e ∙ told_firsts)

  -- The address at the place of the first destination.
  destination_read :
      (p : Place)
      → first 0x0103 ≡ Some p
      → (a : Address) × (read_address built_in (valued xs p).value ≡ accepted a) × (destination t.meant.parts ≡ Some a)
  unfolding read_address
  destination_read p e =
      let v = (valued xs p).value in
      let (a, h, k) : ReadAt xs (Some p) (destination t.meant.parts) = rw e at (means_destination t.means) in
      let small : length v ≤ most = omega (arith, length-take p.length (drop p.start xs), length-drop p.start xs, t.means.small) in
      (a, bounded-within v (address_in built_in v) small ∙ h, k)

  module _ (ps : List (List ℕ)) where
    abbrev rows : Outcome Address → Outcome ℕ
    rows = mapped (λ (a : Address). title_row ps a.title)

    pub no_row : {p : Place} {n : ℕ} {vs : List ℕ} → first 0x0103 ≡ Some p → refused n vs ≡ rows (read_address built_in (valued xs p).value) → ⊥
    no_row {p} e r = let (a, h, k) = destination_read p e in never (r ∙ ap rows h)

    -- The row: a CLDT's by its first destination, else the unplaced row.
    pub cldt_row :
        {p : Place} {r : ℕ}
        → t.meant.type ≡ T.Cldt
        → first 0x0103 ≡ Some p
        → accepted r ≡ rows (read_address built_in (valued xs p).value)
        → r ≡ (meant ps t.meant).row
    cldt_row {p} y e g =
        let (a, h, k) = destination_read p e in
        accepted_inj (g ∙ ap rows h) ∙ placed_row ps t.meant.type (destination t.meant.parts) a y k

    pub none_row : first 0x0103 ≡ None → length ps ≡ (meant ps t.meant).row
    none_row e =
        let k : destination t.meant.parts ≡ None = rw e at (means_destination t.means) in
        rw k (on (is_cldt t.meant.type))
      where
        on : (b : Bool) → length ps ≡ pick b (length ps) (length ps)
        on true = refl
        on false = refl

    pub other_row : (t.meant.type ≡ T.Cldt → ⊥) → length ps ≡ (meant ps t.meant).row
    other_row n = rw (not_cldt t.meant.type n) refl

    -- What it adds.
    pub told_gain : {r : ℕ} {d : Option Place} → r ≡ (meant ps t.meant).row → d ≡ first 0x010B → accepted (gain r (length_at d)) ≡ after (settled built_in xs) (λ form. mapped (meant ps) (meaning built_in xs))
    told_gain r d = rw (t.formed.settles, t.known) (ap accepted (ap₂ gain r (ap length_at d ∙ means_data t.means)))

-- What was answered, or else this.
pub unwrapped : {A : Type 0} (d : A) (r : Result A Refusal) → result_unwrap_or r d ≡ or_else d (outcome_of r)
unwrapped d (Ok a) = refl
unwrapped d (Err r) = refl
