-- What a constructor wrote, read back: its type and parameters, and the arguments of a CLDT by name.
use Prim.Native.Nat.{ℕ}
use mathlib.Core.Path.{◌≡◌, refl, sym, ap, ◌∙◌}
use mathlib.Core.Bool.{Bool, true, false}
use mathlib.Core.Logic.{⊎_elim}
use Rattle.std.specs.Prelude.{Option, None, Some}
use mathlib.Core.List.{List, [], ◌∷◌, ◌++◌, map}
use native.Mathlib.Omega.{arith}
use lib.Dec.{eqb}
use Rattle.bcd.specs.Outcome.{Outcome, accepted, refused, pick, after, mapped, All, Octets}
use Rattle.bcd.specs.Digits.{built_in}
use Rattle.bcd.proofs.Outcomes.{accepted_inj, never, after_inv}
use Rattle.parameter.specs.declared.Place.{Place}
use Rattle.parameter.specs.Parameter.{Param, four_in, param}
use Rattle.parameter.specs.Walk.{valued}
use Rattle.parameter.specs.Table.{Table, records, first_with, find_param}
use Rattle.parameter.proofs.Records.{held}
use lib.ListN.{take}
use Rattle.address.specs.Address.{Address, read_address}
use Rattle.address.specs.Records.{address_of}
use Rattle.address.specs.declared.SuaAddress.{SuaAddress}
use Rattle.address.specs.Given.{encode_address_as}
use Rattle.message.specs.declared.SuaMessage.{SuaMessage}
use Rattle.message.specs.declared.types.MessageType.{MessageType}
use Rattle.message.specs.declared.types.MessageType.TheVariants as M
use Rattle.message.specs.Message.{Message, read_message}
use Rattle.message.specs.Listing.{Listed, list_message}
use Rattle.message.specs.Accessors.{of_four, read_at, first_read, fourth, shown, address_found, source_address, destination_address}
use Rattle.message.specs.Back.{fold_address, Other, ReadsWith, CldtBack, Shows}
use Rattle.pieces.specs.Parts.{number, octet, given}
use Rattle.message.specs.Constructors.{written, cldt}
use Rattle.message.proofs.Messages.{written_reads}
use Rattle.message.proofs.Standing.{message-listed}
use Rattle.message.proofs.AddressStands.{accessor_shows}
use Rattle.message.proofs.GivenBack.{four_back, given_back}

-- A message without addresses is read back as its type and parameters.
pub constructed_reads : (m : MessageType) (ps : List Param) (os : List ℕ) → written m ps ≡ accepted os → read_message os ≡ accepted (record { type = m; params = ps })
constructed_reads m ps os e = written_reads (record { type = m; params = ps }) os e

pub addressed_reads :
    (m : MessageType) (ps : (source destination : List ℕ) → List Param) (s d : Outcome (List ℕ)) (os : List ℕ)
    → after s (λ source. after d (λ destination. written m (ps source destination))) ≡ accepted os
    → ReadsWith m ps s d os
addressed_reads m ps s d os e =
    let (w, hw, e1) = after_inv s _ e in
    let (v, hv, e2) = after_inv d _ e1 in
    record { source = w; destination = v; source_written = hw; destination-written = hv; reads = constructed_reads m (ps w v) os e2 }

-- A message that was read into a table: the records are its parameters.
pub listed-params :
    (xs : List ℕ) (m : Message) (t : Table) (r : SuaMessage)
    → read_message xs ≡ accepted m
    → (list_message xs t).answer ≡ accepted r
    → records xs (list_message xs t).table r.count ≡ accepted m.params
listed-params xs m t r e a =
    ⊎_elim
    (λ stands. ap (records xs (list_message xs t).table) (ap (λ (r : SuaMessage). r.count) (accepted_inj (sym a ∙ stands.answer))) ∙ stands.params)
    (λ small. absurd (never (sym (ap (λ (l : Listed). l.answer) small) ∙ a)))
    (message-listed xs m t e)

-- The first of a list's parameters with a tag, read.
abbrev pub read_first : {A : Type 0} → (List ℕ → Option A) → (tag : ℕ) → List Param → Option A
read_first read tag [] = None
read_first read tag (p ∷ ps) = pick (eqb p.tag tag) (read p.value) (read_first read tag ps)

row_first : {A : Type 0} (read : List ℕ → Option A) (tag : ℕ) (values : List ℕ) (ps : List Place) → read_at read values (first_with tag ps) ≡ read_first read tag (map (valued values) ps)
row_first read tag values [] = refl
row_first {A} read tag values (p ∷ ps) = go (eqb p.tag tag) (row_first read tag values ps)
  where
    go :
        (b : Bool)
        → read_at read values (first_with tag ps) ≡ read_first read tag (map (valued values) ps)
        → read_at read values (pick b (Some p) (first_with tag ps)) ≡ pick b (read (valued values p).value) (read_first read tag (map (valued values) ps))
    go true e = refl
    go false e = e

pub first_of :
    {A : Type 0} (read : List ℕ → Option A) (tag : ℕ) (values : List ℕ) (t : Table) (count : ℕ) (ps : List Param)
    → records values t count ≡ accepted ps
    → first_read read tag values t count ≡ accepted (read_first read tag ps)
unfolding first_read find_param
first_of read tag values t count ps e =
    let k = held values t count ps e in
    let rs = take count t in
    let same : map (valued values) rs ≡ ps = accepted_inj (sym k.known ∙ e) in
    ap (λ (o : Outcome (List Param)). mapped (read_at read values) (after o (λ ps. accepted (first_with tag rs)))) e
    ∙ ap accepted (row_first read tag values rs ∙ ap (read_first read tag) same)

-- What a first parameter shows is its value.
shown-value : (values : List ℕ) (o : Outcome (Option Place)) (v : List ℕ) → mapped (read_at Some values) o ≡ accepted (Some v) → shown values o ≡ v
shown-value values (accepted (Some p)) v e = cc
shown-value values (accepted None) v e = let z : ◌≡◌ {A = ℕ} 0 1 = cc in absurd (omega arith)
shown-value values (refused n vs) v e = let z : ◌≡◌ {A = ℕ} 0 1 = cc in absurd (omega arith)

-- An address that the first parameter with a tag reads as is what the accessor shows.
shown-address :
    (tag : ℕ) (values : List ℕ) (u : Table) (count : ℕ) (a : Address) (held : Table)
    → Octets values
    → first_read (λ v. Some (read_address built_in v)) tag values u count ≡ accepted (Some (accepted a))
    → Shows values a held (address_found tag values (find_param values u count tag) held)
unfolding first_read
shown-address tag values u count a held o e = go (find_param values u count tag) refl e
  where
    go :
        (f : Outcome (Option Place))
        → find_param values u count tag ≡ f
        → mapped (read_at (λ v. Some (read_address built_in v)) values) f ≡ accepted (Some (accepted a))
        → Shows values a held (address_found tag values (find_param values u count tag) held)
    go (accepted (Some p)) h e = accessor_shows tag values u count p a held o h (cc)
    go (accepted None) h e = let z : ◌≡◌ {A = ℕ} 0 1 = cc in absurd (omega arith)
    go (refused n vs) h e = let z : ◌≡◌ {A = ℕ} 0 1 = cc in absurd (omega arith)

module _ (context class sequence : ℕ) (hop : Option ℕ) (octets : List ℕ) where
  abbrev params : (s d : List ℕ) → List Param
  params s d =
      number 0x0006 context ∷ octet 0x0115 class ∷ param 0x0102 s ∷ param 0x0103 d ∷ number 0x0116 sequence
      ∷ given (octet 0x0101) hop ++ param 0x010B octets ∷ []

  named :
      (s d values : List ℕ) (t : Table) (count : ℕ)
      → records values t count ≡ accepted (params s d)
      → CldtBack context class s d sequence hop octets values t count
  unfolding first_read
  named s d values t count e = record {
    context_back = first_of (of_four four_in) 0x0006 values t count (params s d) e ∙ ap (λ (n : ℕ). accepted (Some n)) (four_back context);
    class_back = first_of (of_four fourth) 0x0115 values t count (params s d) e;
    source_back = first_of Some 0x0102 values t count (params s d) e;
    destination_back = first_of Some 0x0103 values t count (params s d) e;
    sequence_back = first_of (of_four four_in) 0x0116 values t count (params s d) e ∙ ap (λ (n : ℕ). accepted (Some n)) (four_back sequence);
    hop_back = first_of (of_four fourth) 0x0101 values t count (params s d) e ∙ ap accepted (hops hop);
    data_back = shown-value values (find_param values t count 0x010B) octets (first_of Some 0x010B values t count (params s d) e ∙ ap accepted (datas hop));
  }
    where
      hops : (n : Option ℕ) → read_first (of_four fourth) 0x0101 (given (octet 0x0101) n ++ param 0x010B octets ∷ []) ≡ n
      hops None = refl
      hops (Some n) = refl

      datas : (n : Option ℕ) → read_first Some 0x010B (given (octet 0x0101) n ++ param 0x010B octets ∷ []) ≡ Some octets
      datas None = refl
      datas (Some n) = refl

  -- What `cldt` wrote, read into any table with room: the accessors give the arguments back, and the addresses' octets.
  pub cldt_back :
      (source : SuaAddress) (sv : List ℕ) (st : Table) (destination : SuaAddress) (dv : List ℕ) (dt : Table) (os : List ℕ) (t : Table) (r : SuaMessage)
      → cldt context class source sv st destination dv dt sequence hop octets ≡ accepted os
      → (list_message os t).answer ≡ accepted r
      → (s : List ℕ) × (d : List ℕ)
      × (encode_address_as 0x0102 source sv st ≡ accepted s)
      × (encode_address_as 0x0103 destination dv dt ≡ accepted d)
      × CldtBack context class s d sequence hop octets os (list_message os t).table r.count
  cldt_back source sv st destination dv dt os t r e a =
      let k = addressed_reads M.Cldt params (encode_address_as 0x0102 source sv st) (encode_address_as 0x0103 destination dv dt) os e in (
        k.source,
        k.destination,
        k.source_written,
        k.destination-written,
        named k.source k.destination os (list_message os t).table r.count (listed-params os _ t r k.reads a),
      )

  -- Its addresses, read from the parameters that the table has, are those that were given; capitals are read as small letters.
  addresses_read :
      (source : SuaAddress) (sv : List ℕ) (st : Table) (destination : SuaAddress) (dv : List ℕ) (dt : Table) (os : List ℕ) (t : Table) (r : SuaMessage)
      → cldt context class source sv st destination dv dt sequence hop octets ≡ accepted os
      → (list_message os t).answer ≡ accepted r
      → (so to : List Param)
      → records sv st source.other_count ≡ accepted so
      → records dv dt destination.other_count ≡ accepted to
      → All Other so
      → All Other to
      → (first_read (λ v. Some (read_address built_in v)) 0x0102 os (list_message os t).table r.count ≡ accepted (Some (accepted (fold_address (address_of source so)))))
      × (first_read (λ v. Some (read_address built_in v)) 0x0103 os (list_message os t).table r.count ≡ accepted (Some (accepted (fold_address (address_of destination to)))))
  addresses_read source sv st destination dv dt os t r e a so to hs hd ks kd =
      let k = addressed_reads M.Cldt params (encode_address_as 0x0102 source sv st) (encode_address_as 0x0103 destination dv dt) os e in
      let ps = params k.source k.destination in
      let rs = listed-params os _ t r k.reads a in (
        first_of (λ v. Some (read_address built_in v)) 0x0102 os (list_message os t).table r.count ps rs
            ∙ ap (λ (o : Outcome Address). accepted (Some o)) (given_back 0x0102 source sv st so k.source hs ks k.source_written),
        first_of (λ v. Some (read_address built_in v)) 0x0103 os (list_message os t).table r.count ps rs
            ∙ ap (λ (o : Outcome Address). accepted (Some o)) (given_back 0x0103 destination dv dt to k.destination hd kd k.destination-written),
      )

  -- The two address accessors give the addresses back, into any tables: the records stand for those that were given.
  pub cldt_addresses_back :
      (source : SuaAddress) (sv : List ℕ) (st : Table) (destination : SuaAddress) (dv : List ℕ) (dt : Table) (os : List ℕ) (t : Table) (r : SuaMessage)
      → Octets os
      → cldt context class source sv st destination dv dt sequence hop octets ≡ accepted os
      → (list_message os t).answer ≡ accepted r
      → (so to : List Param)
      → records sv st source.other_count ≡ accepted so
      → records dv dt destination.other_count ≡ accepted to
      → All Other so
      → All Other to
      → (held : Table)
      → Shows os (fold_address (address_of source so)) held (source_address os (list_message os t).table r.count held)
      × Shows os (fold_address (address_of destination to)) held (destination_address os (list_message os t).table r.count held)
  cldt_addresses_back source sv st destination dv dt os t r o e a so to hs hd ks kd held =
      let (x, y) = addresses_read source sv st destination dv dt os t r e a so to hs hd ks kd in
      (shown-address 0x0102 os _ _ _ held o x, shown-address 0x0103 os _ _ _ held o y)
