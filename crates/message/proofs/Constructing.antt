-- Messages of parts: the parameters that the parts are, in order.
use Prim.Native.Nat.{ℕ, ◌≤◌}
use mathlib.Core.Path.{◌≡◌, refl, sym, ap, ◌∙◌}
use mathlib.Core.List.{List, [], ◌∷◌, ◌++◌, append-nil}
use native.Mathlib.Omega.{arith}
use denote.Bor.{Bor}
use lib.ListN.{length}
use Rattle.std.specs.Prelude.{Option, None, Some, option_map, option_copied}
use Rattle.bcd.specs.Outcome.{Outcome, accepted, refused, after, mapped, each, deliver}
use Rattle.parameter.specs.Parameter.{Param, most_value, encode_param, writable, param}
use Rattle.parameter.specs.Table.{Table}
use Rattle.parameter.specs.declared.table.Records.{Records}
use Rattle.parameter.proofs.Encoding.{encode_within}
use Rattle.address.specs.declared.SuaAddress.{SuaAddress}
use Rattle.address.specs.Given.{encode_address_as}
use Rattle.address.proofs.Encoding.{given-known}
use Rattle.pieces.specs.Parts.{number, octet, given, affected, given_written, run_written}
use Rattle.pieces.specs.declared.Part.{Part}
use Rattle.pieces.specs.declared.Part.TheVariants as P
use Rattle.pieces.proofs.Running.{each_joined}
use Rattle.message.specs.declared.types.MessageType.{MessageType}
use Rattle.message.specs.Message.{framed}
use Rattle.message.specs.declared.types.MessageType.TheVariants as M
use Rattle.message.specs.Constructors.{written, cldt, cldr}
use Rattle.message.specs.Steps.Parts.{made}
use Rattle.message.specs.Types.{sua_kinds}
use Rattle.message.proofs.Listing.{written-framed}

-- Parts that are parameters, and a part that is parameters.
pub record Are (parts : List (Option Part)) (ps : List Param) : Type 0 where
  pub run : run_written parts ≡ each encode_param ps

pub record Is (part : Option Part) (ps : List Param) : Type 0 where
  pub one : given_written part ≡ each encode_param ps

made_written : (m : MessageType) {parts : List (Option Part)} {ps : List Param} → Are parts ps → made m parts ≡ written m ps
made_written m {parts} {ps} e = ap (λ (o : Outcome (List ℕ)). after o (λ os. writable (framed m os))) e.run ∙ sym (written-framed sua_kinds m (accepted ps))

-- One behind the other.
alone : (o : Outcome (List ℕ)) → after o (λ us. mapped (λ vs. us ++ vs) (accepted [])) ≡ o
alone (accepted us) = ap accepted (append-nil us)
alone (refused n vs) = refl

pub joined : {part : Option Part} {parts : List (Option Part)} {xs ys : List Param} → Is part xs → Are parts ys → Are (part ∷ parts) (xs ++ ys)
joined {part} {parts} {xs} {ys} e f = record { run = rw (e.one, f.run) (sym (each_joined encode_param xs ys)) }

pub last : {part : Option Part} {xs : List Param} → Is part xs → Are (part ∷ []) xs
last {part} {xs} e = record { run = alone (given_written part) ∙ e.one }

-- Each kind of part.
one_param : (p : Param) → encode_param p ≡ each encode_param (p ∷ [])
one_param p = sym (alone (encode_param p))

pub number_is : (tag n : ℕ) → Is (Some (P.Number tag n)) (number tag n ∷ [])
number_is tag n = record { one = one_param (number tag n) }

pub codes-are : (codes : Bor (List ℕ)) → Is (Some (P.Codes codes)) (affected codes.now ∷ [])
codes-are codes = record { one = one_param (affected codes.now) }

pub octets-are : (tag : ℕ) (octets : Bor (List ℕ)) → Is (Some (P.Octets tag octets)) (param tag octets.now ∷ [])
octets-are tag octets = record { one = one_param (param tag octets.now) }

pub number_given : (tag : ℕ) (n : Option ℕ) {part : Option Part} → part ≡ option_map (P.Number tag) n → Is part (given (number tag) n)
number_given tag n e = record { one = ap given_written e ∙ go n }
  where
    go : (n : Option ℕ) → given_written (option_map (P.Number tag) n) ≡ each encode_param (given (number tag) n)
    go None = refl
    go (Some n) = one_param (number tag n)

pub octet_given : (tag : ℕ) (n : Option ℕ) {part : Option Part} → part ≡ option_map (P.Octet tag) n → Is part (given (octet tag) n)
octet_given tag n e = record { one = ap given_written e ∙ go n }
  where
    go : (n : Option ℕ) → given_written (option_map (P.Octet tag) n) ≡ each encode_param (given (octet tag) n)
    go None = refl
    go (Some n) = one_param (octet tag n)

pub octets_given : (tag : ℕ) (o : Option (Bor (List ℕ))) {part : Option Part} → part ≡ option_map (P.Octets tag) o → Is part (given (param tag) (option_copied o))
octets_given tag o e = record { one = ap given_written e ∙ go o }
  where
    go : (o : Option (Bor (List ℕ))) → given_written (option_map (P.Octets tag) o) ≡ each encode_param (given (param tag) (option_copied o))
    go None = refl
    go (Some o) = one_param (param tag o.now)

-- What is delivered of a message of parts.
pub told : (m : MessageType) {parts : List (Option Part)} {ps : List Param} (out : List ℕ) → Are parts ps → deliver (made m parts) out ≡ deliver (written m ps) out
told m out e = ap (λ (o : Outcome (List ℕ)). deliver o out) (made_written m e)

-- A value that is written is within what a parameter's length can tell.
abbrev Small : Outcome (List ℕ) → Type 0
Small o = (w : List ℕ) → o ≡ accepted w → length w ≤ most_value

address_small : (tag : ℕ) (a : SuaAddress) (values : List ℕ) (t : Table) → Small (encode_address_as tag a values t)
address_small tag a values t w e = (given-known tag a values t (length w) (sym (ap (mapped length) e))).fits

-- Two parameters, two values that are written, and what follows them.
module _ (m : MessageType) (x y : Param) (sized : length x.value ≤ most_value) (sized' : length y.value ≤ most_value) (s d : Outcome (List ℕ)) (small : Small s) (small' : Small d) where
  addressed :
      (a b e f : Option Part) (parts : List (Option Part)) (ps : List Param)
      → given_written a ≡ encode_param x
      → given_written b ≡ encode_param y
      → given_written e ≡ after s (λ w. encode_param (param 0x0102 w))
      → given_written f ≡ after d (λ v. encode_param (param 0x0103 v))
      → Are parts ps
      → made m (a ∷ b ∷ e ∷ f ∷ parts) ≡ after s (λ w. after d (λ v. written m (x ∷ y ∷ param 0x0102 w ∷ param 0x0103 v ∷ ps)))
  addressed a b e f parts ps ha hb he hf hp = go s d refl refl
    where
      out_of : Outcome (List ℕ) → Outcome (List ℕ)
      out_of o = after o (λ os. writable (framed m os))

      front : (rest : Outcome (List ℕ)) → Outcome (List ℕ)
      front rest = after (encode_param x) (λ us. mapped (λ vs. us ++ vs) (after (encode_param y) (λ us. mapped (λ vs. us ++ vs) rest)))

      whole : run_written (a ∷ b ∷ e ∷ f ∷ parts) ≡ front (run_written (e ∷ f ∷ parts))
      whole = rw (ha, hb) refl

      stops : (n : ℕ) (vs : List ℕ) → front (refused n vs) ≡ refused n vs
      stops n vs = rw (encode_within x sized, encode_within y sized') refl

      go :
          (o p : Outcome (List ℕ))
          → s ≡ o
          → d ≡ p
          → made m (a ∷ b ∷ e ∷ f ∷ parts) ≡ after o (λ w. after p (λ v. written m (x ∷ y ∷ param 0x0102 w ∷ param 0x0103 v ∷ ps)))
      go (refused n vs) p hs hd =
          let first : run_written (e ∷ f ∷ parts) ≡ refused n vs = rw (he, hs) refl in
          ap out_of (whole ∙ ap front first ∙ stops n vs)
      go (accepted w) (refused n vs) hs hd =
          let first : given_written e ≡ encode_param (param 0x0102 w) = he ∙ ap (λ (o : Outcome (List ℕ)). after o (λ w. encode_param (param 0x0102 w))) hs in
          let both : run_written (e ∷ f ∷ parts) ≡ refused n vs = rw (first, encode_within (param 0x0102 w) (small w hs), hf, hd) refl in
          ap out_of (whole ∙ ap front both ∙ stops n vs)
      go (accepted w) (accepted v) hs hd =
          let first : Is e (param 0x0102 w ∷ []) = record { one = he ∙ ap (λ (o : Outcome (List ℕ)). after o (λ w. encode_param (param 0x0102 w))) hs ∙ one_param (param 0x0102 w) } in
          let second : Is f (param 0x0103 v ∷ []) = record { one = hf ∙ ap (λ (o : Outcome (List ℕ)). after o (λ v. encode_param (param 0x0103 v))) hd ∙ one_param (param 0x0103 v) } in
          made_written m
          (joined {part = a} {parts = b ∷ e ∷ f ∷ parts} {xs = x ∷ []} {ys = y ∷ param 0x0102 w ∷ param 0x0103 v ∷ ps} (record { one = ha ∙ one_param x })
          (joined {part = b} {parts = e ∷ f ∷ parts} {xs = y ∷ []} {ys = param 0x0102 w ∷ param 0x0103 v ∷ ps} (record { one = hb ∙ one_param y })
          (joined {part = e} {parts = f ∷ parts} {xs = param 0x0102 w ∷ []} {ys = param 0x0103 v ∷ ps} first
          (joined {part = f} {parts = parts} {xs = param 0x0103 v ∷ []} {ys = ps} second hp))))

-- The two connectionless constructors, by their parts.
module _ (context : ℕ) (source : Bor SuaAddress) (so : Records) (destination : Bor SuaAddress) (to : Records) {part : Option Part} where
  pub cldt-parts :
      (class sequence : ℕ) (hop : Option ℕ) (octets : Bor (List ℕ))
      → part ≡ option_map (P.Octet 0x0101) hop
      → made M.Cldt
      (Some (P.Number 0x0006 context) ∷ Some (P.Octet 0x0115 class) ∷ Some (P.Address 0x0102 source so) ∷ Some (P.Address 0x0103 destination to)
      ∷ Some (P.Number 0x0116 sequence) ∷ part ∷ Some (P.Octets 0x010B octets) ∷ [])
      ≡ cldt context class source.now so.values.now so.rows.now destination.now to.values.now to.rows.now sequence hop octets.now
  cldt-parts class sequence hop octets e =
      addressed M.Cldt (number 0x0006 context) (octet 0x0115 class) (omega arith) (omega arith)
      (encode_address_as 0x0102 source.now so.values.now so.rows.now) (encode_address_as 0x0103 destination.now to.values.now to.rows.now)
      (address_small 0x0102 source.now so.values.now so.rows.now) (address_small 0x0103 destination.now to.values.now to.rows.now)
      (Some (P.Number 0x0006 context)) (Some (P.Octet 0x0115 class)) (Some (P.Address 0x0102 source so)) (Some (P.Address 0x0103 destination to))
      (Some (P.Number 0x0116 sequence) ∷ part ∷ Some (P.Octets 0x010B octets) ∷ [])
      (number 0x0116 sequence ∷ given (octet 0x0101) hop ++ param 0x010B octets.now ∷ []) refl refl refl refl
      (joined (number_is 0x0116 sequence) (joined (octet_given 0x0101 hop e) (last (octets-are 0x010B octets))))

  pub cldr-parts :
      (cause_type cause_value : ℕ) (octets : Option (Bor (List ℕ))) {first : Option Part} (cause : Bor (List ℕ))
      → first ≡ option_map (P.Octets 0x0106) (Some cause)
      → cause.now ≡ 0 ∷ 0 ∷ cause_type ∷ cause_value ∷ []
      → part ≡ option_map (P.Octets 0x010B) octets
      → made M.Cldr (Some (P.Number 0x0006 context) ∷ first ∷ Some (P.Address 0x0102 source so) ∷ Some (P.Address 0x0103 destination to) ∷ part ∷ [])
      ≡ cldr context cause_type cause_value source.now so.values.now so.rows.now destination.now to.values.now to.rows.now (option_copied octets)
  cldr-parts cause_type cause_value octets {first} cause f is e =
      addressed M.Cldr (number 0x0006 context) (param 0x0106 (0 ∷ 0 ∷ cause_type ∷ cause_value ∷ [])) (omega arith) (omega arith)
      (encode_address_as 0x0102 source.now so.values.now so.rows.now) (encode_address_as 0x0103 destination.now to.values.now to.rows.now)
      (address_small 0x0102 source.now so.values.now so.rows.now) (address_small 0x0103 destination.now to.values.now to.rows.now)
      (Some (P.Number 0x0006 context)) first (Some (P.Address 0x0102 source so)) (Some (P.Address 0x0103 destination to))
      (part ∷ []) (given (param 0x010B) (option_copied octets)) refl (ap given_written f ∙ ap (λ (v : List ℕ). encode_param (param 0x0106 v)) is) refl refl
      (last (octets_given 0x010B octets e))
