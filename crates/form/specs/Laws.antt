-- SUA as a family of messages, and the laws that it keeps: what its implementation cites. Nothing here needs to be believed.
use Prim.Native.Nat.{ℕ, ◌≤◌}
use mathlib.Core.Path.{◌≡◌, refl, sym, ap, ap₂, ◌∙◌, subst, subst₂}
use mathlib.Core.Bool.{Bool, true, false}
use mathlib.Core.List.{List, [], ◌∷◌, ◌++◌, append-nil}
use native.Mathlib.Omega.{arith}
use lib.Dec.{leb}
use lib.ListN.{length}
use borrow.Author.Tests.{leb-true}
use Rattle.bcd.specs.Outcome.{Outcome, accepted, refused, pick, after, mapped, each}
use Rattle.bcd.specs.Digits.{Alphabet, Lawful, built_in}
use Rattle.bcd.proofs.Outcomes.{accepted_inj, after_inv, mapped_inv, demand_inv, bounded-within, each-cons, each_inv}
use Rattle.parameter.specs.Parameter.{Param, param, two, most_value, param_octets, run_octets, run_length, encode_param}
use Rattle.parameter.proofs.Encoding.{encode_within}
use Rattle.address.specs.Address.{Address, address_in, read_address, write_address, rewrite_address, sub_param, pieces, indicator}
use Rattle.address.specs.Again.{parameter_again}
use Rattle.address.proofs.Rewriting as Again
use Rattle.address.proofs.Unknown.{rewritten_same}
use Rattle.form.specs.Family.{Family, rewritten, Written, LawfulFamily, Puts}
use Rattle.form.specs.Form.{is_address, is_hop_counter, settled_param, Part, raw, address, part_in}

-- How a part is written.
abbrev pub write_part : Alphabet → Part → Outcome (List Param)
write_part A (raw p) = accepted (p ∷ [])
write_part A (address tag a) = mapped (λ w. record { tag = tag; value = w } ∷ []) (write_address A tag a)

abbrev pub sua : Alphabet → Family Part
sua A = record { mean = part_in A; write = write_part A }

-- A parameter with this tag.
abbrev tagged : ℕ → List ℕ → List Param
tagged tag w = record { tag = tag; value = w } ∷ []

module _ (A : Alphabet) where
  -- What is settled of a parameter is its meaning written again.
  pub param-rewritten : (p : Param) → settled_param A p ≡ rewritten (sua A) p
  unfolding settled_param part_in rewrite_address
  param-rewritten p = on (is_address p.tag) (is_hop_counter p.tag) (address_in A p.value)
    where
      one : (o : Outcome (List ℕ)) → mapped (tagged p.tag) o ≡ after (mapped (tagged p.tag) o) (λ us. accepted (us ++ []))
      one (accepted w) = refl
      one (refused n vs) = refl

      on :
          (t c : Bool) (o : Outcome Address)
          → pick t (mapped (tagged p.tag) (after o (write_address A p.tag))) (accepted (pick c [] (p ∷ [])))
          ≡ after (pick t (mapped (λ a. address p.tag a ∷ []) o) (accepted (pick c [] (raw p ∷ [])))) (each (write_part A))
      on true c (accepted a) = one (write_address A p.tag a)
      on true c (refused n vs) = refl
      on false true o = refl
      on false false o = refl

  mean_other : (p : Param) (c : Bool) → is_address p.tag ≡ false → is_hop_counter p.tag ≡ c → part_in A p ≡ accepted (pick c [] (raw p ∷ []))
  unfolding part_in
  mean_other p c h k = rw (h, k)

  mean_address :
      (tag : ℕ) (w : List ℕ) (a : Address)
      → is_address tag ≡ true
      → address_in A w ≡ accepted a
      → part_in A (record { tag = tag; value = w }) ≡ accepted (address tag a ∷ [])
  unfolding part_in
  mean_address tag w a h e = rw (h, e)

  -- What it tells that an address was written as a parameter.
  address-written :
      (tag : ℕ) (a : Address) (qs : List Param)
      → each (write_part A) (address tag a ∷ []) ≡ accepted qs
      → (w : List ℕ) × (write_address A tag a ≡ accepted w) × (tagged tag w ≡ qs)
  address-written tag a qs e =
      let (us, vs, hu, hv, i) = each_inv (write_part A) (address tag a) [] qs e in
      let (w, hw, ew) = mapped_inv (tagged tag) (write_address A tag a) hu in
      (w, hw, ap₂ ◌++◌ ew (accepted_inj hv) ∙ i)

  -- From an address that was read, what is written fits, takes no more room and reads as that address; a hop counter is
  -- not written; any other parameter is written as it is.
  pub sua_lawful : Lawful A → LawfulFamily (sua A)
  unfolding run_length part_in
  sua_lawful L p ms qs f e d = on (is_address p.tag) (is_hop_counter p.tag) refl refl
    where
      on : (t c : Bool) → is_address p.tag ≡ t → is_hop_counter p.tag ≡ c → Written (sua A) p ms qs
      on true c h k =
          let (a, ha, m) = mapped_inv (λ a. address p.tag a ∷ []) (address_in A p.value) (rw h at e) in
          let (w, hw, q) = address-written p.tag a qs (ap (each (write_part A)) m ∙ d) in
          let r = Again.rewritten A L p.tag p.value w a f.octets ha hw in
          let new : Param = record { tag = p.tag; value = w } in
          subst₂ (Written (sua A) p) m q (record {
            fits = (record { tag = f.tag; size = r.size; octets = r.octets }, tt);
            room = omega (arith, r.room);
            reads = each-cons (part_in A) new [] (address p.tag a ∷ []) [] (mean_address p.tag w a h r.reads) refl;
          })
      on false true h k =
          let m : [] ≡ ms = accepted_inj (sym (mean_other p true h k) ∙ e) in
          let q : [] ≡ qs = accepted_inj (ap (each (write_part A)) m ∙ d) in
          subst₂ (Written (sua A) p) m q (record { fits = tt; room = omega arith; reads = refl })
      on false false h k =
          let m : raw p ∷ [] ≡ ms = accepted_inj (sym (mean_other p false h k) ∙ e) in
          let q : p ∷ [] ≡ qs = accepted_inj (ap (each (write_part A)) m ∙ d) in
          subst₂ (Written (sua A) p) m q (record {
            fits = (f, tt);
            room = omega arith;
            reads = each-cons (part_in A) p [] (raw p ∷ []) [] (mean_other p false h k) refl;
          })

-- An address value that a parameter holds is read the same with and without 12.
pub rewrite_read : (tag : ℕ) (v : List ℕ) → length v ≤ most_value → after (read_address built_in v) (write_address built_in tag) ≡ rewrite_address built_in tag v
unfolding read_address rewrite_address
rewrite_read tag v h = ap (λ o. after o (write_address built_in tag)) (bounded-within v (address_in built_in v) (omega arith))

-- An address written again is within what a length can tell.
pub rewrite_small : (tag : ℕ) (v w : List ℕ) → rewrite_address built_in tag v ≡ accepted w → length w ≤ most_value
unfolding rewrite_address write_address
rewrite_small tag v w e =
    let (a, ha, hw) = after_inv (address_in built_in v) _ e in
    let (ps, hp, ho) = after_inv (each (sub_param built_in) (pieces a)) _ hw in
    let (os, he, hs) = after_inv (each encode_param ps) _ ho in
    let (t, same) = demand_inv (leb (length (two a.routing ++ two (indicator a) ++ os)) most_value) 10 _ _ hs in
    subst (λ (w : List ℕ). length w ≤ most_value) (accepted_inj same) (leb-true _ _ t)

-- What is put in a form for a parameter: an address without a check of its digits, no hop counter, any other as it is.
unfoldable pub sua_puts : Param → Outcome (List ℕ)
sua_puts p = pick (is_address p.tag) (parameter_again p.tag p.value) (pick (is_hop_counter p.tag) (accepted []) (encode_param p))

pub sua_put_there : Puts (sua built_in) sua_puts
unfolding sua_puts settled_param parameter_again run_octets
sua_put_there p qs f e = on (is_address p.tag) (is_hop_counter p.tag) refl refl (param-rewritten built_in p ∙ e)
  where
    one : (q : Param) → accepted (param_octets q) ≡ accepted (run_octets (q ∷ []))
    one q = ap accepted (sym (append-nil (param_octets q)))

    Put : List Param → Type 0
    Put qs = sua_puts p ≡ accepted (run_octets qs)

    on :
        (t c : Bool)
        → is_address p.tag ≡ t
        → is_hop_counter p.tag ≡ c
        → settled_param built_in p ≡ accepted qs
        → Put qs
    on true c h k e =
        let (w, hw, q) = mapped_inv (tagged p.tag) (rewrite_address built_in p.tag p.value) (rw h at e) in
        let again = rewritten_same p.tag p.value w (rewrite_read p.tag p.value f.size ∙ hw) in
        subst Put q (rw (h, again) (encode_within (param p.tag w) (rewrite_small p.tag p.value w hw) ∙ one (param p.tag w)))
    on false true h k e = subst Put (accepted_inj (rw (h, k) at e)) (rw (h, k) refl)
    on false false h k e = subst Put (accepted_inj (rw (h, k) at e)) (rw (h, k) (encode_within p f.size ∙ one p))
