-- The parameters of octets that mean something and have no hop counter, beside the parts of the meaning.
use Prim.Native.Nat.{ℕ}
use mathlib.Core.Path.{◌≡◌, refl, ap, ◌∙◌, subst}
use mathlib.Core.Bool.{Bool, true, false}
use mathlib.Core.List.{List, [], ◌∷◌, ◌++◌}
use native.Mathlib.Omega.{arith}
use Rattle.bcd.specs.Outcome.{accepted, each, All}
use Rattle.bcd.specs.Digits.{built_in}
use Rattle.bcd.proofs.Outcomes.{accepted_inj, mapped_inv, each_inv, bounded-within}
use Rattle.parameter.specs.Parameter.{Param, Fits}
use Rattle.address.specs.Address.{Address, address_in, read_address}
use Rattle.address.proofs.Standing.{address-listed}
use Rattle.message.specs.Message.{Message, read_message}
use Rattle.form.specs.Family.{meaning_by}
use Rattle.form.specs.Form.{is_address, Part, raw, address, part_in, Meaning, meaning}
use Rattle.form.specs.HopCounters.{Kept}
use Rattle.form.specs.Standing.{AllStand}

-- a value that a parameter holds is read the same with and without 12
within : (p : Param) → Fits p → read_address built_in p.value ≡ address_in built_in p.value
unfolding read_address
within p f = bounded-within p.value (address_in built_in p.value) (omega (arith, f.size))

stand : (ps : List Param) (xs : List Part) → All Fits ps → All Kept ps → each (part_in built_in) ps ≡ accepted xs → AllStand ps xs
unfolding part_in
stand [] xs fs ks e = subst (AllStand []) (accepted_inj e) tt
stand (p ∷ ps) xs fs ks e =
    let (us, vs, hu, hv, j) = each_inv (part_in built_in) p ps xs e in
    subst (AllStand (p ∷ ps)) j (on (is_address p.tag) refl us vs hu (stand ps vs fs.1 ks.1 hv))
  where
    on :
        (b : Bool)
        → is_address p.tag ≡ b
        → (us vs : List Part)
        → part_in built_in p ≡ accepted us
        → AllStand ps vs
        → AllStand (p ∷ ps) (us ++ vs)
    on true h us vs hu rest =
        let (a, ha, k) = mapped_inv (λ (a : Address). address p.tag a ∷ []) (address_in built_in p.value) (rw h at hu) in
        subst (λ (us : List Part). AllStand (p ∷ ps) (us ++ vs)) k
        ((refl, λ t. address-listed p.value a t fs.0.octets (within p fs.0 ∙ ha)), rest)
    on false h us vs hu rest =
        let k : raw p ∷ [] ≡ us = accepted_inj (rw (h, ks.0) at hu) in
        subst (λ (us : List Part). AllStand (p ∷ ps) (us ++ vs)) k (refl, rest)

-- Octets that mean something: their parameters stand for the parts of the meaning.
pub meaning_stands :
    (xs : List ℕ) (m : Message) (w : Meaning)
    → read_message xs ≡ accepted m
    → All Fits m.params
    → All Kept m.params
    → meaning built_in xs ≡ accepted w
    → AllStand m.params w.parts
unfolding meaning_by
meaning_stands xs m w hm fits kept e =
    let (ps, hp, j) = mapped_inv _ (each (part_in built_in) m.params) (rw hm at e) in
    stand m.params w.parts fits kept (hp ∙ ap (λ (w : Meaning). accepted w.parts) j)
