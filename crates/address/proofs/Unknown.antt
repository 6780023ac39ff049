-- Digits that are written as they were read, ? too: what is written is what the built-in digits write, where these refuse
-- nothing.
use Prim.Native.Nat.{ℕ, zero, suc, ◌≤◌, ◌<◌}
use mathlib.Core.Path.{◌≡◌, refl, ap, ◌∙◌}
use mathlib.Core.Bool.{Bool, true, false}
use Rattle.std.specs.Prelude.{Option, None, Some, option_map}
use mathlib.Core.List.{List, [], ◌∷◌, ◌++◌}
use native.Mathlib.Omega.{arith}
use lib.Dec.{leb, eqb}
use lib.ListN.{length, take}
use Rattle.bcd.specs.Outcome.{Outcome, accepted, pick, after, mapped, each, All, Octets}
use Rattle.bcd.specs.Digits.{Alphabet, Lawful, halves, pack, place, characters, fold, built_in, digits_in, written, write_digits}
use Rattle.bcd.proofs.Outcomes.{never, after_inv, mapped_inv, demand_inv, each_inv, each-cons, all_take}
use Rattle.bcd.proofs.Halves.{Nibbles, halves-nibbles}
use Rattle.bcd.proofs.Characters.{place_at, built_in_lawful}
use Rattle.bcd.proofs.Writable.{nibbles, all_good}
use Rattle.bcd.proofs.Digits.{read_at_most, Back, nibbles_back}
use Rattle.parameter.specs.Parameter.{Param}
use Rattle.address.specs.Address.{Piece, title, code, sub, other, title_in, title_octets, piece_in, address_in, read_address, write_title, sub_param, pieces, write_address}
use Rattle.address.specs.Again.{with_unknown}
use Rattle.address.specs.Steps.Plan.{digits_by}
use Rattle.address.specs.declared.interpret.Digits.{Digits}
use Rattle.address.specs.declared.interpret.Digits.TheVariants as D

-- What each half octet reads as is written as that half octet.
back : (h : ℕ) → h < 16 → Back with_unknown h
back zero l = refl
back (suc zero) l = refl
back (suc (suc zero)) l = refl
back (suc (suc (suc zero))) l = refl
back (suc (suc (suc (suc zero)))) l = refl
back (suc (suc (suc (suc (suc zero))))) l = refl
back (suc (suc (suc (suc (suc (suc zero)))))) l = refl
back (suc (suc (suc (suc (suc (suc (suc zero))))))) l = refl
back (suc (suc (suc (suc (suc (suc (suc (suc zero)))))))) l = refl
back (suc (suc (suc (suc (suc (suc (suc (suc (suc zero))))))))) l = refl
back (suc (suc (suc (suc (suc (suc (suc (suc (suc (suc zero)))))))))) l = refl
back (suc (suc (suc (suc (suc (suc (suc (suc (suc (suc (suc zero))))))))))) l = refl
back (suc (suc (suc (suc (suc (suc (suc (suc (suc (suc (suc (suc zero)))))))))))) l = refl
back (suc (suc (suc (suc (suc (suc (suc (suc (suc (suc (suc (suc (suc zero))))))))))))) l = refl
back (suc (suc (suc (suc (suc (suc (suc (suc (suc (suc (suc (suc (suc (suc zero)))))))))))))) l = refl
back (suc (suc (suc (suc (suc (suc (suc (suc (suc (suc (suc (suc (suc (suc (suc zero))))))))))))))) l = refl
back (suc (suc (suc (suc (suc (suc (suc (suc (suc (suc (suc (suc (suc (suc (suc (suc h)))))))))))))))) l = absurd (omega arith)

backs : (hs : List ℕ) → Nibbles hs → All (Back with_unknown) hs
backs [] n = tt
backs (h ∷ hs) n = (back h n.0, backs hs n.1)

with_unknown_lawful : Lawful with_unknown
with_unknown_lawful = record {
  small = λ c h e. (place_at (fold c) characters h 0 e).0;
  back = λ h k l e. let b = back h l in cc;
}

pub digits_as_read :
    (xs : List ℕ) (n : ℕ) → Octets xs → n ≤ 255 → write_digits with_unknown (digits_in built_in xs n) ≡ accepted (pack (take n (halves xs)))
unfolding digits_in
digits_as_read xs n o h =
    all_good with_unknown (digits_in built_in xs n) (take n (halves xs)) (read_at_most built_in xs n h)
    (nibbles_back with_unknown (take n (halves xs)) (backs (take n (halves xs)) (all_take (λ (h : ℕ). h < 16) n (halves xs) (halves-nibbles xs o))))

-- Digits that read as the built-in ones do.
pub record Alike (A : Alphabet) : Type 0 where
  pub lawful : Lawful A
  pub reads : (v : List ℕ) → address_in A v ≡ address_in built_in v

reads_alike : (v : List ℕ) → address_in with_unknown v ≡ address_in built_in v
unfolding address_in piece_in title_in digits_in
reads_alike v = refl

pub alike : (digits : Digits) → Alike (digits_by digits)
alike D.Checked = record { lawful = built_in_lawful; reads = λ v. refl }
alike D.Unchecked = record { lawful = with_unknown_lawful; reads = reads_alike }

-- A character's place in the front of a list.
place-front : (c : ℕ) (xs ys : List ℕ) (h : ℕ) → place c xs ≡ Some h → place c (xs ++ ys) ≡ Some h
place-front c [] ys h e = let z : ◌≡◌ {A = ℕ} 0 1 = cc in absurd (omega arith)
place-front c (x ∷ xs) ys h e = go (eqb c x) e (place-front c xs ys)
  where
    tail : (o : Option ℕ) → place c xs ≡ o → option_map suc o ≡ Some h → ((k : ℕ) → place c xs ≡ Some k → place c (xs ++ ys) ≡ Some k) → option_map suc (place c (xs ++ ys)) ≡ Some h
    tail None q e ih = let z : ◌≡◌ {A = ℕ} 0 1 = cc in absurd (omega arith)
    tail (Some k) q e ih = ap (option_map suc) (ih k q) ∙ e

    go : (t : Bool) → pick t (Some 0) (option_map suc (place c xs)) ≡ Some h → ((k : ℕ) → place c xs ≡ Some k → place c (xs ++ ys) ≡ Some k) → pick t (Some 0) (option_map suc (place c (xs ++ ys))) ≡ Some h
    go true e ih = e
    go false e ih = tail (place c xs) refl e ih

-- What one function accepts, another gives too.
each_same :
    {A B : Type 0} (f g : A → Outcome (List B))
    → ((x : A) (ys : List B) → f x ≡ accepted ys → g x ≡ accepted ys)
    → (xs : List A) (ys : List B)
    → each f xs ≡ accepted ys
    → each g xs ≡ accepted ys
each_same f g h [] ys e = e
each_same f g h (x ∷ xs) ys e =
    let (us, vs, hu, hv, j) = each_inv f x xs ys e in
    each-cons g x xs us vs (h x us hu) (each_same f g h xs vs hv) ∙ ap accepted j

digit-same : (c : ℕ) (hs : List ℕ) → written c (built_in.half c) ≡ accepted hs → written c (with_unknown.half c) ≡ accepted hs
digit-same c hs e = go (built_in.half c) refl e
  where
    go : (o : Option ℕ) → built_in.half c ≡ o → written c o ≡ accepted hs → written c (with_unknown.half c) ≡ accepted hs
    go None q e = absurd (never e)
    go (Some h) q e = ap (written c) (place-front (fold c) (take 15 characters) (0x3F ∷ []) h q) ∙ e

digits_same : (cs os : List ℕ) → write_digits built_in cs ≡ accepted os → write_digits with_unknown cs ≡ accepted os
unfolding write_digits
digits_same cs os e =
    let (few, packed) = demand_inv (leb (length cs) 255) _ _ _ e in
    let (hs, hn, same) = mapped_inv pack (nibbles built_in cs) packed in
    rw (few, each_same (λ c. written c (built_in.half c)) (λ c. written c (with_unknown.half c)) digit-same cs hs hn) (ap accepted same)

sub_same : (x : Piece) (qs : List Param) → sub_param built_in x ≡ accepted qs → sub_param with_unknown x ≡ accepted qs
unfolding sub_param write_title
sub_same (title t) qs e =
    let (v, hv, same) = mapped_inv {B = List Param} (λ v. record { tag = 0x8001; value = v } ∷ []) (mapped (title_octets t) (write_digits built_in t.digits)) e in
    let (os, ho, sv) = mapped_inv (title_octets t) (write_digits built_in t.digits) hv in
    rw (digits_same t.digits os ho, sv) (ap accepted same)
sub_same (code n) qs e = e
sub_same (sub n) qs e = e
sub_same (other p) qs e = e

pub subs-same : (xs : List Piece) (qs : List Param) → each (sub_param built_in) xs ≡ accepted qs → each (sub_param with_unknown) xs ≡ accepted qs
subs-same = each_same (sub_param built_in) (sub_param with_unknown) sub_same

-- An address that can be written is written the same.
pub rewritten_same :
    (tag : ℕ) (v w : List ℕ)
    → after (read_address built_in v) (write_address built_in tag) ≡ accepted w
    → after (read_address built_in v) (write_address with_unknown tag) ≡ accepted w
unfolding write_address
rewritten_same tag v w e =
    let (a, ha, ea) = after_inv (read_address built_in v) _ e in
    let (qs, hq, eq) = after_inv (each (sub_param built_in) (pieces a)) _ ea in
    rw (ha, subs-same (pieces a) qs hq) eq
