-- Affected point codes: what was packed reads back, and the steps of the code that packs and unpacks.
use Prim.Native.Nat.{ℕ, zero, suc, ◌+◌, ◌*◌, ◌/◌, ◌%◌, ◌≤◌, ◌<◌}
use mathlib.Core.Path.{◌≡◌, refl, sym, ap, ap₂, ◌∙◌, subst}
use mathlib.Core.List.{List, [], ◌∷◌, ◌++◌, map, append_assoc}
use native.Mathlib.Omega.{arith}
use native.Mathlib.Numerals.{add-one}
use borrow.Author.Tests.{le-leb, lt-leb, leb-true}
use borrow.Rule.Slice.PartMut.{put_mid}
use lib.Dec.{leb}
use lib.ListN.{length, get_or, take, length-append}
use lib.Seq.{take-suc, length-take-le}
use Rattle.std.specs.Simd.{first_chunks}
use Rattle.bcd.specs.Outcome.{accepted, refused, most, delivered}
use Rattle.bcd.proofs.Outcomes.{accepted_inj, demand_inv, bounded-within, bounded_beyond, deliver_refused}
use Rattle.bcd.proofs.Writing.{Begun, extend_all}
use Rattle.bcd.proofs.Writing.{delivered as begun-delivered}
use Rattle.pieces.specs.PointCodes.{low24, code_octets, codes_octets, most_codes, pack_codes, codes_in, unpack_codes, store_codes}

-- S14 of document 01: the high octet of a code is not written.
worked : codes_octets (0x012345 ∷ 0xFF012345 ∷ []) ≡ 0x00 ∷ 0x01 ∷ 0x23 ∷ 0x45 ∷ 0x00 ∷ 0x01 ∷ 0x23 ∷ 0x45 ∷ []
unfolding codes_octets
worked = refl

group_back : (n : ℕ) → n / 65536 % 256 * 65536 + n / 256 % 256 * 256 + n % 256 ≡ low24 n
group_back n = omega arith

-- Reading what was packed gives the low 24 bits of each code.
pub codes_back : (codes : List ℕ) → codes_in (codes_octets codes) ≡ map low24 codes
unfolding codes_in codes_octets
codes_back [] = refl
codes_back (c ∷ cs) = ap₂ ◌∷◌ (group_back c) (codes_back cs)

pub codes-length : (codes : List ℕ) → length (codes_octets codes) ≡ 4 * length codes
unfolding codes_octets
codes-length [] = refl
codes-length (c ∷ cs) = rw (length-append (code_octets c) (codes_octets cs), codes-length cs) (omega arith)

-- Packing: too many, or the octets.
pub pack_many : (codes : List ℕ) → 16382 < length codes → pack_codes codes ≡ refused 10 (0x0012 ∷ 4 * length codes ∷ [])
unfolding pack_codes
pack_many codes h = rw (lt-leb (length codes) 16382 h)

pub pack_few : (codes : List ℕ) → length codes ≤ 16382 → pack_codes codes ≡ accepted (codes_octets codes)
unfolding pack_codes
pack_few codes h = rw (le-leb (length codes) 16382 h)

-- The same of the two calls: what packing accepted is accepted in unpacking, as the low 24 bits of each code.
pub packed_back : (codes os : List ℕ) → pack_codes codes ≡ accepted os → unpack_codes os ≡ accepted (map low24 codes)
unfolding pack_codes unpack_codes
packed_back codes os e =
    let (test, one) = demand_inv (leb (length codes) most_codes) 10 _ _ e in
    let few : length codes ≤ most_codes = leb-true _ _ test in
    let same : codes_octets codes ≡ os = accepted_inj one in
    rw (← same) (bounded-within (codes_octets codes) _ (rw (codes-length codes) (omega arith)) ∙ ap accepted (codes_back codes))

codes-append : (xs ys : List ℕ) → codes_octets (xs ++ ys) ≡ codes_octets xs ++ codes_octets ys
unfolding codes_octets
codes-append [] ys = refl
codes-append (x ∷ xs) ys = rw (codes-append xs ys) (sym (append_assoc (code_octets x) (codes_octets xs) (codes_octets ys)))

codes_one : (c : ℕ) → codes_octets (c ∷ []) ≡ code_octets c
unfolding codes_octets
codes_one c = refl

-- One code more, written behind those before it.
pub codes_next :
    {out d : List ℕ} (codes last : List ℕ) (i k : ℕ)
    → Begun out (codes_octets (take i codes)) d
    → i < length codes
    → 4 * length codes ≤ length out
    → k ≡ 4
    → last ≡ code_octets (get_or codes i 0)
    → Begun out (codes_octets (take (i + 1) codes)) (put_mid (4 * i) k d last)
codes_next {out} {d} codes last i k b h room four e =
    let t : take (i + 1) codes ≡ take i codes ++ (get_or codes i 0 ∷ []) = rw add-one (take-suc codes i 0 h) in
    let same : codes_octets (take (i + 1) codes) ≡ codes_octets (take i codes) ++ code_octets (get_or codes i 0) =
    ap codes_octets t ∙ codes-append (take i codes) (get_or codes i 0 ∷ []) ∙ ap (λ l. codes_octets (take i codes) ++ l) (codes_one (get_or codes i 0)) in
    let place : length (codes_octets (take i codes)) ≡ 4 * i = codes-length (take i codes) ∙ ap (λ n. 4 * n) (length-take-le i codes (omega arith)) in
    subst (λ (p : List ℕ). Begun out p (put_mid (4 * i) k d last)) (sym same)
    (subst (λ (q : List ℕ). Begun out (codes_octets (take i codes) ++ code_octets (get_or codes i 0)) (put_mid (4 * i) k d q)) (sym e)
    (extend_all (code_octets (get_or codes i 0)) (4 * i) k b place (omega arith) (sym four)))

-- The codes in octets: how many, and each by its place.
pub codes_in_length : (xs : List ℕ) → length (codes_in xs) ≡ length xs / 4
unfolding codes_in
codes_in_length (m ∷ a ∷ b ∷ c ∷ xs) = omega (arith, codes_in_length xs)
codes_in_length (m ∷ a ∷ b ∷ []) = refl
codes_in_length (m ∷ a ∷ []) = refl
codes_in_length (m ∷ []) = refl
codes_in_length [] = refl

abbrev code_in : List ℕ → ℕ → ℕ
code_in xs at = get_or xs (at + 1) 0 * 65536 + get_or xs (at + 2) 0 * 256 + get_or xs (at + 3) 0

pub codes_in_at : (xs : List ℕ) (i : ℕ) → 4 * i + 3 < length xs → get_or (codes_in xs) i 0 ≡ code_in xs (4 * i)
unfolding codes_in
codes_in_at (m ∷ a ∷ b ∷ c ∷ xs) zero h = refl
codes_in_at (m ∷ a ∷ b ∷ c ∷ xs) (suc i) h =
    codes_in_at xs i (omega arith) ∙ sym (rw (next 1, next 2, next 3))
  where
    next : (k : ℕ) → get_or (m ∷ a ∷ b ∷ c ∷ xs) (4 * suc i + k) 0 ≡ get_or xs (4 * i + k) 0
    next k = let e : 4 * suc i + k ≡ suc (suc (suc (suc (4 * i + k)))) = omega arith in ap (λ n. get_or (m ∷ a ∷ b ∷ c ∷ xs) n 0) e
codes_in_at (m ∷ a ∷ b ∷ []) i h = absurd (omega arith)
codes_in_at (m ∷ a ∷ []) i h = absurd (omega arith)
codes_in_at (m ∷ []) i h = absurd (omega arith)
codes_in_at [] i h = absurd (omega arith)

-- The code of a group of four octets.
abbrev pub group_code : List ℕ → ℕ
group_code x = get_or x 1 0 * 65536 + get_or x 2 0 * 256 + get_or x 3 0

group_at : (xs : List ℕ) (n i : ℕ) (d : List ℕ) → i < n → n ≤ length xs / 4 → group_code (get_or (first_chunks 4 n xs) i d) ≡ get_or (codes_in xs) i 0
unfolding codes_in
group_at xs zero i d h l = absurd (omega arith)
group_at (m ∷ a ∷ b ∷ c ∷ xs) (suc n) zero d h l = refl
group_at (m ∷ a ∷ b ∷ c ∷ xs) (suc n) (suc i) d h l = group_at xs n i d (omega arith) (omega arith)
group_at (m ∷ a ∷ b ∷ []) (suc n) i d h l = absurd (omega arith)
group_at (m ∷ a ∷ []) (suc n) i d h l = absurd (omega arith)
group_at (m ∷ []) (suc n) i d h l = absurd (omega arith)
group_at [] (suc n) i d h l = absurd (omega arith)

pub code_at :
    (xs : List ℕ) (i : ℕ) (groups : List (List ℕ)) (d : List ℕ)
    → groups ≡ first_chunks 4 (length xs / 4) xs
    → i < length xs / 4
    → group_code (get_or groups i d) ≡ get_or (codes_in xs) i 0
code_at xs i groups d e h = rw e (group_at xs (length xs / 4) i d h (omega arith))

-- Codes stored in a table: refused, too many, or stored.
pub store_refused : (n : ℕ) (vs held : List ℕ) → delivered (refused n vs) held ≡ store_codes (refused n vs) held
unfolding store_codes
store_refused n vs held = deliver_refused n vs held

pub store_small : (codes held : List ℕ) (n : ℕ) → length codes ≡ n → length held < n → delivered (refused 13 (n ∷ [])) held ≡ store_codes (accepted codes) held
unfolding store_codes
store_small codes held n e h = rw (← e, lt-leb (length codes) (length held) (omega arith)) (deliver_refused 13 (length codes ∷ []) held)

pub store_done : {out d codes : List ℕ} (n : ℕ) → Begun out codes d → length codes ≡ n → delivered (accepted n) d ≡ store_codes (accepted codes) out
unfolding store_codes
store_done {out} {d} {codes} n b e = rw (le-leb (length codes) (length out) b.fits) (begun-delivered n b e)

-- Unpacking: too many octets, or the codes.
pub unpack_beyond : (xs : List ℕ) → most < length xs → unpack_codes xs ≡ refused 12 (length xs ∷ [])
unfolding unpack_codes
unpack_beyond xs h = bounded_beyond xs (accepted (codes_in xs)) h

pub unpack_within : (xs : List ℕ) → length xs ≤ most → unpack_codes xs ≡ accepted (codes_in xs)
unfolding unpack_codes
unpack_within xs h = bounded-within xs (accepted (codes_in xs)) h
