-- A member list: 1 to 64 members, each a distinct prefix of 1 to 15 decimal digits (document 02, CR 1).
use Rattle.std.specs.Prelude.{ℕ, suc, max, Bool, true, false, not, ◌&&◌, List, [], ◌∷◌, length, sum, take, drop, leb, eqb}
use Rattle.bcd.specs.Outcome.{pick}
pub use Rattle.bcd.specs.Outcome.{every}

-- From one number to another.
abbrev pub between : (low high : ℕ) → ℕ → Bool
between low high n = leb low n && leb n high

-- Digits begin with a prefix.
abbrev pub begins : (prefix digits : List ℕ) → Bool
begins [] ds = true
begins (c ∷ cs) [] = false
begins (c ∷ cs) (d ∷ ds) = eqb c d && begins cs ds

-- Two prefixes are the same.
abbrev pub same : List ℕ → List ℕ → Bool
same p q = eqb (length p) (length q) && begins p q

-- The members of a list as it is lent: the characters of all prefixes one after the other, and the length of each.
unfoldable pub members : (digits lengths : List ℕ) → List (List ℕ)
members ds [] = []
members ds (n ∷ ns) = take n ds ∷ members (drop n ds) ns

-- No two prefixes are the same.
abbrev pub distinct : List (List ℕ) → Bool
distinct [] = true
distinct (p ∷ ps) = every (λ q. not (same p q)) ps && distinct ps

-- 1 to 64 lengths, each of 1 to 15, that add up to the characters lent.
abbrev pub valid_lengths : (characters : ℕ) → (lengths : List ℕ) → Bool
valid_lengths n ns = between 1 64 (length ns) && (every (between 1 15) ns && eqb (sum ns) n)

-- The list keeps the rules: the lengths, the characters 0 to 9, and distinct prefixes.
unfoldable pub valid_members : (digits lengths : List ℕ) → Bool
valid_members ds ns = valid_lengths (length ds) ns && (every (between 0x30 0x39) ds && distinct (members ds ns))

-- The length of the longest member that the digits begin with; 0 if there is none.
abbrev pub reach : List (List ℕ) → (digits : List ℕ) → ℕ
reach [] ds = 0
reach (p ∷ ps) ds = max (pick (begins p ds) (length p) 0) (reach ps ds)

-- The place of a prefix among the members, from 0; their number if it is not there.
abbrev pub place_of : List ℕ → List (List ℕ) → ℕ
place_of x [] = 0
place_of x (p ∷ ps) = pick (same x p) 0 (suc (place_of x ps))

-- The place of the longest member that the digits begin with; the number of members if there is none (`longest_member`).
unfoldable pub longest : List (List ℕ) → (digits : List ℕ) → ℕ
longest ps ds = place_of (take (reach ps ds) ds) ps
