-- Protocol Data, read and written, both ways.
use Prim.Native.Nat.{ℕ, suc, ◌+◌, ◌-◌, ◌*◌, ◌≤◌, ◌<◌}
use mathlib.Core.Path.{◌≡◌, refl, sym, ap, ap₂, ◌∙◌, subst}
use mathlib.Core.Bool.{true}
use mathlib.Core.List.{List, [], ◌∷◌, ◌++◌}
use native.Mathlib.Omega.{arith}
use lib.Dec.{leb}
use borrow.Author.Tests.{le-leb, lt-leb, leb-true}
use lib.ListN.{length, get_or, take, drop, length-drop}
use lib.Seq.{take_all}
use borrow.Rule.Slice.PartMut.{put_mid}
use Rattle.bcd.specs.Outcome.{accepted, refused, mapped, Octets, most, fit64, deliver}
use Rattle.bcd.proofs.Outcomes.{accepted_inj, demand_inv, all_drop, bounded-within, deliver_refused, deliver_too_long}
use Rattle.bcd.proofs.Writing.{begin, extend_all, delivered}
use Rattle.parameter.specs.Parameter.{four, two_at, four_in, most_value}
use Rattle.message.proofs.Headers.{four-there, four_again}
use Rattle.m3ua.specs.ProtocolData.{Data, data_in, read_data, data_octets, write_data, Sized}

-- A value under 12 octets, and one that is read: the rest of it is the user's data.
pub read_short : (v : List ℕ) → length v < 12 → refused 6 (0x0210 ∷ 12 ∷ length v ∷ []) ≡ read_data v
unfolding data_in
read_short v h = sym (bounded-within v (data_in v) (omega arith) ∙ rw (lt-leb 12 (length v) h) refl)

pub read_whole :
    (v : List ℕ) (originating destination : ℕ)
    → 12 ≤ length v
    → length v ≤ most
    → originating ≡ get_or v 0 0 * 16777216 + get_or v 1 0 * 65536 + get_or v 2 0 * 256 + get_or v 3 0
    → destination ≡ get_or v 4 0 * 16777216 + get_or v 5 0 * 65536 + get_or v 6 0 * 256 + get_or v 7 0
    → accepted (record {
      originating = originating;
      destination = destination;
      service_indicator = get_or v 8 0;
      network_indicator = get_or v 9 0;
      priority = get_or v 10 0;
      selection = get_or v 11 0;
      payload = take (length v - 12) (drop 12 v);
    }) ≡ read_data v
unfolding data_in
read_whole v o d h l eo ed =
    let rest : take (length v - 12) (drop 12 v) ≡ drop 12 v = take_all (length v - 12) (drop 12 v) (omega (arith, length-drop 12 v)) in
    sym (bounded-within v (data_in v) l ∙ rw (le-leb 12 (length v) h, rest, eo ∙ four-there v 0, ed ∙ four-there v 4) refl)

-- What a value is written as.
module _ (d : Data) where
  abbrev os : List ℕ
  os = data_octets d

  pub octets-length : length os ≡ 12 + length d.payload
  unfolding data_octets
  octets-length = omega arith

  -- n is its length, or the largest number of 64 bits
  module _ (n : ℕ) (out : List ℕ) (same : n ≡ fit64 (length d.payload + 12)) where
    pub write_long : 65531 < n → record { answer = refused 10 (0x0210 ∷ n ∷ []); buffer = out } ≡ deliver (write_data d) out
    unfolding write_data
    write_long h =
        let l : most_value < length os = omega (arith, octets-length) in
        let k : fit64 (length os) ≡ n = omega (arith, octets-length) in
        deliver_refused 10 (0x0210 ∷ n ∷ []) out ∙ rw (lt-leb (length os) most_value l, k) refl

    written : n ≤ 65531 → (write_data d ≡ accepted os) × (length os ≡ n)
    unfolding write_data
    written h = (rw (le-leb (length os) most_value (omega (arith, octets-length))) refl, omega (arith, octets-length))

    pub write_short : n ≤ 65531 → length out < n → record { answer = refused 14 (n ∷ []); buffer = out } ≡ deliver (write_data d) out
    write_short h k =
        let (w, l) = written h in
        deliver_too_long (write_data d) n out (ap accepted (sym l) ∙ sym (ap (mapped length) w)) k

    -- Its twelve octets in front, and the user's data behind them.
    pub write_done :
        (first last : List ℕ)
        → n ≤ 65531
        → n ≤ length out
        → first ≡ four d.originating ++ four d.destination ++ d.service_indicator ∷ d.network_indicator ∷ d.priority ∷ d.selection ∷ []
        → last ≡ d.payload
        → record { answer = accepted n; buffer = put_mid 12 (n - 12) (first ++ drop 12 out) last } ≡ deliver (write_data d) out
    unfolding data_octets
    write_done first last h k f e =
        let (w, l) = written h in
        let twelve : length first ≡ 12 = rw f refl in
        let front = begin out first (first ++ drop 12 out) (omega (arith, octets-length)) (rw twelve refl) in
        let size : length last ≡ n - 12 = rw e (omega (arith, octets-length)) in
        let all = extend_all last 12 (n - 12) front twelve (omega (arith, octets-length)) size in
        let whole : first ++ last ≡ os = rw (f, e) refl in
        delivered n all (ap length whole ∙ l) ∙ ap (λ o. deliver o out) (ap accepted whole ∙ sym w)

-- What it tells that a value was read.
pub record Holds (v : List ℕ) (d : Data) : Type 0 where
  pub enough : 12 ≤ length v
  pub payload : drop 12 v ≡ d.payload
  pub whole : accepted d ≡ data_in v

pub data_inv : (v : List ℕ) (d : Data) → data_in v ≡ accepted d → Holds v d
unfolding data_in
data_inv v d e =
    let (t, k) = demand_inv (leb 12 (length v)) _ _ _ e in
    record { enough = leb-true 12 (length v) t; payload = ap (λ (d : Data). d.payload) (accepted_inj k); whole = sym e }

-- Reading what was written gives what was written.
pub read_written : (d : Data) → Sized d → data_in (data_octets d) ≡ accepted d
unfolding data_in data_octets two_at
read_written d s =
    let long : 12 ≤ length (data_octets d) = omega (arith, octets-length d) in
    let o : four_in (data_octets d) ≡ d.originating = omega (arith, s.originating) in
    let e : four_in (drop 4 (data_octets d)) ≡ d.destination = omega (arith, s.destination) in
    rw (le-leb 12 (length (data_octets d)) long, o, e) refl

-- The first element of what is long enough.
peel : {n : ℕ} (v : List ℕ) → suc n ≤ length v → (x : ℕ) × (r : List ℕ) × (v ≡ x ∷ r) × (n ≤ length r)
peel [] h = absurd (omega (arith, h))
peel (x ∷ r) h = (x, r, refl, omega (arith, h))

-- Writing what was read gives the octets that were read.
octet_by_octet :
    (a b c d e f g h i j k l : ℕ) (r : List ℕ) (x : Data)
    → Octets (a ∷ b ∷ c ∷ d ∷ e ∷ f ∷ g ∷ h ∷ i ∷ j ∷ k ∷ l ∷ r)
    → data_in (a ∷ b ∷ c ∷ d ∷ e ∷ f ∷ g ∷ h ∷ i ∷ j ∷ k ∷ l ∷ r) ≡ accepted x
    → data_octets x ≡ a ∷ b ∷ c ∷ d ∷ e ∷ f ∷ g ∷ h ∷ i ∷ j ∷ k ∷ l ∷ r
unfolding data_in data_octets two_at
octet_by_octet a b c d e f g h i j k l r x o q =
    let v : List ℕ = a ∷ b ∷ c ∷ d ∷ e ∷ f ∷ g ∷ h ∷ i ∷ j ∷ k ∷ l ∷ r in
    let enough : leb 12 (length v) ≡ true = le-leb 12 (length v) (omega arith) in
    let same = accepted_inj (rw enough at q) in
    subst (λ x. data_octets x ≡ v) same
    (sym (ap₂ (λ (m n : List ℕ). m ++ n ++ i ∷ j ∷ k ∷ l ∷ r) (four_again v o) (four_again (drop 4 v) (all_drop (λ x. x < 256) 4 v o))))

pub written_read : (v : List ℕ) (x : Data) → Octets v → data_in v ≡ accepted x → data_octets x ≡ v
written_read v x o q =
    let (a, r0, e0, h0) = peel v (data_inv v x q).enough in
    let (b, r1, e1, h1) = peel r0 h0 in
    let (c, r2, e2, h2) = peel r1 h1 in
    let (d, r3, e3, h3) = peel r2 h2 in
    let (e, r4, e4, h4) = peel r3 h3 in
    let (f, r5, e5, h5) = peel r4 h4 in
    let (g, r6, e6, h6) = peel r5 h5 in
    let (h, r7, e7, h7) = peel r6 h6 in
    let (i, r8, e8, h8) = peel r7 h7 in
    let (j, r9, e9, h9) = peel r8 h8 in
    let (k, r10, e10, h10) = peel r9 h9 in
    let (l, r11, e11, h11) = peel r10 h10 in
    let t11 = e11 in
    let t10 = e10 ∙ ap (λ r. k ∷ r) t11 in
    let t9 = e9 ∙ ap (λ r. j ∷ r) t10 in
    let t8 = e8 ∙ ap (λ r. i ∷ r) t9 in
    let t7 = e7 ∙ ap (λ r. h ∷ r) t8 in
    let t6 = e6 ∙ ap (λ r. g ∷ r) t7 in
    let t5 = e5 ∙ ap (λ r. f ∷ r) t6 in
    let t4 = e4 ∙ ap (λ r. e ∷ r) t5 in
    let t3 = e3 ∙ ap (λ r. d ∷ r) t4 in
    let t2 = e2 ∙ ap (λ r. c ∷ r) t3 in
    let t1 = e1 ∙ ap (λ r. b ∷ r) t2 in
    let t0 = e0 ∙ ap (λ r. a ∷ r) t1 in
    subst (λ v. Octets v → data_in v ≡ accepted x → data_octets x ≡ v) (sym t0)
    (octet_by_octet a b c d e f g h i j k l r11 x) o q
