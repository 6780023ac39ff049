-- A title written from its own octets: they stay, but for the reserved ones, the count, and an odd last high half.
use Prim.Native.Nat.{ℕ, ◌+◌, ◌-◌, ◌*◌, ◌/◌, ◌%◌, ◌≤◌, ◌<◌, min}
use mathlib.Core.Path.{◌≡◌, refl, sym, ap, ◌∙◌}
use mathlib.Core.List.{List, [], ◌∷◌, ◌++◌, append_assoc, append-nil}
use native.Mathlib.Omega.{arith}
use lib.ListN.{length, get_or, set, take, drop, replicate, length-append, length-take, length-drop}
use borrow.Rule.Slice.PartMut.{mid_of, put_mid}
use lib.Seq.{take-add, take-suc, set_at, get_or_at, length-take-le}
use native.Mathlib.Numerals.{add-one}
use Rattle.bcd.specs.Outcome.{Outcome, accepted, refused, mapped, Octets, deliver}
use Rattle.bcd.specs.Digits.{halves, pack, built_in, digits_in, write_digits}
use Rattle.bcd.proofs.Outcomes.{octets-of, octets_at, all_drop}
use Rattle.bcd.proofs.Reading.{digits-length, digits-most}
use Rattle.bcd.proofs.Rewriting.{octets_even, octets_odd, halves-packed}
use Rattle.bcd.proofs.Writing.{begin, delivered}
use Rattle.parameter.specs.Parameter.{Param, param, two, padded_length, param_octets, run_octets, encode_param}
use Rattle.parameter.proofs.RoundTrip.{octets-length}
use Rattle.parameter.proofs.Encoding.{encode_within}
use Rattle.address.specs.Address.{title_at, write_title, title, sub_param}
use Rattle.address.specs.Again.{with_unknown}
use Rattle.address.specs.declared.interpret.TitleValue.{TitleValue}
use Rattle.address.proofs.Unknown.{digits_as_read}
use Rattle.address.proofs.Putting.{delivered_inv, refused_alike}

-- A title's octets, by the eight in front and the digits' octets.
abbrev titled : (a b c g n t p o : ℕ) → List ℕ → Param
titled a b c g n t p o os = record { tag = 0x8001; value = a ∷ b ∷ c ∷ g ∷ n ∷ t ∷ p ∷ o ∷ os }

patch : (a b c g k t p o n : ℕ) (os r : List ℕ) → set (put_mid 4 3 (param_octets (titled a b c g k t p o os) ++ r) (0 ∷ 0 ∷ 0 ∷ [])) 8 n ≡ param_octets (titled 0 0 0 g n t p o os) ++ r
unfolding param_octets
patch a b c g k t p o n os r = refl

joined : (os z r : List ℕ) (x : ℕ) → ((os ++ (x ∷ [])) ++ z) ++ r ≡ os ++ (x ∷ (z ++ r))
joined os z r x = append_assoc (os ++ (x ∷ [])) z r ∙ append_assoc os (x ∷ []) (z ++ r)

-- the octets before and behind the last one
module _ (a b c g k t p o : ℕ) (os r : List ℕ) where
  abbrev front : ℕ → List ℕ
  front l = two 0x8001 ++ two (4 + l) ++ (a ∷ b ∷ c ∷ g ∷ k ∷ t ∷ p ∷ o ∷ os)

  abbrev behind : ℕ → List ℕ
  behind l = replicate (padded_length l - (4 + l)) 0 ++ r

  at_last : (x l : ℕ) → l ≡ 9 + length os → param_octets (titled a b c g k t p o (os ++ (x ∷ []))) ++ r ≡ front l ++ (x ∷ behind l)
  unfolding param_octets
  at_last x l e =
      let n : length (a ∷ b ∷ c ∷ g ∷ k ∷ t ∷ p ∷ o ∷ (os ++ (x ∷ []))) ≡ l = rw (e, length-append os (x ∷ [])) (omega arith) in
      rw n (ap (λ z. two 0x8001 ++ two (4 + l) ++ (a ∷ b ∷ c ∷ g ∷ k ∷ t ∷ p ∷ o ∷ z)) (joined os (replicate (padded_length l - (4 + l)) 0) r x))

  patch_last :
      (x i : ℕ)
      → i ≡ 12 + length os
      → set (param_octets (titled a b c g k t p o (os ++ (x ∷ []))) ++ r) i (get_or (param_octets (titled a b c g k t p o (os ++ (x ∷ []))) ++ r) i 0 % 16)
      ≡ param_octets (titled a b c g k t p o (os ++ (x % 16 ∷ []))) ++ r
  patch_last x i e =
      let l = 9 + length os in
      let n : length (front l) ≡ i = omega arith in
      rw (at_last x l refl, get_or_at (front l) x (behind l) 0 i n, set_at (front l) x (behind l) (x % 16) i n) (sym (at_last (x % 16) l refl))

eight : (w : List ℕ) → 8 ≤ length w
    → take 8 w ≡ get_or w 0 0 ∷ get_or w 1 0 ∷ get_or w 2 0 ∷ get_or w 3 0 ∷ get_or w 4 0 ∷ get_or w 5 0 ∷ get_or w 6 0 ∷ get_or w 7 0 ∷ []
eight (a ∷ b ∷ c ∷ g ∷ k ∷ t ∷ p ∷ o ∷ ds) h = refl
eight [] h = absurd (omega arith)
eight (a ∷ []) h = absurd (omega arith)
eight (a ∷ b ∷ []) h = absurd (omega arith)
eight (a ∷ b ∷ c ∷ []) h = absurd (omega arith)
eight (a ∷ b ∷ c ∷ d ∷ []) h = absurd (omega arith)
eight (a ∷ b ∷ c ∷ d ∷ e ∷ []) h = absurd (omega arith)
eight (a ∷ b ∷ c ∷ d ∷ e ∷ f ∷ []) h = absurd (omega arith)
eight (a ∷ b ∷ c ∷ d ∷ e ∷ f ∷ g ∷ []) h = absurd (omega arith)

-- What a title is written as: one sub-parameter, with the octets of the half octets that were read.
module _ (t : TitleValue) (n : ℕ) (count : n ≡ length (title_at built_in t.octets.now).digits) where
  abbrev w : List ℕ
  w = t.octets.now

  octets : Octets w
  octets = octets-of w t.fits

  abbrev ds : List ℕ
  ds = drop 8 w

  there : n ≡ min (get_or w 4 0) (2 * length ds)
  there = count ∙ digits-length built_in ds (get_or w 4 0)

  few_digits : n ≤ 255
  few_digits = omega (arith, octets_at w 4 octets, there)

  packed_lem : write_digits with_unknown (digits_in built_in ds (get_or w 4 0)) ≡ accepted (pack (take n (halves ds)))
  packed_lem =
      let most = sym (ap (digits_in built_in ds) there ∙ digits-most built_in ds (get_or w 4 0)) in
      ap (write_digits with_unknown) most ∙ digits_as_read ds n (all_drop (λ (x : ℕ). x < 256) 8 w octets) few_digits

  title_param_lem : sub_param with_unknown (title (title_at built_in w))
      ≡ accepted (titled 0 0 0 (get_or w 3 0) n (get_or w 5 0) (get_or w 6 0) (get_or w 7 0) (pack (take n (halves ds))) ∷ [])
  unfolding sub_param write_title
  title_param_lem =
      rw (packed_lem, ← count)

  octets_count : length (pack (take n (halves ds))) ≡ (n + 1) / 2
  octets_count = halves-packed ds n (omega (arith, there))

  -- How many octets the digits take.
  pub digits_count : accepted ((n + 1) / 2) ≡ mapped length (write_digits with_unknown (digits_in built_in ds (get_or w 4 0)))
  digits_count = sym (ap (mapped length) packed_lem ∙ ap accepted octets_count)

  -- the octets that are handed on, with the first eight apart
  given : take (8 + (n + 1) / 2) w
      ≡ get_or w 0 0 ∷ get_or w 1 0 ∷ get_or w 2 0 ∷ get_or w 3 0 ∷ get_or w 4 0 ∷ get_or w 5 0 ∷ get_or w 6 0 ∷ get_or w 7 0 ∷ take ((n + 1) / 2) ds
  given = take-add 8 ((n + 1) / 2) w ∙ ap (λ l. l ++ take ((n + 1) / 2) ds) (eight w t.long)

  -- the sub-parameter with the octets that are handed on, and with those that are written
  abbrev lent : Param
  lent = param 0x8001 (take (8 + (n + 1) / 2) w)

  abbrev kept : List ℕ → Param
  kept os = titled 0 0 0 (get_or w 3 0) n (get_or w 5 0) (get_or w 6 0) (get_or w 7 0) os

  abbrev packed : List ℕ
  packed = pack (take n (halves ds))

  size : length lent.value ≡ 8 + (n + 1) / 2
  size = length-take-le (8 + (n + 1) / 2) w (omega (arith, there, length-drop 8 w, t.long))

  sizes : length (param_octets lent) ≡ padded_length (8 + (n + 1) / 2)
  sizes = octets-length lent ∙ ap padded_length size

  kept_size : length (param_octets (kept packed)) ≡ padded_length (8 + (n + 1) / 2)
  kept_size = octets-length (kept packed) ∙ omega (arith, octets_count)

  encoded : encode_param lent ≡ accepted (param_octets lent)
  encoded = encode_within lent (rw size (omega (arith, few_digits)))

  written : mapped run_octets (sub_param with_unknown (title (title_at built_in w))) ≡ accepted (param_octets (kept packed))
  unfolding run_octets
  written = ap (mapped run_octets) title_param_lem ∙ ap accepted (append-nil (param_octets (kept packed)))

  module _ (out last : List ℕ) where
    pub put_refused :
        {h m : ℕ} {vs : List ℕ}
        → h ≡ (n + 1) / 2
        → record { answer = refused m vs; buffer = last } ≡ deliver (encode_param (param 0x8001 (take (8 + h) w))) out
        → record { answer = refused m vs; buffer = last } ≡ deliver (mapped run_octets (sub_param with_unknown (title (title_at built_in w)))) out
    put_refused half e =
        refused_alike (param_octets lent) (param_octets (kept packed)) out (sizes ∙ sym kept_size) ((rw half at e) ∙ ap (λ (o : Outcome (List ℕ)). deliver o out) encoded)
        ∙ ap (λ (o : Outcome (List ℕ)). deliver o out) (sym written)

    module _ {h l : ℕ} (half : h ≡ (n + 1) / 2) (e : record { answer = accepted l; buffer = last } ≡ deliver (encode_param (param 0x8001 (take (8 + h) w))) out) where
      -- Its octets are there.
      pub record Put : Type 0 where
        pub takes : l ≡ padded_length (8 + (n + 1) / 2)
        pub room : l ≤ length out
        pub holds : last ≡ param_octets lent ++ drop l out
        pub whole : length last ≡ length out

      pub put : Put
      put =
          let f = delivered_inv (param_octets lent) out ((rw half at e) ∙ ap (λ (o : Outcome (List ℕ)). deliver o out) encoded) in
          record {
            takes = f.count ∙ sizes;
            room = omega (arith, f.count, f.room);
            holds = f.holds ∙ ap (λ (k : ℕ). param_octets lent ++ drop k out) (sym f.count);
            whole = (begin out (param_octets lent) last f.room f.holds).same;
          }

      abbrev patched : List ℕ
      patched = set (put_mid 4 3 last (0 ∷ 0 ∷ 0 ∷ [])) 8 n

      -- the reserved octets are cleared
      pub cleared : {zs : List ℕ} → zs ≡ replicate (length (mid_of 4 3 last)) 0 → set (put_mid 4 3 last zs) 8 n ≡ patched
      cleared e =
          let three : length (mid_of 4 3 last) ≡ 3 = omega (arith, length-take 3 (drop 4 last), length-drop 4 last, put.takes, put.room, put.whole) in
          rw (e, three)

      buffer : patched ≡ param_octets (kept (take ((n + 1) / 2) ds)) ++ drop l out
      buffer =
          let same = put.holds ∙ ap (λ v. param_octets (param 0x8001 v) ++ drop l out) given in
          ap (λ d. set (put_mid 4 3 d (0 ∷ 0 ∷ 0 ∷ [])) 8 n) same
          ∙ patch (get_or w 0 0) (get_or w 1 0) (get_or w 2 0) (get_or w 3 0) (get_or w 4 0) (get_or w 5 0) (get_or w 6 0) (get_or w 7 0) n (take ((n + 1) / 2) ds) (drop l out)

      done :
          (d : List ℕ)
          → d ≡ param_octets (kept packed) ++ drop l out
          → record { answer = accepted l; buffer = d } ≡ deliver (mapped run_octets (sub_param with_unknown (title (title_at built_in w)))) out
      done d h =
          let p = put in
          let same : length (param_octets (kept packed)) ≡ l = kept_size ∙ sym p.takes in
          delivered l (begin out (param_octets (kept packed)) d (omega (arith, same, p.room)) (h ∙ ap (λ (k : ℕ). param_octets (kept packed) ++ drop k out) (sym same))) same
          ∙ ap (λ (o : Outcome (List ℕ)). deliver o out) (sym written)

      pub put_even : (n % 2 ≡ 1 → ⊥) → record { answer = accepted l; buffer = patched } ≡ deliver (mapped run_octets (sub_param with_unknown (title (title_at built_in w)))) out
      put_even odd =
          let k : n ≡ 2 * ((n + 1) / 2) = omega arith in
          let same : packed ≡ take ((n + 1) / 2) ds =
          ap (λ (i : ℕ). pack (take i (halves ds))) k ∙ octets_even ((n + 1) / 2) ds (omega (arith, there)) in
          done patched (buffer ∙ ap (λ os. param_octets (kept os) ++ drop l out) (sym same))

      pub put_odd :
          (i : ℕ)
          → n % 2 ≡ 1
          → i ≡ 11 + (n + 1) / 2
          → record { answer = accepted l; buffer = set patched i (get_or patched i 0 % 16) } ≡ deliver (mapped run_octets (sub_param with_unknown (title (title_at built_in w)))) out
      put_odd i odd at =
          let k : n ≡ 2 * (n / 2) + 1 = omega arith in
          let half : (n + 1) / 2 ≡ n / 2 + 1 = omega arith in
          let short : n / 2 < length ds = omega (arith, there) in
          let same : packed ≡ take (n / 2) ds ++ (get_or ds (n / 2) 0 % 16 ∷ []) =
          ap (λ (i : ℕ). pack (take i (halves ds))) k ∙ octets_odd (n / 2) ds short in
          let split : take ((n + 1) / 2) ds ≡ take (n / 2) ds ++ (get_or ds (n / 2) 0 ∷ []) = rw (half, add-one) (take-suc ds (n / 2) 0 short) in
          let r = drop l out in
          let b = buffer ∙ ap (λ os. param_octets (kept os) ++ r) split in
          let place : i ≡ 12 + length (take (n / 2) ds) = rw (length-take-le (n / 2) ds (omega arith)) (omega arith) in
          done _ (ap (λ d. set d i (get_or d i 0 % 16)) b
          ∙ patch_last 0 0 0 (get_or w 3 0) n (get_or w 5 0) (get_or w 6 0) (get_or w 7 0) (take (n / 2) ds) r (get_or ds (n / 2) 0) i place
          ∙ ap (λ os. param_octets (kept os) ++ r) (sym same))
