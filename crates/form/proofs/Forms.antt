-- The settled form of any lawful family: equal exactly where the meanings are, read back, its own form, its length.
use Prim.Native.Nat.{ℕ, ◌+◌, ◌≤◌, ◌<◌}
use mathlib.Core.Path.{◌≡◌, refl, sym, ap, ap₂, ◌∙◌, subst}
use mathlib.Core.Logic.{◌↔◌}
use mathlib.Core.List.{List, [], ◌∷◌, ◌++◌}
use native.Mathlib.Omega.{arith}
use lib.ListN.{length, drop}
use Rattle.bcd.specs.Outcome.{Outcome, accepted, refused, after, mapped, each, All, Octets, most}
use Rattle.bcd.proofs.Outcomes.{accepted_inj, after_inv, mapped_inv, each-cons, each_inv, each_append, each_split, all_append, octets_at}
use Rattle.parameter.specs.Parameter.{Param, round_up, run_length, Fits, four_in}
use Rattle.parameter.proofs.RoundTrip.{run_length-append, all-sized}
use Rattle.parameter.specs.Table.{Table}
use Rattle.message.specs.Kinds.{Kinds}
use Rattle.message.specs.Framed.{Framed, message_of, read_of, octets_of, write_of}
use Rattle.message.specs.Standing.{ListsOf}
use Rattle.message.proofs.Framing.{octets-length, octets_declared, octets-octets, octets-read, octets-written, read_inv, read_fits, read_kind, read-room}
use Rattle.message.proofs.Standing.{framed-listed}
use Rattle.form.specs.Family.{settled_by, Meant, meaning_by, Family, rewritten, settled_of, meaning_of, LawfulFamily}

-- The form with nothing refused in encoding.
unfoldable pub plain_by : {K : Type 0} → Kinds K → (f : Param → Outcome (List Param)) → List ℕ → Outcome (List ℕ)
plain_by T f xs = after (read_of T xs) (λ m. mapped (octets_of T m.type) (each f m.params))

-- What is settled of each parameter is its meaning written again, and so the form is the family's.
each-same : {A B : Type 0} (f g : A → Outcome (List B)) → ((a : A) → f a ≡ g a) → (xs : List A) → each f xs ≡ each g xs
each-same f g e [] = refl
each-same f g e (x ∷ xs) = ap₂ (λ o r. after o (λ ys. mapped (λ zs. ys ++ zs) r)) (e x) (each-same f g e xs)

module _ {K : Type 0} (T : Kinds K) (f g : Param → Outcome (List Param)) (same : (p : Param) → f p ≡ g p) (xs : List ℕ) where
  by_each :
      (put : K → Outcome (List Param) → Outcome (List ℕ))
      → after (read_of T xs) (λ m. put m.type (each f m.params)) ≡ after (read_of T xs) (λ m. put m.type (each g m.params))
  by_each put = on (read_of T xs)
    where
      on : (o : Outcome (Framed K)) → after o (λ m. put m.type (each f m.params)) ≡ after o (λ m. put m.type (each g m.params))
      on (accepted m) = ap (put m.type) (each-same f g same m.params)
      on (refused n vs) = refl

  pub settled-same : settled_by T f xs ≡ settled_by T g xs
  unfolding settled_by
  settled-same = by_each (λ k o. after o (λ ps. write_of T (message_of k ps)))

  pub plain-same : plain_by T f xs ≡ plain_by T g xs
  unfolding plain_by
  plain-same = by_each (λ k o. mapped (octets_of T k) o)

module _ {M : Type 0} (F : Family M) where
  -- Parameters that were read and written again, one after the other.
  pub record Rewritten (ps qs : List Param) : Type 0 where
    pub fits : All Fits qs
    pub room : run_length qs ≤ run_length ps
    pub parts : List M
    pub means : each F.mean ps ≡ accepted parts
    pub reads : each F.mean qs ≡ accepted parts
    pub writes : each F.write parts ≡ accepted qs

  -- Reading all and then writing all is reading and writing each.
  each-rewritten :
      (ps : List Param) (ms : List M) (qs : List Param)
      → each F.mean ps ≡ accepted ms
      → each F.write ms ≡ accepted qs
      → each (rewritten F) ps ≡ accepted qs
  each-rewritten [] ms qs e d = ap (each F.write) (accepted_inj e) ∙ d
  each-rewritten (p ∷ ps) ms qs e d =
      let (s, t, hs, ht, j) = each_inv F.mean p ps ms e in
      let (u, v, hu, hv, i) = each_split F.write s t qs (ap (each F.write) j ∙ d) in
      each-cons (rewritten F) p ps u v (ap (λ o. after o (each F.write)) hs ∙ hu) (each-rewritten ps t v ht hv) ∙ ap accepted i

  all_rewritten : LawfulFamily F → (ps qs : List Param) → All Fits ps → each (rewritten F) ps ≡ accepted qs → Rewritten ps qs
  unfolding run_length
  all_rewritten L [] qs fs e =
      subst (Rewritten []) (accepted_inj e) (record { fits = tt; room = omega arith; parts = []; means = refl; reads = refl; writes = refl })
  all_rewritten L (p ∷ ps) qs fs e =
      let (us, vs, hu, hv, j) = each_inv (rewritten F) p ps qs e in
      let (ms, hm, hw) = after_inv (F.mean p) _ hu in
      let h = L p ms us fs.0 hm hw in
      let t = all_rewritten L ps vs fs.1 hv in
      subst (Rewritten (p ∷ ps)) j (record {
        fits = all_append Fits us vs h.fits t.fits;
        room = omega (arith, run_length-append us vs);
        parts = ms ++ t.parts;
        means = each-cons F.mean p ps ms t.parts hm t.means;
        reads = each_append F.mean us vs ms t.parts h.reads t.reads;
        writes = each_append F.write ms t.parts us vs hw t.writes;
      })

module _ {K M : Type 0} (T : Kinds K) (F : Family M) (L : LawfulFamily F) where
  -- What the parameters of a message are written as fits in a message again.
  rewritten_small :
      (xs : List ℕ) (m : Framed K) (qs : List Param)
      → Octets xs
      → read_of T xs ≡ accepted m
      → each (rewritten F) m.params ≡ accepted qs
      → Rewritten F m.params qs × (8 + run_length qs ≤ round_up (length xs)) × (8 + run_length qs ≤ most)
  rewritten_small xs m qs o hm hq =
      let r = read_inv T xs m hm in
      let k = all_rewritten F L m.params qs (read_fits T xs m r o) hq in
      let room : 8 + run_length qs ≤ round_up (length xs) = omega (arith, k.room, read-room T xs m r) in
      (k, room, omega (arith, r.small))

  -- Of octets, encoding refuses nothing.
  pub settled_plain : (xs : List ℕ) → Octets xs → settled_of T F xs ≡ plain_by T (rewritten F) xs
  unfolding settled_by plain_by
  settled_plain xs o = on (read_of T xs) refl
    where
      on :
          (r : Outcome (Framed K))
          → read_of T xs ≡ r
          → after r (λ m. after (each (rewritten F) m.params) (λ ps. write_of T (message_of m.type ps)))
          ≡ after r (λ m. mapped (octets_of T m.type) (each (rewritten F) m.params))
      on (refused n vs) e = refl
      on (accepted m) e = go (each (rewritten F) m.params) refl
        where
          go :
              (r : Outcome (List Param))
              → each (rewritten F) m.params ≡ r
              → after r (λ ps. write_of T (message_of m.type ps)) ≡ mapped (octets_of T m.type) r
          go (refused n vs) d = refl
          go (accepted ps) d =
              let (k, room, small) = rewritten_small xs m ps o e d in
              octets-written T m.type ps (all-sized ps k.fits) small

  -- What is known of a form.
  pub record Formed (xs f : List ℕ) : Type 0 where
    pub type : K
    pub old : List Param
    pub new : List Param
    pub read : read_of T xs ≡ accepted (message_of type old)
    pub reread : read_of T f ≡ accepted (message_of type new)
    pub rewrites : Rewritten F old new
    pub octets : f ≡ octets_of T type new
    pub written : write_of T (message_of type new) ≡ accepted f
    pub class_octet : (T.pair_of type).0 < 256
    pub type_octet : (T.pair_of type).1 < 256
    pub room : 8 + run_length new ≤ round_up (length xs)
    pub small : 8 + run_length new ≤ most

  pub formed : (xs f : List ℕ) → Octets xs → settled_of T F xs ≡ accepted f → Formed xs f
  unfolding plain_by
  formed xs f o e =
      let (m, hm, e1) = after_inv (read_of T xs) _ (sym (settled_plain xs o) ∙ e) in
      let (qs, hq, j) = mapped_inv _ (each (rewritten F) m.params) e1 in
      let r = read_inv T xs m hm in
      let (k, room, small) = rewritten_small xs m qs o hm hq in
      record {
        type = m.type;
        old = m.params;
        new = qs;
        read = hm;
        reread = ap (read_of T) (sym j) ∙ octets-read T m.type qs (read_kind T xs m r) small;
        rewrites = k;
        octets = sym j;
        written = octets-written T m.type qs (all-sized qs k.fits) small ∙ ap accepted j;
        class_octet = subst (λ x. x < 256) r.class (octets_at xs 2 o);
        type_octet = subst (λ x. x < 256) r.type (octets_at xs 3 o);
        room = room;
        small = small;
      }

  module _ (xs f : List ℕ) (o : Octets xs) (e : settled_of T F xs ≡ accepted f) where
    abbrev known : Formed xs f
    known = formed xs f o e

    -- The meaning of a message that has a form.
    meant : Meant K M
    meant = record { type = known.type; parts = known.rewrites.parts }

    means : meaning_of T F xs ≡ accepted meant
    unfolding meaning_by meant
    means = rw (known.read, known.rewrites.means)

    remeans : meaning_of T F f ≡ accepted meant
    unfolding meaning_by meant
    remeans = rw (known.reread, known.rewrites.reads)

    -- The form is written from the meaning alone.
    from_meaning : mapped (octets_of T meant.type) (each F.write meant.parts) ≡ accepted f
    unfolding meant
    from_meaning = ap (mapped (octets_of T known.type)) known.rewrites.writes ∙ ap accepted (sym known.octets)

    -- Read back: a form means what the message meant, and is read without refusal.
    pub read_back : (meaning_of T F f ≡ meaning_of T F xs) × ((m : Meant K M) × (meaning_of T F f ≡ accepted m))
    read_back = (remeans ∙ sym means, (meant, remeans))

    pub form_octets : Octets f
    form_octets = subst Octets (sym known.octets) (octets-octets T known.type known.new known.class_octet known.type_octet known.rewrites.fits known.small)

    -- Again: a form is its own form.
    pub again : settled_of T F f ≡ accepted f
    unfolding settled_by
    again = rw (known.reread, each-rewritten F known.new known.rewrites.parts known.new known.rewrites.reads known.rewrites.writes) known.written

    -- Length: that of the header and of the parameters that reading the form gives.
    pub form_length : (m : Framed K) × (read_of T f ≡ accepted m) × (length f ≡ 8 + run_length m.params)
    form_length = (message_of known.type known.new, known.reread, ap length known.octets ∙ octets-length T known.type known.new)

    -- A form is what encoding gives of the message that it is read as.
    pub form_encodes : (m : Framed K) × (read_of T f ≡ accepted m) × (write_of T m ≡ accepted f)
    form_encodes = (message_of known.type known.new, known.reread, known.written)

    -- Reading a form into any table is refused only as 13, and the records that it stores are the form's parameters.
    pub form_listed : (m : Framed K) × (read_of T f ≡ accepted m) × ((t : Table) → ListsOf T f m t)
    form_listed =
        let m = message_of known.type known.new in
        (m, known.reread, λ t. framed-listed T f t m known.reread)

    -- Room: never longer than the octets given, rounded up to a multiple of 4, nor than what may be given.
    pub form_room : (length f ≤ round_up (length xs)) × (length f ≤ most)
    form_room =
        let l = ap length known.octets ∙ octets-length T known.type known.new in
        (omega (arith, known.room), omega (arith, known.small))

    -- The message length in a form is the true one, also where other octets follow.
    pub form_declared : (rest : List ℕ) → four_in (drop 4 (f ++ rest)) ≡ length f
    form_declared rest =
        subst (λ f. four_in (drop 4 (f ++ rest)) ≡ length f) (sym known.octets) (octets_declared T known.type known.new rest)

  -- Equal: two forms are equal exactly where the meanings are.
  pub equal :
      (xs ys f g : List ℕ)
      → Octets xs
      → Octets ys
      → settled_of T F xs ≡ accepted f
      → settled_of T F ys ≡ accepted g
      → (f ≡ g) ↔ (meaning_of T F xs ≡ meaning_of T F ys)
  equal xs ys f g o q e d = (
    (λ same. sym (read_back xs f o e).0 ∙ ap (meaning_of T F) same ∙ (read_back ys g q d).0),
    (λ same.
        let both = accepted_inj (sym (means xs f o e) ∙ same ∙ means ys g q d) in
        accepted_inj
        (sym (from_meaning xs f o e)
        ∙ ap (λ m. mapped (octets_of T m.type) (each F.write m.parts)) both
        ∙ from_meaning ys g q d)),
  )
