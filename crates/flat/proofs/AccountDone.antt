-- The account of a message: refused, or written.
use Prim.Native.Nat.{ℕ, ◌*◌, ◌^◌, ◌≤◌}
use mathlib.Core.Path.{◌≡◌, refl, sym, ap, ◌∙◌}
use mathlib.Core.List.{List, [], ◌∷◌, ◌++◌}
use native.Mathlib.Omega.{arith}
use lib.ListN.{length, length-append}
use Rattle.bcd.specs.Outcome.{Outcome, accepted, refused, after, mapped, each, bounded, most, delivered, deliver}
use Rattle.bcd.proofs.Outcomes.{accepted_inj, after_inv, each_inv, bounded-within}
use Rattle.parameter.specs.declared.Place.{Place}
use Rattle.parameter.specs.Parameter.{four}
use Rattle.parameter.specs.Walk.{places}
use Rattle.parameter.proofs.Walking.{places_few}
use Rattle.message.specs.Kinds.{Kinds}
use Rattle.message.specs.Framed.{named_by}
use Rattle.message.proofs.Listing.{named_within}
use Rattle.flat.specs.Account.{account_of}
use Rattle.flat.specs.declared.writer.Writer.{Writer}
use Rattle.flat.specs.Steps.Emitting.{Writes, accounts, Accounted, Small}
use Rattle.flat.proofs.Emission.{writes_begun, writes_more}

module _ {K : Type 0} (T : Kinds K) (param : List ℕ → Place → Outcome (List ℕ)) (xs : List ℕ) where
  pub account_unread : (n : ℕ) (vs : List ℕ) → refused n vs ≡ named_by T xs → refused n vs ≡ account_of T param xs
  unfolding account_of
  account_unread n vs e = rw (← e) refl

  -- class, type, and the number of parameters
  abbrev headed : K × ℕ → (count : ℕ) → List ℕ → List ℕ
  headed h count os = (T.pair_of h.0).0 ∷ ((T.pair_of h.0).1 ∷ (four count ++ os))

  module _ (h : K × ℕ) (e : accepted h ≡ named_by T xs) where
    opened : account_of T param xs ≡ after (places xs 8) (λ ps. mapped (headed h (length ps)) (each (param xs) ps))
    unfolding account_of
    opened = rw (← e) refl

    within : bounded xs (places xs 8) ≡ places xs 8
    within = bounded-within xs (places xs 8) (named_within T xs h (sym e))

    pub account_stopped : (n : ℕ) (vs : List ℕ) → accounts param xs ≡ refused n vs → refused n vs ≡ account_of T param xs
    account_stopped n vs f = sym (opened ∙ go (places xs 8) (rw within at f))
      where
        go :
            (o : Outcome (List Place))
            → after o (each (param xs)) ≡ refused n vs
            → after o (λ ps. mapped (headed h (length ps)) (each (param xs) ps)) ≡ refused n vs
        go (accepted ps) g = ap (mapped (headed h (length ps))) g
        go (refused m ws) g = let a : m ≡ n = cc in let b : ws ≡ vs = cc in rw (a, b) refl

    -- what measuring tells: the account, and how many parameters there are
    module _ {a b : Writer} {n : ℕ} (m : Accounted param xs a (accepted n) b) where
      walked : (ps : List Place) × (places xs 8 ≡ accepted ps) × (each (param xs) ps ≡ accepted m.tried.0)
      walked = after_inv (places xs 8) (each (param xs)) (rw within at m.tried.1)

      counted : (ps : List Place) → places xs 8 ≡ accepted ps → n ≡ length ps
      counted ps w = m.count n ps refl (within ∙ w)

      pub account_few : n ≤ length xs
      account_few = let (ps, w, f) = walked in
          omega (arith, counted ps w, places_few xs 8 ps w)

      pub account_known : account_of T param xs ≡ accepted (headed h n m.tried.0)
      account_known = let (ps, w, f) = walked in
          opened
          ∙ ap (λ o. after o (λ ps. mapped (headed h (length ps)) (each (param xs) ps))) w
          ∙ ap (mapped (headed h (length ps))) f
          ∙ ap (λ (k : ℕ). accepted (headed h k m.tried.0)) (sym (counted ps w))

      module _ (small : length m.tried.0 ≤ 2 ^ 44) (z : a.at ≡ 6) where
        pub account_counted : accepted b.at ≡ mapped length (account_of T param xs)
        account_counted =
            let l : b.at ≡ length (headed h n m.tried.0) = omega (arith, small, m.tried.2.behind, z) in
            ap accepted l ∙ sym (ap (mapped length) account_known)

        -- the head, and the parameters behind it
        pub account_written :
            {c d f g : Writer} {k : ℕ} {last : List ℕ} (w : Accounted param xs f (accepted k) g)
            → c.at ≡ 0
            → b.at ≤ length c.out.now
            → Writes c ((T.pair_of h.0).0 ∷ ((T.pair_of h.0).1 ∷ [])) d
            → Writes d (four n) f
            → last ≡ g.out.now
            → delivered (accepted g.at) last ≡ deliver (account_of T param xs) c.out.now
        account_written {c} {d} {f} {g} {k} {last} w y room u v l =
            let same : m.tried.0 ≡ w.tried.0 = accepted_inj (sym m.tried.1 ∙ w.tried.1) in
            let all : Writes c (headed h n w.tried.0) g = writes_more (writes_more u v) w.tried.2 in
            let begun = writes_begun all y (omega (arith, small, m.tried.2.behind, z, ap length same, room)) in
            ap (delivered (accepted g.at)) l
            ∙ Rattle.bcd.proofs.Writing.delivered g.at begun (omega (arith, small, all.behind, y, ap length same))
            ∙ ap (λ o. deliver o c.out.now) (ap (λ os. accepted (headed h n os)) (sym same) ∙ sym account_known)

  each_small : Small param xs → length xs ≤ most → (ps : List Place) (os : List ℕ) → each (param xs) ps ≡ accepted os → length os ≤ 13 * most * length ps
  each_small s h [] os e = omega (arith, ap length (accepted_inj e))
  each_small s h (p ∷ ps) os e =
      let (us, vs, f, g, j) = each_inv (param xs) p ps os e in
      omega (arith, s h p us f, each_small s h ps vs g, length-append us vs, ap length j)

  pub accounts_small : Small param xs → length xs ≤ most → (os : List ℕ) → accounts param xs ≡ accepted os → length os ≤ 2 ^ 44
  accounts_small s within os e =
      let (ps, w, f) = after_inv (bounded xs (places xs 8)) _ e in
      omega (arith, each_small s within ps os f, places_few xs 8 ps (sym (bounded-within xs (places xs 8) within) ∙ w), within)
