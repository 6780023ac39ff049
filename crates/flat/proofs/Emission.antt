-- Octets stored one after the other, where the slice has places for them.
use Prim.Native.Nat.{ℕ, ◌+◌, ◌/◌, ◌%◌, ◌^◌, ◌≤◌, ◌<◌}
use mathlib.Core.Path.{◌≡◌, refl, sym, ap, ◌∙◌}
use mathlib.Core.List.{List, [], ◌++◌, append_assoc, append-nil}
use native.Mathlib.Omega.{arith}
use lib.ListN.{length, take, drop, length-append, take-append-drop}
use lib.Seq.{drop-append-add, drop-drop, length-take-le}
use Rattle.std.specs.Int.{to_be_bytes}
use mir.Syntax.{w16}
use Rattle.bcd.specs.Outcome.{fit64}
use Rattle.bcd.proofs.Writing.{Begun, begin, in_front}
use Rattle.parameter.specs.Parameter.{two}
use Rattle.parameter.specs.Table.{over}
use Rattle.flat.specs.declared.writer.Writer.{Writer}
use Rattle.flat.specs.Steps.Emitting.{Writes}

-- nothing stored
pub writes_none : (a : Writer) → a.at < 2 ^ 64 → Writes a [] a
writes_none a h = record { lent = refl; same = refl; behind = omega (arith, h); held = λ f. unchanged a.out.now a.at (omega (arith, f)) }
  where
    unchanged : (d : List ℕ) (at : ℕ) → at ≤ length d → d ≡ over (take at d ++ []) d
    unchanged d at h = rw (append-nil (take at d), length-take-le at d h) (sym (take-append-drop at d))

-- what was stored, where there are places for all
module _ {a b : Writer} {os : List ℕ} (x : Writes a os b) (room : a.at + length os ≤ fit64 (length a.out.now)) where
  front : length (take a.at a.out.now ++ os) ≡ a.at + length os
  front = omega (arith, room, length-append (take a.at a.out.now) os, length-take-le a.at a.out.now (omega (arith, room)))

  begun : Begun a.out.now (take a.at a.out.now ++ os) b.out.now
  begun = begin a.out.now (take a.at a.out.now ++ os) b.out.now (omega (arith, front, room)) (x.held room)

-- octets behind octets
joined : (d e f p q : List ℕ) → e ≡ over p d → f ≡ over (p ++ q) e → f ≡ over (p ++ q) d
joined d e f p q x y =
    let l = length-append p q in
    let rest : drop (length (p ++ q)) e ≡ drop (length (p ++ q)) d =
    rw (l, x) (drop-append-add p (drop (length p) d) (length q) ∙ drop-drop (length q) (length p) d) in
    y ∙ ap (λ (r : List ℕ). (p ++ q) ++ r) rest

pub writes_more : {a b c : Writer} {us vs : List ℕ} → Writes a us b → Writes b vs c → Writes a (us ++ vs) c
writes_more {a} {b} {c} {us} {vs} x y =
    let l = length-append us vs in
    record {
      lent = y.lent ∙ x.lent;
      same = y.same ∙ x.same;
      behind = omega (arith, l, x.behind, y.behind);
      held = λ h.
          let room : a.at + length us ≤ fit64 (length a.out.now) = omega (arith, h, l) in
          let p = take a.at a.out.now ++ us in
          let at : a.at + length us ≡ b.at = omega (arith, x.behind, room) in
          let first : take b.at b.out.now ≡ p = in_front b.at (begun x room) (front x room ∙ at) in
          let second : c.out.now ≡ over (p ++ vs) b.out.now = rw first at (y.held (omega (arith, h, l, at, x.same))) in
          joined a.out.now b.out.now c.out.now p vs (x.held room) second ∙ ap (λ (q : List ℕ). over q a.out.now) (append_assoc (take a.at a.out.now) us vs);
    }

-- octets stored from the front of the slice
pub writes_begun : {a b : Writer} {os : List ℕ} → Writes a os b → a.at ≡ 0 → length os ≤ fit64 (length a.out.now) → Begun a.out.now os b.out.now
writes_begun {a} {b} {os} x z h =
    let none : take a.at a.out.now ≡ [] = rw z refl in
    rw none at (begun x (omega (arith, z, h)))

-- octets stored behind those that a buffer was begun with
pub emit_begun :
    {out p os : List ℕ} {a b : Writer}
    → Writes a os b
    → Begun out p a.out.now
    → length p ≡ a.at
    → a.at + length os ≤ fit64 (length out)
    → Begun out (p ++ os) b.out.now
emit_begun {out} {p} {os} {a} {b} x g e h =
    let n : length a.out.now ≡ length out = g.same in
    let first : take a.at a.out.now ≡ p = in_front a.at g e in
    let stored : b.out.now ≡ over (p ++ os) a.out.now = rw first at (x.held (omega (arith, h, n))) in
    begin out (p ++ os) b.out.now (omega (arith, h, e, length-append p os)) (joined out a.out.now b.out.now p os g.holds stored)

-- the octets of a number of 16 bits, the high one first
pub two_bytes : (n : ℕ) → n < 2 ^ 16 → to_be_bytes w16 n ≡ two n
two_bytes n h = let a : n / 256 % 256 ≡ n / 256 = omega (arith, h) in rw a refl
