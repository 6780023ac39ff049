-- `address::interpret::Interpreted::write` meets its contract: the buffer after each part.
use Prim.Native.Nat.{ℕ, ◌+◌, ◌-◌, ◌≤◌}
use mathlib.Core.Path.{◌≡◌, refl, ap, ◌∙◌}
use mathlib.Core.List.{List, ◌++◌}
use native.Mathlib.Omega.{arith}
use lib.ListN.{length, drop}
use borrow.Rule.Slice.PartMut.{mid_of}
use Rattle.std.specs.Prelude.{Option, option_map}
use Rattle.bcd.specs.Outcome.{accepted, mapped, each, deliver}
use Rattle.bcd.specs.Digits.{built_in}
use Rattle.bcd.proofs.Writing.{Begun, begin}
use Rattle.parameter.specs.Parameter.{Param, four, run_octets, run_length}
use Rattle.address.specs.Address.{title, present, sub_param}
use Rattle.address.specs.Again.{with_unknown}
use Rattle.address.specs.Parts.{kept_title, kept_code, kept_sub}
use Rattle.address.specs.Steps.Plan.{Plan, head_octets, others_octets}
use Rattle.address.specs.Given.{given_param}
use Rattle.address.specs.Steps.GivenParts.{sub_value}
use Rattle.address.specs.declared.parts.Parts.{Parts}
use Rattle.address.proofs.Putting.{delivered_inv, delivered_never}
use Rattle.address.proofs.Delivering.{wrote, wrote_never, parts_octets, codes, subs, others, planned-pieces, others_room, planned-length, planned-done, planned_none}
use Rattle.address.proofs.Numbers.{behind, Stands, code_never, coded, sub_never, subbed}
use Rattle.address.proofs.interpret.Interpreted.write.Goals as goal

abbrev titles : {v : List ℕ} {s : Parts} {total : ℕ} → Plan with_unknown v s total → List Param
titles p = (planned-pieces p).titled

-- The buffer once all is written but the others.
record Numbered {v : List ℕ} {s : Parts} {total : ℕ} (p : Plan with_unknown v s total) (out d : List ℕ) (at : ℕ) : Type 0 where
  begun : Begun out (parts_octets (head_octets v) (titles p) (codes p) (subs p)) d
  place : length (parts_octets (head_octets v) (titles p) (codes p) (subs p)) ≡ at
  left : at + run_length (others p) ≡ total
  room : at + run_length (others p) ≤ length out

-- The buffer once the head and the title are written, and what is left.
record Titled {v : List ℕ} {s : Parts} {total : ℕ} (p : Plan with_unknown v s total) (out d last : List ℕ) (n : ℕ) : Type 0 where
  stands : Stands out (head_octets v ++ run_octets (titles p)) (behind 4 d last) (4 + n)
  left : 4 + n + run_length (codes p) + run_length (subs p) + run_length (others p) ≡ total
  room : 4 + n + run_length (codes p) + run_length (subs p) ≤ length out

module _ {v out : List ℕ} {s : Parts} {total : ℕ} (p : Plan with_unknown v s total) (room : total ≤ length out) {d : List ℕ} (head : d ≡ head_octets v ++ drop 4 out) where
  headed : Begun out (head_octets v) d
  headed = let h = planned-length p in begin out (head_octets v) d (omega (arith, room)) head

  module _ {last : List ℕ} {n : ℕ} (e : record { answer = accepted n; buffer = last } ≡ deliver (mapped run_octets (each (sub_param with_unknown) (present title (kept_title built_in v s.title)))) (mid_of 4 (length d - 4) d)) where
    titled : Titled p out d last n
    titled =
        let w = wrote 4 headed refl _ (titles p) (planned-pieces p).title (omega (arith, planned-length p, room)) n last e in
        record {
          stands = record { begun = w.begun; place = w.place };
          left = omega (arith, planned-length p, w.count);
          room = omega (arith, planned-length p, w.count, room);
        }

    module _ {o : Option (List ℕ)} {m : ℕ} {written : List ℕ} (code : o ≡ option_map four (kept_code v s.code))
        (e₂ : record { answer = accepted m; buffer = written } ≡ deliver (accepted (run_octets (given_param 0x8002 o))) (mid_of (4 + n) (length (behind 4 d last) - (4 + n)) (behind 4 d last)))
        {k : Option ℕ} {u : Option (List ℕ)} {i : ℕ} {put : List ℕ} (value : u ≡ option_map sub_value k) (sub : k ≡ kept_sub v s.ssn)
        (e₃ : record { answer = accepted i; buffer = put } ≡ deliver (accepted (run_octets (given_param 0x8003 u))) (mid_of (4 + n + m) (length (behind (4 + n) (behind 4 d last) written) - (4 + n + m)) (behind (4 + n) (behind 4 d last) written))) where
      numbered : Numbered p out (behind (4 + n + m) (behind (4 + n) (behind 4 d last) written) put) (4 + n + m + i)
      numbered =
          let x = titled in
          let y = coded (kept_code v s.code) (kept_sub v s.ssn) x.stands x.room code e₂ in
          let z = subbed (kept_code v s.code) (kept_sub v s.ssn) x.stands x.room code e₂ (value ∙ ap (option_map sub_value) sub) e₃ in
          record { begun = z.begun; place = z.place; left = omega (arith, x.left, y.count, z.count); room = omega (arith, x.left, y.count, z.count, room) }

pub returns-in_err-a : goal.returns-in_err-a
returns-in_err-a c =
    let p = c.requires.plan in
    let b = headed p c.requires.total_in_bounds c.write_head.ensures in
    wrote_never 4 b refl _ (titles p) (planned-pieces p).title (omega (arith, planned-length p, c.requires.total_in_bounds)) c.in_err-a.ensures

pub overflow_add-a : goal.overflow_add-a
overflow_add-a c =
    let x = titled c.requires.plan c.requires.total_in_bounds c.write_head.ensures c.in_ok-a.ensures in
    omega (arith, x.left, c.requires.plan.fits)

pub slice_bounds-write_four-count : goal.slice_bounds-write_four-count
slice_bounds-write_four-count c =
    let x = titled c.requires.plan c.requires.total_in_bounds c.write_head.ensures c.in_ok-a.ensures in
    omega (arith, x.room, x.stands.begun.same)

pub slice_bounds-write_four-start : goal.slice_bounds-write_four-start
slice_bounds-write_four-start c =
    let x = titled c.requires.plan c.requires.total_in_bounds c.write_head.ensures c.in_ok-a.ensures in
    omega (arith, x.room, x.stands.begun.same)

pub returns-in_err-b : goal.returns-in_err-b
returns-in_err-b c =
    let x = titled c.requires.plan c.requires.total_in_bounds c.write_head.ensures c.in_ok-a.ensures in
    let i = c.args.self.now in
    code_never (kept_code i.value.now i.parts.code) (kept_sub i.value.now i.parts.ssn) x.stands x.room c.code.ensures c.in_err-b.ensures

pub overflow_add-b : goal.overflow_add-b
overflow_add-b c =
    let x = titled c.requires.plan c.requires.total_in_bounds c.write_head.ensures c.in_ok-a.ensures in
    let i = c.args.self.now in
    let y = coded _ (kept_sub i.value.now i.parts.ssn) x.stands x.room c.code.ensures c.in_ok-b.ensures in
    omega (arith, x.left, y.count, c.requires.plan.fits)

pub slice_bounds-write_four-count-2 : goal.slice_bounds-write_four-count-2
slice_bounds-write_four-count-2 c =
    let x = titled c.requires.plan c.requires.total_in_bounds c.write_head.ensures c.in_ok-a.ensures in
    let i = c.args.self.now in
    let y = coded _ (kept_sub i.value.now i.parts.ssn) x.stands x.room c.code.ensures c.in_ok-b.ensures in
    omega (arith, y.begun.fits, y.begun.same, y.place)

pub slice_bounds-write_four-start-2 : goal.slice_bounds-write_four-start-2
slice_bounds-write_four-start-2 c =
    let x = titled c.requires.plan c.requires.total_in_bounds c.write_head.ensures c.in_ok-a.ensures in
    let i = c.args.self.now in
    let y = coded _ (kept_sub i.value.now i.parts.ssn) x.stands x.room c.code.ensures c.in_ok-b.ensures in
    omega (arith, y.begun.fits, y.begun.same, y.place)

pub returns-in_err-c : goal.returns-in_err-c
returns-in_err-c c =
    let x = titled c.requires.plan c.requires.total_in_bounds c.write_head.ensures c.in_ok-a.ensures in
    let i = c.args.self.now in
    sub_never _ _ x.stands x.room c.code.ensures c.in_ok-b.ensures (c.ssn_octets-ssn.ensures ∙ ap (option_map sub_value) c.ssn.ensures) c.in_err-c.ensures

pub overflow_add-c : goal.overflow_add-c
overflow_add-c c =
    let z = numbered c.requires.plan c.requires.total_in_bounds c.write_head.ensures c.in_ok-a.ensures c.code.ensures c.in_ok-b.ensures c.ssn_octets-ssn.ensures c.ssn.ensures c.in_ok-c.ensures in
    omega (arith, z.left, c.requires.plan.fits)

pub slice_bounds-write_others-count : goal.slice_bounds-write_others-count
slice_bounds-write_others-count c =
    let z = numbered c.requires.plan c.requires.total_in_bounds c.write_head.ensures c.in_ok-a.ensures c.code.ensures c.in_ok-b.ensures c.ssn_octets-ssn.ensures c.ssn.ensures c.in_ok-c.ensures in
    omega (arith, z.begun.fits, z.begun.same, z.place)

pub slice_bounds-write_others-start : goal.slice_bounds-write_others-start
slice_bounds-write_others-start c =
    let z = numbered c.requires.plan c.requires.total_in_bounds c.write_head.ensures c.in_ok-a.ensures c.code.ensures c.in_ok-b.ensures c.ssn_octets-ssn.ensures c.ssn.ensures c.in_ok-c.ensures in
    omega (arith, z.begun.fits, z.begun.same, z.place)

pub write_others-requires : goal.write_others-requires
write_others-requires c =
    let z = numbered c.requires.plan c.requires.total_in_bounds c.write_head.ensures c.in_ok-a.ensures c.code.ensures c.in_ok-b.ensures c.ssn_octets-ssn.ensures c.ssn.ensures c.in_ok-c.ensures in
    (others_room c.requires.plan c.args.out.now _ _ z.begun z.room).size

pub returns-in_err-write_others : goal.returns-in_err-write_others
returns-in_err-write_others c =
    let z = numbered c.requires.plan c.requires.total_in_bounds c.write_head.ensures c.in_ok-a.ensures c.code.ensures c.in_ok-b.ensures c.ssn_octets-ssn.ensures c.ssn.ensures c.in_ok-c.ensures in
    delivered_never (others_octets c.args.self.now.value.now) _ (others_room c.requires.plan c.args.out.now _ _ z.begun z.room).room c.in_err-write_others.ensures

pub returns-in_ok-write_others : goal.returns-in_ok-write_others
returns-in_ok-write_others c =
    let z = numbered c.requires.plan c.requires.total_in_bounds c.write_head.ensures c.in_ok-a.ensures c.code.ensures c.in_ok-b.ensures c.ssn_octets-ssn.ensures c.ssn.ensures c.in_ok-c.ensures in
    planned-done c.requires.plan c.args.out.now _ _ _ z.begun z.place z.room (delivered_inv (others_octets c.args.self.now.value.now) _ c.in_ok-write_others.ensures).holds

pub returns-else-self-gt0 : goal.returns-else-self-gt0
returns-else-self-gt0 c =
    let z = numbered c.requires.plan c.requires.total_in_bounds c.write_head.ensures c.in_ok-a.ensures c.code.ensures c.in_ok-b.ensures c.ssn_octets-ssn.ensures c.ssn.ensures c.in_ok-c.ensures in
    planned_none c.requires.plan c.args.out.now _ c.if-self-gt0.false z.begun
