-- `address::SuaAddress::write` meets its contract: the buffer after each part.
use Prim.Native.Nat.{ℕ, ◌+◌, ◌-◌, ◌≤◌}
use mathlib.Core.Path.{◌≡◌, refl}
use mathlib.Core.List.{List, ◌++◌}
use native.Mathlib.Omega.{arith}
use lib.ListN.{length, take, drop}
use borrow.Rule.Slice.PartMut.{mid_of, same_len_mid}
use Rattle.std.specs.Prelude.{Option, option_map}
use Rattle.bcd.specs.Outcome.{accepted, mapped, deliver}
use Rattle.bcd.proofs.Results.{exit}
use Rattle.bcd.proofs.Writing.{Begun}
use Rattle.parameter.specs.Parameter.{four, run_octets, run_length}
use Rattle.parameter.specs.Table.{Table}
use Rattle.address.specs.Given.{given_param}
use Rattle.address.specs.Steps.GivenParts.{given_title, sub_value, given_head, room_for}
use Rattle.address.specs.declared.SuaAddress.{SuaAddress}
use Rattle.address.proofs.Delivering.{Wrote, parts_octets}
use Rattle.address.proofs.Numbers.{behind, Stands, code_never, coded, sub_never, subbed}
use Rattle.address.proofs.Encoding.{codes_of, subs_of, Known, given_never, given-done}
use Rattle.address.proofs.TitleFirst.{room_inv, title_lent, room_declined, room-written, placed, headed}
use Rattle.address.proofs.SuaAddress.write.Goals as goal

module _ (tag : ℕ) (a : SuaAddress) (values : List ℕ) (t : Table) {total : ℕ} (e : accepted total ≡ room_for tag a values t) (out : List ℕ) (room : total ≤ length out) where
  -- there is room for the head
  roomed : 4 ≤ length out
  roomed = let r = room_inv tag a values t total e out in omega (arith, r.fits, room)

  -- once the title is written, the address is one that can be written
  known :
      {n : ℕ} {last : List ℕ}
      → record { answer = accepted n; buffer = last } ≡ deliver (mapped run_octets (given_title a.global_title)) (mid_of 4 (length out - 4) out)
      → Known tag a values t total
  known put = room-written tag a values t total e out room put

module _ {tag : ℕ} {a : SuaAddress} {values : List ℕ} {t : Table} {total : ℕ} (k : Known tag a values t total) where
  -- The buffer once the title and the head are written, and what is left.
  record Titled (out d : List ℕ) (n : ℕ) : Type 0 where
    stands : Stands out (given_head a ++ run_octets k.titled) d (4 + n)
    left : 4 + n + run_length (codes_of a) + run_length (subs_of a) + run_length k.others ≡ total
    room : 4 + n + run_length (codes_of a) + run_length (subs_of a) ≤ length out

  -- And once all is written but the others.
  record Numbered (out d : List ℕ) (at : ℕ) : Type 0 where
    begun : Begun out (parts_octets (given_head a) k.titled (codes_of a) (subs_of a)) d
    place : length (parts_octets (given_head a) k.titled (codes_of a) (subs_of a)) ≡ at
    left : at + run_length k.others ≡ total
    room : at + run_length k.others ≤ length out

  module _ {out : List ℕ} (room : total ≤ length out) {n : ℕ} {last : List ℕ}
      (e₁ : record { answer = accepted n; buffer = last } ≡ deliver (mapped run_octets (given_title a.global_title)) (mid_of 4 (length out - 4) out)) where
    behind_head : Wrote out (take 4 out) out 4 k.titled n last
    behind_head = placed (given_title a.global_title) k.titled out n last k.title (omega (arith, k.size, room)) e₁

    module _ {d : List ℕ} (head : d ≡ given_head a ++ drop 4 (behind 4 out last)) where
      titled : Titled out d n
      titled =
          let x = headed (given_head a) k.titled out n last d refl (omega (arith, k.size, room)) behind_head head in
          record {
            stands = record { begun = x.begun; place = x.place };
            left = omega (arith, k.size, x.count);
            room = omega (arith, k.size, x.count, room);
          }

      module _ {o : Option (List ℕ)} {m : ℕ} {written : List ℕ} (code : o ≡ option_map four a.point_code)
          (e₂ : record { answer = accepted m; buffer = written } ≡ deliver (accepted (run_octets (given_param 0x8002 o))) (mid_of (4 + n) (length d - (4 + n)) d))
          {u : Option (List ℕ)} {i : ℕ} {put : List ℕ} (sub : u ≡ option_map sub_value a.ssn)
          (e₃ : record { answer = accepted i; buffer = put } ≡ deliver (accepted (run_octets (given_param 0x8003 u))) (mid_of (4 + n + m) (length (behind (4 + n) d written) - (4 + n + m)) (behind (4 + n) d written))) where
        numbered : Numbered out (behind (4 + n + m) (behind (4 + n) d written) put) (4 + n + m + i)
        numbered =
            let x = titled in
            let y = coded a.point_code a.ssn x.stands x.room code e₂ in
            let z = subbed a.point_code a.ssn x.stands x.room code e₂ sub e₃ in
            record { begun = z.begun; place = z.place; left = omega (arith, x.left, y.count, z.count); room = omega (arith, x.left, y.count, z.count, room) }

pub slice_bounds-write_title-count : goal.slice_bounds-write_title-count
slice_bounds-write_title-count c = let r = roomed c.args.tag c.args.self.now c.args.others.values.now c.args.others.rows.now c.requires.total_value c.args.out.now c.requires.total_in_bounds in omega arith

pub slice_bounds-write_title-start : goal.slice_bounds-write_title-start
slice_bounds-write_title-start c = let r = roomed c.args.tag c.args.self.now c.args.others.values.now c.args.others.rows.now c.requires.total_value c.args.out.now c.requires.total_in_bounds in omega arith

pub write_title-requires : goal.write_title-requires
write_title-requires c = title_lent c.args.tag c.args.self.now c.args.others.values.now c.args.others.rows.now c.args.total c.requires.total_value c.args.out.now c.requires.total_in_bounds

pub returns-in_err-a : goal.returns-in_err-a
returns-in_err-a c =
    rw (exit c.from_residual.result _ c.from_residual.ensures.1)
    (room_declined c.args.tag c.args.self.now c.args.others.values.now c.args.others.rows.now c.args.total c.requires.total_value c.args.out.now c.requires.total_in_bounds _ c.in_err-a.ensures)

pub overflow_add-a : goal.overflow_add-a
overflow_add-a c =
    let k = known c.args.tag c.args.self.now c.args.others.values.now c.args.others.rows.now c.requires.total_value c.args.out.now c.requires.total_in_bounds c.in_ok-a.ensures in
    omega (arith, (behind_head k c.requires.total_in_bounds c.in_ok-a.ensures).count, k.size, k.fits)

pub write_head-requires : goal.write_head-requires
write_head-requires c =
    let r = roomed c.args.tag c.args.self.now c.args.others.values.now c.args.others.rows.now c.requires.total_value c.args.out.now c.requires.total_in_bounds in
    omega (arith, same_len_mid 4 (length c.args.out.now - 4) c.args.out.now c.write_title.new.out c.write_title.auto.out)

pub slice_bounds-write_four-count : goal.slice_bounds-write_four-count
slice_bounds-write_four-count c =
    let k = known c.args.tag c.args.self.now c.args.others.values.now c.args.others.rows.now c.requires.total_value c.args.out.now c.requires.total_in_bounds c.in_ok-a.ensures in
    let x = titled k c.requires.total_in_bounds c.in_ok-a.ensures c.write_head.ensures in
    omega (arith, x.room, x.stands.begun.same)

pub slice_bounds-write_four-start : goal.slice_bounds-write_four-start
slice_bounds-write_four-start c =
    let k = known c.args.tag c.args.self.now c.args.others.values.now c.args.others.rows.now c.requires.total_value c.args.out.now c.requires.total_in_bounds c.in_ok-a.ensures in
    let x = titled k c.requires.total_in_bounds c.in_ok-a.ensures c.write_head.ensures in
    omega (arith, x.room, x.stands.begun.same)

pub returns-in_err-b : goal.returns-in_err-b
returns-in_err-b c =
    let k = known c.args.tag c.args.self.now c.args.others.values.now c.args.others.rows.now c.requires.total_value c.args.out.now c.requires.total_in_bounds c.in_ok-a.ensures in
    let x = titled k c.requires.total_in_bounds c.in_ok-a.ensures c.write_head.ensures in
    code_never c.args.self.now.point_code c.args.self.now.ssn x.stands x.room c.code_octets.ensures c.in_err-b.ensures

pub overflow_add-b : goal.overflow_add-b
overflow_add-b c =
    let k = known c.args.tag c.args.self.now c.args.others.values.now c.args.others.rows.now c.requires.total_value c.args.out.now c.requires.total_in_bounds c.in_ok-a.ensures in
    let x = titled k c.requires.total_in_bounds c.in_ok-a.ensures c.write_head.ensures in
    let y = coded _ c.args.self.now.ssn x.stands x.room c.code_octets.ensures c.in_ok-b.ensures in
    omega (arith, x.left, y.count, k.fits)

pub slice_bounds-write_four-count-2 : goal.slice_bounds-write_four-count-2
slice_bounds-write_four-count-2 c =
    let k = known c.args.tag c.args.self.now c.args.others.values.now c.args.others.rows.now c.requires.total_value c.args.out.now c.requires.total_in_bounds c.in_ok-a.ensures in
    let x = titled k c.requires.total_in_bounds c.in_ok-a.ensures c.write_head.ensures in
    let y = coded _ c.args.self.now.ssn x.stands x.room c.code_octets.ensures c.in_ok-b.ensures in
    omega (arith, y.begun.fits, y.begun.same, y.place)

pub slice_bounds-write_four-start-2 : goal.slice_bounds-write_four-start-2
slice_bounds-write_four-start-2 c =
    let k = known c.args.tag c.args.self.now c.args.others.values.now c.args.others.rows.now c.requires.total_value c.args.out.now c.requires.total_in_bounds c.in_ok-a.ensures in
    let x = titled k c.requires.total_in_bounds c.in_ok-a.ensures c.write_head.ensures in
    let y = coded _ c.args.self.now.ssn x.stands x.room c.code_octets.ensures c.in_ok-b.ensures in
    omega (arith, y.begun.fits, y.begun.same, y.place)

pub returns-in_err-c : goal.returns-in_err-c
returns-in_err-c c =
    let k = known c.args.tag c.args.self.now c.args.others.values.now c.args.others.rows.now c.requires.total_value c.args.out.now c.requires.total_in_bounds c.in_ok-a.ensures in
    let x = titled k c.requires.total_in_bounds c.in_ok-a.ensures c.write_head.ensures in
    sub_never _ _ x.stands x.room c.code_octets.ensures c.in_ok-b.ensures c.ssn_octets.ensures c.in_err-c.ensures

pub overflow_add-c : goal.overflow_add-c
overflow_add-c c =
    let k = known c.args.tag c.args.self.now c.args.others.values.now c.args.others.rows.now c.requires.total_value c.args.out.now c.requires.total_in_bounds c.in_ok-a.ensures in
    let z = numbered k c.requires.total_in_bounds c.in_ok-a.ensures c.write_head.ensures c.code_octets.ensures c.in_ok-b.ensures c.ssn_octets.ensures c.in_ok-c.ensures in
    omega (arith, z.left, k.fits)

pub slice_bounds-encode_parameters-count : goal.slice_bounds-encode_parameters-count
slice_bounds-encode_parameters-count c =
    let k = known c.args.tag c.args.self.now c.args.others.values.now c.args.others.rows.now c.requires.total_value c.args.out.now c.requires.total_in_bounds c.in_ok-a.ensures in
    let z = numbered k c.requires.total_in_bounds c.in_ok-a.ensures c.write_head.ensures c.code_octets.ensures c.in_ok-b.ensures c.ssn_octets.ensures c.in_ok-c.ensures in
    omega (arith, z.begun.fits, z.begun.same, z.place)

pub slice_bounds-encode_parameters-start : goal.slice_bounds-encode_parameters-start
slice_bounds-encode_parameters-start c =
    let k = known c.args.tag c.args.self.now c.args.others.values.now c.args.others.rows.now c.requires.total_value c.args.out.now c.requires.total_in_bounds c.in_ok-a.ensures in
    let z = numbered k c.requires.total_in_bounds c.in_ok-a.ensures c.write_head.ensures c.code_octets.ensures c.in_ok-b.ensures c.ssn_octets.ensures c.in_ok-c.ensures in
    omega (arith, z.begun.fits, z.begun.same, z.place)

pub returns-in_err-encode_parameters : goal.returns-in_err-encode_parameters
returns-in_err-encode_parameters c =
    let k = known c.args.tag c.args.self.now c.args.others.values.now c.args.others.rows.now c.requires.total_value c.args.out.now c.requires.total_in_bounds c.in_ok-a.ensures in
    let z = numbered k c.requires.total_in_bounds c.in_ok-a.ensures c.write_head.ensures c.code_octets.ensures c.in_ok-b.ensures c.ssn_octets.ensures c.in_ok-c.ensures in
    given_never k _ z.begun z.room c.in_err-encode_parameters.ensures

pub returns : goal.returns
returns c =
    let k = known c.args.tag c.args.self.now c.args.others.values.now c.args.others.rows.now c.requires.total_value c.args.out.now c.requires.total_in_bounds c.in_ok-a.ensures in
    let z = numbered k c.requires.total_in_bounds c.in_ok-a.ensures c.write_head.ensures c.code_octets.ensures c.in_ok-b.ensures c.ssn_octets.ensures c.in_ok-c.ensures in
    given-done k _ z.begun z.place z.room c.in_ok-encode_parameters.ensures
