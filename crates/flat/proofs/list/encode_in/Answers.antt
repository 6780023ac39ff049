-- `flat::list::encode_in` meets its contract: the header, then the parameters in the rest of the output.
use Prim.Native.Nat.{ℕ, ◌-◌}
use mathlib.Core.Path.{◌≡◌, refl, sym}
use mathlib.Core.List.{List}
use native.Mathlib.Omega.{arith}
use lib.ListN.{length, drop, length-take, length-drop}
use Rattle.bcd.specs.Outcome.{accepted, refused, after, each}
use Rattle.bcd.proofs.Results.{exit, exit_delivered}
use Rattle.parameter.specs.Parameter.{encode_param}
use Rattle.parameter.proofs.Running.{sum-writable}
use Rattle.message.proofs.Listing.{written-framed, message_refused, message-known, headed_known, headed_refused, rest_accepted, message-done}
use Rattle.message.specs.Kinds.{Kinds, kind_of}
use Rattle.message.specs.Framed.{message_of, write_of}
use Rattle.flat.specs.Flat.{flat_list, encode_flat_of}
use Rattle.flat.proofs.list.encode_in.Goals as goal

module _ {K : Type 0} (T : Kinds K) (class type : ℕ) (list : List ℕ) where
  -- the message of a type that is known
  typed : (k : K) → accepted k ≡ kind_of T class type → encode_flat_of T class type list ≡ after (flat_list list) (λ ps. write_of T (message_of k ps))
  unfolding encode_flat_of
  typed k e = rw (← e) refl

  untyped : (n : ℕ) (vs : List ℕ) → refused n vs ≡ kind_of T class type → refused n vs ≡ encode_flat_of T class type list
  unfolding encode_flat_of
  untyped n vs e = rw (← e) refl

pub returns-in_err-kind : goal.returns-in_err-kind
returns-in_err-kind g c =
    let T = g.K.MessageKind.kinds in
    exit_delivered c.from_residual.result _ c.from_residual.ensures.1 (encode_flat_of T c.args.class c.args.msg_type c.args.list.now) c.args.out.now
    (untyped T c.args.class c.args.msg_type c.args.list.now _ _ c.in_err-kind.ensures)

pub returns-in_err-list_length : goal.returns-in_err-list_length
returns-in_err-list_length g c =
    let T = g.K.MessageKind.kinds in
    let m = c.in_ok-kind.kind in
    let listed = flat_list c.args.list.now in
    rw (exit _ _ c.from_residual-in_err-list_length.ensures.1, typed T c.args.class c.args.msg_type c.args.list.now m c.in_ok-kind.ensures, written-framed T m listed) (message_refused T m (after listed (each encode_param)) _ _ c.args.out.now c.in_err-list_length.ensures)

pub returns-in_err-total : goal.returns-in_err-total
returns-in_err-total g c =
    let T = g.K.MessageKind.kinds in
    let m = c.in_ok-kind.kind in
    let listed = flat_list c.args.list.now in
    rw (exit _ _ c.from_residual-in_err-total.ensures.1, typed T c.args.class c.args.msg_type c.args.list.now m c.in_ok-kind.ensures, written-framed T m listed)
    (headed_refused T m (after listed (each encode_param)) _ c.in_ok-list_length.ensures _ _ c.args.out.now _ c.in_err-total.ensures)

pub write_list-requires : goal.write_list-requires
write_list-requires g c =
    let T = g.K.MessageKind.kinds in
    let m = c.in_ok-kind.kind in
    let run = c.in_ok-list_length.field-0 in
    let h = headed_known T m run _ c.args.out.now c.put_header.new.out c.in_ok-total.ensures in
    let k = message-known T m (after (flat_list c.args.list.now) (each encode_param)) _ _ c.in_ok-list_length.ensures h.size h.small in
    let d = c.put_header.new.out in
    rw (k.1, length-take (length d - 8) (drop 8 d), length-drop 8 d) (omega (arith, k.3, h.room))

pub returns-in_err-write_list : goal.returns-in_err-write_list
returns-in_err-write_list g c =
    let T = g.K.MessageKind.kinds in
    let m = c.in_ok-kind.kind in
    let o = after (flat_list c.args.list.now) (each encode_param) in
    let run = c.in_ok-list_length.field-0 in
    let h = headed_known T m run _ c.args.out.now c.put_header.new.out c.in_ok-total.ensures in
    let same = sum-writable o run c.in_ok-list_length.ensures (omega (arith, h.size, h.small)) in
    absurd (rest_accepted T m o _ c.in_ok-list_length.ensures _ _ _ c.in_ok-total.ensures o (sym same) c.in_err-write_list.ensures)

pub returns : goal.returns
returns g c =
    let T = g.K.MessageKind.kinds in
    let m = c.in_ok-kind.kind in
    let listed = flat_list c.args.list.now in
    let o = after listed (each encode_param) in
    let run = c.in_ok-list_length.field-0 in
    let h = headed_known T m run _ c.args.out.now c.put_header.new.out c.in_ok-total.ensures in
    let same = sum-writable o run c.in_ok-list_length.ensures (omega (arith, h.size, h.small)) in
    rw (typed T c.args.class c.args.msg_type c.args.list.now m c.in_ok-kind.ensures, written-framed T m listed)
    (message-done T m o _ c.in_ok-list_length.ensures _ _ _ c.in_ok-total.ensures o (sym same) c.in_ok-write_list.ensures)
