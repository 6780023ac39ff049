-- A point code and an SSN that are written behind what was begun: the buffer after each.
use Prim.Native.Nat.{ℕ, ◌+◌, ◌-◌, ◌≤◌}
use mathlib.Core.Path.{◌≡◌, ap, ◌∙◌}
use Rattle.std.specs.Prelude.{Option, option_map}
use mathlib.Core.List.{List, ◌++◌}
use native.Mathlib.Omega.{arith}
use lib.ListN.{length}
use borrow.Rule.Slice.PartMut.{mid_of, put_mid}
use Rattle.bcd.specs.Outcome.{Outcome, accepted, refused, deliver}
use Rattle.bcd.proofs.Writing.{Begun}
use Rattle.parameter.specs.Parameter.{Param, four, run_octets, run_length}
use Rattle.address.specs.Given.{given_param}
use Rattle.address.specs.Steps.GivenParts.{sub_value}
use Rattle.address.proofs.Planning.{param_of, code_param, sub_one}
use Rattle.address.proofs.Encoding.{given_one}
use Rattle.address.proofs.Delivering.{Wrote, wrote, wrote_never}

-- a buffer once a callee has written from a place on
abbrev pub behind : ℕ → List ℕ → List ℕ → List ℕ
behind at d last = put_mid at (length d - at) d last

-- Octets that were begun, up to a place.
pub record Stands (out p d : List ℕ) (at : ℕ) : Type 0 where
  pub begun : Begun out p d
  pub place : length p ≡ at

module _ (c s : Option ℕ) where
  abbrev pub codes : List Param
  codes = param_of code_param c

  abbrev pub subs : List Param
  subs = param_of sub_one s

  given_code : {o : Option (List ℕ)} → o ≡ option_map four c → ◌≡◌ {A = Outcome (List Param)} (accepted (given_param 0x8002 o)) (accepted codes)
  given_code e = ap accepted (ap (given_param 0x8002) e ∙ given_one 0x8002 four c)

  given_sub : {o : Option (List ℕ)} → o ≡ option_map sub_value s → ◌≡◌ {A = Outcome (List Param)} (accepted (given_param 0x8003 o)) (accepted subs)
  given_sub e = ap accepted (ap (given_param 0x8003) e ∙ given_one 0x8003 sub_value s)

  module _ {out p d : List ℕ} {at : ℕ} (x : Stands out p d at) (room : at + run_length codes + run_length subs ≤ length out)
      {o : Option (List ℕ)} (code : o ≡ option_map four c) where
    pub code_never :
        {X : Type 0} {n : ℕ} {vs last : List ℕ}
        → record { answer = refused n vs; buffer = last } ≡ deliver (accepted (run_octets (given_param 0x8002 o))) (mid_of at (length d - at) d)
        → X
    code_never e = wrote_never at x.begun x.place _ codes (given_code code) (omega (arith, room)) e

    pub coded :
        {m : ℕ} {last : List ℕ}
        → record { answer = accepted m; buffer = last } ≡ deliver (accepted (run_octets (given_param 0x8002 o))) (mid_of at (length d - at) d)
        → Wrote out p d at codes m last
    coded {m} {last} e = wrote at x.begun x.place _ codes (given_code code) (omega (arith, room)) m last e

    module _ {m : ℕ} {last : List ℕ} (e : record { answer = accepted m; buffer = last } ≡ deliver (accepted (run_octets (given_param 0x8002 o))) (mid_of at (length d - at) d))
        {u : Option (List ℕ)} (sub : u ≡ option_map sub_value s) where
      abbrev lent : List ℕ
      lent = mid_of (at + m) (length (behind at d last) - (at + m)) (behind at d last)

      pub sub_never :
          {X : Type 0} {n : ℕ} {vs put : List ℕ}
          → record { answer = refused n vs; buffer = put } ≡ deliver (accepted (run_octets (given_param 0x8003 u))) lent
          → X
      sub_never f = let y = coded e in wrote_never (at + m) y.begun y.place _ subs (given_sub sub) (omega (arith, room, y.count)) f

      pub subbed :
          {i : ℕ} {put : List ℕ}
          → record { answer = accepted i; buffer = put } ≡ deliver (accepted (run_octets (given_param 0x8003 u))) lent
          → Wrote out (p ++ run_octets codes) (behind at d last) (at + m) subs i put
      subbed {i} {put} f = let y = coded e in wrote (at + m) y.begun y.place _ subs (given_sub sub) (omega (arith, room, y.count)) i put f
