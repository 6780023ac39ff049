-- The worked titles and addresses, checked by computation.
use Prim.Native.Nat.{ℕ}
use mathlib.Core.Path.{◌≡◌, refl}
use mathlib.Core.List.{List}
use Rattle.bcd.specs.Outcome.{accepted, All}
use Rattle.bcd.specs.Digits.{built_in, halves, digits_in}
use Rattle.parameter.specs.Parameter.{param_octets, run_octets, two_at}
use Rattle.parameter.specs.Walk.{headed, step_at, steps, places, parameters}
use Rattle.address.specs.Address.{title_in, piece_in, address_with, address_in, read_address}
use Rattle.address.specs.Absent.{absent_at, absent_in}
use Rattle.address.specs.Worked.{declared_titles, titled_addresses, whole_value, whole_address, bare_value, bare_address}

pub worked_titles : All (λ (x : List ℕ × ℕ). absent_at built_in x.0 ≡ x.1) declared_titles
unfolding digits_in halves
worked_titles = (refl, (refl, (refl, (refl, (refl, (refl, tt))))))

pub worked_titled_addresses : All (λ (x : List ℕ × ℕ). absent_in built_in x.0 ≡ x.1) titled_addresses
unfolding absent_in digits_in halves parameters places steps step_at headed two_at run_octets param_octets
worked_titled_addresses = (refl, (refl, (refl, tt)))

pub worked_reading : (read_address built_in whole_value ≡ accepted whole_address) × (read_address built_in bare_value ≡ accepted bare_address)
unfolding read_address address_in address_with piece_in title_in digits_in halves parameters places steps step_at headed two_at
worked_reading = (refl, refl)
