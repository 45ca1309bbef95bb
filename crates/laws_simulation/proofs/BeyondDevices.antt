-- A device's register is found by an address of 64 bits: at the last one there is none, as at all beyond.
use Rattle.std.proofs.Common.{◌≡◌, ℕ, ◌-◌, ◌^◌, ap, arith}
use Rattle.std.specs.Prelude.{min}
use Rattle.std.proofs.lemmas.Bool.Decides.{nat_tests}
use Rattle.spec_reference.specs.Devices.{Port, port_at, port_load, port_store, device_load, device_store}
use Rattle.spec_reference.specs.States.{Devices, Journal}

beyond : (gpa : ℕ) → port_at (min gpa (2 ^ 64 - 1)) ≡ port_at gpa
unfolding port_at
beyond gpa = grind (arith, nat_tests)

pub load_beyond : (d : Devices) (gpa width : ℕ) → device_load d (min gpa (2 ^ 64 - 1)) width ≡ device_load d gpa width
unfolding device_load
load_beyond d gpa width = ap (λ (p : Port). port_load d p width) (beyond gpa)

pub store_beyond : (d : Devices) (j : Journal) (gpa width value : ℕ)
    → device_store d j (min gpa (2 ^ 64 - 1)) width value ≡ device_store d j gpa width value
unfolding device_store
store_beyond d j gpa width value = ap (λ (p : Port). port_store d j p width value) (beyond gpa)
