-- What a load or a store at the bus makes of the machine, by whether a register is there.
use Rattle.std.proofs.Common.{◌≡◌, ℕ, Bool, true, false, refl, ap}
use Rattle.std.specs.Prelude.{Option, Some, None, option_map, is_some, unwrap_or}
use Rattle.spec_processor.specs.Requests.{loaded_value}
use Rattle.spec_processor.specs.declared.cause.Cause.{Cause}
use Rattle.spec_processor.specs.declared.mode.Mode.{Mode}
use Rattle.spec_reference.specs.Counting.{with_count, count_retired}
use Rattle.spec_reference.specs.Devices.{DeviceLoad, DeviceStore}
use Rattle.spec_reference.specs.States.{Devices, Journal}
use Rattle.spec_hardware.specs.HwHarts.{hw_with, hw_passed, hw_exception, hw_device_load, hw_device_store}
use Rattle.spec_hardware.specs.Machine.{Machine, HwHart}
use Rattle.monitor_exits.proofs.Places.{update_there}
use Rattle.hw_devices.specs.Bus.{devices_loaded, devices_stored, journal_stored}
use Rattle.monitor_exits.specs.Accessed.{with_devices}

pub loaded_there : (m : Machine) (h : ℕ) (hw : HwHart) (mode : Mode) (rd address width : ℕ) (signed : Bool)
    (d : Devices) (j : Journal) (l : Option DeviceLoad) (value : ℕ) → option_map (λ (l : DeviceLoad). l.value) l ≡ Some value
    → with_devices m h (hw_with rd (loaded_value signed width value) hw) (devices_loaded d l) (with_count count_retired j)
    ≡ hw_device_load (with_devices m h hw d j) h hw mode rd address width signed l
unfolding hw_device_load
loaded_there m h hw mode rd address width signed d j None value e = cc
loaded_there m h hw mode rd address width signed d j (Some l) value e =
    let same : l.value ≡ value = ap (λ (o : Option ℕ). unwrap_or o 0) e in
    rw (same, update_there m.harts h hw (hw_with rd (loaded_value signed width value))) refl

pub not_loaded : (m : Machine) (h : ℕ) (hw : HwHart) (mode : Mode) (rd address width : ℕ) (signed : Bool)
    (d : Devices) (j : Journal) (l : Option DeviceLoad) → option_map (λ (l : DeviceLoad). l.value) l ≡ None
    → hw_exception (with_devices m h hw (devices_loaded d l) j) h hw mode Cause.LoadAccess address
    ≡ hw_device_load (with_devices m h hw d j) h hw mode rd address width signed l
unfolding hw_device_load
not_loaded m h hw mode rd address width signed d j None e = refl
not_loaded m h hw mode rd address width signed d j (Some l) e = cc

pub stored_there : (m : Machine) (h : ℕ) (hw : HwHart) (mode : Mode) (address : ℕ) (d : Devices) (j : Journal)
    (s : Option DeviceStore) → is_some s ≡ true
    → with_devices m h (hw_passed hw) (devices_stored d s) (with_count count_retired (journal_stored j s))
    ≡ hw_device_store (with_devices m h hw d j) h hw mode address s
unfolding hw_device_store
stored_there m h hw mode address d j None e = cc
stored_there m h hw mode address d j (Some s) e = rw (update_there m.harts h hw hw_passed) refl

pub not_stored : (m : Machine) (h : ℕ) (hw : HwHart) (mode : Mode) (address : ℕ) (d : Devices) (j : Journal)
    (s : Option DeviceStore) → is_some s ≡ false
    → hw_exception (with_devices m h hw (devices_stored d s) (journal_stored j s)) h hw mode Cause.StoreAccess address
    ≡ hw_device_store (with_devices m h hw d j) h hw mode address s
unfolding hw_device_store
not_stored m h hw mode address d j None e = refl
not_stored m h hw mode address d j (Some s) e = cc
