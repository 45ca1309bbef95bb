-- A slot after a write, and after an interrupt, and the first ones of a list changed. This project's own.
use Rattle.std.specs.Prelude.{ℕ, zero, suc, ◌+◌, Bool, List, [], ◌∷◌, if◌then◌else◌}
use Rattle.spec_processor.specs.Requests.{after_write}
use Rattle.spec_processor.specs.HypervisorRegisters.{virtual_software_bit}
use Rattle.monitor_exits.specs.declared.slots.HartSlot.{HartSlot}

abbrev pub slot_after_write : ℕ → ℕ → HartSlot → HartSlot
slot_after_write hpa width slot = record slot {
  hart = record slot.hart { core = record slot.hart.core { reservation = after_write hpa width slot.hart.core.reservation } };
}

abbrev pub slot_with_software : HartSlot → HartSlot
slot_with_software slot = record slot
    { hart = record slot.hart { core = record slot.hart.core { csrs = record slot.hart.core.csrs { hvip = virtual_software_bit } } } }

-- of slots that are numbered from `at` on, the first n
unfoldable pub first_changed : (ℕ → HartSlot → HartSlot) → (at n : ℕ) → List HartSlot → List HartSlot
first_changed change at zero slots = slots
first_changed change at (suc n) [] = []
first_changed change at (suc n) (slot ∷ slots) = change at slot ∷ first_changed change (at + 1) n slots

abbrev pub notified_by : (ℕ → Bool) → ℕ → HartSlot → HartSlot
notified_by named h slot = if named h then slot_with_software slot else slot
