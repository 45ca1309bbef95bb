-- A hart with the registers of the side that it is on, as the machine has it, and all harts with their sides. This project's own.
use Rattle.std.specs.Prelude.{List, map}
use Rattle.hart.specs.Cores.{core_of}
use Rattle.hart.specs.declared.hart.Hart.{Hart}
use Rattle.spec_hardware.specs.Machine.{HwHart}
use Rattle.page_guard.specs.Privileges.{entry_of, registers_of}
use Rattle.sv_types.specs.declared.view.View.{View}
use Rattle.monitor_exits.specs.declared.slots.HartSlot.{HartSlot}

abbrev pub hw_of : Hart → View → HwHart
hw_of hart view = record { core = core_of hart.core (registers_of view); started = hart.started; entry = entry_of view }

abbrev pub hw_at : HartSlot → HwHart
hw_at slot = hw_of slot.hart slot.privilege

abbrev pub hw_harts_of : List HartSlot → List HwHart
hw_harts_of slots = map hw_at slots
