-- The functions of each extension by their numbers, and what some of them name by a number.
-- RISC-V SBI, "Base Extension", "Timer Extension", "IPI Extension", "RFENCE Extension", "Hart State Management Extension",
-- "System Reset Extension". Those about modules are this project's own.
use Rattle.std.specs.Prelude.{ℕ}

-- ---- base

abbrev pub get_specification : ℕ
get_specification = 0

abbrev pub get_implementation : ℕ
get_implementation = 1

abbrev pub get_version : ℕ
get_version = 2

abbrev pub probe : ℕ
probe = 3

-- from the vendor, after `probe`, to the machine they tell who made it
abbrev pub get_machine : ℕ
get_machine = 6

-- ---- timer, IPI, remote fences

abbrev pub set_the_timer : ℕ
set_the_timer = 0

abbrev pub send_ipi : ℕ
send_ipi = 0

-- FENCE.I and the two SFENCE.VMA, from 0 on
abbrev pub last_fence : ℕ
last_fence = 2

-- the bits of a mask of harts
abbrev pub mask_width : ℕ
mask_width = 64

-- ---- hart state

abbrev pub hart_start : ℕ
hart_start = 0

abbrev pub hart_stop : ℕ
hart_stop = 1

abbrev pub hart_status : ℕ
hart_status = 2

abbrev pub state_started : ℕ
state_started = 0

abbrev pub state_stopped : ℕ
state_stopped = 1

-- ---- reset

abbrev pub system_reset : ℕ
system_reset = 0

-- the types of a reset: a shutdown, a cold and a warm reboot
abbrev pub shutdown_type : ℕ
shutdown_type = 0

abbrev pub last_reset_type : ℕ
last_reset_type = 2

-- ---- modules

abbrev pub module_load : ℕ
module_load = 0

abbrev pub module_unload : ℕ
module_unload = 1

abbrev pub init_retire : ℕ
init_retire = 2
