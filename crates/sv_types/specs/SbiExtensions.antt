-- The numbers of the extensions that kernel mode can call. RISC-V SBI, the chapters of its extensions; that of modules is
-- this project's own.
use Rattle.std.specs.Prelude.{ℕ}

abbrev pub set_timer_extension : ℕ
set_timer_extension = 0

abbrev pub put_char_extension : ℕ
put_char_extension = 1

abbrev pub get_char_extension : ℕ
get_char_extension = 2

abbrev pub shut_down_extension : ℕ
shut_down_extension = 8

abbrev pub base_extension : ℕ
base_extension = 0x10

abbrev pub timer_extension : ℕ
timer_extension = 0x54494D45

abbrev pub interrupt_extension : ℕ
interrupt_extension = 0x735049

abbrev pub fence_extension : ℕ
fence_extension = 0x52464E43

abbrev pub hart_state_extension : ℕ
hart_state_extension = 0x48534D

abbrev pub reset_extension : ℕ
reset_extension = 0x53525354

abbrev pub modules_extension : ℕ
modules_extension = 0x08534543
