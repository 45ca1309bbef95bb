-- The console: a queue of input bytes, and two registers of one byte. This project's own; the registers have the layout
-- of the receiver buffer and the line status of the National Semiconductor PC16550D.
use Rattle.std.specs.Prelude.{ℕ, ◌+◌, ◌%◌, Bool, ◌&&◌, List, [], ◌∷◌, ◌++◌, length, drop, slice_index, ◌==◌, nat_lt, if◌then◌else◌, Option}
use Rattle.std.specs.Prelude.{Some, None, option_map}

-- ---- the queue

abbrev pub max_queued : ℕ
max_queued = 256

-- there is room for a byte
abbrev pub has_room : List ℕ → Bool
has_room queue = nat_lt (length queue) max_queued

-- a byte of input waits after the others, or is dropped
abbrev pub after_key : List ℕ → ℕ → List ℕ
after_key queue byte = if has_room queue then queue ++ byte ∷ [] else queue

-- the queue without its first byte
abbrev pub without_first : List ℕ → List ℕ
without_first queue = drop 1 queue

-- the interrupt line is set while input is there
abbrev pub console_line : List ℕ → Bool
console_line queue = nat_lt 0 (length queue)

-- ---- registers

pub data ConsoleRegister : Type 0 where
  Data Status : ConsoleRegister

-- their offsets; each is one byte wide
abbrev pub data_offset : ℕ
data_offset = 0

abbrev pub status_offset : ℕ
status_offset = 5

-- bits of the status: the console can print (5 and 6), and input is there (0)
abbrev pub can_print : ℕ
can_print = 0x60

abbrev pub has_input : ℕ
has_input = 0x01

-- the register that a load of a width at an offset reads
unfoldable pub loaded_register : ℕ → ℕ → Option ConsoleRegister
loaded_register offset width =
    if width == 1 then (if offset == data_offset then Some Data else if offset == status_offset then Some Status else None) else None

-- the first byte, 0 where there is none
abbrev pub register_value : List ℕ → ConsoleRegister → ℕ
register_value queue Data = slice_index queue 0
register_value queue Status = if console_line queue then can_print + has_input else can_print

-- a load of the data takes the byte
abbrev pub after_register_load : List ℕ → Option ConsoleRegister → List ℕ
after_register_load queue None = queue
after_register_load queue (Some Data) = without_first queue
after_register_load queue (Some Status) = queue

-- what a load gives, none where there is no such register, and the queue after it
abbrev pub console_load : List ℕ → ℕ → ℕ → Option ℕ
console_load queue offset width = option_map (register_value queue) (loaded_register offset width)

abbrev pub after_load : List ℕ → ℕ → ℕ → List ℕ
after_load queue offset width = after_register_load queue (loaded_register offset width)

-- the byte that a store prints, none where there is no such register
abbrev pub stored_byte : ℕ → ℕ → ℕ → Option ℕ
stored_byte offset width value = if offset == data_offset && width == 1 then Some (value % 256) else None
