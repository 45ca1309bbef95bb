-- The devices at guest-physical addresses, the wires that they give a hart, and the events that are no turn.
-- This project's own.
use Rattle.std.specs.Prelude.{ℕ, ◌+◌, ◌-◌, Bool, not, ◌&&◌, ◌||◌, List, map, length, ◌==◌, if◌then◌else◌, nat_lt, Option, None, option_map}
use Rattle.spec_processor.specs.Bytes.{overwrite, ram_offset}
use Rattle.sv_types.specs.Clock.{after_tick, timer_is_due}
use Rattle.sv_types.specs.DevicePlaces.{device_size, console_base, disk_base}
use Rattle.sv_types.specs.Console.{after_key, has_room, console_line, console_load, after_load, stored_byte}
use Rattle.spec_processor.specs.Requests.{after_write}
use Rattle.spec_processor.specs.declared.lines.Lines.{Lines}
use Rattle.sv_types.specs.declared.event.Note.TheVariants.{Denied}
use Rattle.spec_reference.specs.States.{State, Hart, Devices, Disk, Journal, is_protected}
use Rattle.spec_reference.specs.Counting.{with_count, with_note, printed_low, count_denied, count_dropped}
use Rattle.spec_reference.specs.Move.{Move, Idle, FromRam, IntoRam, DeniedAt, OutsideRam}
use Rattle.spec_reference.specs.Attacker.{poke_move}
use Rattle.spec_reference.specs.Disk.{disk_load, disk_store, disk_line, disk_beat, DmaStep}

-- ---- where registers lie

pub data Port : Type 0 where
  ConsoleAt : (offset : ℕ) → Port
  DiskAt : (offset : ℕ) → Port
  Nowhere : Port

unfoldable pub port_at : ℕ → Port
port_at gpa =
    if nat_lt gpa console_base then Nowhere
    else if nat_lt gpa disk_base then ConsoleAt (gpa - console_base)
    else if nat_lt gpa (disk_base + device_size) then DiskAt (gpa - disk_base)
    else Nowhere

-- ---- loads: the value, and the devices after it

pub record DeviceLoad : Type 0 where
  pub value : ℕ
  pub devices : Devices

abbrev pub device_load_of : Devices → ℕ → DeviceLoad
device_load_of devices value = record { value = value; devices = devices }

unfoldable pub port_load : Devices → Port → ℕ → Option DeviceLoad
port_load d (ConsoleAt offset) width =
    option_map (device_load_of (record d { console = after_load d.console offset width })) (console_load d.console offset width)
port_load d (DiskAt offset) width = option_map (device_load_of d) (disk_load d.disk offset width)
port_load d Nowhere width = None

unfoldable pub device_load : Devices → (gpa width : ℕ) → Option DeviceLoad
device_load d gpa width = port_load d (port_at gpa) width

-- ---- stores: the devices and the journal after them, since the console prints

pub record DeviceStore : Type 0 where
  pub devices : Devices
  pub journal : Journal

unfoldable pub port_store : Devices → Journal → Port → (width value : ℕ) → Option DeviceStore
port_store d j (ConsoleAt offset) width value =
    option_map (λ byte. record { devices = d; journal = printed_low byte j }) (stored_byte offset width value)
port_store d j (DiskAt offset) width value =
    option_map (λ (disk : Disk). record { devices = record d { disk = disk }; journal = j }) (disk_store d.disk offset width value)
port_store d j Nowhere width value = None

unfoldable pub device_store : Devices → Journal → (gpa width value : ℕ) → Option DeviceStore
device_store d j gpa width value = port_store d j (port_at gpa) width value

-- ---- wires

-- the external line reaches hart 0 alone
abbrev pub external_line : Devices → ℕ → Bool
external_line d h = h == 0 && (console_line d.console || disk_line d.disk)

unfoldable pub lines_at : Devices → ℕ → Lines
lines_at d h = record { time = d.clock.time; external = external_line d h; timer = timer_is_due d.clock h }

-- ---- writes of RAM

-- the hart after a write of so many bytes at a place in RAM
abbrev pub hart_after_write : ℕ → ℕ → Hart → Hart
hart_after_write place width hart = record hart { reservation = after_write place width hart.reservation }

-- bytes are written, and each reservation that they touch goes
unfoldable pub with_bytes : State → ℕ → List ℕ → State
with_bytes r place bytes = record r {
  ram = overwrite r.ram place bytes;
  harts = map (hart_after_write place (length bytes)) r.harts;
}

-- ---- beats, pokes, keys and time

abbrev pub with_disk : State → Disk → State
with_disk r disk = record r { devices = record r.devices { disk = disk } }

unfoldable pub after_move : State → Move → State
after_move r Idle = r
after_move r (FromRam gpa) = r
after_move r (IntoRam gpa bytes) = with_bytes r (ram_offset gpa) bytes
after_move r (DeniedAt gpa) = record r { journal = with_note (Denied gpa) (with_count count_denied r.journal) }
after_move r OutsideRam = r

abbrev pub after_dma_step : State → DmaStep → State
after_dma_step r b = after_move (with_disk r b.disk) b.move

-- a device may write a page that isn't protected
abbrev pub may_move_to : State → ℕ → Bool
may_move_to r page = not (is_protected r page)

unfoldable pub beat : State → State
beat r = after_dma_step r (disk_beat r.devices.disk r.ram (λ page. may_move_to r page))

-- a write of an attacker's device
unfoldable pub poke : State → (gpa value : ℕ) → State
poke r gpa value = after_move r (poke_move r.ram (λ page. may_move_to r page) gpa value)

-- a byte of input waits, or is dropped where the queue is full
unfoldable pub key : State → ℕ → State
key r byte = record r {
  devices = record r.devices { console = after_key r.devices.console byte };
  journal = if has_room r.devices.console then r.journal else with_count count_dropped r.journal;
}

unfoldable pub tick : State → ℕ → State
tick r n = record r { devices = record r.devices { clock = after_tick r.devices.clock n } }
