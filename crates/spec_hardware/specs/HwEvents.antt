-- Beats, pokes, keys and time, as functions of the machine. This project's own: beats and pokes ask the devices' bits of pages.
use Rattle.std.specs.Prelude.{ℕ, ◌+◌, map, length, if◌then◌else◌}
use Rattle.spec_processor.specs.Bytes.{overwrite, ram_offset}
use Rattle.sv_types.specs.Clock.{after_tick}
use Rattle.sv_types.specs.Console.{after_key, has_room}
use Rattle.sv_types.specs.declared.event.Event.{Event}
use Rattle.sv_types.specs.declared.event.Event.TheVariants.{Turn, Beat, Key, Tick, Poke}
use Rattle.sv_types.specs.declared.event.Note.TheVariants.{Denied}
use Rattle.spec_reference.specs.States.{Disk}
use Rattle.spec_reference.specs.Counting.{with_count, with_note, count_denied, count_dropped, count_beat, count_key, count_tick}
use Rattle.spec_reference.specs.Attacker.{poke_move}
use Rattle.spec_reference.specs.Disk.{disk_beat, is_writable, DmaStep}
use Rattle.spec_reference.specs.Move.{Move, Idle, FromRam, IntoRam, DeniedAt, OutsideRam}
use Rattle.spec_hardware.specs.Machine.{Machine, forgets, with_count_raised}

-- ---- a beat

abbrev pub with_hw_disk : Machine → Disk → Machine
with_hw_disk m disk = record m { devices = record m.devices { disk = disk } }

unfoldable pub after_hw_move : Machine → Move → Machine
after_hw_move m Idle = m
after_hw_move m (FromRam gpa) = m
after_hw_move m (IntoRam gpa bytes) = record m {
  region = record m.region { ram = overwrite m.region.ram (ram_offset gpa) bytes };
  harts = map (forgets (length m.region.tables + ram_offset gpa) (length bytes)) m.harts;
}
after_hw_move m (DeniedAt gpa) = record m { journal = with_note (Denied gpa) (with_count count_denied m.journal) }
after_hw_move m OutsideRam = m

abbrev pub after_host_dma_step : Machine → DmaStep → Machine
after_host_dma_step m b = after_hw_move (with_hw_disk m b.disk) b.move

unfoldable pub beat_served : Machine → Machine
beat_served m = after_host_dma_step m (disk_beat m.devices.disk m.region.ram (is_writable m.dma))

-- ---- a write of an attacker's device

unfoldable pub poke_served : Machine → (gpa value : ℕ) → Machine
poke_served m gpa value = after_hw_move m (poke_move m.region.ram (is_writable m.dma) gpa value)

-- ---- keys and time

unfoldable pub key_served : Machine → ℕ → Machine
key_served m byte = record m {
  devices = record m.devices { console = after_key m.devices.console byte };
  journal = if has_room m.devices.console then m.journal else with_count count_dropped m.journal;
}

unfoldable pub tick_served : Machine → ℕ → Machine
tick_served m n = record m { devices = record m.devices { clock = after_tick m.devices.clock n } }

-- the events that are no turn
unfoldable pub event_served : Machine → Event → Machine
event_served m (Turn h) = m
event_served m Beat = beat_served (with_count_raised m count_beat)
event_served m (Key byte) = key_served (with_count_raised m count_key) byte
event_served m (Tick n) = tick_served (with_count_raised m count_tick) n
event_served m (Poke gpa value) = poke_served (with_count_raised m count_beat) gpa value
