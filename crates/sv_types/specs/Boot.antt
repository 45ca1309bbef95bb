-- What a machine begins with. This project's own.
use Rattle.std.specs.Prelude.{ℕ, ◌*◌}
use Rattle.spec_processor.specs.Bytes.{page_size}
use Rattle.sv_types.specs.declared.event.Counts.{Counts}

abbrev pub no_counts : Counts
no_counts = record {
  turns = 0;
  beats = 0;
  keys = 0;
  ticks = 0;
  retired = 0;
  traps = 0;
  enters = 0;
  leaves = 0;
  demotes = 0;
  denied = 0;
  dropped = 0;
  loads = 0;
  unloads = 0;
  refused = 0;
  notes = 0;
}

-- the pages of RAM of a machine of plain pages
abbrev pub flat_ram_pages : ℕ
flat_ram_pages = 16

-- where its kernel may be entered alongside its begin, from the start of RAM on
abbrev pub flat_trap_offset : ℕ
flat_trap_offset = 0x100

-- the bytes of these pages
abbrev pub max_flat_bytes : ℕ
max_flat_bytes = page_size * flat_ram_pages
