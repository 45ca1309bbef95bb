-- Two guests of some length: one that commands the disk into its own text, and one whose page tables the disk rewrites. This
-- project's own.
use Rattle.std.specs.Prelude.{◌≡◌, ℕ, zero, suc, ◌+◌, ◌*◌, ◌^◌, ◌%◌, ◌==◌, if◌then◌else◌, List, [], ◌∷◌, ◌++◌, replicate, None, codes}
use Rattle.spec_processor.specs.Bytes.{with_padding}
use Rattle.sv_types.specs.Policies.{Rules}
use Rattle.sv_types.specs.declared.block.BlockCommand.TheVariants.{DiskToMemory}
use Rattle.sv_types.specs.declared.event.Event.{Event}
use Rattle.sv_types.specs.declared.event.Event.TheVariants.{Turn, Beat}
use Rattle.sv_types.specs.declared.event.Note.TheVariants.{Demote}
use Rattle.spec_processor.specs.declared.mode.Mode.TheVariants.{User}
use Rattle.spec_reference.specs.Calls.{supervisor_at_boot}
use Rattle.spec_reference.specs.Report.{output}
use Rattle.spec_reference.specs.Run.{run}
use Rattle.spec_reference.specs.Start.{start, block_disk}
use Rattle.spec_reference.specs.States.{State, BlockDisk, with_hart}
use Rattle.spec_examples.specs.DeviceRows.{busy_with}
use Rattle.spec_examples.specs.FlatRows.{nothing_denied}
use Rattle.spec_examples.specs.Guests.{words, doubles, page, text_of_lines, hart_in}

-- ---- the first sets its vector, commands two sectors to 512 bytes below its text, and enters user mode n times; its user
-- calls. Then it prints K and shuts down

abbrev pub guest_text : ℕ → List ℕ
guest_text n = with_padding (words (0x00000297 ∷ 0x10028293 ∷ 0x10529073 ∷ 0x00001497 ∷ 0xFF448493 ∷ 0x00000437 ∷ (0x0004041B + n * 2 ^ 20) ∷ 0x100013B7
    ∷ 0xD0028E13 ∷ 0x01C3B423 ∷ 0x00200E93 ∷ 0x01D3A823 ∷ 0x00100E93 ∷ 0x01D3AA23 ∷ 0x14149073 ∷ 0x10200073 ∷ [])) 0x100
    ++ words (0x00001337 ∷ 0x00930333 ∷ 0x00833023 ∷ 0xFFF40413 ∷ 0x00040663 ∷ 0x14149073 ∷ 0x10200073
    ∷ 0x04B00513 ∷ 0x00100893 ∷ 0x00000073 ∷ 0x00800893 ∷ 0x00000073 ∷ [])

abbrev pub guest_rules : Rules
guest_rules = record {
  format = 1;
  harts = 1;
  ram_pages = 4;
  entries = 0x80001000 ∷ 0x80001100 ∷ [];
  bound = [];
  exports = [];
  kernel = [];
  init = None;
  modules = [];
}

abbrev pub guest_ram : ℕ → List ℕ
guest_ram n = with_padding (replicate 4096 0 ++ page (guest_text n) ++ words (0x00000073 ∷ 0xFFDFF06F ∷ [])) 16384

-- event i is a beat where i mod 8 is 7
abbrev pub turns_and_beats : ℕ → ℕ → List Event
turns_and_beats i zero = []
turns_and_beats i (suc n) = (if i % 8 == 7 then Beat else Turn 0) ∷ turns_and_beats (i + 1) n

abbrev pub guest : ℕ → State
guest n = run (start guest_rules (guest_ram n) (1 ∷ []) 0x80001000 (block_disk (replicate 1024 7))) (turns_and_beats 0 (30 + 9 * n))

-- ---- the second runs under Sv39: page 1 is the kernel's at 0x1000, page 5 the user's at 0x5000; tables are pages 2 to 4. A beat
-- writes the last table's first entries anew, and names page 6 for the kernel's

abbrev pub mapped_rules : Rules
mapped_rules = record guest_rules { ram_pages = 8; entries = 0x1000 ∷ [] }

abbrev pub mapped_ram : List ℕ
mapped_ram = with_padding (replicate 8192 0 ++ page (doubles (0x20000C01 ∷ [])) ++ page (doubles (0x20001001 ∷ []))
    ++ page (doubles (0 ∷ 0x2000044B ∷ 0 ∷ 0 ∷ 0 ∷ 0x2000145B ∷ [])) ++ words (0x00000073 ∷ [])) 32768

abbrev pub new_entries : List ℕ
new_entries = with_padding (doubles (0 ∷ 0x2000184B ∷ 0 ∷ 0 ∷ 0 ∷ 0x2000145B ∷ [])) 512

abbrev pub mapped_start : State
mapped_start = start mapped_rules mapped_ram (1 ∷ []) 0x80001000 (block_disk new_entries)

abbrev pub mapped_state : State
mapped_state = with_hart
    (record mapped_start
    { devices = record mapped_start.devices { disk = BlockDisk (record { block = busy_with DiskToMemory 0x80004000 0; bytes = new_entries }) } })
    0 (record (hart_in User 0x5000 (replicate 32 0)) { supervisor = record supervisor_at_boot { stvec = 0x1000; satp = 0x8000000000080002 } })

pub record GuestRows : Type 0 where
  pub guest_once : output (guest 1) ≡ text_of_lines (
      codes "K"
      ∷ codes "notes 0"
      ∷ codes "turns 27 beats 3 keys 0 ticks 0"
      ∷ codes "retired 24 traps 1 enters 1 leaves 1 demotes 0"
      ∷ nothing_denied
      ∷ codes "verdict shutdown"
      ∷ [])
  -- eight beats move, and the ninth comes to the text
  pub guest_ten_times : output (guest 10) ≡ text_of_lines (
      codes "K"
      ∷ codes "denied gpa 0x0000000080001000"
      ∷ codes "notes 1"
      ∷ codes "turns 99 beats 14 keys 0 ticks 0"
      ∷ codes "retired 87 traps 10 enters 10 leaves 10 demotes 0"
      ∷ codes "denied 1 dropped 0 loads 0 unloads 0 refused 0"
      ∷ codes "verdict shutdown"
      ∷ [])
  -- a permitted entry whose address is mapped anew: the trap enters, and the next turn demotes
  pub entry_mapped_anew : (run mapped_state (Beat ∷ Turn 0 ∷ Turn 0 ∷ [])).journal.notes ≡ Demote 0 2 0x1000 0x80006000 ∷ []
  pub it_entered : (run mapped_state (Beat ∷ Turn 0 ∷ Turn 0 ∷ [])).journal.counts.enters ≡ 1
  pub without_the_beat : (run mapped_state (Turn 0 ∷ Turn 0 ∷ [])).journal.counts.demotes ≡ 0
