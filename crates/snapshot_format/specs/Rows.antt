-- Values from the numbers that are read for them, one after the other. This project's own.
use Rattle.std.specs.Prelude.{ℕ, Option, ◌%◌, ◌^◌, nat_le, List, [], ◌∷◌, length, Bool, true, Ok, ◌||◌, nat_lt, slice_index, ◌==◌, if◌then◌else◌}
use Rattle.spec_processor.specs.Bytes.{instruction_size, page_size}
use Rattle.spec_processor.specs.Regions.{max_ram_pages}
use Rattle.spec_processor.specs.Registers.{software_bit, legal_status, legal_interrupts, legal_tvec, legal_counteren, legal_epc, legal_satp}
use Rattle.snapshot_format.specs.Forms.{Form, Taken, number, within, put_first, ◌⨾◌}
use Rattle.snapshot_format.specs.PageForms.{is_above}
use Rattle.snapshot_format.specs.Snapshots.{events_made, hart_count, page_count}
use Rattle.sv_types.specs.Limits.{max_events, max_harts, min_ram_pages}
use Rattle.sv_types.specs.Policies.{is_between}
use Rattle.snapshot_format.specs.declared.reader.row.Range.{Range}
use Rattle.snapshot_format.specs.declared.reader.row.Range.TheVariants.{Any, AtMost, Below, Between, Above, InstructionPlace, PageStart}
use Rattle.sv_types.specs.Steps.{◌>>=◌}
use Rattle.snapshot_format.specs.HartForms.{Status}
use Rattle.sv_types.specs.declared.event.Counts.{Counts}
use Rattle.sv_types.specs.declared.event.Note.{Note}
use Rattle.sv_types.specs.declared.event.Rule.{Rule}
use Rattle.sv_types.specs.declared.event.Verdict.{Verdict}
use Rattle.sv_types.specs.declared.saved.ModulePlacement.{ModulePlacement}

abbrev pub counts_of_row : List ℕ → Counts
counts_of_row row = record {
  turns = slice_index row 0;
  beats = slice_index row 1;
  keys = slice_index row 2;
  ticks = slice_index row 3;
  retired = slice_index row 4;
  traps = slice_index row 5;
  enters = slice_index row 6;
  leaves = slice_index row 7;
  demotes = slice_index row 8;
  denied = slice_index row 9;
  dropped = slice_index row 10;
  loads = slice_index row 11;
  unloads = slice_index row 12;
  refused = slice_index row 13;
  notes = slice_index row 14;
}

-- ---- the supervisor registers: sstatus, sie, stvec, scounteren, sscratch, sepc, scause, stval, sip, satp

-- the register at this place may hold a number
abbrev pub may_hold : (place n : ℕ) → Bool
may_hold place n =
    if place == 0 then legal_status n == n
    else if place == 1 then legal_interrupts n == n
    else if place == 2 then legal_tvec n == n
    else if place == 3 then legal_counteren n == n
    else if place == 5 then legal_epc n == n
    else if place == 8 then n == 0 || n == software_bit
    else if place == 9 then legal_satp 0 n == n
    else true

abbrev pub register_after : List ℕ → Form ℕ
register_after before = within (may_hold (length before)) number

abbrev pub status_of_row : List ℕ → Status
status_of_row row = (
  slice_index row 0,
  (
    slice_index row 1,
    (
      slice_index row 2,
      (
        slice_index row 3,
        (
          slice_index row 4,
          (
            slice_index row 5,
            (slice_index row 6, (slice_index row 7, (slice_index row 8, slice_index row 9))),
          ),
        ),
      ),
    ),
  ),
)

-- ---- a number in each range

abbrev pub is_within : Range → ℕ → Bool
is_within Any n = true
is_within (AtMost most) n = nat_le n most
is_within (Below end) n = nat_lt n end
is_within (Between low high) n = is_between low high n
is_within (Above last) n = is_above last n
is_within InstructionPlace n = n % instruction_size == 0
is_within PageStart n = n % page_size == 0

abbrev pub ranged : Range → Form ℕ
ranged range = within (is_within range) number

unfoldable pub row_taken : List Range → List ℕ → Taken (List ℕ)
row_taken [] bytes = Ok ([], bytes)
row_taken (range ∷ ranges) bytes = (ranged range).taken bytes >>= λ a. row_taken ranges a.1 >>= put_first a.0

abbrev pub module_ranges : Option ℕ → List Range
module_ranges last = Above last ∷ PageStart ∷ PageStart ∷ Any ∷ []

abbrev pub module_of_row : List ℕ → ModulePlacement
module_of_row row = record { id = slice_index row 0; gpa = slice_index row 1; va = slice_index row 2; data_va = slice_index row 3 }

abbrev pub demote_ranges : ℕ → List Range
demote_ranges harts = Below harts ∷ Any ∷ InstructionPlace ∷ Any ∷ []

abbrev pub demote_of_row : List ℕ → Note
demote_of_row row = Note.Demote (slice_index row 0) (slice_index row 1) (slice_index row 2) (slice_index row 3)

abbrev pub answer_ranges : ℕ → List Range
answer_ranges harts = Below harts ∷ Any ∷ Any ∷ []

abbrev pub retire_ranges : ℕ → List Range
retire_ranges harts = Below harts ∷ Any ∷ []

abbrev pub entry_ranges : ℕ → List Range
entry_ranges harts = Any ∷ Below harts ∷ Any ∷ []

abbrev pub entry_of_row : List ℕ → Verdict
entry_of_row row = Verdict.Stopped (Rule.Entry (slice_index row 0)) (slice_index row 1) (slice_index row 2)

abbrev pub write_ranges : ℕ → List Range
write_ranges harts = InstructionPlace ∷ Any ∷ Below harts ∷ Any ∷ []

abbrev pub write_of_row : List ℕ → Verdict
write_of_row row = Verdict.Stopped (Rule.Write (slice_index row 0) (slice_index row 1)) (slice_index row 2) (slice_index row 3)

-- events, harts, pages of RAM, time
abbrev pub HeaderNumbers : Type 0
HeaderNumbers = ℕ × (ℕ × (ℕ × ℕ))

abbrev pub header_numbers : Form HeaderNumbers
header_numbers = events_made ⨾ (hart_count ⨾ (page_count ⨾ number))

abbrev pub header_ranges : List Range
header_ranges = AtMost max_events ∷ Between 1 max_harts ∷ Between min_ram_pages max_ram_pages ∷ Any ∷ []

abbrev pub header_of_row : List ℕ → HeaderNumbers
header_of_row row = (slice_index row 0, (slice_index row 1, (slice_index row 2, slice_index row 3)))

abbrev pub block_ranges : List Range
block_ranges = Any ∷ Any ∷ Below (2 ^ 32) ∷ []
