-- Whole runs of one page: what is printed, by counting on one's fingers. This project's own.
use Rattle.std.specs.Prelude.{◌≡◌, ℕ, List, [], ◌∷◌, ◌++◌, codes}
use Rattle.spec_processor.specs.Bytes.{with_padding}
use Rattle.spec_reference.specs.Report.{output}
use Rattle.spec_examples.specs.Guests.{words, flat, text_of_lines, register_of, trap_facts}

abbrev pub nothing_denied : List ℕ
nothing_denied = codes "denied 0 dropped 0 loads 0 unloads 0 refused 0"

abbrev pub prints_a : List ℕ
prints_a = words (0x04100513 ∷ 0x00100893 ∷ 0x00000073 ∷ 0x00800893 ∷ 0x00000073 ∷ [])

-- it sets stvec to 0x80000100, and falls into the zeros after its text
abbrev pub enters_at_its_vector : (second : ℕ) → List ℕ
enters_at_its_vector second = words (0x00000297 ∷ second ∷ 0x10529073 ∷ 0x7F50006F ∷ [])

abbrev pub leaves_and_comes_back : List ℕ
leaves_and_comes_back = with_padding (words (0x00000297 ∷ 0x10028293 ∷ 0x10529073 ∷ 0x14129073 ∷ 0x10200073 ∷ [])) 0x100 ++ words (0x00800893 ∷ 0x00000073 ∷ [])

abbrev pub console_guest : List ℕ
console_guest = words (0x100002B7 ∷ 0x04100513 ∷ 0x00A28023 ∷ 0x0052C303 ∷ 0x0002B303 ∷ [])

pub record FlatRows : Type 0 where
  -- prints a byte and shuts down
  pub prints_a_and_shuts_down : output (flat prints_a 5) ≡ text_of_lines (
      codes "A"
      ∷ codes "notes 0"
      ∷ codes "turns 5 beats 0 keys 0 ticks 0"
      ∷ codes "retired 3 traps 0 enters 0 leaves 0 demotes 0"
      ∷ nothing_denied
      ∷ codes "verdict shutdown"
      ∷ [])
  -- a jump out of the approved page demotes; the word there traps, and its vector isn't permitted
  pub stray_fetch_demotes : output (flat (words (0x0000106F ∷ [])) 10) ≡ text_of_lines (
      codes ""
      ∷ codes "demote hart 0 turn 2 pc 0x0000000080001000 gpa 0x0000000080001000"
      ∷ codes "notes 1"
      ∷ codes "turns 3 beats 0 keys 0 ticks 0"
      ∷ codes "retired 1 traps 0 enters 0 leaves 0 demotes 1"
      ∷ nothing_denied
      ∷ codes "verdict stopped entry hart 0 turn 3 target 0x0000000000000000"
      ∷ [])
  -- an entry is one address, and not its page
  pub entry_is_one_address : output (flat (enters_at_its_vector 0x10428293) 10) ≡ text_of_lines (
      codes ""
      ∷ codes "demote hart 0 turn 5 pc 0x0000000080001000 gpa 0x0000000080001000"
      ∷ codes "notes 1"
      ∷ codes "turns 6 beats 0 keys 0 ticks 0"
      ∷ codes "retired 4 traps 0 enters 0 leaves 0 demotes 1"
      ∷ nothing_denied
      ∷ codes "verdict stopped entry hart 0 turn 6 target 0x0000000080000104"
      ∷ [])
  pub permitted_entry_is_taken : output (flat (enters_at_its_vector 0x10028293) 6) ≡ text_of_lines (
      codes ""
      ∷ codes "demote hart 0 turn 5 pc 0x0000000080001000 gpa 0x0000000080001000"
      ∷ codes "notes 1"
      ∷ codes "turns 6 beats 0 keys 0 ticks 0"
      ∷ codes "retired 4 traps 1 enters 1 leaves 0 demotes 1"
      ∷ nothing_denied
      ∷ codes "verdict ended"
      ∷ [])
  -- SRET to user mode in an approved page: the next fetch traps into the kernel
  pub return_into_approved_page : output (flat leaves_and_comes_back 20) ≡ text_of_lines (
      codes ""
      ∷ codes "notes 0"
      ∷ codes "turns 8 beats 0 keys 0 ticks 0"
      ∷ codes "retired 6 traps 1 enters 1 leaves 1 demotes 0"
      ∷ nothing_denied
      ∷ codes "verdict shutdown"
      ∷ [])
  -- SC to an approved page stops, also without a reservation
  pub conditional_store_into_text : output (flat (words (0x00000297 ∷ 0x1802A32F ∷ [])) 10) ≡ text_of_lines (
      codes ""
      ∷ codes "notes 0"
      ∷ codes "turns 2 beats 0 keys 0 ticks 0"
      ∷ codes "retired 1 traps 0 enters 0 leaves 0 demotes 0"
      ∷ nothing_denied
      ∷ codes "verdict stopped write hart 0 turn 2 pc 0x0000000080000004 gpa 0x0000000080000000"
      ∷ [])
  -- the console's registers are of one byte
  pub console_prints : (flat console_guest 5).journal.printed ≡ 65 ∷ []
  pub console_status : register_of (flat console_guest 5) 6 ≡ 0x60
  pub load_of_eight_bytes_traps : trap_facts (flat console_guest 5) ≡ 5 ∷ 0x10000000 ∷ 1 ∷ 4 ∷ []
  pub atomic_on_a_device_traps : trap_facts (flat (words (0x100002B7 ∷ 0x0002B32F ∷ [])) 2) ≡ 7 ∷ 0x10000000 ∷ 1 ∷ 1 ∷ []
