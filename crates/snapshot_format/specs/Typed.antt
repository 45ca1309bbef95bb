-- What the types of a snapshot's values say: numbers are words, or shorter, a hart has 32 registers, and a digest 32 bytes. This
-- project's own.
use Rattle.std.specs.Prelude.{◌≡◌, ℕ, ◌^◌, Bool, true, ◌&&◌, List, [], ◌∷◌, length, Option, Some, None, nat_lt, ◌==◌}
use Rattle.std.specs.List.{list_all}
use Rattle.spec_processor.specs.IntegerRegisters.{register_count}
use Rattle.sv_types.specs.Measure.{digest_size}
use Rattle.spec_reference.specs.BlockDisk.{beats_done}
use Rattle.spec_reference.specs.VirtioDevice.{index_values}
use Rattle.sv_types.specs.declared.block.BlockState.{BlockState}
use Rattle.sv_types.specs.declared.port.PortState.{PortState}
use Rattle.sv_types.specs.declared.virtio.VirtioPart.{VirtioPart}
use Rattle.sv_types.specs.declared.virtio.VirtioRequest.{VirtioRequest}
use Rattle.sv_types.specs.declared.virtio.VirtioState.{VirtioState}
use Rattle.sv_types.specs.declared.event.Note.{Note}
use Rattle.sv_types.specs.declared.event.Note.TheVariants.{Demote, Denied, Load, Unload, Retire}
use Rattle.sv_types.specs.declared.event.Rule.TheVariants.{Entry, Write}
use Rattle.sv_types.specs.declared.event.Verdict.{Verdict}
use Rattle.sv_types.specs.declared.event.Verdict.TheVariants.{Running, Shutdown, Stopped}
use Rattle.sv_types.specs.declared.saved.ModulePlacement.{ModulePlacement}
use Rattle.spec_reference.specs.declared.saved_machine.harts.SavedHart.{SavedHart}
use Rattle.spec_reference.specs.declared.saved_machine.whole.SavedLoad.{SavedLoad}
use Rattle.snapshot_format.specs.Forms.{is_word}
use Rattle.snapshot_format.specs.Snapshots.{Contents}
use Rattle.snapshot_format.specs.declared.whole.TextPage.{TextPage}

abbrev pub are_words : List ℕ → Bool
are_words numbers = list_all is_word numbers

-- ---- harts

abbrev pub are_registers : List ℕ → Bool
are_registers registers = length registers == register_count && are_words registers

-- the supervisor registers but for `sip`, which is one bit
abbrev pub supervisor_numbers : SavedHart → List ℕ
supervisor_numbers h =
    h.sstatus ∷ h.sie ∷ h.stvec ∷ h.scounteren ∷ h.sscratch ∷ h.sepc ∷ h.scause ∷ h.stval ∷ h.satp ∷ []

abbrev pub is_typed_hart : SavedHart → Bool
is_typed_hart h = are_registers h.registers && are_words (supervisor_numbers h) && is_word h.timer

-- ---- text and modules

abbrev pub is_typed_page : TextPage → Bool
is_typed_page t = length t.digest == digest_size

abbrev pub module_numbers : ModulePlacement → List ℕ
module_numbers m = m.id ∷ m.gpa ∷ m.va ∷ m.data_va ∷ []

abbrev pub is_typed_module : ModulePlacement → Bool
is_typed_module m = are_words (module_numbers m)

abbrev pub load_numbers : Option SavedLoad → List ℕ
load_numbers None = []
load_numbers (Some load) = load.hart ∷ load.left ∷ module_numbers load.«module»

-- ---- the device that the disk is behind

-- numbers of 32 bits
abbrev pub are_short : List ℕ → Bool
are_short numbers = list_all (λ n. nat_lt n (2 ^ 32)) numbers

abbrev pub is_typed_block : BlockState → Bool
is_typed_block b = are_words (b.sector ∷ b.gpa ∷ beats_done b.status ∷ []) && are_short (b.count ∷ [])

abbrev pub is_typed_part : VirtioPart → Bool
is_typed_part p = is_word p.gpa && nat_lt p.len (2 ^ 32)

abbrev pub is_typed_request : VirtioRequest → Bool
is_typed_request q = nat_lt q.head index_values && is_word q.sector && list_all is_typed_part q.parts && are_short (q.offset ∷ q.written ∷ [])

abbrev pub is_typed_under_way : Option VirtioRequest → Bool
is_typed_under_way None = true
is_typed_under_way (Some q) = is_typed_request q

abbrev pub selected_numbers : VirtioState → List ℕ
selected_numbers s = s.device_select ∷ s.driver_select ∷ s.driver_low ∷ s.driver_high ∷ s.queue ∷ s.size ∷ []

abbrev pub is_typed_virtio : VirtioState → Bool
is_typed_virtio s =
    are_short (selected_numbers s) && are_short (s.interrupt ∷ s.status ∷ []) && are_words (s.descriptors ∷ s.available ∷ s.used ∷ [])
    && is_typed_under_way s.request

abbrev pub is_typed_port : PortState → Bool
is_typed_port (PortState.Block b) = is_typed_block b
is_typed_port (PortState.Virtio s) = is_typed_virtio s

-- ---- the journal

abbrev pub note_numbers : Note → List ℕ
note_numbers (Demote h turn pc gpa) = h ∷ turn ∷ pc ∷ gpa ∷ []
note_numbers (Denied gpa) = gpa ∷ []
note_numbers (Load h turn id code) = h ∷ turn ∷ id ∷ []
note_numbers (Unload h turn id code) = h ∷ turn ∷ id ∷ []
note_numbers (Retire h turn code) = h ∷ turn ∷ []

abbrev pub is_typed_note : Note → Bool
is_typed_note n = are_words (note_numbers n)

abbrev pub verdict_numbers : Verdict → List ℕ
verdict_numbers Running = []
verdict_numbers Shutdown = []
verdict_numbers (Stopped (Entry target) h turn) = target ∷ h ∷ turn ∷ []
verdict_numbers (Stopped (Write pc gpa) h turn) = pc ∷ gpa ∷ h ∷ turn ∷ []

-- ---- the whole

pub record IsTyped (s : Contents) : Type 0 where
  pub time : is_word s.time ≡ true
  pub harts : list_all is_typed_hart s.harts ≡ true
  pub text : list_all is_typed_page s.text ≡ true
  pub modules : list_all is_typed_module s.modules ≡ true
  pub loading : are_words (load_numbers s.loading) ≡ true
  pub port : is_typed_port s.port ≡ true
  pub notes : list_all is_typed_note s.notes ≡ true
  pub verdict : are_words (verdict_numbers s.verdict) ≡ true
