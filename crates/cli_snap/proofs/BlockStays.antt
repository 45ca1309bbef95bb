-- What holds of the block device and its disk after a store, and after a beat.
use Rattle.std.proofs.Common.{◌≡◌, ◌≢◌, ℕ, ◌+◌, ◌*◌, ◌%◌, ◌^◌, ◌<◌, ◌≤◌, List, length, Bool, true, false, not, arith, refl, subst, sym, ◌∙◌, lit<}
use Rattle.std.specs.Prelude.{Option, Some, None, option_map, if◌then◌else◌, ◌==◌, ◌&&◌, nat_lt, nat_le}
use Rattle.std.proofs.Math.Nat.{mod-lt}
use Rattle.std.proofs.lemmas.Bool.{eqb-true, eqb-false, leb-true}
use Rattle.spec_processor.specs.Bytes.{part, overwrite, in_ram, ram_offset, page_of}
use Rattle.laws_processor.proofs.ByteLemmas.{length_overwrite}
use Rattle.sv_types.specs.BlockNumbers.{command_of}
use Rattle.sv_types.specs.declared.block.BlockCommand.{BlockCommand}
use Rattle.sv_types.specs.declared.block.BlockState.{BlockState}
use Rattle.sv_types.specs.declared.block.BlockStatus.{BlockStatus}
use Rattle.spec_reference.specs.BlockDisk.{BlockRegister, Sector, Address, Count, Command, Status, block_offset, block_width, is_register}
use Rattle.spec_reference.specs.BlockDisk.{block_register, is_busy, is_under_way, can_begin, block_told, block_ended, block_stored}
use Rattle.spec_reference.specs.BlockDisk.{unless_busy, block_store, BlockBeat, block_after_beat, block_beat}
use Rattle.spec_reference.specs.States.{BlockDevice}
use Rattle.laws_simulation.proofs.Lookups.{part_short}
use Rattle.snapshot_format.proofs.FormLaws.{first_true, second_true}
use Rattle.cli_snap.specs.BlockRuns.{IsOnDisk, Transfers, HoldsBlock, HoldsDevice}

-- ---- registers

abbrev WidthIs : Option BlockRegister → ℕ → Type 0
WidthIs None width = Unit {0}
WidthIs (Some register) width = width ≡ block_width register

choose_width : (width : ℕ) (b : Bool) (register : BlockRegister) (rest : Option BlockRegister) → (b ≡ true → width ≡ block_width register) → WidthIs rest width
    → WidthIs (if b then Some register else rest) width
choose_width width true register rest first other = first refl
choose_width width false register rest first other = other

width_of : (offset width : ℕ) (register : BlockRegister) → is_register offset width register ≡ true → width ≡ block_width register
width_of offset width register is =
    eqb-true width (block_width register) (second_true (offset == block_offset register) (width == block_width register) is)

register_width : (offset width : ℕ) → WidthIs (block_register offset width) width
unfolding block_register
register_width offset width =
    choose_width width (is_register offset width Sector) Sector _ (width_of offset width Sector)
    (choose_width width (is_register offset width Address) Address _ (width_of offset width Address)
    (choose_width width (is_register offset width Count) Count _ (width_of offset width Count)
    (choose_width width (is_register offset width Command) Command _ (width_of offset width Command)
    (choose_width width (is_register offset width Status) Status None (width_of offset width Status) tt))))

-- ---- stores

-- no transfer is under way
rests : (status : BlockStatus) (b : BlockState) (n : ℕ) → is_under_way status ≡ false → Transfers status b n
rests (BlockStatus.Busy command done) b n is = absurd (cc is)
rests _ b n is = tt

begun : (b : BlockState) (n : ℕ) → can_begin b n ≡ true → IsOnDisk b 0 n
begun b n can =
    let both = first_true (nat_lt 0 b.count && nat_le (512 * (b.sector + b.count)) n) (b.gpa % 64 == 0) can in
    let some : 1 ≤ b.count = leb-true 1 b.count (first_true (nat_lt 0 b.count) (nat_le (512 * (b.sector + b.count)) n) both) in
    record {
      left = omega (arith, some);
      aligned = eqb-true (b.gpa % 64) 0 (second_true (nat_lt 0 b.count && nat_le (512 * (b.sector + b.count)) n) (b.gpa % 64 == 0) can);
      inside = leb-true (512 * (b.sector + b.count)) n (second_true (nat_lt 0 b.count) (nat_le (512 * (b.sector + b.count)) n) both);
    }

begins : (b : BlockState) (n : ℕ) (command : BlockCommand) (can : Bool) → can_begin b n ≡ can → HoldsBlock n b
    → HoldsBlock n (if can then record b { status = BlockStatus.Busy command 0 } else block_ended b BlockStatus.OutOfRange)
begins b n command true is holds =
    let on = begun b n is in
    record { sector = holds.sector; gpa = holds.gpa; count = holds.count; transfer = record { left = on.left; aligned = on.aligned; inside = on.inside } }
begins b n command false is holds = record { sector = holds.sector; gpa = holds.gpa; count = holds.count; transfer = tt }

told_holds : (b : BlockState) (n : ℕ) (x : Option BlockCommand) → HoldsBlock n b → HoldsBlock n (block_told b n x)
told_holds b n None holds = holds
told_holds b n (Some command) holds = begins b n command (can_begin b n) refl holds

stored_in : (b : BlockState) (n : ℕ) (register : BlockRegister) (value : ℕ) → value < 256 ^ block_width register → is_busy b ≡ false → HoldsBlock n b
    → HoldsBlock n (block_stored b n register value)
stored_in b n Sector value small idle holds =
    record { sector = small; gpa = holds.gpa; count = holds.count; transfer = rests b.status (record b { sector = value }) n idle }
stored_in b n Address value small idle holds =
    record { sector = holds.sector; gpa = small; count = holds.count; transfer = rests b.status (record b { gpa = value }) n idle }
stored_in b n Count value small idle holds =
    record { sector = holds.sector; gpa = holds.gpa; count = small; transfer = rests b.status (record b { count = value }) n idle }
stored_in b n Command value small idle holds = told_holds b n (command_of value) holds
stored_in b n Status value small idle holds = record { sector = holds.sector; gpa = holds.gpa; count = holds.count; transfer = tt }

unless_holds : (b next : BlockState) (n : ℕ) (busy : Bool) → HoldsBlock n b → (busy ≡ false → HoldsBlock n next) → HoldsBlock n (if busy then b else next)
unless_holds b next n true holds other = holds
unless_holds b next n false holds other = other refl

low_small : (register : BlockRegister) (width value : ℕ) → width ≡ block_width register → value % 256 ^ width < 256 ^ block_width register
low_small Sector width value is = subst (λ (w : ℕ). value % 256 ^ w < 256 ^ 8) (sym is) (mod-lt value (lit< tt))
low_small Address width value is = subst (λ (w : ℕ). value % 256 ^ w < 256 ^ 8) (sym is) (mod-lt value (lit< tt))
low_small _ width value is = subst (λ (w : ℕ). value % 256 ^ w < 256 ^ 4) (sym is) (mod-lt value (lit< tt))

abbrev stored_by : BlockDevice → (width value : ℕ) → BlockRegister → BlockDevice
stored_by d width value k = record d { block = unless_busy d.block (block_stored d.block (length d.bytes) k (value % 256 ^ width)) }

-- what a device becomes, if it becomes one
abbrev pub AnyHolds : ℕ → Option BlockDevice → Type 0
AnyHolds n None = Unit {0}
AnyHolds n (Some next) = HoldsDevice n next

device_holds : (d : BlockDevice) (n width value : ℕ) (register : BlockRegister) → width ≡ block_width register → HoldsDevice n d
    → HoldsDevice n (stored_by d width value register)
device_holds d n width value register is holds = record {
  size = holds.size;
  block =
      subst (λ (size : ℕ). HoldsBlock n (unless_busy d.block (block_stored d.block size register (value % 256 ^ width)))) (sym holds.size)
      (unless_holds d.block (block_stored d.block n register (value % 256 ^ width)) n (is_busy d.block) holds.block
      (λ idle. stored_in d.block n register (value % 256 ^ width) (low_small register width value is) idle holds.block));
}

any_holds : (d : BlockDevice) (n width value : ℕ) (x : Option BlockRegister) → WidthIs x width → HoldsDevice n d → AnyHolds n (option_map (stored_by d width value) x)
any_holds d n width value None is holds = tt
any_holds d n width value (Some register) is holds = device_holds d n width value register is holds

pub store_holds : (d : BlockDevice) (n offset width value : ℕ) → HoldsDevice n d → AnyHolds n (block_store d offset width value)
unfolding block_store
store_holds d n offset width value holds = any_holds d n width value (block_register offset width) (register_width offset width) holds

-- ---- beats

abbrev pub block_by : (sector gpa count : ℕ) → BlockStatus → BlockState
block_by sector gpa count status = record { sector = sector; gpa = gpa; count = count; status = status }

further : (sector gpa count done n : ℕ) (command : BlockCommand) (last : Bool) → (64 * (done + 1) == 512 * count) ≡ last
    → HoldsBlock n (block_by sector gpa count (BlockStatus.Busy command done))
    → HoldsBlock n (if last then block_by sector gpa count BlockStatus.Done else block_by sector gpa count (BlockStatus.Busy command (done + 1)))
further sector gpa count done n command true is holds = record { sector = holds.sector; gpa = holds.gpa; count = holds.count; transfer = tt }
further sector gpa count done n command false is holds =
    let on = holds.transfer in
    let other : 64 * (done + 1) ≢ 512 * count = eqb-false (64 * (done + 1)) (512 * count) is in
    record {
      sector = holds.sector;
      gpa = holds.gpa;
      count = holds.count;
      transfer = record { left = omega (arith, on.left, other); aligned = on.aligned; inside = on.inside };
    }

after_beat : (sector gpa count done n : ℕ) (command : BlockCommand) → HoldsBlock n (block_by sector gpa count (BlockStatus.Busy command done))
    → HoldsBlock n (block_after_beat (block_by sector gpa count (BlockStatus.Busy command done)))
after_beat sector gpa count done n command holds = further sector gpa count done n command (64 * (done + 1) == 512 * count) refl holds

without_transfer : (b : BlockState) (n : ℕ) → HoldsBlock n b → (status : BlockStatus) → Transfers status (block_ended b status) n → HoldsBlock n (block_ended b status)
without_transfer b n holds status none = record { sector = holds.sector; gpa = holds.gpa; count = holds.count; transfer = none }

moved_size : (bytes ram : List ℕ) (sector gpa count done at n : ℕ) → length bytes ≡ n → HoldsBlock n (block_by sector gpa count (BlockStatus.Busy BlockCommand.MemoryToDisk done))
    → length (overwrite bytes (512 * sector + 64 * done) (part ram at 64)) ≡ n
moved_size bytes ram sector gpa count done at n size holds =
    let on = holds.transfer in
    let few = part_short ram at 64 in
    length_overwrite bytes (part ram at 64) (512 * sector + 64 * done) (omega (arith, on.left, on.inside, few, size)) ∙ size

choose_holds : (n : ℕ) (b : Bool) (x y : BlockBeat) → HoldsDevice n x.device → HoldsDevice n y.device → HoldsDevice n (if b then x else y).device
choose_holds n true x y s t = s
choose_holds n false x y s t = t

abbrev device_by : (sector gpa count : ℕ) → BlockStatus → List ℕ → BlockDevice
device_by sector gpa count status bytes = record { block = block_by sector gpa count status; bytes = bytes }

dma_step_by : (sector gpa count n : ℕ) (status : BlockStatus) (bytes ram : List ℕ) (may_write : ℕ → Bool) → HoldsDevice n (device_by sector gpa count status bytes)
    → HoldsDevice n (block_beat (device_by sector gpa count status bytes) ram may_write).device
unfolding block_beat
dma_step_by sector gpa count n (BlockStatus.Busy BlockCommand.DiskToMemory done) bytes ram may_write holds =
    let b : BlockState = block_by sector gpa count (BlockStatus.Busy BlockCommand.DiskToMemory done) in
    choose_holds n (not (in_ram ram (gpa + 64 * done) 64)) _ _
    (record { size = holds.size; block = without_transfer b n holds.block BlockStatus.OutOfRange tt })
    (choose_holds n (may_write (page_of (gpa + 64 * done))) _ _
    (record { size = holds.size; block = after_beat sector gpa count done n BlockCommand.DiskToMemory holds.block })
    (record { size = holds.size; block = without_transfer b n holds.block BlockStatus.Denied tt }))
dma_step_by sector gpa count n (BlockStatus.Busy BlockCommand.MemoryToDisk done) bytes ram may_write holds =
    let b : BlockState = block_by sector gpa count (BlockStatus.Busy BlockCommand.MemoryToDisk done) in
    choose_holds n (not (in_ram ram (gpa + 64 * done) 64)) _ _
    (record { size = holds.size; block = without_transfer b n holds.block BlockStatus.OutOfRange tt })
    (record {
      size = moved_size bytes ram sector gpa count done (ram_offset (gpa + 64 * done)) n holds.size holds.block;
      block = after_beat sector gpa count done n BlockCommand.MemoryToDisk holds.block;
    })
dma_step_by sector gpa count n _ bytes ram may_write holds = holds

pub beat_holds : (d : BlockDevice) (n : ℕ) (ram : List ℕ) (may_write : ℕ → Bool) → HoldsDevice n d → HoldsDevice n (block_beat d ram may_write).device
beat_holds d n ram may_write holds = dma_step_by d.block.sector d.block.gpa d.block.count n d.block.status d.bytes ram may_write holds
