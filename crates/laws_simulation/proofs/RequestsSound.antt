-- Soundness after traps, loads, stores and register accesses.
use Rattle.std.proofs.Common.{◌≡◌, ℕ, ◌+◌, ◌*◌, ◌/◌, ◌%◌, ◌^◌, ◌≤◌, List, length, refl, sym, ◌∙◌, ap, subst, Bool, true, false, ◌&&◌, arith}
use Rattle.std.specs.Prelude.{Option, Some, None, option_map, if◌then◌else◌, ◌==◌, nat_le, nat_lt}
use Rattle.std.proofs.lemmas.Bool.{eqb-true}
use Rattle.std.proofs.lemmas.Bool.Decides.{nat_tests}
use Rattle.spec_processor.specs.Bytes.{in_ram, low_bytes, page_of, ram_offset, page_size}
use Rattle.sv_types.specs.Console.{console_load, after_load, stored_byte}
use Rattle.spec_processor.specs.Causes.{cause_number}
use Rattle.spec_processor.specs.Effects.{set_register, amo_value}
use Rattle.spec_processor.specs.Regions.{IsWidth}
use Rattle.spec_processor.specs.Requests.{loaded_value, csr_value, reserved_at, covers}
use Rattle.spec_processor.specs.Traps.{trap_target, mode_at_return}
use Rattle.spec_processor.specs.Translation.{Destination, At, PageFault, Unreadable, place, entry_in_ram}
use Rattle.spec_processor.specs.declared.cause.Cause.{Cause}
use Rattle.spec_processor.specs.declared.csr.Csr.{Csr}
use Rattle.spec_processor.specs.declared.instruction.AmoOp.{AmoOp}
use Rattle.spec_processor.specs.declared.instruction.CsrOp.{CsrOp}
use Rattle.spec_processor.specs.declared.access.Access.TheVariants as Access
use Rattle.laws_processor.proofs.ByteLemmas.{length_low_bytes}
use Rattle.sv_types.specs.declared.event.Rule.TheVariants.{Entry, Write}
use Rattle.sv_types.specs.declared.event.Verdict.TheVariants.{Stopped}
use Rattle.spec_reference.specs.States.{State, Hart, Disk, BlockDevice, BlockDisk, VirtioDisk, Devices, Journal, is_protected}
use Rattle.spec_reference.specs.Counting.{with_count, count_trap, count_return, count_retired, machine_ended, printed_low}
use Rattle.sv_types.specs.BlockNumbers.{command_of}
use Rattle.sv_types.specs.declared.block.BlockCommand.{BlockCommand}
use Rattle.sv_types.specs.declared.block.BlockState.{BlockState}
use Rattle.sv_types.specs.declared.block.BlockStatus.{BlockStatus}
use Rattle.spec_reference.specs.VirtioStores.{virtio_store}
use Rattle.spec_reference.specs.BlockDisk.{BlockRegister, block_register, block_store, block_stored, unless_busy, is_busy, can_begin}
use Rattle.spec_reference.specs.BlockDisk.{block_ended, block_told, beat_size, Sector, Address, Count, Command, Status, sector_size}
use Rattle.spec_reference.specs.Disk.{disk_load, disk_store}
use Rattle.spec_reference.specs.Devices.{DeviceLoad, DeviceStore, Port, ConsoleAt, DiskAt, Nowhere, port_at, device_load_of, port_load, port_store, device_load, device_store}
use Rattle.spec_reference.specs.Requests.{carried_out, carried_out_writing, settings_of, Source, NoSource, FromRam, FromDevice, Target}
use Rattle.spec_reference.specs.Requests.{NoTarget, Guarded, ToRam, ToDevice, target_at, store_target, target_of, ram_word}
use Rattle.spec_reference.specs.Requests.{carry_out_device_load, carry_out_load, carry_out_load_reserved, carry_out_device_store}
use Rattle.spec_reference.specs.Requests.{carry_out_store, write_stopped, carry_out_store_conditional, carry_out_amo, carry_out_csr}
use Rattle.spec_reference.specs.Requests.{csr_now, with_csr_set}
use Rattle.spec_reference.specs.Trapping.{trap_from, exception, returned_from_trap, hart_at_trap, hart_at_return, may_enter}
use Rattle.spec_reference.specs.Soundness.{IsSound, IsSoundHart, IsSoundBlock, IsSoundDisk}
use Rattle.laws_simulation.proofs.Everywhere.{Keeps, first_stage_keeps}
use Rattle.laws_simulation.proofs.Under.{moved}
use Rattle.sv_types.proofs.InPages.{aligned_in_page, page_begins}
use Rattle.laws_simulation.proofs.VirtioSound.{virtio_stored}
use Rattle.laws_simulation.proofs.Lookups.{unprotected, unheld}
use Rattle.laws_simulation.proofs.HartsSound.{goes_after, trap_sound, return_sound, csr_sound}
use Rattle.laws_simulation.proofs.Sounds.{Goes, InFreePage, goes_set, goes_beside, goes_bytes, goes_on, choose_goes}
use Rattle.sv_types.proofs.TruthValues.{and_second}

-- ---- traps

pub trap_goes : (r : State) (h : ℕ) (hart : Hart) (interrupt : Bool) (cause tval : ℕ) → IsSound r → IsSoundHart r.rules hart
    → Goes r (trap_from r h hart hart.mode interrupt cause tval)
unfolding trap_from
trap_goes r h hart interrupt cause tval s k =
    choose_goes r (may_enter r.rules hart.mode (trap_target hart.supervisor.stvec interrupt cause)) _ _
    (goes_set r h (hart_at_trap r.rules hart hart.mode interrupt cause tval) r.devices (with_count (count_trap hart.mode) r.journal) s (trap_sound r.rules hart interrupt cause tval k) s.disk)
    (goes_beside r r.devices (machine_ended (Stopped (Entry (trap_target hart.supervisor.stvec interrupt cause)) h r.journal.counts.turns) r.journal) s s.disk)

pub exception_goes : (r : State) (h : ℕ) (hart : Hart) (cause : Cause) (tval : ℕ) → IsSound r → IsSoundHart r.rules hart → Goes r (exception r h hart cause tval)
exception_goes r h hart cause tval s k = trap_goes r h hart false (cause_number cause) tval s k

pub return_goes : (r : State) (h : ℕ) (hart : Hart) → IsSound r → IsSoundHart r.rules hart → hart.started ≡ true → Goes r (returned_from_trap r h hart)
unfolding returned_from_trap
return_goes r h hart s k on =
    goes_set r h (hart_at_return hart) r.devices (with_count (count_return (mode_at_return hart.supervisor.sstatus)) r.journal) s (return_sound r.rules hart on k) s.disk

-- ---- a retired instruction

-- the hart goes on after its instruction
pub retire_goes : (r : State) (h : ℕ) (hart : Hart) (registers : List ℕ) (reservation : Option ℕ) → IsSound r → IsSoundHart r.rules hart
    → Goes r (carried_out r h (record hart { registers = registers; pc = (hart.pc + 4) % 2 ^ 64; reservation = reservation }))
retire_goes r h hart registers reservation s k =
    goes_set r h (record hart { registers = registers; pc = (hart.pc + 4) % 2 ^ 64; reservation = reservation }) r.devices (with_count count_retired r.journal) s
    (goes_after hart registers reservation k) s.disk

-- ---- devices

can_aligned : (b : BlockState) (size : ℕ) → can_begin b size ≡ true → b.gpa % beat_size ≡ 0
can_aligned b size e =
    eqb-true (b.gpa % beat_size) 0 (and_second (nat_lt 0 b.count && nat_le (sector_size * (b.sector + b.count)) size) (b.gpa % beat_size == 0) e)

begun_sound : (b : BlockState) (command : BlockCommand) (can : Bool) → (can ≡ true → b.gpa % beat_size ≡ 0)
    → IsSoundBlock (if can then record b { status = BlockStatus.Busy command 0 } else block_ended b BlockStatus.OutOfRange)
begun_sound b command true aligned busy = aligned refl
begun_sound b command false aligned busy = cc

command_sound : (b : BlockState) (size : ℕ) (command : Option BlockCommand) → IsSoundBlock b → IsSoundBlock (block_told b size command)
command_sound b size (Some command) k = begun_sound b command (can_begin b size) (λ e. can_aligned b size e)
command_sound b size None k = k

stored_sound : (b : BlockState) (size : ℕ) (register : BlockRegister) (value : ℕ) → is_busy b ≡ false → IsSoundBlock (block_stored b size register value)
stored_sound b size Sector value idle busy = cc
stored_sound b size Address value idle busy = cc
stored_sound b size Count value idle busy = cc
stored_sound b size Command value idle busy = command_sound b size (command_of value) (λ on. cc) busy
stored_sound b size Status value idle busy = cc

unless_sound : (b : BlockState) (size : ℕ) (register : BlockRegister) (value : ℕ) (busy : Bool) → is_busy b ≡ busy → IsSoundBlock b
    → IsSoundBlock (if busy then b else block_stored b size register value)
unless_sound b size register value true at k = k
unless_sound b size register value false at k = stored_sound b size register value at

register_sound : (d next : BlockDevice) (value : ℕ) (x : Option BlockRegister) → IsSoundBlock d.block
    → option_map (λ k. record d { block = unless_busy d.block (block_stored d.block (length d.bytes) k value) }) x ≡ Some next → IsSoundBlock next.block
register_sound d next value None k e = cc
register_sound d next value (Some register) k e =
    let same : record d { block = unless_busy d.block (block_stored d.block (length d.bytes) register value) } ≡ next = cc in
    subst (λ (x : BlockDevice). IsSoundBlock x.block) same (unless_sound d.block (length d.bytes) register value (is_busy d.block) refl k)

-- a store leaves the disk sound
block_put : (d next : BlockDevice) (offset width value : ℕ) → IsSoundBlock d.block → block_store d offset width value ≡ Some next → IsSoundBlock next.block
unfolding block_store
block_put d next offset width value k e = register_sound d next (value % 256 ^ width) (block_register offset width) k e

put_after : {D : Type 0} (behind : D → Disk) (next : Disk) (x : Option D) → ((d : D) → x ≡ Some d → IsSoundDisk (behind d)) → option_map behind x ≡ Some next → IsSoundDisk next
put_after behind next None all e = cc
put_after behind next (Some d) all e = let same : behind d ≡ next = cc in subst IsSoundDisk same (all d refl)

disk_stored : (d next : Disk) (offset width value : ℕ) → IsSoundDisk d → disk_store d offset width value ≡ Some next → IsSoundDisk next
unfolding disk_store
disk_stored (BlockDisk d) next offset width value k e =
    put_after BlockDisk next (block_store d offset width value) (λ after is. block_put d after offset width value k is) e
disk_stored (VirtioDisk d) next offset width value k e =
    put_after VirtioDisk next (virtio_store d offset width value) (λ after is. virtio_stored d after offset width value k is) e

by_disk : (d : Devices) (j : Journal) (next : DeviceStore) (x : Option Disk) → ((disk : Disk) → x ≡ Some disk → IsSoundDisk disk)
    → option_map (λ (disk : Disk). record { devices = record d { disk = disk }; journal = j }) x ≡ Some next → IsSoundDisk next.devices.disk
by_disk d j next None all e = cc
by_disk d j next (Some disk) all e =
    let same : record { devices = record d { disk = disk }; journal = j } ≡ next = cc in
    subst (λ (s : DeviceStore). IsSoundDisk s.devices.disk) same (all disk refl)

by_console : (d : Devices) (j : Journal) (next : DeviceStore) (x : Option ℕ) → IsSoundDisk d.disk
    → option_map (λ byte. record { devices = d; journal = printed_low byte j }) x ≡ Some next → IsSoundDisk next.devices.disk
by_console d j next None k e = cc
by_console d j next (Some byte) k e =
    let same : record { devices = d; journal = printed_low byte j } ≡ next = cc in
    subst (λ (s : DeviceStore). IsSoundDisk s.devices.disk) same k

port_stored : (d : Devices) (j : Journal) (next : DeviceStore) (port : Port) (width value : ℕ) → IsSoundDisk d.disk → port_store d j port width value ≡ Some next → IsSoundDisk next.devices.disk
unfolding port_store
port_stored d j next (ConsoleAt offset) width value k e = by_console d j next (stored_byte offset width value) k e
port_stored d j next (DiskAt offset) width value k e =
    by_disk d j next (disk_store d.disk offset width value) (λ disk is. disk_stored d.disk disk offset width value k is) e
port_stored d j next Nowhere width value k e = cc

device_stored : (d : Devices) (j : Journal) (next : DeviceStore) (gpa width value : ℕ) → IsSoundDisk d.disk → device_store d j gpa width value ≡ Some next → IsSoundDisk next.devices.disk
unfolding device_store
device_stored d j next gpa width value k e = port_stored d j next (port_at gpa) width value k e

same_disk : (d e : Devices) (value : ℕ) (next : DeviceLoad) (x : Option ℕ) → e.disk ≡ d.disk → option_map (device_load_of e) x ≡ Some next → next.devices.disk ≡ d.disk
same_disk d e value next None same is = cc
same_disk d e value next (Some read) same is = let k : device_load_of e read ≡ next = cc in ap (λ (l : DeviceLoad). l.devices.disk) (sym k) ∙ same

-- a load leaves the disk as it is
port_loaded : (d : Devices) (next : DeviceLoad) (port : Port) (width : ℕ) → port_load d port width ≡ Some next → next.devices.disk ≡ d.disk
unfolding port_load
port_loaded d next (ConsoleAt offset) width e = same_disk d (record d { console = after_load d.console offset width }) 0 next (console_load d.console offset width) refl e
port_loaded d next (DiskAt offset) width e = same_disk d d 0 next (disk_load d.disk offset width) refl e
port_loaded d next Nowhere width e = cc

device_loaded : (d : Devices) (next : DeviceLoad) (gpa width : ℕ) → device_load d gpa width ≡ Some next → next.devices.disk ≡ d.disk
unfolding device_load
device_loaded d next gpa width e = port_loaded d next (port_at gpa) width e

-- ---- loads

device_load_goes : (r : State) (h : ℕ) (hart : Hart) (rd address width : ℕ) (signed : Bool) (x : Option DeviceLoad) → IsSound r → IsSoundHart r.rules hart
    → ((l : DeviceLoad) → x ≡ Some l → IsSoundDisk l.devices.disk) → Goes r (carry_out_device_load r h hart rd address width signed x)
unfolding carry_out_device_load
device_load_goes r h hart rd address width signed None s k disk = exception_goes r h hart Cause.LoadAccess address s k
device_load_goes r h hart rd address width signed (Some l) s k disk =
    goes_set r h (record hart { registers = set_register hart.registers rd (loaded_value signed width l.value); pc = (hart.pc + 4) % 2 ^ 64; reservation = None })
    l.devices (with_count count_retired r.journal) s (goes_after hart _ None k) (disk l refl)

pub load_goes : (r : State) (h : ℕ) (hart : Hart) (rd address width : ℕ) (signed : Bool) (x : Source) → IsSound r → IsSoundHart r.rules hart
    → Goes r (carry_out_load r h hart rd address width signed x)
unfolding carry_out_load
load_goes r h hart rd address width signed (NoSource cause) s k = exception_goes r h hart cause address s k
load_goes r h hart rd address width signed (FromRam gpa) s k =
    retire_goes r h hart (set_register hart.registers rd (loaded_value signed width (ram_word r gpa width))) hart.reservation s k
load_goes r h hart rd address width signed (FromDevice gpa) s k =
    device_load_goes r h hart rd address width signed (device_load r.devices gpa width) s k
    (λ l e. subst IsSoundDisk (sym (device_loaded r.devices l gpa width e)) s.disk)

pub load_reserved_goes : (r : State) (h : ℕ) (hart : Hart) (rd address width : ℕ) (x : Source) → IsSound r → IsSoundHart r.rules hart
    → Goes r (carry_out_load_reserved r h hart rd address width x)
unfolding carry_out_load_reserved
load_reserved_goes r h hart rd address width (NoSource cause) s k = exception_goes r h hart cause address s k
load_reserved_goes r h hart rd address width (FromRam gpa) s k =
    retire_goes r h hart (set_register hart.registers rd (loaded_value true width (ram_word r gpa width))) (Some (reserved_at (ram_offset gpa))) s k
load_reserved_goes r h hart rd address width (FromDevice gpa) s k = exception_goes r h hart Cause.LoadAccess address s k

-- ---- where stores go

-- what is known of a place in RAM that a store reaches
pub record IsFreePlace (r : State) (gpa width : ℕ) : Type 0 where
  pub inside : in_ram r.ram gpa width ≡ true
  pub free : is_protected r (page_of gpa) ≡ false
  pub aligned : ram_offset gpa % width ≡ 0

abbrev pub FreeTarget : State → ℕ → Target → Type 0
FreeTarget r width (ToRam gpa) = IsFreePlace r gpa width
FreeTarget r width _ = Unit {0}

place_free : (r : State) (gpa width : ℕ) (inside protected : Bool) → in_ram r.ram gpa width ≡ inside → is_protected r (page_of gpa) ≡ protected → ram_offset gpa % width ≡ 0
    → FreeTarget r width (if inside then (if protected then Guarded gpa else ToRam gpa) else ToDevice gpa)
place_free r gpa width true true at guarded aligned = tt
place_free r gpa width true false at guarded aligned = record { inside = at; free = guarded; aligned = aligned }
place_free r gpa width false protected at guarded aligned = tt

destination_free : (r : State) (address width : ℕ) (d : Destination) → IsWidth width → address % width ≡ 0 → Keeps address d
    → FreeTarget r width (target_at r.ram (is_protected r) width d)
unfolding target_at
destination_free r address width (At gpa) whole aligned keeps =
    place_free r gpa width (in_ram r.ram gpa width) (is_protected r (page_of gpa)) refl refl (moved width gpa address whole keeps aligned)
destination_free r address width PageFault whole aligned keeps = tt
destination_free r address width (Unreadable entry) whole aligned keeps = tt

choose_free : (r : State) (hart : Hart) (address width : ℕ) (aligned : Bool) → IsWidth width → (address % width == 0) ≡ aligned
    → FreeTarget r width (if aligned then target_at r.ram (is_protected r) width (place r.ram (settings_of hart.supervisor) hart.mode address Access.Store) else NoTarget Cause.StoreMisaligned)
unfolding place
choose_free r hart address width true whole at =
    destination_free r address width (place r.ram (settings_of hart.supervisor) hart.mode address Access.Store) whole (eqb-true (address % width) 0 at)
    (first_stage_keeps (entry_in_ram r.ram) (settings_of hart.supervisor) hart.mode address Access.Store)
choose_free r hart address width false whole at = tt

pub target_free : (r : State) (hart : Hart) (address width : ℕ) → IsWidth width → FreeTarget r width (target_of r hart address width)
unfolding store_target
target_free r hart address width whole = choose_free r hart address width (address % width == 0) whole refl

-- ---- stores

page_end : (width p : ℕ) → IsWidth width → p % width ≡ 0 → p + width ≤ page_size * (p / page_size + 1)
page_end width p whole aligned = let inside = aligned_in_page width p whole aligned in omega (arith, inside)

pub room_of : (ram : List ℕ) (gpa width : ℕ) → in_ram ram gpa width ≡ true → ram_offset gpa + width ≤ length ram
room_of ram gpa width e = grind (arith, nat_tests)

-- a value's bytes lie in that page
pub free_page : (r : State) (h : ℕ) (next : Hart) (gpa width value : ℕ) → IsWidth width → IsFreePlace r gpa width
    → InFreePage (carried_out r h next) (ram_offset gpa) (low_bytes width value)
free_page r h next gpa width value whole free =
    let size : length (low_bytes width value) ≡ width = length_low_bytes width value in
    record {
      page = page_of gpa;
      free = unprotected r (page_of gpa) free.free;
      unheld = unheld r (page_of gpa) free.free;
      first = page_begins (ram_offset gpa);
      last = rw size (page_end width (ram_offset gpa) whole free.aligned);
      inside = rw size (room_of r.ram gpa width free.inside);
    }

-- the hart goes on, and bytes are written
written_goes : (r : State) (h : ℕ) (hart : Hart) (registers : List ℕ) (reservation : Option ℕ) (gpa width value : ℕ) → IsSound r → IsSoundHart r.rules hart → IsWidth width → IsFreePlace r gpa width
    → Goes r (carried_out_writing r h (record hart { registers = registers; pc = (hart.pc + 4) % 2 ^ 64; reservation = reservation }) (ram_offset gpa) (low_bytes width value))
written_goes r h hart registers reservation gpa width value s k whole free =
    let next : Hart = record hart { registers = registers; pc = (hart.pc + 4) % 2 ^ 64; reservation = reservation } in
    let first : Goes r (carried_out r h next) = retire_goes r h hart registers reservation s k in
    goes_on r (carried_out r h next) (carried_out_writing r h next (ram_offset gpa) (low_bytes width value)) first
    (goes_bytes (carried_out r h next) (ram_offset gpa) (low_bytes width value) first.sound (free_page r h next gpa width value whole free))

guarded_goes : (r : State) (h : ℕ) (hart : Hart) (gpa : ℕ) → IsSound r → Goes r (write_stopped r h hart gpa)
guarded_goes r h hart gpa s = goes_beside r r.devices (machine_ended (Stopped (Write hart.pc gpa) h r.journal.counts.turns) r.journal) s s.disk

device_store_goes : (r : State) (h : ℕ) (hart : Hart) (address : ℕ) (x : Option DeviceStore) → IsSound r → IsSoundHart r.rules hart
    → ((d : DeviceStore) → x ≡ Some d → IsSoundDisk d.devices.disk) → Goes r (carry_out_device_store r h hart address x)
unfolding carry_out_device_store
device_store_goes r h hart address None s k disk = exception_goes r h hart Cause.StoreAccess address s k
device_store_goes r h hart address (Some d) s k disk =
    goes_set r h (record hart { pc = (hart.pc + 4) % 2 ^ 64; reservation = None }) d.devices (with_count count_retired d.journal) s
    (goes_after hart hart.registers None k) (disk d refl)

pub store_goes : (r : State) (h : ℕ) (hart : Hart) (address width value : ℕ) (x : Target) → IsSound r → IsSoundHart r.rules hart → IsWidth width → FreeTarget r width x
    → Goes r (carry_out_store r h hart address width value x)
unfolding carry_out_store
store_goes r h hart address width value (NoTarget cause) s k whole free = exception_goes r h hart cause address s k
store_goes r h hart address width value (Guarded gpa) s k whole free = guarded_goes r h hart gpa s
store_goes r h hart address width value (ToRam gpa) s k whole free = written_goes r h hart hart.registers hart.reservation gpa width value s k whole free
store_goes r h hart address width value (ToDevice gpa) s k whole free =
    device_store_goes r h hart address (device_store r.devices r.journal gpa width value) s k
    (λ d e. device_stored r.devices r.journal d gpa width value s.disk e)

pub store_conditional_goes : (r : State) (h : ℕ) (hart : Hart) (rd address width value : ℕ) (x : Target) → IsSound r → IsSoundHart r.rules hart → IsWidth width → FreeTarget r width x
    → Goes r (carry_out_store_conditional r h hart rd address width value x)
unfolding carry_out_store_conditional
store_conditional_goes r h hart rd address width value (NoTarget cause) s k whole free = exception_goes r h hart cause address s k
store_conditional_goes r h hart rd address width value (Guarded gpa) s k whole free = guarded_goes r h hart gpa s
store_conditional_goes r h hart rd address width value (ToRam gpa) s k whole free =
    choose_goes r (covers hart.reservation (ram_offset gpa) width) _ _
    (written_goes r h hart (set_register hart.registers rd 0) None gpa width value s k whole free)
    (retire_goes r h hart (set_register hart.registers rd 1) None s k)
store_conditional_goes r h hart rd address width value (ToDevice gpa) s k whole free = exception_goes r h hart Cause.StoreAccess address s k

pub amo_goes : (r : State) (h : ℕ) (hart : Hart) (rd address width : ℕ) (op : AmoOp) (value : ℕ) (x : Target) → IsSound r → IsSoundHart r.rules hart → IsWidth width → FreeTarget r width x
    → Goes r (carry_out_amo r h hart rd address width op value x)
unfolding carry_out_amo
amo_goes r h hart rd address width op value (NoTarget cause) s k whole free = exception_goes r h hart cause address s k
amo_goes r h hart rd address width op value (Guarded gpa) s k whole free = guarded_goes r h hart gpa s
amo_goes r h hart rd address width op value (ToRam gpa) s k whole free =
    written_goes r h hart (set_register hart.registers rd (loaded_value true width (ram_word r gpa width))) hart.reservation gpa width
    (amo_value op width (ram_word r gpa width) value) s k whole free
amo_goes r h hart rd address width op value (ToDevice gpa) s k whole free = exception_goes r h hart Cause.StoreAccess address s k

-- ---- registers

pub csr_goes : (r : State) (h : ℕ) (hart : Hart) (w rd : ℕ) (op : CsrOp) (operand : ℕ) (writes : Bool) (x : Option Csr) → IsSound r → IsSoundHart r.rules hart
    → Goes r (carry_out_csr r h hart w rd op operand writes x)
unfolding carry_out_csr
csr_goes r h hart w rd op operand writes None s k = exception_goes r h hart Cause.Illegal w s k
csr_goes r h hart w rd op operand writes (Some csr) s k =
    let value : ℕ = csr_value op (csr_now r h hart csr) operand in
    let next : Hart = if writes then with_csr_set hart csr value else hart in
    retire_goes r h next (set_register next.registers rd (csr_now r h hart csr)) next.reservation s (csr_sound hart csr value writes k)
