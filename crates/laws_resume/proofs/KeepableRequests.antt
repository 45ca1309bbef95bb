-- A state that can be saved can be saved after traps, loads, stores and register accesses.
use Rattle.std.proofs.Common.{◌≡◌, ℕ, ◌+◌, ◌%◌, ◌<◌, ◌≤◌, inl, inr, List, [], ◌∷◌, length, refl, subst, Bool, true, false, ◌&&◌, arith, slice_get, slice_set}
use Rattle.std.specs.Prelude.{Option, Some, None, option_map, if◌then◌else◌, ◌==◌, nat_le}
use Rattle.std.proofs.lemmas.Bool.Decides.{nat_tests}
use Rattle.spec_processor.specs.Bytes.{ram_base, ram_offset, in_ram}
use Rattle.spec_processor.specs.Causes.{cause_number}
use Rattle.spec_processor.specs.Regions.{IsWidth}
use Rattle.spec_processor.specs.Requests.{covers}
use Rattle.spec_processor.specs.Traps.{trap_target, mode_at_return}
use Rattle.spec_processor.specs.Translation.{Destination, At, PageFault, Unreadable}
use Rattle.spec_processor.specs.declared.cause.Cause.{Cause}
use Rattle.spec_processor.specs.declared.csr.Csr.{Csr}
use Rattle.spec_processor.specs.declared.instruction.AmoOp.{AmoOp}
use Rattle.spec_processor.specs.declared.instruction.CsrOp.{CsrOp}
use Rattle.spec_processor.specs.declared.mode.Mode.{Mode}
use Rattle.spec_processor.specs.declared.mode.Mode.TheVariants.{Kernel, User}
use Rattle.sv_types.specs.Console.{max_queued, stored_byte, console_load, after_load, ConsoleRegister, Data, Status, loaded_register, after_register_load, without_first}
use Rattle.sv_types.specs.declared.event.Rule.TheVariants.{Entry, Write}
use Rattle.sv_types.specs.declared.event.Verdict.{Verdict}
use Rattle.sv_types.specs.declared.event.Verdict.TheVariants.{Stopped}
use Rattle.spec_reference.specs.Counting.{with_count, count_trap, count_return, count_retired, machine_ended, printed_low}
use Rattle.spec_reference.specs.Devices.{DeviceLoad, device_load_of, Port, ConsoleAt, DiskAt, Nowhere, port_at, port_load, device_load, port_store, device_store, with_bytes}
use Rattle.spec_reference.specs.Disk.{disk_load, disk_store}
use Rattle.spec_reference.specs.Requests.{carried_out_writing, Source, NoSource, FromRam, FromDevice, Target, NoTarget, Guarded, ToRam}
use Rattle.spec_reference.specs.Requests.{ToDevice, carry_out_device_load, carry_out_load, carry_out_load_reserved, carry_out_device_store}
use Rattle.spec_reference.specs.Requests.{carry_out_store, carry_out_store_conditional, carry_out_amo, carry_out_csr, write_stopped}
use Rattle.spec_reference.specs.Requests.{source_of, source_at, load_source, with_csr_set}
use Rattle.spec_reference.specs.Soundness.{IsSound}
use Rattle.spec_reference.specs.States.{State, Hart, Devices, Journal, Disk}
use Rattle.spec_reference.specs.Trapping.{trap_from, exception, returned_from_trap, may_enter, hart_at_trap, hart_at_return}
use Rattle.laws_simulation.specs.Agree.{IsNotLoading}
use Rattle.laws_resume.specs.Keepable.{ram_size, IsReservable, IsKeepableHart, IsKeepableVerdict, IsKeepableJournal, IsKeepableClock, IsKeepable}
use Rattle.laws_resume.proofs.KeepableParts.{zero_stays, reserved_fits, keepable_at, are_set, are_written, below, load_beside, load_written, journal_ended}
use Rattle.sv_types.proofs.TruthValues.{and_second}

-- ---- a hart that moves, no load of it under way

pub record Moving (r : State) (h : ℕ) (hart : Hart) : Type 0 where
  pub keepable : IsKeepable r
  pub sound : IsSound r
  pub found : slice_get r.harts h ≡ Some hart
  pub free : IsNotLoading h r.loading

abbrev pub IsKeptJournal : State → Journal → Type 0
IsKeptJournal r j = IsKeepableJournal r.rules.harts j.notes j.counts.notes j.verdict

pub hart_kept : {r : State} {h : ℕ} {hart : Hart} → Moving r h hart → IsKeepableHart (ram_size r.rules) hart
hart_kept {r} {h} {hart} m = keepable_at (ram_size r.rules) r.harts h hart m.keepable.harts m.found

pub there : {r : State} {h : ℕ} {hart : Hart} → Moving r h hart → h < r.rules.harts
there {r} {h} {hart} m = subst (λ (n : ℕ). h < n) m.sound.number (below r.harts h hart m.found)

pub aligned_pc : {r : State} {h : ℕ} {hart : Hart} → Moving r h hart → hart.pc % 4 ≡ 0
aligned_pc {r} {h} {hart} m = (m.sound.harts h hart m.found).aligned

-- it is set, with devices and journal
pub moved : (r : State) (h : ℕ) (hart next : Hart) (d : Devices) (j : Journal) → Moving r h hart → IsKeepableHart (ram_size r.rules) next
    → IsKeepableClock r.rules.harts d.clock → length d.console ≤ max_queued → IsKeptJournal r j
    → IsKeepable (record r { harts = slice_set r.harts h next; devices = d; journal = j })
moved r h hart next d j m one clock console journal = record {
  harts = are_set (ram_size r.rules) r.harts h next m.keepable.harts one;
  journal = journal;
  clock = clock;
  console = console;
  modules = m.keepable.modules;
  load = load_beside r.harts h next r.loading m.free m.keepable.load;
  text = m.keepable.text;
}

-- the journal's counts of notes, and its verdict, stay
pub set_alone : (r : State) (h : ℕ) (hart next : Hart) (j : Journal) → Moving r h hart → IsKeepableHart (ram_size r.rules) next → IsKeptJournal r j
    → IsKeepable (record r { harts = slice_set r.harts h next; journal = j })
set_alone r h hart next j m one journal = moved r h hart next r.devices j m one m.keepable.clock m.keepable.console journal

pub ended : (r : State) (verdict : Verdict) → IsKeepable r → IsKeepableVerdict r.rules.harts verdict → IsKeepable (record r { journal = machine_ended verdict r.journal })
ended r verdict k last = record {
  harts = k.harts;
  journal = journal_ended r.rules.harts r.journal.notes r.journal.counts.notes r.journal.verdict verdict k.journal last;
  clock = k.clock;
  console = k.console;
  modules = k.modules;
  load = k.load;
  text = k.text;
}

pub choose_keeps : (b : Bool) (x y : State) → IsKeepable x → IsKeepable y → IsKeepable (if b then x else y)
choose_keeps true x y s t = s
choose_keeps false x y s t = t

-- ---- traps

trap_counts : (n : ℕ) (j : Journal) (from : Mode) → IsKeepableJournal n j.notes j.counts.notes j.verdict → IsKeepableJournal n j.notes (count_trap from j.counts).notes j.verdict
trap_counts n j Kernel k = k
trap_counts n j User k = k

return_counts : (n : ℕ) (j : Journal) (to : Mode) → IsKeepableJournal n j.notes j.counts.notes j.verdict → IsKeepableJournal n j.notes (count_return to j.counts).notes j.verdict
return_counts n j Kernel k = k
return_counts n j User k = k

pub trap_keeps : (r : State) (h : ℕ) (hart : Hart) (from : Mode) (interrupt : Bool) (cause tval : ℕ) → Moving r h hart → IsKeepable (trap_from r h hart from interrupt cause tval)
unfolding trap_from hart_at_trap
trap_keeps r h hart from interrupt cause tval m =
    choose_keeps (may_enter r.rules from (trap_target hart.supervisor.stvec interrupt cause)) _ _
    (set_alone r h hart (hart_at_trap r.rules hart from interrupt cause tval) (with_count (count_trap from) r.journal) m
    (record { zero = (hart_kept m).zero; reservation = tt }) (trap_counts r.rules.harts r.journal from m.keepable.journal))
    (ended r (Stopped (Entry (trap_target hart.supervisor.stvec interrupt cause)) h r.journal.counts.turns) m.keepable (there m))

pub exception_keeps : (r : State) (h : ℕ) (hart : Hart) (cause : Cause) (tval : ℕ) → Moving r h hart → IsKeepable (exception r h hart cause tval)
exception_keeps r h hart cause tval m = trap_keeps r h hart hart.mode false (cause_number cause) tval m

pub return_keeps : (r : State) (h : ℕ) (hart : Hart) → Moving r h hart → IsKeepable (returned_from_trap r h hart)
unfolding returned_from_trap hart_at_return
return_keeps r h hart m =
    set_alone r h hart (hart_at_return hart) (with_count (count_return (mode_at_return hart.supervisor.sstatus)) r.journal) m
    (record { zero = (hart_kept m).zero; reservation = tt }) (return_counts r.rules.harts r.journal (mode_at_return hart.supervisor.sstatus) m.keepable.journal)

-- ---- retired instructions

-- registers in which register 0 is 0, and a reservation
pub retired : (r : State) (h : ℕ) (hart next : Hart) → Moving r h hart → slice_get next.registers 0 ≡ Some 0 → IsReservable (ram_size r.rules) next.reservation
    → IsKeepable (record r { harts = slice_set r.harts h next; journal = with_count count_retired r.journal })
retired r h hart next m first reservation =
    set_alone r h hart next (with_count count_retired r.journal) m (record { zero = first; reservation = reservation }) m.keepable.journal

-- ---- loads

pub shorter : (queue : List ℕ) → length queue ≤ max_queued → length (without_first queue) ≤ max_queued
shorter [] e = e
shorter (x ∷ queue) e = omega (arith, e)

queue_loaded : (queue : List ℕ) (register : Option ConsoleRegister) → length queue ≤ max_queued → length (after_register_load queue register) ≤ max_queued
queue_loaded queue None e = e
queue_loaded queue (Some Data) e = shorter queue e
queue_loaded queue (Some Status) e = e

-- the devices after a load
abbrev pub AreKept : ℕ → Devices → Type 0
AreKept harts d = IsKeepableClock harts d.clock × (length d.console ≤ max_queued)

abbrev LoadsWell : ℕ → Option DeviceLoad → Type 0
LoadsWell harts None = Unit {0}
LoadsWell harts (Some l) = AreKept harts l.devices

given : (harts : ℕ) (d : Devices) (value : Option ℕ) → AreKept harts d → LoadsWell harts (option_map (device_load_of d) value)
given harts d None k = tt
given harts d (Some value) k = k

port_loads : (harts : ℕ) (d : Devices) (port : Port) (width : ℕ) → AreKept harts d → LoadsWell harts (port_load d port width)
unfolding port_load
port_loads harts d (ConsoleAt offset) width k =
    given harts (record d { console = after_load d.console offset width }) (console_load d.console offset width)
    (k.0, queue_loaded d.console (loaded_register offset width) k.1)
port_loads harts d (DiskAt offset) width k = given harts d (disk_load d.disk offset width) k
port_loads harts d Nowhere width k = tt

device_loads : (harts : ℕ) (d : Devices) (gpa width : ℕ) → AreKept harts d → LoadsWell harts (device_load d gpa width)
unfolding device_load
device_loads harts d gpa width k = port_loads harts d (port_at gpa) width k

device_load_keeps : (r : State) (h : ℕ) (hart : Hart) (rd address width : ℕ) (signed : Bool) (load : Option DeviceLoad) → Moving r h hart → LoadsWell r.rules.harts load
    → IsKeepable (carry_out_device_load r h hart rd address width signed load)
unfolding carry_out_device_load
device_load_keeps r h hart rd address width signed None m well = exception_keeps r h hart Cause.LoadAccess address m
device_load_keeps r h hart rd address width signed (Some l) m well =
    moved r h hart _ l.devices (with_count count_retired r.journal) m (record { zero = zero_stays hart.registers rd _ (hart_kept m).zero; reservation = tt }) well.0 well.1 m.keepable.journal

pub load_keeps : (r : State) (h : ℕ) (hart : Hart) (rd address width : ℕ) (signed : Bool) (source : Source) → Moving r h hart
    → IsKeepable (carry_out_load r h hart rd address width signed source)
unfolding carry_out_load
load_keeps r h hart rd address width signed (NoSource cause) m = exception_keeps r h hart cause address m
load_keeps r h hart rd address width signed (FromRam gpa) m = retired r h hart _ m (zero_stays hart.registers rd _ (hart_kept m).zero) (hart_kept m).reservation
load_keeps r h hart rd address width signed (FromDevice gpa) m =
    device_load_keeps r h hart rd address width signed (device_load r.devices gpa width) m
    (device_loads r.rules.harts r.devices gpa width (m.keepable.clock, m.keepable.console))

-- where a reservation may be taken
abbrev pub IsInside : ℕ → Source → Type 0
IsInside size (NoSource cause) = Unit {0}
IsInside size (FromRam gpa) = ram_offset gpa < size
IsInside size (FromDevice gpa) = Unit {0}

some_bytes : (width : ℕ) → IsWidth width → 0 < width
some_bytes width (inl e) = omega (arith, e)
some_bytes width (inr (inl e)) = omega (arith, e)
some_bytes width (inr (inr (inl e))) = omega (arith, e)
some_bytes width (inr (inr (inr e))) = omega (arith, e)

place_inside : (place width size : ℕ) (base : Bool) → 0 < width → (base && nat_le (place + width) size) ≡ true → place < size
place_inside place width size base some e =
    let fits : nat_le (place + width) size ≡ true = and_second base (nat_le (place + width) size) e in grind (arith, nat_tests)

inside_by : (ram : List ℕ) (size gpa width : ℕ) (b : Bool) → length ram ≡ size → 0 < width → in_ram ram gpa width ≡ b → IsInside size (if b then FromRam gpa else FromDevice gpa)
inside_by ram size gpa width true same some e =
    subst (λ (n : ℕ). ram_offset gpa < n) same (place_inside (ram_offset gpa) width (length ram) (nat_le ram_base gpa) some e)
inside_by ram size gpa width false same some e = tt

at_inside : (ram : List ℕ) (size width : ℕ) (to : Destination) → length ram ≡ size → 0 < width → IsInside size (source_at ram width to)
unfolding source_at
at_inside ram size width (At gpa) same some = inside_by ram size gpa width (in_ram ram gpa width) same some refl
at_inside ram size width PageFault same some = tt
at_inside ram size width (Unreadable entry) same some = tt

aligned_inside : (size : ℕ) (b : Bool) (source : Source) → IsInside size source → IsInside size (if b then source else NoSource Cause.LoadMisaligned)
aligned_inside size true source k = k
aligned_inside size false source k = tt

pub source_inside : (r : State) (hart : Hart) (address width : ℕ) → IsSound r → IsWidth width → IsInside (ram_size r.rules) (source_of r hart address width)
unfolding load_source
source_inside r hart address width s whole =
    aligned_inside (ram_size r.rules) (address % width == 0) _ (at_inside r.ram (ram_size r.rules) width _ s.size (some_bytes width whole))

pub load_reserved_keeps : (r : State) (h : ℕ) (hart : Hart) (rd address width : ℕ) (source : Source) → Moving r h hart → IsInside (ram_size r.rules) source
    → IsKeepable (carry_out_load_reserved r h hart rd address width source)
unfolding carry_out_load_reserved
load_reserved_keeps r h hart rd address width (NoSource cause) m inside = exception_keeps r h hart cause address m
load_reserved_keeps r h hart rd address width (FromRam gpa) m inside =
    retired r h hart _ m (zero_stays hart.registers rd _ (hart_kept m).zero) (reserved_fits (ram_size r.rules) (ram_offset gpa) inside)
load_reserved_keeps r h hart rd address width (FromDevice gpa) m inside = exception_keeps r h hart Cause.LoadAccess address m

-- ---- stores

pub bytes_keep : (r : State) (place : ℕ) (bytes : List ℕ) → IsKeepable r → IsKeepable (with_bytes r place bytes)
unfolding with_bytes
bytes_keep r place bytes k = record {
  harts = are_written (ram_size r.rules) place (length bytes) r.harts k.harts;
  journal = k.journal;
  clock = k.clock;
  console = k.console;
  modules = k.modules;
  load = load_written place (length bytes) r.harts r.loading k.load;
  text = k.text;
}

guarded_keeps : (r : State) (h : ℕ) (hart : Hart) (gpa : ℕ) → Moving r h hart → IsKeepable (write_stopped r h hart gpa)
guarded_keeps r h hart gpa m = ended r (Stopped (Write hart.pc gpa) h r.journal.counts.turns) m.keepable (there m, aligned_pc m)

console_store_keeps : (r : State) (h : ℕ) (hart : Hart) (address : ℕ) (byte : Option ℕ) → Moving r h hart
    → IsKeepable (carry_out_device_store r h hart address (option_map (λ byte. record { devices = r.devices; journal = printed_low byte r.journal }) byte))
unfolding carry_out_device_store
console_store_keeps r h hart address None m = exception_keeps r h hart Cause.StoreAccess address m
console_store_keeps r h hart address (Some byte) m =
    moved r h hart _ r.devices (with_count count_retired (printed_low byte r.journal)) m (record { zero = (hart_kept m).zero; reservation = tt })
    m.keepable.clock m.keepable.console m.keepable.journal

disk_store_keeps : (r : State) (h : ℕ) (hart : Hart) (address : ℕ) (disk : Option Disk) → Moving r h hart
    → IsKeepable (carry_out_device_store r h hart address (option_map (λ (d : Disk). record { devices = record r.devices { disk = d }; journal = r.journal }) disk))
unfolding carry_out_device_store
disk_store_keeps r h hart address None m = exception_keeps r h hart Cause.StoreAccess address m
disk_store_keeps r h hart address (Some disk) m =
    moved r h hart _ (record r.devices { disk = disk }) (with_count count_retired r.journal) m (record { zero = (hart_kept m).zero; reservation = tt })
    m.keepable.clock m.keepable.console m.keepable.journal

port_store_keeps : (r : State) (h : ℕ) (hart : Hart) (address : ℕ) (port : Port) (width value : ℕ) → Moving r h hart
    → IsKeepable (carry_out_device_store r h hart address (port_store r.devices r.journal port width value))
unfolding port_store carry_out_device_store
port_store_keeps r h hart address (ConsoleAt offset) width value m = console_store_keeps r h hart address (stored_byte offset width value) m
port_store_keeps r h hart address (DiskAt offset) width value m = disk_store_keeps r h hart address (disk_store r.devices.disk offset width value) m
port_store_keeps r h hart address Nowhere width value m = exception_keeps r h hart Cause.StoreAccess address m

device_store_keeps : (r : State) (h : ℕ) (hart : Hart) (address gpa width value : ℕ) → Moving r h hart
    → IsKeepable (carry_out_device_store r h hart address (device_store r.devices r.journal gpa width value))
unfolding device_store
device_store_keeps r h hart address gpa width value m = port_store_keeps r h hart address (port_at gpa) width value m

written_keeps : (r : State) (h : ℕ) (hart next : Hart) (at : ℕ) (bytes : List ℕ) → Moving r h hart → IsKeepableHart (ram_size r.rules) next
    → IsKeepable (carried_out_writing r h next at bytes)
written_keeps r h hart next at bytes m one = bytes_keep _ at bytes (retired r h hart next m one.zero one.reservation)

pub store_keeps : (r : State) (h : ℕ) (hart : Hart) (address width value : ℕ) (target : Target) → Moving r h hart
    → IsKeepable (carry_out_store r h hart address width value target)
unfolding carry_out_store
store_keeps r h hart address width value (NoTarget cause) m = exception_keeps r h hart cause address m
store_keeps r h hart address width value (Guarded gpa) m = guarded_keeps r h hart gpa m
store_keeps r h hart address width value (ToRam gpa) m =
    written_keeps r h hart _ (ram_offset gpa) _ m (record { zero = (hart_kept m).zero; reservation = (hart_kept m).reservation })
store_keeps r h hart address width value (ToDevice gpa) m = device_store_keeps r h hart address gpa width value m

pub store_conditional_keeps : (r : State) (h : ℕ) (hart : Hart) (rd address width value : ℕ) (target : Target) → Moving r h hart
    → IsKeepable (carry_out_store_conditional r h hart rd address width value target)
unfolding carry_out_store_conditional
store_conditional_keeps r h hart rd address width value (NoTarget cause) m = exception_keeps r h hart cause address m
store_conditional_keeps r h hart rd address width value (Guarded gpa) m = guarded_keeps r h hart gpa m
store_conditional_keeps r h hart rd address width value (ToRam gpa) m =
    choose_keeps (covers hart.reservation (ram_offset gpa) width) _ _
    (written_keeps r h hart _ (ram_offset gpa) _ m (record { zero = zero_stays hart.registers rd 0 (hart_kept m).zero; reservation = tt }))
    (retired r h hart _ m (zero_stays hart.registers rd 1 (hart_kept m).zero) tt)
store_conditional_keeps r h hart rd address width value (ToDevice gpa) m = exception_keeps r h hart Cause.StoreAccess address m

pub amo_keeps : (r : State) (h : ℕ) (hart : Hart) (rd address width : ℕ) (op : AmoOp) (value : ℕ) (target : Target) → Moving r h hart
    → IsKeepable (carry_out_amo r h hart rd address width op value target)
unfolding carry_out_amo
amo_keeps r h hart rd address width op value (NoTarget cause) m = exception_keeps r h hart cause address m
amo_keeps r h hart rd address width op value (Guarded gpa) m = guarded_keeps r h hart gpa m
amo_keeps r h hart rd address width op value (ToRam gpa) m =
    written_keeps r h hart _ (ram_offset gpa) _ m (record { zero = zero_stays hart.registers rd _ (hart_kept m).zero; reservation = (hart_kept m).reservation })
amo_keeps r h hart rd address width op value (ToDevice gpa) m = exception_keeps r h hart Cause.StoreAccess address m

-- ---- registers

csr_hart : (size : ℕ) (b : Bool) (hart : Hart) (csr : Csr) (value : ℕ) → IsKeepableHart size hart → IsKeepableHart size (if b then with_csr_set hart csr value else hart)
csr_hart size true hart csr value k = record { zero = k.zero; reservation = k.reservation }
csr_hart size false hart csr value k = k

pub csr_keeps : (r : State) (h : ℕ) (hart : Hart) (w rd : ℕ) (op : CsrOp) (operand : ℕ) (writes : Bool) (csr : Option Csr) → Moving r h hart
    → IsKeepable (carry_out_csr r h hart w rd op operand writes csr)
unfolding carry_out_csr
csr_keeps r h hart w rd op operand writes None m = exception_keeps r h hart Cause.Illegal w m
csr_keeps r h hart w rd op operand writes (Some csr) m =
    let one = csr_hart (ram_size r.rules) writes hart csr _ (hart_kept m) in
    retired r h hart _ m (zero_stays _ rd _ one.zero) one.reservation
