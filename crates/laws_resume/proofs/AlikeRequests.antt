-- Two states that are alike, after traps, loads, stores and register accesses.
use Rattle.std.proofs.Common.{◌≡◌, ℕ, List, [], ◌∷◌, ◌++◌, Bool, true, false, ap, refl, ◌∙◌, append_assoc, ◌%◌}
use Rattle.std.specs.Prelude.{Option, Some, None, option_map, if◌then◌else◌, is_some, ◌||◌}
use mathlib.Core.Path.{fun_ext}
use Rattle.sv_types.specs.ApprovedPages.{ApprovedPage, approved_bytes}
use Rattle.spec_processor.specs.Bytes.{ram_offset}
use Rattle.spec_processor.specs.Causes.{cause_number}
use Rattle.sv_types.specs.Console.{stored_byte}
use Rattle.spec_processor.specs.Requests.{covers}
use Rattle.spec_processor.specs.Traps.{trap_target}
use Rattle.spec_processor.specs.declared.cause.Cause.{Cause}
use Rattle.spec_processor.specs.declared.csr.Csr.{Csr}
use Rattle.spec_processor.specs.declared.instruction.AmoOp.{AmoOp}
use Rattle.spec_processor.specs.declared.instruction.CsrOp.{CsrOp}
use Rattle.spec_processor.specs.declared.mode.Mode.{Mode}
use Rattle.spec_reference.specs.States.{State, Hart, Disk, is_protected, has_number}
use Rattle.spec_reference.specs.Counting.{printed_low}
use Rattle.spec_reference.specs.Disk.{disk_store}
use Rattle.spec_reference.specs.Devices.{DeviceLoad, Port, ConsoleAt, DiskAt, Nowhere, port_at, port_store, device_load, device_store, with_bytes}
use Rattle.spec_reference.specs.Requests.{carried_out_writing, Source, NoSource, FromRam, FromDevice, Target, NoTarget, Guarded, ToRam}
use Rattle.spec_reference.specs.Requests.{ToDevice, carry_out_device_load, carry_out_load, carry_out_load_reserved, carry_out_device_store}
use Rattle.spec_reference.specs.Requests.{carry_out_store, carry_out_store_conditional, carry_out_amo, carry_out_csr, target_of}
use Rattle.spec_reference.specs.Requests.{store_target, settings_of}
use Rattle.spec_reference.specs.Trapping.{trap_from, exception, returned_from_trap, may_enter}
use Rattle.laws_resume.specs.Continues.{Alike}

-- ---- two states that are alike, the second made from the first

pub record Twins : Type 0 where
  pub front : List ℕ
  pub r : State
  pub approved : List ApprovedPage
  pub printed : List ℕ
  pub same : (page : ℕ) → approved_bytes approved page ≡ approved_bytes r.approved page
  pub before : r.journal.printed ≡ front ++ printed

abbrev pub second : Twins → State
second x = record x.r { approved = x.approved; journal = record x.r.journal { printed = x.printed } }

-- they are alike after a change too
abbrev pub AlikeAfter : Twins → (State → State) → Type 0
AlikeAfter x change = Alike x.front (change x.r) (change (second x))

pub choose_alike : (front : List ℕ) (b : Bool) (r s next other : State) → Alike front r next → Alike front s other
    → Alike front (if b then r else s) (if b then next else other)
choose_alike front true r s next other first rest = first
choose_alike front false r s next other first rest = rest

pub printed_one : (x : Twins) (byte : ℕ) → x.r.journal.printed ++ byte ∷ [] ≡ x.front ++ (x.printed ++ byte ∷ [])
printed_one x byte = ap (λ (bytes : List ℕ). bytes ++ byte ∷ []) x.before ∙ append_assoc x.front x.printed (byte ∷ [])

protected_at : (x : Twins) (page : ℕ) → is_protected (second x) page ≡ is_protected x.r page
unfolding is_protected
protected_at x page = ap (λ (bytes : Option (List ℕ)). is_some bytes || has_number x.r.held page) (x.same page)

-- the same pages are protected
pub protected_same : (x : Twins) → is_protected (second x) ≡ is_protected x.r
protected_same x = fun_ext (λ page. protected_at x page)

-- ---- traps

pub trap_alike : (x : Twins) (h : ℕ) (hart : Hart) (from : Mode) (interrupt : Bool) (cause tval : ℕ) → AlikeAfter x (λ r. trap_from r h hart from interrupt cause tval)
unfolding trap_from
trap_alike x h hart from interrupt cause tval =
    choose_alike x.front (may_enter x.r.rules from (trap_target hart.supervisor.stvec interrupt cause)) _ _ _ _
    (record { approved = x.same; printed = x.before; rest = refl })
    (record { approved = x.same; printed = x.before; rest = refl })

pub exception_alike : (x : Twins) (h : ℕ) (hart : Hart) (cause : Cause) (tval : ℕ) → AlikeAfter x (λ r. exception r h hart cause tval)
exception_alike x h hart cause tval = trap_alike x h hart hart.mode false (cause_number cause) tval

pub return_alike : (x : Twins) (h : ℕ) (hart : Hart) → AlikeAfter x (λ r. returned_from_trap r h hart)
unfolding returned_from_trap
return_alike x h hart = record { approved = x.same; printed = x.before; rest = refl }

-- ---- loads

device_load_alike : (x : Twins) (h : ℕ) (hart : Hart) (rd address width : ℕ) (signed : Bool) (load : Option DeviceLoad)
    → AlikeAfter x (λ r. carry_out_device_load r h hart rd address width signed load)
unfolding carry_out_device_load
device_load_alike x h hart rd address width signed None = exception_alike x h hart Cause.LoadAccess address
device_load_alike x h hart rd address width signed (Some load) = record { approved = x.same; printed = x.before; rest = refl }

pub load_alike : (x : Twins) (h : ℕ) (hart : Hart) (rd address width : ℕ) (signed : Bool) (source : Source)
    → AlikeAfter x (λ r. carry_out_load r h hart rd address width signed source)
unfolding carry_out_load
load_alike x h hart rd address width signed (NoSource cause) = exception_alike x h hart cause address
load_alike x h hart rd address width signed (FromRam gpa) = record { approved = x.same; printed = x.before; rest = refl }
load_alike x h hart rd address width signed (FromDevice gpa) = device_load_alike x h hart rd address width signed (device_load x.r.devices gpa width)

pub load_reserved_alike : (x : Twins) (h : ℕ) (hart : Hart) (rd address width : ℕ) (source : Source)
    → AlikeAfter x (λ r. carry_out_load_reserved r h hart rd address width source)
unfolding carry_out_load_reserved
load_reserved_alike x h hart rd address width (NoSource cause) = exception_alike x h hart cause address
load_reserved_alike x h hart rd address width (FromRam gpa) = record { approved = x.same; printed = x.before; rest = refl }
load_reserved_alike x h hart rd address width (FromDevice gpa) = exception_alike x h hart Cause.LoadAccess address

-- ---- stores

pub target_same : (x : Twins) (hart : Hart) (address width : ℕ) → target_of (second x) hart address width ≡ target_of x.r hart address width
target_same x hart address width =
    ap (λ (protected : ℕ → Bool). store_target x.r.ram protected (settings_of hart.supervisor) hart.mode address width) (protected_same x)

console_store_alike : (x : Twins) (h : ℕ) (hart : Hart) (address : ℕ) (byte : Option ℕ)
    → AlikeAfter x (λ r. carry_out_device_store r h hart address (option_map (λ byte. record { devices = r.devices; journal = printed_low byte r.journal }) byte))
unfolding carry_out_device_store
console_store_alike x h hart address None = exception_alike x h hart Cause.StoreAccess address
console_store_alike x h hart address (Some byte) = record { approved = x.same; printed = printed_one x (byte % 256); rest = refl }

disk_store_alike : (x : Twins) (h : ℕ) (hart : Hart) (address : ℕ) (disk : Option Disk)
    → AlikeAfter x (λ r. carry_out_device_store r h hart address (option_map (λ (d : Disk). record { devices = record r.devices { disk = d }; journal = r.journal }) disk))
unfolding carry_out_device_store
disk_store_alike x h hart address None = exception_alike x h hart Cause.StoreAccess address
disk_store_alike x h hart address (Some disk) = record { approved = x.same; printed = x.before; rest = refl }

port_store_alike : (x : Twins) (h : ℕ) (hart : Hart) (address : ℕ) (port : Port) (width value : ℕ)
    → AlikeAfter x (λ r. carry_out_device_store r h hart address (port_store r.devices r.journal port width value))
unfolding port_store carry_out_device_store
port_store_alike x h hart address (ConsoleAt offset) width value = console_store_alike x h hart address (stored_byte offset width value)
port_store_alike x h hart address (DiskAt offset) width value = disk_store_alike x h hart address (disk_store x.r.devices.disk offset width value)
port_store_alike x h hart address Nowhere width value = exception_alike x h hart Cause.StoreAccess address

device_store_alike : (x : Twins) (h : ℕ) (hart : Hart) (address gpa width value : ℕ)
    → AlikeAfter x (λ r. carry_out_device_store r h hart address (device_store r.devices r.journal gpa width value))
unfolding device_store
device_store_alike x h hart address gpa width value = port_store_alike x h hart address (port_at gpa) width value

written_alike : (x : Twins) (h : ℕ) (next : Hart) (at : ℕ) (bytes : List ℕ) → AlikeAfter x (λ r. carried_out_writing r h next at bytes)
unfolding with_bytes
written_alike x h next at bytes = record { approved = x.same; printed = x.before; rest = refl }

pub store_alike : (x : Twins) (h : ℕ) (hart : Hart) (address width value : ℕ) (target : Target) → AlikeAfter x (λ r. carry_out_store r h hart address width value target)
unfolding carry_out_store
store_alike x h hart address width value (NoTarget cause) = exception_alike x h hart cause address
store_alike x h hart address width value (Guarded gpa) = record { approved = x.same; printed = x.before; rest = refl }
store_alike x h hart address width value (ToRam gpa) = written_alike x h _ (ram_offset gpa) _
store_alike x h hart address width value (ToDevice gpa) = device_store_alike x h hart address gpa width value

pub store_conditional_alike : (x : Twins) (h : ℕ) (hart : Hart) (rd address width value : ℕ) (target : Target)
    → AlikeAfter x (λ r. carry_out_store_conditional r h hart rd address width value target)
unfolding carry_out_store_conditional
store_conditional_alike x h hart rd address width value (NoTarget cause) = exception_alike x h hart cause address
store_conditional_alike x h hart rd address width value (Guarded gpa) = record { approved = x.same; printed = x.before; rest = refl }
store_conditional_alike x h hart rd address width value (ToRam gpa) =
    choose_alike x.front (covers hart.reservation (ram_offset gpa) width) _ _ _ _ (written_alike x h _ (ram_offset gpa) _)
    (record { approved = x.same; printed = x.before; rest = refl })
store_conditional_alike x h hart rd address width value (ToDevice gpa) = exception_alike x h hart Cause.StoreAccess address

pub amo_alike : (x : Twins) (h : ℕ) (hart : Hart) (rd address width : ℕ) (op : AmoOp) (value : ℕ) (target : Target)
    → AlikeAfter x (λ r. carry_out_amo r h hart rd address width op value target)
unfolding carry_out_amo
amo_alike x h hart rd address width op value (NoTarget cause) = exception_alike x h hart cause address
amo_alike x h hart rd address width op value (Guarded gpa) = record { approved = x.same; printed = x.before; rest = refl }
amo_alike x h hart rd address width op value (ToRam gpa) = written_alike x h _ (ram_offset gpa) _
amo_alike x h hart rd address width op value (ToDevice gpa) = exception_alike x h hart Cause.StoreAccess address

-- ---- registers

pub csr_alike : (x : Twins) (h : ℕ) (hart : Hart) (w rd : ℕ) (op : CsrOp) (operand : ℕ) (writes : Bool) (csr : Option Csr)
    → AlikeAfter x (λ r. carry_out_csr r h hart w rd op operand writes csr)
unfolding carry_out_csr
csr_alike x h hart w rd op operand writes None = exception_alike x h hart Cause.Illegal w
csr_alike x h hart w rd op operand writes (Some csr) = record { approved = x.same; printed = x.before; rest = refl }
