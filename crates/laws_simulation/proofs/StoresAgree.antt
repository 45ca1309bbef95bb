-- A store of the hardware's is the reference machine's, wherever it leads.
use Rattle.std.proofs.Common.{◌≡◌, ℕ, ◌+◌, ◌%◌, ◌/◌, inl, length, refl, sym, subst, Bool, true, false, not, ◌&&◌, arith}
use Rattle.std.specs.Prelude.{Some, None, if◌then◌else◌, Err, ◌==◌}
use Rattle.spec_processor.specs.Bytes.{write_word, low_bytes, ram_offset, page_of, in_ram, page_size}
use Rattle.spec_processor.specs.Hardware.{Attempted, with_region, plain_exception}
use Rattle.spec_processor.specs.HardwareMemory.{after_store, place_or_exception, fault_exception, implicit_read, retire, behind_write, write_at, aligned_translation}
use Rattle.spec_processor.specs.HypervisorRegisters.{HypervisorRegisters}
use Rattle.spec_processor.specs.Regions.{IsWidth, write_host}
use Rattle.sv_types.specs.Views.{page_in_ram, view_answer, with_ram}
use Rattle.spec_processor.specs.GStage.{place_through}
use Rattle.spec_processor.specs.Translation.{Destination, At, PageFault, Unreadable, place, entry_in_ram}
use Rattle.spec_processor.specs.declared.cause.Cause.{Cause}
use Rattle.spec_processor.specs.declared.exit.ExitCause.{ExitCause}
use Rattle.spec_processor.specs.declared.effect.Effect.{Effect}
use Rattle.spec_processor.specs.declared.outcome.Outcome.{Outcome}
use Rattle.spec_processor.specs.declared.translation.Fault.{Fault}
use Rattle.spec_processor.specs.declared.access.Access.TheVariants as Access
use Rattle.laws_processor.proofs.RegionLemmas.{write_in_ram}
use Rattle.laws_processor.proofs.Reservations.{after_write_after}
use Rattle.laws_simulation.proofs.Everywhere.{Keeps, first_stage_keeps}
use Rattle.spec_reference.specs.States.{State, Hart, is_protected}
use Rattle.spec_reference.specs.Devices.{device_store, hart_after_write}
use Rattle.spec_reference.specs.Trapping.{exception}
use Rattle.spec_reference.specs.Requests.{at_next_instruction, carried_out_writing, carry_out_device_store, write_stopped, ToRam, ToDevice}
use Rattle.spec_reference.specs.Requests.{Guarded, NoTarget, target_at, store_target, target_of, settings_of, carry_out_store}
use Rattle.spec_hardware.specs.Served.{exit_answered, plain_answer, write_answer, store_answer, transformed_effect}
use Rattle.laws_simulation.proofs.Plain.{serve_plain}
use Rattle.spec_hardware.specs.StandsFor.{Unseen}
use Rattle.laws_simulation.specs.Agree.{IsAt, Agrees, region_at, core_at}
use Rattle.laws_simulation.proofs.Stays.{writes, CanWrite}
use Rattle.laws_simulation.proofs.Excepts.{exception_agrees, exit_agrees}
use Rattle.laws_simulation.proofs.Under.{under, sight_of_hart, translated_under, access_in_ram, moved, stores_permitted}
use Rattle.laws_simulation.proofs.BeyondDevices.{store_beyond}
use Rattle.laws_simulation.proofs.LoadsAgree.{gpa_back, aligned_if}

-- the transformed instruction is this store, and no implicit read
pub record IsStore (htinst : ℕ) (hart : Hart) (width value : ℕ) : Type 0 where
  pub address : ℕ
  pub effect : transformed_effect htinst hart.registers hart.pc ≡ Some (Effect.Store address width value)
  pub explicit : (htinst == implicit_read) ≡ false

pub unreadable_store : (r : State) (h : ℕ) (hart : Hart) (address htval pc : ℕ)
    → exception r h hart Cause.StoreAccess address
    ≡ serve_plain r h hart (record { cause = ExitCause.Exception Cause.GuestStore; pc = pc; stval = address; htval = htval; htinst = implicit_read })
unfolding serve_plain plain_answer exit_answered write_answer
unreadable_store r h hart address htval pc = refl

device_served : (r : State) (h : ℕ) (hart : Hart) (address width value gpa htinst pc : ℕ)
    → IsStore htinst hart width value → gpa % page_size ≡ address % page_size → in_ram r.ram gpa 1 ≡ false
    → carry_out_device_store r h hart address (device_store r.devices r.journal gpa width value)
    ≡ serve_plain r h hart (record { cause = ExitCause.Exception Cause.GuestStore; pc = pc; stval = address; htval = gpa / 4; htinst = htinst })
unfolding serve_plain plain_answer exit_answered write_answer store_answer
device_served r h hart address width value gpa htinst pc store same outside =
    rw (store.explicit, gpa_back gpa address same, outside, store.effect, store.explicit, gpa_back gpa address same, store_beyond r.devices r.journal gpa width value) refl

guarded_served : (r : State) (h : ℕ) (hart : Hart) (address width value gpa htinst pc : ℕ)
    → IsStore htinst hart width value → gpa % page_size ≡ address % page_size → in_ram r.ram gpa 1 ≡ true
    → write_stopped r h hart gpa
    ≡ serve_plain r h hart (record { cause = ExitCause.Exception Cause.GuestStore; pc = pc; stval = address; htval = gpa / 4; htinst = htinst })
unfolding serve_plain plain_answer exit_answered write_answer
guarded_served r h hart address width value gpa htinst pc store same inside =
    rw (store.explicit, gpa_back gpa address same, inside) refl

-- the bytes are written after the tables, and the hart's own reservation there goes
written : (o : Unseen) (r : State) (hart : Hart) (c : HypervisorRegisters) (p width value : ℕ)
    → with_region (write_host (region_at o r) (length o.tables + p) width value)
    (retire (behind_write (core_at o c hart) (length o.tables + p) width) (write_at (length o.tables + p) width))
    ≡ record {
      region = with_ram o.tables (write_word r.ram p width value);
      core = core_at o c (hart_after_write p width (at_next_instruction hart));
      outcome = Outcome.Retired (Some (record { hpa = length o.tables + p; width = width }));
    }
written o r hart c p width value =
    rw (write_in_ram (region_at o r) p width value, after_write_after (length o.tables) p width hart.reservation) refl

-- over whether the page lies in RAM, and is protected
at_place : (o : Unseen) (r : State) (h : ℕ) (hart : Hart) (c : HypervisorRegisters) (address width value gpa htinst : ℕ) (inside guarded : Bool)
    → IsAt o r h hart c → IsStore htinst hart width value → gpa % page_size ≡ address % page_size → in_ram r.ram gpa 1 ≡ inside
    → (inside ≡ true → guarded ≡ false → CanWrite r (ram_offset gpa) width value)
    → Agrees o r h hart c
    (after_store (region_at o r) (core_at o c hart) width value
    (place_or_exception Access.Store address htinst (place_through gpa (if inside && not guarded then Some (length o.tables + ram_offset gpa) else None))))
    (carry_out_store r h hart address width value (if inside then (if guarded then Guarded gpa else ToRam gpa) else ToDevice gpa))
unfolding after_store carry_out_store
at_place o r h hart c address width value gpa htinst true false at store same whole kept =
    subst (λ (a : Attempted). Agrees o r h hart c a (carried_out_writing r h (at_next_instruction hart) (ram_offset gpa) (low_bytes width value)))
    (sym (written o r hart c (ram_offset gpa) width value))
    (writes o r h hart (at_next_instruction hart) c (ram_offset gpa) width value at (refl, refl) (kept refl refl))
at_place o r h hart c address width value gpa htinst true true at store same whole kept =
    exit_agrees o r h hart c (fault_exception Access.Store address htinst (Fault.Guest gpa false)) (write_stopped r h hart gpa) refl
    (guarded_served r h hart address width value gpa htinst hart.pc store same whole)
at_place o r h hart c address width value gpa htinst false guarded at store same whole kept =
    exit_agrees o r h hart c (fault_exception Access.Store address htinst (Fault.Guest gpa false))
    (carry_out_device_store r h hart address (device_store r.devices r.journal gpa width value)) refl
    (device_served r h hart address width value gpa htinst hart.pc store same whole)

pub one_divides : (n : ℕ) → n % 1 ≡ 0
one_divides n = grind arith

-- a write into free RAM leaves what is kept of a load
abbrev pub FreeKeeps : State → ℕ → ℕ → Type 0
FreeKeeps r width value = (gpa : ℕ) → page_in_ram r.rules.ram_pages gpa ≡ true → is_protected r (page_of gpa) ≡ false → ram_offset gpa % width ≡ 0
    → CanWrite r (ram_offset gpa) width value

pub store_at : (o : Unseen) (r : State) (h : ℕ) (hart : Hart) (c : HypervisorRegisters) (address width value htinst : ℕ) (d : Destination)
    → IsAt o r h hart c → IsStore htinst hart width value → IsWidth width → address % width ≡ 0 → Keeps address d → FreeKeeps r width value
    → Agrees o r h hart c
    (after_store (region_at o r) (core_at o c hart) width value (place_or_exception Access.Store address htinst (under o r (sight_of_hart r hart) Access.Store d)))
    (carry_out_store r h hart address width value (target_at r.ram (is_protected r) width d))
unfolding target_at view_answer after_store carry_out_store
store_at o r h hart c address width value htinst (At gpa) at store whole aligned fits kept =
    rw (access_in_ram r gpa address width at.sound whole fits aligned, stores_permitted (sight_of_hart r hart) r (page_of gpa))
    (at_place o r h hart c address width value gpa htinst (page_in_ram r.rules.ram_pages gpa) (is_protected r (page_of gpa)) at store fits
    (access_in_ram r gpa address 1 at.sound (inl refl) fits (one_divides address))
    (λ inside free. kept gpa inside free (moved width gpa address whole fits aligned)))
store_at o r h hart c address width value htinst PageFault at store whole aligned fits kept =
    exception_agrees o r h hart c Cause.StorePage address at refl
store_at o r h hart c address width value htinst (Unreadable entry) at store whole aligned fits kept =
    exit_agrees o r h hart c (fault_exception Access.Store address htinst (Fault.Guest entry true)) (exception r h hart Cause.StoreAccess address) refl
    (unreadable_store r h hart address (entry / 4) hart.pc)

by_alignment : (o : Unseen) (r : State) (h : ℕ) (hart : Hart) (c : HypervisorRegisters) (address width value htinst : ℕ) (aligned : Bool)
    → IsAt o r h hart c → IsStore htinst hart width value → IsWidth width → FreeKeeps r width value → (aligned ≡ true → address % width ≡ 0)
    → Agrees o r h hart c
    (after_store (region_at o r) (core_at o c hart) width value
    (if aligned
    then place_or_exception Access.Store address htinst (under o r (sight_of_hart r hart) Access.Store (place r.ram (settings_of hart.supervisor) hart.mode address Access.Store))
    else Err (plain_exception Cause.StoreMisaligned address)))
    (carry_out_store r h hart address width value
    (if aligned then target_at r.ram (is_protected r) width (place r.ram (settings_of hart.supervisor) hart.mode address Access.Store) else NoTarget Cause.StoreMisaligned))
unfolding after_store carry_out_store place
by_alignment o r h hart c address width value htinst true at store whole kept aligned =
    store_at o r h hart c address width value htinst (place r.ram (settings_of hart.supervisor) hart.mode address Access.Store) at store whole (aligned refl)
    (first_stage_keeps (entry_in_ram r.ram) (settings_of hart.supervisor) hart.mode address Access.Store) kept
by_alignment o r h hart c address width value htinst false at store whole kept aligned =
    exception_agrees o r h hart c Cause.StoreMisaligned address at refl

pub store_agrees : (o : Unseen) (r : State) (h : ℕ) (hart : Hart) (c : HypervisorRegisters) (address width value htinst : ℕ)
    → IsAt o r h hart c → IsStore htinst hart width value → IsWidth width → FreeKeeps r width value
    → Agrees o r h hart c
    (after_store (region_at o r) (core_at o c hart) width value (aligned_translation (region_at o r) (core_at o c hart) Access.Store address width htinst))
    (carry_out_store r h hart address width value (target_of r hart address width))
unfolding aligned_translation store_target
store_agrees o r h hart c address width value htinst at store whole kept =
    rw (translated_under o r h hart c Access.Store address htinst at)
    (by_alignment o r h hart c address width value htinst (address % width == 0) at store whole kept
    (λ e. aligned_if address width (address % width == 0) refl e))
