-- A load of the hardware's is the reference machine's, wherever it leads.
use Rattle.std.proofs.Common.{◌≡◌, ℕ, ◌+◌, ◌*◌, ◌%◌, ◌/◌, length, refl, sym, ◌∙◌, subst, Bool, true, false, ◌&&◌, arith}
use Rattle.std.specs.Prelude.{Some, None, if◌then◌else◌, Err, ◌==◌}
use Rattle.std.proofs.lemmas.Bool.Decides.{nat_tests}
use Rattle.spec_processor.specs.Bytes.{word, ram_offset, page_size}
use Rattle.spec_processor.specs.Hardware.{with_region, plain_exception}
use Rattle.spec_processor.specs.HardwareMemory.{after_load, place_or_exception, fault_exception, implicit_read, retire_with, aligned_translation}
use Rattle.spec_processor.specs.HypervisorRegisters.{HypervisorRegisters}
use Rattle.spec_processor.specs.Instructions.{instruction_of, rows}
use Rattle.spec_processor.specs.Regions.{IsWidth}
use Rattle.spec_processor.specs.Requests.{loaded_value}
use Rattle.sv_types.specs.Views.{page_in_ram, view_answer}
use Rattle.spec_processor.specs.GStage.{place_through}
use Rattle.spec_processor.specs.Translation.{Destination, At, PageFault, Unreadable, place, entry_in_ram}
use Rattle.spec_processor.specs.declared.cause.Cause.{Cause}
use Rattle.spec_processor.specs.declared.exit.ExitCause.{ExitCause}
use Rattle.spec_processor.specs.declared.effect.Effect.{Effect}
use Rattle.spec_processor.specs.declared.translation.Fault.{Fault}
use Rattle.spec_processor.specs.declared.access.Access.TheVariants as Access
use Rattle.laws_processor.proofs.RegionLemmas.{word_in_ram}
use Rattle.laws_simulation.proofs.BeyondDevices.{load_beyond}
use Rattle.laws_simulation.proofs.Everywhere.{Keeps, first_stage_keeps}
use Rattle.spec_reference.specs.States.{State, Hart}
use Rattle.spec_reference.specs.Devices.{device_load}
use Rattle.spec_reference.specs.Trapping.{exception}
use Rattle.spec_reference.specs.Requests.{carried_out, stepped_with, carry_out_device_load, FromRam, FromDevice, NoSource, source_at, load_source, source_of, settings_of, carry_out_load}
use Rattle.spec_hardware.specs.Served.{exit_answered, plain_answer, load_answer, transformed_effect}
use Rattle.laws_simulation.proofs.Plain.{serve_plain}
use Rattle.spec_hardware.specs.StandsFor.{Unseen}
use Rattle.laws_simulation.specs.Agree.{IsAt, Agrees, region_at, core_at}
use Rattle.laws_simulation.proofs.Stays.{stays}
use Rattle.laws_simulation.proofs.Excepts.{exception_agrees, exit_agrees}
use Rattle.laws_simulation.proofs.Under.{under, sight_of_hart, translated_under, access_in_ram}

-- the transformed instruction is this load, and no implicit read
pub record IsLoad (htinst : ℕ) (hart : Hart) (rd width : ℕ) (signed : Bool) : Type 0 where
  pub address : ℕ
  pub effect : transformed_effect htinst hart.registers hart.pc ≡ Some (Effect.Load rd address width signed)
  pub explicit : (htinst == implicit_read) ≡ false

-- the two low bits of a guest-physical address are those of the virtual one
pub gpa_back : (gpa va : ℕ) → gpa % page_size ≡ va % page_size → 4 * (gpa / 4) + va % 4 ≡ gpa
gpa_back gpa va same = let low : va % 4 ≡ gpa % 4 = grind arith in rw low (grind arith)

-- an entry of the first stage can't be read
pub unreadable_load : (r : State) (h : ℕ) (hart : Hart) (address htval pc : ℕ)
    → exception r h hart Cause.LoadAccess address
    ≡ serve_plain r h hart (record { cause = ExitCause.Exception Cause.GuestLoad; pc = pc; stval = address; htval = htval; htinst = implicit_read })
unfolding serve_plain plain_answer exit_answered load_answer transformed_effect instruction_of rows
unreadable_load r h hart address htval pc = refl

-- no RAM is there
device_served : (r : State) (h : ℕ) (hart : Hart) (rd address width : ℕ) (signed : Bool) (gpa htinst pc : ℕ)
    → IsLoad htinst hart rd width signed → gpa % page_size ≡ address % page_size
    → carry_out_device_load r h hart rd address width signed (device_load r.devices gpa width)
    ≡ serve_plain r h hart (record { cause = ExitCause.Exception Cause.GuestLoad; pc = pc; stval = address; htval = gpa / 4; htinst = htinst })
unfolding serve_plain plain_answer exit_answered load_answer
device_served r h hart rd address width signed gpa htinst pc load same =
    rw (load.effect, load.explicit, gpa_back gpa address same, load_beyond r.devices gpa width) refl

-- over whether the page lies in RAM
at_place : (o : Unseen) (r : State) (h : ℕ) (hart : Hart) (c : HypervisorRegisters) (rd address width : ℕ) (signed : Bool) (gpa htinst : ℕ) (inside : Bool)
    → IsAt o r h hart c → IsLoad htinst hart rd width signed → gpa % page_size ≡ address % page_size
    → Agrees o r h hart c
    (with_region (region_at o r) (after_load (region_at o r) (core_at o c hart) rd width signed
    (place_or_exception Access.Load address htinst (place_through gpa (if inside && true then Some (length o.tables + ram_offset gpa) else None)))))
    (carry_out_load r h hart rd address width signed (if inside then FromRam gpa else FromDevice gpa))
unfolding after_load carry_out_load
at_place o r h hart c rd address width signed gpa htinst true at load same =
    subst (λ (v : ℕ). Agrees o r h hart c
    (with_region (region_at o r) (retire_with (core_at o c hart) rd (loaded_value signed width v) None))
    (carried_out r h (stepped_with hart rd (loaded_value signed width (word r.ram (ram_offset gpa) width)))))
    (sym (word_in_ram (region_at o r) (ram_offset gpa) width))
    (stays o r h hart (stepped_with hart rd (loaded_value signed width (word r.ram (ram_offset gpa) width))) c at (refl, refl))
at_place o r h hart c rd address width signed gpa htinst false at load same =
    exit_agrees o r h hart c (fault_exception Access.Load address htinst (Fault.Guest gpa false))
    (carry_out_device_load r h hart rd address width signed (device_load r.devices gpa width)) refl
    (device_served r h hart rd address width signed gpa htinst hart.pc load same)

pub load_at : (o : Unseen) (r : State) (h : ℕ) (hart : Hart) (c : HypervisorRegisters) (rd address width : ℕ) (signed : Bool) (htinst : ℕ) (d : Destination)
    → IsAt o r h hart c → IsLoad htinst hart rd width signed → IsWidth width → address % width ≡ 0 → Keeps address d
    → Agrees o r h hart c
    (with_region (region_at o r) (after_load (region_at o r) (core_at o c hart) rd width signed
    (place_or_exception Access.Load address htinst (under o r (sight_of_hart r hart) Access.Load d))))
    (carry_out_load r h hart rd address width signed (source_at r.ram width d))
unfolding source_at view_answer after_load carry_out_load
load_at o r h hart c rd address width signed htinst (At gpa) at load whole aligned fits =
    rw (access_in_ram r gpa address width at.sound whole fits aligned)
    (at_place o r h hart c rd address width signed gpa htinst (page_in_ram r.rules.ram_pages gpa) at load fits)
load_at o r h hart c rd address width signed htinst PageFault at load whole aligned fits =
    exception_agrees o r h hart c Cause.LoadPage address at refl
load_at o r h hart c rd address width signed htinst (Unreadable entry) at load whole aligned fits =
    exit_agrees o r h hart c (fault_exception Access.Load address htinst (Fault.Guest entry true)) (exception r h hart Cause.LoadAccess address) refl
    (unreadable_load r h hart address (entry / 4) hart.pc)

-- ---- from the address on

pub aligned_if : (address width : ℕ) (b : Bool) → (address % width == 0) ≡ b → b ≡ true → address % width ≡ 0
aligned_if address width b test e = let both : (address % width == 0) ≡ true = test ∙ e in grind (arith, nat_tests)

by_alignment : (o : Unseen) (r : State) (h : ℕ) (hart : Hart) (c : HypervisorRegisters) (rd address width : ℕ) (signed : Bool) (htinst : ℕ) (aligned : Bool)
    → IsAt o r h hart c → IsLoad htinst hart rd width signed → IsWidth width → (aligned ≡ true → address % width ≡ 0)
    → Agrees o r h hart c
    (with_region (region_at o r) (after_load (region_at o r) (core_at o c hart) rd width signed
    (if aligned
    then place_or_exception Access.Load address htinst (under o r (sight_of_hart r hart) Access.Load (place r.ram (settings_of hart.supervisor) hart.mode address Access.Load))
    else Err (plain_exception Cause.LoadMisaligned address))))
    (carry_out_load r h hart rd address width signed
    (if aligned then source_at r.ram width (place r.ram (settings_of hart.supervisor) hart.mode address Access.Load) else NoSource Cause.LoadMisaligned))
unfolding after_load carry_out_load place
by_alignment o r h hart c rd address width signed htinst true at load whole aligned =
    load_at o r h hart c rd address width signed htinst (place r.ram (settings_of hart.supervisor) hart.mode address Access.Load) at load whole (aligned refl)
    (first_stage_keeps (entry_in_ram r.ram) (settings_of hart.supervisor) hart.mode address Access.Load)
by_alignment o r h hart c rd address width signed htinst false at load whole aligned =
    exception_agrees o r h hart c Cause.LoadMisaligned address at refl

pub load_agrees : (o : Unseen) (r : State) (h : ℕ) (hart : Hart) (c : HypervisorRegisters) (rd address width : ℕ) (signed : Bool) (htinst : ℕ)
    → IsAt o r h hart c → IsLoad htinst hart rd width signed → IsWidth width
    → Agrees o r h hart c
    (with_region (region_at o r) (after_load (region_at o r) (core_at o c hart) rd width signed (aligned_translation (region_at o r) (core_at o c hart) Access.Load address width htinst)))
    (carry_out_load r h hart rd address width signed (source_of r hart address width))
unfolding aligned_translation load_source
load_agrees o r h hart c rd address width signed htinst at load whole =
    rw (translated_under o r h hart c Access.Load address htinst at)
    (by_alignment o r h hart c rd address width signed htinst (address % width == 0) at load whole
    (λ e. aligned_if address width (address % width == 0) refl e))
