-- Where loads and stores lead, once for all of them: what is left is to say what each does there.
use Rattle.laws_simulation.proofs.StoresAgree.{one_divides}
use Rattle.std.proofs.Common.{◌≡◌, ℕ, ◌+◌, ◌%◌, inl, length, refl, Bool, true, false, not, ◌&&◌}
use Rattle.std.specs.Prelude.{Some, None, if◌then◌else◌, Result, Ok, Err, ◌==◌}
use Rattle.spec_processor.specs.Bytes.{ram_offset, page_of, in_ram, page_size}
use Rattle.spec_processor.specs.Hardware.{Attempted, plain_exception}
use Rattle.spec_processor.specs.HardwareMemory.{place_or_exception, fault_exception, aligned_translation}
use Rattle.spec_processor.specs.HypervisorRegisters.{HypervisorRegisters}
use Rattle.spec_processor.specs.Regions.{IsWidth}
use Rattle.sv_types.specs.Views.{page_in_ram, view_answer}
use Rattle.spec_processor.specs.GStage.{place_through}
use Rattle.spec_processor.specs.Translation.{Destination, At, PageFault, Unreadable, place, entry_in_ram}
use Rattle.spec_processor.specs.declared.cause.Cause.{Cause}
use Rattle.spec_processor.specs.declared.outcome.Exception.{Exception}
use Rattle.spec_processor.specs.declared.translation.Fault.{Fault}
use Rattle.spec_processor.specs.declared.access.Access.TheVariants as Access
use Rattle.laws_simulation.proofs.Everywhere.{Keeps, first_stage_keeps}
use Rattle.spec_reference.specs.States.{State, Hart, is_protected}
use Rattle.spec_reference.specs.Requests.{Source, FromRam, FromDevice, NoSource, source_at, load_source, source_of, Target, ToRam, ToDevice}
use Rattle.spec_reference.specs.Requests.{Guarded, NoTarget, target_at, store_target, target_of, settings_of}
use Rattle.spec_hardware.specs.StandsFor.{Unseen}
use Rattle.laws_simulation.specs.Agree.{IsAt, Agrees, region_at, core_at}
use Rattle.laws_simulation.proofs.Under.{under, sight_of_hart, translated_under, access_in_ram, moved, stores_permitted}
use Rattle.laws_simulation.proofs.LoadsAgree.{aligned_if}

-- ---- loads

pub record SourcesAgree (o : Unseen) (r : State) (h : ℕ) (hart : Hart) (c : HypervisorRegisters) (address htinst : ℕ)
    (hard : Result ℕ Exception → Attempted) (soft : Source → State) : Type 0 where
  pub ram : (gpa : ℕ) → Agrees o r h hart c (hard (Ok (length o.tables + ram_offset gpa))) (soft (FromRam gpa))
  pub device : (gpa : ℕ) → gpa % page_size ≡ address % page_size
      → Agrees o r h hart c (hard (Err (fault_exception Access.Load address htinst (Fault.Guest gpa false)))) (soft (FromDevice gpa))
  pub unreadable : (entry : ℕ) → Agrees o r h hart c (hard (Err (fault_exception Access.Load address htinst (Fault.Guest entry true)))) (soft (NoSource Cause.LoadAccess))
  pub page : Agrees o r h hart c (hard (Err (plain_exception Cause.LoadPage address))) (soft (NoSource Cause.LoadPage))
  pub misaligned : Agrees o r h hart c (hard (Err (plain_exception Cause.LoadMisaligned address))) (soft (NoSource Cause.LoadMisaligned))

source_place : (o : Unseen) (r : State) (h : ℕ) (hart : Hart) (c : HypervisorRegisters) (address htinst gpa : ℕ) (inside : Bool)
    (hard : Result ℕ Exception → Attempted) (soft : Source → State) → SourcesAgree o r h hart c address htinst hard soft → gpa % page_size ≡ address % page_size
    → Agrees o r h hart c
    (hard (place_or_exception Access.Load address htinst (place_through gpa (if inside && true then Some (length o.tables + ram_offset gpa) else None))))
    (soft (if inside then FromRam gpa else FromDevice gpa))
source_place o r h hart c address htinst gpa true hard soft agree same = agree.ram gpa
source_place o r h hart c address htinst gpa false hard soft agree same = agree.device gpa same

source_by : (o : Unseen) (r : State) (h : ℕ) (hart : Hart) (c : HypervisorRegisters) (address width htinst : ℕ) (d : Destination)
    (hard : Result ℕ Exception → Attempted) (soft : Source → State) → SourcesAgree o r h hart c address htinst hard soft
    → IsAt o r h hart c → IsWidth width → address % width ≡ 0 → Keeps address d
    → Agrees o r h hart c (hard (place_or_exception Access.Load address htinst (under o r (sight_of_hart r hart) Access.Load d))) (soft (source_at r.ram width d))
unfolding source_at view_answer
source_by o r h hart c address width htinst (At gpa) hard soft agree at whole aligned fits =
    rw (access_in_ram r gpa address width at.sound whole fits aligned)
    (source_place o r h hart c address htinst gpa (page_in_ram r.rules.ram_pages gpa) hard soft agree fits)
source_by o r h hart c address width htinst PageFault hard soft agree at whole aligned fits = agree.page
source_by o r h hart c address width htinst (Unreadable entry) hard soft agree at whole aligned fits = agree.unreadable entry

source_aligned : (o : Unseen) (r : State) (h : ℕ) (hart : Hart) (c : HypervisorRegisters) (address width htinst : ℕ) (aligned : Bool)
    (hard : Result ℕ Exception → Attempted) (soft : Source → State) → SourcesAgree o r h hart c address htinst hard soft
    → IsAt o r h hart c → IsWidth width → (aligned ≡ true → address % width ≡ 0)
    → Agrees o r h hart c
    (hard (if aligned
    then place_or_exception Access.Load address htinst (under o r (sight_of_hart r hart) Access.Load (place r.ram (settings_of hart.supervisor) hart.mode address Access.Load))
    else Err (plain_exception Cause.LoadMisaligned address)))
    (soft (if aligned then source_at r.ram width (place r.ram (settings_of hart.supervisor) hart.mode address Access.Load) else NoSource Cause.LoadMisaligned))
unfolding place
source_aligned o r h hart c address width htinst true hard soft agree at whole aligned =
    source_by o r h hart c address width htinst (place r.ram (settings_of hart.supervisor) hart.mode address Access.Load) hard soft agree at whole (aligned refl)
    (first_stage_keeps (entry_in_ram r.ram) (settings_of hart.supervisor) hart.mode address Access.Load)
source_aligned o r h hart c address width htinst false hard soft agree at whole aligned = agree.misaligned

pub sources_agree : (o : Unseen) (r : State) (h : ℕ) (hart : Hart) (c : HypervisorRegisters) (address width htinst : ℕ)
    (hard : Result ℕ Exception → Attempted) (soft : Source → State) → SourcesAgree o r h hart c address htinst hard soft
    → IsAt o r h hart c → IsWidth width
    → Agrees o r h hart c (hard (aligned_translation (region_at o r) (core_at o c hart) Access.Load address width htinst)) (soft (source_of r hart address width))
unfolding aligned_translation load_source
sources_agree o r h hart c address width htinst hard soft agree at whole =
    rw (translated_under o r h hart c Access.Load address htinst at)
    (source_aligned o r h hart c address width htinst (address % width == 0) hard soft agree at whole
    (λ e. aligned_if address width (address % width == 0) refl e))

-- ---- stores

pub record TargetsAgree (o : Unseen) (r : State) (h : ℕ) (hart : Hart) (c : HypervisorRegisters) (address width htinst : ℕ)
    (hard : Result ℕ Exception → Attempted) (soft : Target → State) : Type 0 where
  pub ram : (gpa : ℕ) → page_in_ram r.rules.ram_pages gpa ≡ true → is_protected r (page_of gpa) ≡ false → ram_offset gpa % width ≡ 0
      → Agrees o r h hart c (hard (Ok (length o.tables + ram_offset gpa))) (soft (ToRam gpa))
  pub guarded : (gpa : ℕ) → in_ram r.ram gpa 1 ≡ true → gpa % page_size ≡ address % page_size
      → Agrees o r h hart c (hard (Err (fault_exception Access.Store address htinst (Fault.Guest gpa false)))) (soft (Guarded gpa))
  pub device : (gpa : ℕ) → in_ram r.ram gpa 1 ≡ false → gpa % page_size ≡ address % page_size
      → Agrees o r h hart c (hard (Err (fault_exception Access.Store address htinst (Fault.Guest gpa false)))) (soft (ToDevice gpa))
  pub unreadable : (entry : ℕ) → Agrees o r h hart c (hard (Err (fault_exception Access.Store address htinst (Fault.Guest entry true)))) (soft (NoTarget Cause.StoreAccess))
  pub page : Agrees o r h hart c (hard (Err (plain_exception Cause.StorePage address))) (soft (NoTarget Cause.StorePage))
  pub misaligned : Agrees o r h hart c (hard (Err (plain_exception Cause.StoreMisaligned address))) (soft (NoTarget Cause.StoreMisaligned))

target_place : (o : Unseen) (r : State) (h : ℕ) (hart : Hart) (c : HypervisorRegisters) (address width htinst gpa : ℕ) (inside guarded : Bool)
    (hard : Result ℕ Exception → Attempted) (soft : Target → State) → TargetsAgree o r h hart c address width htinst hard soft
    → gpa % page_size ≡ address % page_size → in_ram r.ram gpa 1 ≡ inside → page_in_ram r.rules.ram_pages gpa ≡ inside → is_protected r (page_of gpa) ≡ guarded
    → ram_offset gpa % width ≡ 0
    → Agrees o r h hart c
    (hard (place_or_exception Access.Store address htinst (place_through gpa (if inside && not guarded then Some (length o.tables + ram_offset gpa) else None))))
    (soft (if inside then (if guarded then Guarded gpa else ToRam gpa) else ToDevice gpa))
target_place o r h hart c address width htinst gpa true false hard soft agree same whole page free aligned = agree.ram gpa page free aligned
target_place o r h hart c address width htinst gpa true true hard soft agree same whole page free aligned = agree.guarded gpa whole same
target_place o r h hart c address width htinst gpa false guarded hard soft agree same whole page free aligned = agree.device gpa whole same

target_by : (o : Unseen) (r : State) (h : ℕ) (hart : Hart) (c : HypervisorRegisters) (address width htinst : ℕ) (d : Destination)
    (hard : Result ℕ Exception → Attempted) (soft : Target → State) → TargetsAgree o r h hart c address width htinst hard soft
    → IsAt o r h hart c → IsWidth width → address % width ≡ 0 → Keeps address d
    → Agrees o r h hart c (hard (place_or_exception Access.Store address htinst (under o r (sight_of_hart r hart) Access.Store d))) (soft (target_at r.ram (is_protected r) width d))
unfolding target_at view_answer
target_by o r h hart c address width htinst (At gpa) hard soft agree at whole aligned fits =
    rw (access_in_ram r gpa address width at.sound whole fits aligned, stores_permitted (sight_of_hart r hart) r (page_of gpa))
    (target_place o r h hart c address width htinst gpa (page_in_ram r.rules.ram_pages gpa) (is_protected r (page_of gpa)) hard soft agree fits
    (access_in_ram r gpa address 1 at.sound (inl refl) fits (one_divides address)) refl refl (moved width gpa address whole fits aligned))
target_by o r h hart c address width htinst PageFault hard soft agree at whole aligned fits = agree.page
target_by o r h hart c address width htinst (Unreadable entry) hard soft agree at whole aligned fits = agree.unreadable entry

target_aligned : (o : Unseen) (r : State) (h : ℕ) (hart : Hart) (c : HypervisorRegisters) (address width htinst : ℕ) (aligned : Bool)
    (hard : Result ℕ Exception → Attempted) (soft : Target → State) → TargetsAgree o r h hart c address width htinst hard soft
    → IsAt o r h hart c → IsWidth width → (aligned ≡ true → address % width ≡ 0)
    → Agrees o r h hart c
    (hard (if aligned
    then place_or_exception Access.Store address htinst (under o r (sight_of_hart r hart) Access.Store (place r.ram (settings_of hart.supervisor) hart.mode address Access.Store))
    else Err (plain_exception Cause.StoreMisaligned address)))
    (soft (if aligned then target_at r.ram (is_protected r) width (place r.ram (settings_of hart.supervisor) hart.mode address Access.Store) else NoTarget Cause.StoreMisaligned))
unfolding place
target_aligned o r h hart c address width htinst true hard soft agree at whole aligned =
    target_by o r h hart c address width htinst (place r.ram (settings_of hart.supervisor) hart.mode address Access.Store) hard soft agree at whole (aligned refl)
    (first_stage_keeps (entry_in_ram r.ram) (settings_of hart.supervisor) hart.mode address Access.Store)
target_aligned o r h hart c address width htinst false hard soft agree at whole aligned = agree.misaligned

pub targets_agree : (o : Unseen) (r : State) (h : ℕ) (hart : Hart) (c : HypervisorRegisters) (address width htinst : ℕ)
    (hard : Result ℕ Exception → Attempted) (soft : Target → State) → TargetsAgree o r h hart c address width htinst hard soft
    → IsAt o r h hart c → IsWidth width
    → Agrees o r h hart c (hard (aligned_translation (region_at o r) (core_at o c hart) Access.Store address width htinst)) (soft (target_of r hart address width))
unfolding aligned_translation store_target
targets_agree o r h hart c address width htinst hard soft agree at whole =
    rw (translated_under o r h hart c Access.Store address htinst at)
    (target_aligned o r h hart c address width htinst (address % width == 0) hard soft agree at whole
    (λ e. aligned_if address width (address % width == 0) refl e))
