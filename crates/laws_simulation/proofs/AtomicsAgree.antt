-- LR, SC and atomic operations.
use Rattle.std.proofs.Common.{◌≡◌, ℕ, ◌+◌, ◌%◌, ◌/◌, length, refl, sym, subst, Bool, true, false, arith}
use Rattle.std.specs.Prelude.{Some, None, if◌then◌else◌, Ok, ◌==◌}
use Rattle.spec_processor.specs.Bytes.{word, write_word, low_bytes, ram_offset, in_ram, page_size}
use Rattle.spec_processor.specs.Effects.{amo_value}
use Rattle.spec_processor.specs.Hardware.{Attempted, with_region}
use Rattle.spec_processor.specs.HardwareMemory.{after_load_reserved, after_store_conditional, after_amo, fault_exception, implicit_read}
use Rattle.spec_processor.specs.HardwareMemory.{with_reservation, retire_with, write_at, behind_write, aligned_translation}
use Rattle.spec_processor.specs.HypervisorRegisters.{HypervisorRegisters}
use Rattle.spec_processor.specs.Regions.{IsWidth, host_word, write_host}
use Rattle.spec_processor.specs.Requests.{loaded_value, reserved_at, covers, after_write}
use Rattle.sv_types.specs.Views.{with_ram}
use Rattle.spec_processor.specs.declared.cause.Cause.{Cause}
use Rattle.spec_processor.specs.declared.exit.ExitCause.{ExitCause}
use Rattle.spec_processor.specs.declared.effect.Effect.{Effect}
use Rattle.spec_processor.specs.declared.instruction.AmoOp.{AmoOp}
use Rattle.spec_processor.specs.declared.outcome.Outcome.{Outcome}
use Rattle.spec_processor.specs.declared.translation.Fault.{Fault}
use Rattle.spec_processor.specs.declared.access.Access.TheVariants as Access
use Rattle.laws_processor.proofs.RegionLemmas.{word_in_ram, write_in_ram}
use Rattle.laws_processor.proofs.Reservations.{after_write_after, covers_after}
use Rattle.spec_reference.specs.States.{State, Hart, without_reservation}
use Rattle.spec_reference.specs.Devices.{hart_after_write}
use Rattle.spec_reference.specs.Trapping.{exception}
use Rattle.spec_reference.specs.Requests.{carried_out, stepped_with, carried_out_writing, ram_word, write_stopped, source_of, target_of}
use Rattle.spec_reference.specs.Requests.{FromRam, ToRam, carry_out_load_reserved, carry_out_store_conditional, carry_out_amo}
use Rattle.spec_hardware.specs.Served.{exit_answered, plain_answer, load_answer, write_answer, store_answer, transformed_effect}
use Rattle.laws_simulation.proofs.Plain.{serve_plain}
use Rattle.spec_hardware.specs.StandsFor.{Unseen}
use Rattle.laws_simulation.specs.Agree.{IsAt, Agrees, region_at, core_at}
use Rattle.laws_simulation.proofs.Stays.{stays, writes, CanWrite}
use Rattle.laws_simulation.proofs.Excepts.{exception_agrees, exit_agrees}
use Rattle.laws_simulation.proofs.LoadsAgree.{gpa_back, unreadable_load}
use Rattle.laws_simulation.proofs.StoresAgree.{FreeKeeps, unreadable_store}
use Rattle.laws_simulation.proofs.PlacesAgree.{sources_agree, targets_agree}

-- the transformed instruction is no plain load or store, and no implicit read
abbrev pub IsAtomic : Effect → Type 0
IsAtomic (Effect.LoadReserved rd address width) = Unit {0}
IsAtomic (Effect.StoreConditional rd address width value) = Unit {0}
IsAtomic (Effect.Amo rd address width op value) = Unit {0}
IsAtomic _ = ⊥

pub record IsAtomicWord (htinst : ℕ) (hart : Hart) : Type 0 where
  pub effect : Effect
  pub atomic : IsAtomic effect
  pub same : transformed_effect htinst hart.registers hart.pc ≡ Some effect
  pub explicit : (htinst == implicit_read) ≡ false

-- ---- exits

load_exit_by : (r : State) (h : ℕ) (hart : Hart) (address htval htinst pc : ℕ) (e : Effect) → IsAtomic e
    → exception r h hart Cause.LoadAccess address
    ≡ exit_answered r h hart (load_answer (record { cause = ExitCause.Exception Cause.GuestLoad; pc = pc; stval = address; htval = htval; htinst = htinst }) (Some e))
unfolding exit_answered load_answer
load_exit_by r h hart address htval htinst pc (Effect.LoadReserved rd a w) atomic = refl
load_exit_by r h hart address htval htinst pc (Effect.StoreConditional rd a w v) atomic = refl
load_exit_by r h hart address htval htinst pc (Effect.Amo rd a w op v) atomic = refl
load_exit_by r h hart address htval htinst pc e atomic = absurd atomic

load_exit : (r : State) (h : ℕ) (hart : Hart) (address htval htinst pc : ℕ) → IsAtomicWord htinst hart
    → exception r h hart Cause.LoadAccess address
    ≡ serve_plain r h hart (record { cause = ExitCause.Exception Cause.GuestLoad; pc = pc; stval = address; htval = htval; htinst = htinst })
unfolding serve_plain plain_answer
load_exit r h hart address htval htinst pc word = rw word.same (load_exit_by r h hart address htval htinst pc word.effect word.atomic)

-- ---- LR

reserved_after : (t p : ℕ) → t % page_size ≡ 0 → reserved_at (t + p) ≡ t + reserved_at p
reserved_after t p whole = grind arith

reserves_there : (o : Unseen) (r : State) (hart : Hart) (c : HypervisorRegisters) (rd width p : ℕ) → length o.tables % page_size ≡ 0
    → with_region (region_at o r) (retire_with (with_reservation (core_at o c hart) (Some (reserved_at (length o.tables + p)))) rd
    (loaded_value true width (host_word (region_at o r) (length o.tables + p) width)) None)
    ≡ record {
      region = region_at o r;
      core = core_at o c (stepped_with (record hart { reservation = Some (reserved_at p) }) rd (loaded_value true width (word r.ram p width)));
      outcome = Outcome.Retired None;
    }
reserves_there o r hart c rd width p whole = rw (word_in_ram (region_at o r) p width, reserved_after (length o.tables) p whole) refl

pub lr_agrees : (o : Unseen) (r : State) (h : ℕ) (hart : Hart) (c : HypervisorRegisters) (rd address width htinst : ℕ)
    → IsAt o r h hart c → IsAtomicWord htinst hart → IsWidth width
    → Agrees o r h hart c
    (with_region (region_at o r) (after_load_reserved (region_at o r) (core_at o c hart) rd width (aligned_translation (region_at o r) (core_at o c hart) Access.Load address width htinst)))
    (carry_out_load_reserved r h hart rd address width (source_of r hart address width))
unfolding after_load_reserved carry_out_load_reserved
lr_agrees o r h hart c rd address width htinst at word whole =
    sources_agree o r h hart c address width htinst
    (λ x. with_region (region_at o r) (after_load_reserved (region_at o r) (core_at o c hart) rd width x)) (carry_out_load_reserved r h hart rd address width)
    (record {
      ram = λ gpa. subst (λ (a : Attempted). Agrees o r h hart c a (carry_out_load_reserved r h hart rd address width (FromRam gpa)))
          (sym (reserves_there o r hart c rd width (ram_offset gpa) at.right.region.tables))
          (stays o r h hart (stepped_with (record hart { reservation = Some (reserved_at (ram_offset gpa)) }) rd (loaded_value true width (ram_word r gpa width))) c at (refl, refl));
      device = λ gpa same. exit_agrees o r h hart c (fault_exception Access.Load address htinst (Fault.Guest gpa false)) (exception r h hart Cause.LoadAccess address) refl
          (load_exit r h hart address (gpa / 4) htinst hart.pc word);
      unreadable = λ entry. exit_agrees o r h hart c (fault_exception Access.Load address htinst (Fault.Guest entry true)) (exception r h hart Cause.LoadAccess address) refl
          (unreadable_load r h hart address (entry / 4) hart.pc);
      page = exception_agrees o r h hart c Cause.LoadPage address at refl;
      misaligned = exception_agrees o r h hart c Cause.LoadMisaligned address at refl;
    })
    at whole

-- ---- exits of stores

store_exit_by : (r : State) (h : ℕ) (hart : Hart) (address htval htinst pc : ℕ) (e : Effect) → IsAtomic e
    → exception r h hart Cause.StoreAccess address
    ≡ exit_answered r h hart (store_answer (record { cause = ExitCause.Exception Cause.GuestStore; pc = pc; stval = address; htval = htval; htinst = htinst }) (Some e))
unfolding exit_answered store_answer
store_exit_by r h hart address htval htinst pc (Effect.LoadReserved rd a w) atomic = refl
store_exit_by r h hart address htval htinst pc (Effect.StoreConditional rd a w v) atomic = refl
store_exit_by r h hart address htval htinst pc (Effect.Amo rd a w op v) atomic = refl
store_exit_by r h hart address htval htinst pc e atomic = absurd atomic

store_exit : (r : State) (h : ℕ) (hart : Hart) (address gpa htinst pc : ℕ) → IsAtomicWord htinst hart → gpa % page_size ≡ address % page_size → in_ram r.ram gpa 1 ≡ false
    → exception r h hart Cause.StoreAccess address
    ≡ serve_plain r h hart (record { cause = ExitCause.Exception Cause.GuestStore; pc = pc; stval = address; htval = gpa / 4; htinst = htinst })
unfolding serve_plain plain_answer write_answer
store_exit r h hart address gpa htinst pc word same outside =
    rw (word.explicit, gpa_back gpa address same, outside, word.same) (store_exit_by r h hart address (gpa / 4) htinst pc word.effect word.atomic)

guarded_exit : (r : State) (h : ℕ) (hart : Hart) (address gpa htinst pc : ℕ) → IsAtomicWord htinst hart → gpa % page_size ≡ address % page_size → in_ram r.ram gpa 1 ≡ true
    → write_stopped r h hart gpa
    ≡ serve_plain r h hart (record { cause = ExitCause.Exception Cause.GuestStore; pc = pc; stval = address; htval = gpa / 4; htinst = htinst })
unfolding serve_plain plain_answer write_answer exit_answered
guarded_exit r h hart address gpa htinst pc word same inside = rw (word.explicit, gpa_back gpa address same, inside) refl

-- ---- SC, by whether the reservation covers the bytes

sc_writes : (o : Unseen) (r : State) (hart : Hart) (c : HypervisorRegisters) (rd width value p : ℕ)
    → with_region (write_host (region_at o r) (length o.tables + p) width value)
    (retire_with (with_reservation (core_at o c hart) None) rd 0 (write_at (length o.tables + p) width))
    ≡ record {
      region = with_ram o.tables (write_word r.ram p width value);
      core = core_at o c (hart_after_write p width (stepped_with (without_reservation hart) rd 0));
      outcome = Outcome.Retired (Some (record { hpa = length o.tables + p; width = width }));
    }
unfolding after_write
sc_writes o r hart c rd width value p = rw (write_in_ram (region_at o r) p width value) refl

sc_by : (o : Unseen) (r : State) (h : ℕ) (hart : Hart) (c : HypervisorRegisters) (rd width value p : ℕ) (covered : Bool)
    → IsAt o r h hart c → CanWrite r p width value
    → Agrees o r h hart c
    (if covered
    then with_region (write_host (region_at o r) (length o.tables + p) width value)
    (retire_with (with_reservation (core_at o c hart) None) rd 0 (write_at (length o.tables + p) width))
    else with_region (region_at o r) (retire_with (with_reservation (core_at o c hart) None) rd 1 None))
    (if covered
    then carried_out_writing r h (stepped_with (without_reservation hart) rd 0) p (low_bytes width value)
    else carried_out r h (stepped_with (without_reservation hart) rd 1))
sc_by o r h hart c rd width value p true at kept =
    subst (λ (a : Attempted). Agrees o r h hart c a (carried_out_writing r h (stepped_with (without_reservation hart) rd 0) p (low_bytes width value)))
    (sym (sc_writes o r hart c rd width value p))
    (writes o r h hart (stepped_with (without_reservation hart) rd 0) c p width value at (refl, refl) kept)
sc_by o r h hart c rd width value p false at kept = stays o r h hart (stepped_with (without_reservation hart) rd 1) c at (refl, refl)

sc_there : (o : Unseen) (r : State) (h : ℕ) (hart : Hart) (c : HypervisorRegisters) (rd address width value gpa : ℕ)
    → IsAt o r h hart c → CanWrite r (ram_offset gpa) width value
    → Agrees o r h hart c (after_store_conditional (region_at o r) (core_at o c hart) rd width value (Ok (length o.tables + ram_offset gpa)))
    (carry_out_store_conditional r h hart rd address width value (ToRam gpa))
unfolding after_store_conditional carry_out_store_conditional
sc_there o r h hart c rd address width value gpa at kept =
    rw (covers_after (length o.tables) hart.reservation (ram_offset gpa) width)
    (sc_by o r h hart c rd width value (ram_offset gpa) (covers hart.reservation (ram_offset gpa) width) at kept)

pub sc_agrees : (o : Unseen) (r : State) (h : ℕ) (hart : Hart) (c : HypervisorRegisters) (rd address width value htinst : ℕ)
    → IsAt o r h hart c → IsAtomicWord htinst hart → IsWidth width → FreeKeeps r width value
    → Agrees o r h hart c
    (after_store_conditional (region_at o r) (core_at o c hart) rd width value (aligned_translation (region_at o r) (core_at o c hart) Access.Store address width htinst))
    (carry_out_store_conditional r h hart rd address width value (target_of r hart address width))
unfolding after_store_conditional carry_out_store_conditional
sc_agrees o r h hart c rd address width value htinst at word whole kept =
    targets_agree o r h hart c address width htinst
    (after_store_conditional (region_at o r) (core_at o c hart) rd width value) (carry_out_store_conditional r h hart rd address width value)
    (record {
      ram = λ gpa inside free aligned. sc_there o r h hart c rd address width value gpa at (kept gpa inside free aligned);
      guarded = λ gpa inside same. exit_agrees o r h hart c (fault_exception Access.Store address htinst (Fault.Guest gpa false)) (write_stopped r h hart gpa) refl
          (guarded_exit r h hart address gpa htinst hart.pc word same inside);
      device = λ gpa outside same. exit_agrees o r h hart c (fault_exception Access.Store address htinst (Fault.Guest gpa false)) (exception r h hart Cause.StoreAccess address) refl
          (store_exit r h hart address gpa htinst hart.pc word same outside);
      unreadable = λ entry. exit_agrees o r h hart c (fault_exception Access.Store address htinst (Fault.Guest entry true)) (exception r h hart Cause.StoreAccess address) refl
          (unreadable_store r h hart address (entry / 4) hart.pc);
      page = exception_agrees o r h hart c Cause.StorePage address at refl;
      misaligned = exception_agrees o r h hart c Cause.StoreMisaligned address at refl;
    })
    at whole

-- ---- AMO

amo_writes : (o : Unseen) (r : State) (hart : Hart) (c : HypervisorRegisters) (rd width : ℕ) (op : AmoOp) (value p : ℕ)
    → with_region (write_host (region_at o r) (length o.tables + p) width (amo_value op width (host_word (region_at o r) (length o.tables + p) width) value))
    (retire_with (behind_write (core_at o c hart) (length o.tables + p) width) rd (loaded_value true width (host_word (region_at o r) (length o.tables + p) width))
    (write_at (length o.tables + p) width))
    ≡ record {
      region = with_ram o.tables (write_word r.ram p width (amo_value op width (word r.ram p width) value));
      core = core_at o c (hart_after_write p width (stepped_with hart rd (loaded_value true width (word r.ram p width))));
      outcome = Outcome.Retired (Some (record { hpa = length o.tables + p; width = width }));
    }
amo_writes o r hart c rd width op value p =
    rw (
      word_in_ram (region_at o r) p width,
      write_in_ram (region_at o r) p width (amo_value op width (word r.ram p width) value),
      after_write_after (length o.tables) p width hart.reservation,
    ) refl

amo_there : (o : Unseen) (r : State) (h : ℕ) (hart : Hart) (c : HypervisorRegisters) (rd address width : ℕ) (op : AmoOp) (value gpa : ℕ)
    → IsAt o r h hart c → CanWrite r (ram_offset gpa) width (amo_value op width (ram_word r gpa width) value)
    → Agrees o r h hart c (after_amo (region_at o r) (core_at o c hart) rd width op value (Ok (length o.tables + ram_offset gpa)))
    (carry_out_amo r h hart rd address width op value (ToRam gpa))
unfolding after_amo carry_out_amo
amo_there o r h hart c rd address width op value gpa at kept =
    subst (λ (a : Attempted). Agrees o r h hart c a (carry_out_amo r h hart rd address width op value (ToRam gpa)))
    (sym (amo_writes o r hart c rd width op value (ram_offset gpa)))
    (writes o r h hart (stepped_with hart rd (loaded_value true width (ram_word r gpa width))) c (ram_offset gpa) width
    (amo_value op width (ram_word r gpa width) value) at (refl, refl) kept)

pub amo_agrees : (o : Unseen) (r : State) (h : ℕ) (hart : Hart) (c : HypervisorRegisters) (rd address width : ℕ) (op : AmoOp) (value htinst : ℕ)
    → IsAt o r h hart c → IsAtomicWord htinst hart → IsWidth width → ((v : ℕ) → FreeKeeps r width v)
    → Agrees o r h hart c
    (after_amo (region_at o r) (core_at o c hart) rd width op value (aligned_translation (region_at o r) (core_at o c hart) Access.Store address width htinst))
    (carry_out_amo r h hart rd address width op value (target_of r hart address width))
unfolding after_amo carry_out_amo
amo_agrees o r h hart c rd address width op value htinst at word whole kept =
    targets_agree o r h hart c address width htinst
    (after_amo (region_at o r) (core_at o c hart) rd width op value) (carry_out_amo r h hart rd address width op value)
    (record {
      ram = λ gpa inside free aligned. amo_there o r h hart c rd address width op value gpa at (kept (amo_value op width (ram_word r gpa width) value) gpa inside free aligned);
      guarded = λ gpa inside same. exit_agrees o r h hart c (fault_exception Access.Store address htinst (Fault.Guest gpa false)) (write_stopped r h hart gpa) refl
          (guarded_exit r h hart address gpa htinst hart.pc word same inside);
      device = λ gpa outside same. exit_agrees o r h hart c (fault_exception Access.Store address htinst (Fault.Guest gpa false)) (exception r h hart Cause.StoreAccess address) refl
          (store_exit r h hart address gpa htinst hart.pc word same outside);
      unreadable = λ entry. exit_agrees o r h hart c (fault_exception Access.Store address htinst (Fault.Guest entry true)) (exception r h hart Cause.StoreAccess address) refl
          (unreadable_store r h hart address (entry / 4) hart.pc);
      page = exception_agrees o r h hart c Cause.StorePage address at refl;
      misaligned = exception_agrees o r h hart c Cause.StoreMisaligned address at refl;
    })
    at whole
