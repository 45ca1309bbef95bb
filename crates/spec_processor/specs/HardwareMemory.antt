-- Accesses of a hart to memory through both stages of translation.
-- RISC-V Privileged manual, H extension: "Two-Stage Address Translation", "Guest-Page Faults", "Transformed Instruction or
-- Pseudoinstruction for mtinst or htinst"; Unprivileged manual, "Load and Store Instructions" and the extension "A".
use Rattle.std.specs.Prelude.{ℕ, ◌+◌, ◌/◌, ◌%◌, Bool, true, ◌==◌, if◌then◌else◌, bit_and, Option, Some, None, Result, Ok, Err}
use Rattle.spec_processor.specs.Bits.{bit}
use Rattle.spec_processor.specs.Regions.{Region, host_word, write_host}
use Rattle.spec_processor.specs.Instructions.{opcode_field, rd_field, funct3_field, rs2_field, funct7_field}
use Rattle.spec_processor.specs.Registers.{sum_bit, mxr_bit}
use Rattle.spec_processor.specs.Translation.{Settings}
use Rattle.spec_processor.specs.GStage.{two_stages, htval_unit}
use Rattle.spec_processor.specs.Effects.{set_register, next_pc, amo_value}
use Rattle.spec_processor.specs.Requests.{loaded_value, reserved_at, covers, after_write}
use Rattle.spec_processor.specs.Hardware.{Core, Step, Attempted, with_region, plain_exception, raise}
use Rattle.spec_processor.specs.declared.cause.Cause.{Cause}
use Rattle.spec_processor.specs.declared.instruction.AmoOp.{AmoOp}
use Rattle.spec_processor.specs.declared.outcome.Outcome.{Outcome}
use Rattle.spec_processor.specs.declared.outcome.Exception.{Exception}
use Rattle.spec_processor.specs.declared.outcome.Wrote.{Wrote}
use Rattle.spec_processor.specs.declared.translation.Place.{Place}
use Rattle.spec_processor.specs.declared.translation.Fault.{Fault}
use Rattle.spec_processor.specs.declared.access.Access.{Access}
use Rattle.spec_processor.specs.declared.access.Access.TheVariants.{Fetch, Load, Store}

-- ---- exceptions of an access

abbrev pub misaligned_cause : Access → Cause
misaligned_cause Fetch = Cause.InstrMisaligned
misaligned_cause Load = Cause.LoadMisaligned
misaligned_cause Store = Cause.StoreMisaligned

abbrev pub page_fault : Access → Cause
page_fault Fetch = Cause.InstrPage
page_fault Load = Cause.LoadPage
page_fault Store = Cause.StorePage

abbrev pub guest_page_fault : Access → Cause
guest_page_fault Fetch = Cause.GuestFetch
guest_page_fault Load = Cause.GuestLoad
guest_page_fault Store = Cause.GuestStore

-- a transformed instruction keeps these fields of the word, and its others are 0: rs1 and the immediate
abbrev pub load_htinst : ℕ → ℕ
load_htinst w = bit_and w (funct3_field + rd_field + opcode_field)

abbrev pub store_htinst : ℕ → ℕ
store_htinst w = bit_and w (rs2_field + funct3_field + opcode_field)

abbrev pub atomic_htinst : ℕ → ℕ
atomic_htinst w = bit_and w (funct7_field + rs2_field + funct3_field + rd_field + opcode_field)

-- the pseudoinstruction of a read of 64 bits for the first stage's translation
abbrev pub implicit_read : ℕ
implicit_read = 0x3000

-- htval is the guest-physical address shifted right by 2; its two low bits are those of stval, or 0 for an implicit read
abbrev pub fault_exception : Access → (va htinst : ℕ) → Fault → Exception
fault_exception access va htinst Fault.Page = plain_exception (page_fault access) va
fault_exception access va htinst (Fault.Guest gpa implicit) =
    record { cause = guest_page_fault access; tval = va; htval = gpa / htval_unit; htinst = if implicit then implicit_read else htinst }

-- ---- where an access goes

abbrev pub settings_at : Core → Settings
settings_at core = record { satp = core.csrs.vsatp; sum = bit core.csrs.vsstatus sum_bit; mxr = bit core.csrs.vsstatus mxr_bit }

-- the host place, or the exception
abbrev pub place_or_exception : Access → (va htinst : ℕ) → Result Place Fault → Result ℕ Exception
place_or_exception access va htinst (Ok place) = Ok place.hpa
place_or_exception access va htinst (Err fault) = Err (fault_exception access va htinst fault)

unfoldable pub translation_result : Region → Core → Access → (va htinst : ℕ) → Result ℕ Exception
translation_result r core access va htinst =
    place_or_exception access va htinst (two_stages r core.hregs.hgatp (settings_at core) core.hregs.mode va access)

-- an address that is no multiple of the width isn't translated
unfoldable pub aligned_translation : Region → Core → Access → (address width htinst : ℕ) → Result ℕ Exception
aligned_translation r core access address width htinst =
    if address % width == 0 then translation_result r core access address htinst else Err (plain_exception (misaligned_cause access) address)

-- ---- going on

-- the hart goes on after an instruction that is done, with the bytes that it wrote
abbrev pub retire : Core → Option Wrote → Step
retire core wrote = record { core = record core { pc = next_pc core.pc }; outcome = Outcome.Retired wrote }

-- the same with a register set
abbrev pub retire_with : Core → (rd value : ℕ) → Option Wrote → Step
retire_with core rd value wrote = retire (record core { registers = set_register core.registers rd value }) wrote

abbrev pub with_reservation : Core → Option ℕ → Core
with_reservation core reservation = record core { reservation = reservation }

-- a hart's own write too takes the reservation that it touches
abbrev pub behind_write : Core → (hpa width : ℕ) → Core
behind_write core hpa width = with_reservation core (after_write hpa width core.reservation)

abbrev pub write_at : (hpa width : ℕ) → Option Wrote
write_at hpa width = Some (record { hpa = hpa; width = width })

-- ---- requests, by the place that they reached

unfoldable pub after_load : Region → Core → (rd width : ℕ) → (signed : Bool) → Result ℕ Exception → Step
after_load r core rd width signed (Ok hpa) = retire_with core rd (loaded_value signed width (host_word r hpa width)) None
after_load r core rd width signed (Err e) = raise core e

unfoldable pub after_load_reserved : Region → Core → (rd width : ℕ) → Result ℕ Exception → Step
after_load_reserved r core rd width (Ok hpa) =
    retire_with (with_reservation core (Some (reserved_at hpa))) rd (loaded_value true width (host_word r hpa width)) None
after_load_reserved r core rd width (Err e) = raise core e

unfoldable pub after_store : Region → Core → (width value : ℕ) → Result ℕ Exception → Attempted
after_store r core width value (Ok hpa) =
    with_region (write_host r hpa width value) (retire (behind_write core hpa width) (write_at hpa width))
after_store r core width value (Err e) = with_region r (raise core e)

-- the reservation goes in both cases; rd is 0 where the bytes were written, and else 1
unfoldable pub after_store_conditional : Region → Core → (rd width value : ℕ) → Result ℕ Exception → Attempted
after_store_conditional r core rd width value (Ok hpa) =
    if covers core.reservation hpa width
    then with_region (write_host r hpa width value) (retire_with (with_reservation core None) rd 0 (write_at hpa width))
    else with_region r (retire_with (with_reservation core None) rd 1 None)
after_store_conditional r core rd width value (Err e) = with_region r (raise core e)

-- rd takes the word that was read
unfoldable pub after_amo : Region → Core → (rd width : ℕ) → AmoOp → ℕ → Result ℕ Exception → Attempted
after_amo r core rd width op value (Ok hpa) =
    with_region (write_host r hpa width (amo_value op width (host_word r hpa width) value))
    (retire_with (behind_write core hpa width) rd (loaded_value true width (host_word r hpa width)) (write_at hpa width))
after_amo r core rd width op value (Err e) = with_region r (raise core e)
