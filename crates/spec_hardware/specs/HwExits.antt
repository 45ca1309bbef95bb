-- SecVisor's answer to an exit, and the turns of a load under way, as functions of the machine. This project's own.
use Rattle.std.specs.Prelude.{ℕ, zero, suc, ◌-◌, ◌*◌, ◌+◌, ◌/◌, Bool, false, ◌&&◌, List, [], ◌∷◌, ◌++◌, ◌==◌, if◌then◌else◌, Option, Some, None, slice_get}
use Rattle.std.specs.Str.{bytes_eq}
use Rattle.spec_processor.specs.Bytes.{page_size, page_of, page_bytes}
use Rattle.sv_types.specs.Measure.{page_digest, joined_digests}
use Rattle.sv_types.specs.Policies.{Rules, ModuleRule}
use Rattle.spec_processor.specs.Traps.{is_interrupt, guest_number}
use Rattle.sv_types.specs.declared.module.Site.{Site}
use Rattle.spec_processor.specs.declared.exit.Exit.{Exit}
use Rattle.spec_processor.specs.declared.mode.Mode.{Mode}
use Rattle.spec_hardware.specs.HwHarts.{with_hw, hw_outside, hw_seen, hw_trap, hw_return, hw_demote, hw_write_stopped, hw_device_load, hw_device_store}
use Rattle.spec_hardware.specs.Served.{exit_answer}
use Rattle.spec_hardware.specs.declared.exits.ExitAnswer.{ExitAnswer}
use Rattle.spec_hardware.specs.declared.exits.ExitAnswer.TheVariants.{Traps, Returns, Demotes, LeavesEntry, StopsAtWrite, LoadsDevice, StoresDevice, Calls}
use Rattle.spec_reference.specs.Devices.{device_load, device_store}
use Rattle.spec_hardware.specs.HwCalls.{served_call, hw_given}
use Rattle.spec_reference.specs.Loads.{module_bases}
use Rattle.spec_hardware.specs.Machine.{Machine, HwHart, HwLoad}
use Rattle.spec_reference.specs.ModuleCalls.{load_decision}
use Rattle.spec_reference.specs.Relocations.{masked_text, fields_right}

-- ---- exits; `mode` is the one that the hart is in

unfoldable pub hw_exit_answered : Machine → ℕ → HwHart → Mode → ExitAnswer → Machine
hw_exit_answered m h hw mode (Traps cause tval) = hw_trap m h hw mode (is_interrupt cause) (guest_number cause) tval
hw_exit_answered m h hw mode Returns = hw_return m h hw
hw_exit_answered m h hw mode (Demotes gpa) = hw_demote m h hw gpa
hw_exit_answered m h hw mode LeavesEntry = with_hw m h hw_outside
hw_exit_answered m h hw mode (StopsAtWrite gpa) = hw_write_stopped m h hw gpa
hw_exit_answered m h hw mode (LoadsDevice load) =
    hw_device_load m h hw mode load.rd load.address load.width load.signed (device_load m.devices load.gpa load.width)
hw_exit_answered m h hw mode (StoresDevice store) =
    hw_device_store m h hw mode store.address (device_store m.devices m.journal store.gpa store.width store.value)
hw_exit_answered m h hw mode Calls = served_call m h hw

unfoldable pub hw_exit : Machine → ℕ → HwHart → Mode → Exit → Machine
hw_exit m h hw mode exit = hw_exit_answered m h hw mode (exit_answer (hw_seen m.region.ram m.rules hw mode exit) exit)

unfoldable pub served_by : Machine → ℕ → Exit → Option HwHart → Machine
served_by m h exit None = m
served_by m h exit (Some hw) = hw_exit m h hw hw.core.hregs.mode exit

-- what the machine is after SecVisor's answer to an exit of hart h, but for the tables
unfoldable pub served_exit : Machine → ℕ → Exit → Machine
served_exit m h exit = served_by m h exit (slice_get m.harts h)

-- ---- the decision of a load

unfoldable pub hw_is_good : HwLoad → Option ModuleRule → Bool
hw_is_good load None = false
hw_is_good load (Some rule) = bytes_eq (joined_digests load.digests) rule.measure && load.right

unfoldable pub hw_decide : Machine → ℕ → HwLoad → Machine
hw_decide m h load = hw_given m h (load_decision (hw_is_good load (slice_get m.rules.modules load.about.id)) load.about)

-- ---- a page turn

-- the sites of the n-th page, by their place in it
abbrev pub moved_site : ℕ → Site → Site
moved_site n site = record site { offset = site.offset - page_size * n }

abbrev pub is_site_in : ℕ → Site → Bool
is_site_in n site = site.offset / page_size == n

unfoldable pub page_sites : ℕ → List Site → List Site
page_sites n [] = []
page_sites n (site ∷ sites) = if is_site_in n site then moved_site n site ∷ page_sites n sites else page_sites n sites

-- the load with the n-th page counted, whose bytes these are
unfoldable pub page_counted : Rules → ModuleRule → HwLoad → (n : ℕ) → List ℕ → ℕ → HwLoad
page_counted rules rule load n page left = record {
  hart = load.hart;
  about = load.about;
  left = left;
  digests = load.digests ++ page_digest (masked_text page (page_sites n rule.sites)) ∷ [];
  right = load.right && fields_right rules.exports (module_bases load.about) (page_sites n rule.sites) page;
}

unfoldable pub load_counted : Rules → List ℕ → HwLoad → ℕ → Option ModuleRule → HwLoad
load_counted rules ram load left None = record load { left = left }
load_counted rules ram load left (Some rule) =
    page_counted rules rule load (rule.pages - suc left) (page_bytes ram (page_of load.about.gpa + (rule.pages - suc left))) left

unfoldable pub hw_load_step : Machine → ℕ → HwLoad → ℕ → Machine
hw_load_step m h load zero = hw_decide m h load
hw_load_step m h load (suc left) = record m { loading = Some (load_counted m.rules m.region.ram load left (slice_get m.rules.modules load.about.id)) }

-- the next step of the load under way, if one is
unfoldable pub load_served : Machine → ℕ → Option HwLoad → Machine
load_served m h None = m
load_served m h (Some load) = hw_load_step m h load load.left

unfoldable pub served_load_turn : Machine → ℕ → Machine
served_load_turn m h = load_served m h m.loading

-- ---- the tables, which no answer's function says

abbrev pub with_tables : Machine → List ℕ → Machine
with_tables m tables = record m { region = record m.region { tables = tables } }
