-- The machine of SecVisor, the hardware and the journal, and what is true of SecVisor and the hardware together. This project's own.
use Rattle.std.specs.Prelude.{◌≡◌, map, length}
use Rattle.sv_types.specs.Policies.{rules_of}
use Rattle.sv_types.specs.Protections.{is_free}
use Rattle.spec_reference.specs.States.{Journal}
use Rattle.spec_hardware.specs.Machine.{Machine}
use Rattle.spec_hardware.specs.StandsFor.{bound_pages}
use Rattle.page_guard.specs.Guarded.{TablesMatchGuard}
use Rattle.monitor_exits.specs.HwOfSlots.{hw_harts_of}
use Rattle.module_gate.specs.Conditions.{AreJoined}
use Rattle.module_gate.specs.Parts.{loading_of}
use Rattle.hw_platform.specs.Hardwares.{IsWhole, attempts_of}
use Rattle.hw_platform.specs.declared.hardware.Hardware.{Hardware}
use Rattle.secvisor_core.specs.declared.visor.Visor.{Visor}

abbrev pub machine_of : Visor → Hardware → Journal → Machine
machine_of v hw journal = record {
  rules = rules_of v.policy;
  region = hw.mem;
  harts = hw_harts_of hw.slots.items;
  protections = v.guard.pages;
  dma = map is_free v.guard.pages;
  loaded = v.modules.gate.loaded;
  loading = loading_of v.modules;
  retired = v.modules.gate.retired;
  devices = hw.devices;
  journal = journal;
  cleared = hw.cleared;
  attempts = attempts_of hw;
}

-- SecVisor's parts go with one another and with the hardware
pub record IsJoined (v : Visor) (hw : Hardware) : Type 0 where
  pub entries : v.policy.entries.items ≡ v.entries.entries
  pub bound : v.policy.bound.items ≡ v.entries.bound
  pub places : v.guard.bound ≡ bound_pages (rules_of v.policy)
  pub tables_match : TablesMatchGuard hw.mem v.guard
  pub pages : length v.guard.pages ≡ v.policy.ram_pages
  pub modules : AreJoined (rules_of v.policy) v.modules
  pub whole : IsWhole hw
