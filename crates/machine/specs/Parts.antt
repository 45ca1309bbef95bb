-- The parts of a machine that goes on, and what they are of a snapshot. This project's own.
use Rattle.std.specs.Prelude.{◌≡◌, map, length, option_map}
use Rattle.sv_types.specs.Policies.{Rules}
use Rattle.sv_types.specs.Views.{with_ram}
use Rattle.spec_hardware.specs.StandsFor.{bound_pages}
use Rattle.snapshot_format.specs.Snapshots.{Contents}
use Rattle.page_guard.specs.Guarded.{TablesMatchGuard}
use Rattle.monitor_exits.specs.HwOfSlots.{hw_harts_of}
use Rattle.module_gate.specs.Conditions.{AreJoined}
use Rattle.module_gate.specs.Parts.{loading_of}
use Rattle.snapshot_format.specs.ResumedStates.{resumed_state}
use Rattle.laws_resume.specs.Resuming.{hw_resumed, load_resumed}
use Rattle.machine.specs.declared.resumed.parts.ResumedParts.{ResumedParts}

-- RAM and protections are the snapshot's, and the tables follow these; so are the harts after the tables, the modules with the
-- load whose pages are counted again, devices and records
pub record AreResumed (rules : Rules) (s : Contents) (p : ResumedParts) : Type 0 where
  pub region : p.mem ≡ with_ram p.mem.tables s.ram
  pub protections : p.guard.pages ≡ s.protection
  pub bound : p.guard.bound ≡ bound_pages rules
  pub tables_match : TablesMatchGuard p.mem p.guard
  pub entries : p.entries ≡ record { entries = rules.entries; bound = rules.bound }
  pub harts : hw_harts_of p.slots.items ≡ map (hw_resumed (length p.mem.tables)) s.harts
  pub number : length p.slots.items ≡ rules.harts
  pub pages : length p.guard.pages ≡ rules.ram_pages
  pub loaded : p.modules.gate.loaded ≡ s.modules
  pub retired : p.modules.gate.retired ≡ s.retired
  pub loading : loading_of p.modules ≡ option_map (load_resumed rules s.ram) s.loading
  pub joined : AreJoined rules p.modules
  pub devices : p.devices ≡ (resumed_state rules s).devices
  pub journal : p.journal ≡ (resumed_state rules s).journal
