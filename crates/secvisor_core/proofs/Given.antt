-- What an answer gives is the machine's, as is what a load under way does.
use Rattle.std.proofs.Common.{◌≡◌, ℕ, List, length, refl, sym, ◌∙◌, ap, subst}
use Rattle.sv_types.specs.Policies.{rules_of}
use Rattle.spec_processor.specs.Regions.{Region}
use Rattle.sv_types.specs.Views.{AreViews}
use Rattle.sv_types.specs.declared.protection.Protection.{Protection}
use Rattle.gstage_tables.specs.Layout.{table_size}
use Rattle.spec_reference.specs.Answers.{devices_side_effect, journal_side_effect}
use Rattle.spec_reference.specs.Protections.{protection_at}
use Rattle.spec_reference.specs.States.{Devices, Journal}
use Rattle.spec_reference.specs.declared.answers.Answer.{Answer}
use Rattle.spec_hardware.specs.HwCalls.{hw_given, hw_pages_side_effect, hw_replied, hw_harts_side_effect}
use Rattle.spec_hardware.specs.HwExits.{served_load_turn, with_tables}
use Rattle.spec_hardware.specs.Machine.{Machine, HwHart, update}
use Rattle.spec_hardware.specs.StandsFor.{bound_pages}
use Rattle.spec_hardware.specs.Steps.{WithTables}
use Rattle.page_guard.specs.Guarded.{Guarded, TablesStayMatched}
use Rattle.monitor_exits.specs.HwOfSlots.{hw_harts_of}
use Rattle.monitor_exits.specs.declared.slots.HartSlot.{HartSlot}
use Rattle.module_gate.specs.Parts.{with_modules}
use Rattle.module_gate.specs.declared.modules.Modules.{Modules}
use Rattle.hw_platform.specs.declared.hardware.Hardware.{Hardware}
use Rattle.secvisor_core.proofs.Served.{stays, views_shown}
use Rattle.secvisor_core.specs.Visors.{IsJoined, machine_of}
use Rattle.secvisor_core.specs.declared.visor.Visor.{Visor}

module _ (v : Visor) (w : Hardware) (j : Journal) where
  abbrev whole : Machine
  whole = machine_of v w j

  -- the machine that an answer leaves
  abbrev pub left : List HartSlot → Devices → Journal → Region → List Protection → Modules → Machine
  left slots devices journal mem guard modules = record (with_modules whole (rules_of v.policy) mem guard modules) {
    harts = hw_harts_of slots;
    devices = devices;
    journal = journal;
  }

  pub gives : (h : ℕ) (a : Answer) (slots : List HartSlot) (devices : Devices) (journal : Journal) (mem : Region) (guard : Guarded) (modules : Modules)
      → hw_harts_of slots ≡ hw_harts_side_effect a.side_effect (update (hw_harts_of w.slots.items) h (hw_replied a.reply))
      → devices ≡ devices_side_effect a.side_effect h w.devices → journal ≡ journal_side_effect a.side_effect h j
      → with_modules whole (rules_of v.policy) mem guard.pages modules ≡ with_tables (hw_pages_side_effect a.side_effect h whole) mem.tables
      → IsJoined v w → TablesStayMatched w.mem mem v.guard guard → WithTables whole (hw_given whole h a) (left slots devices journal mem guard.pages modules)
  unfolding hw_given
  gives h a slots devices journal mem guard modules harts device noted made joined after =
      let next : Machine = left slots devices journal mem guard.pages modules in
      let same : next ≡ with_tables (hw_given whole h a) mem.tables =
      ap (λ (m : Machine). record m { harts = hw_harts_of slots; devices = devices; journal = journal }) made
      ∙ ap (λ (x : List HwHart). with_tables (record (hw_pages_side_effect a.side_effect h whole) { harts = x; devices = devices; journal = journal }) mem.tables) harts
      ∙ ap (λ (x : Devices). with_tables
      (record (hw_pages_side_effect a.side_effect h whole) {
        harts = hw_harts_side_effect a.side_effect (update (hw_harts_of w.slots.items) h (hw_replied a.reply));
        devices = x;
        journal = journal;
      }) mem.tables) device
      ∙ ap (λ (x : Journal). with_tables
      (record (hw_pages_side_effect a.side_effect h whole) {
        harts = hw_harts_side_effect a.side_effect (update (hw_harts_of w.slots.items) h (hw_replied a.reply));
        devices = devices_side_effect a.side_effect h w.devices;
        journal = x;
      }) mem.tables) noted in
      record {
        tables = mem.tables;
        are = record {
          size = after.tables_match.trees.size ∙ ap (λ (pages : ℕ). table_size pages (length guard.bound)) after.size
              ∙ ap (λ (bound : List ℕ). table_size (length v.guard.pages) (length bound)) after.bound ∙ sym joined.tables_match.trees.size;
          views = subst (λ (g : List Protection). AreViews mem.tables whole.rules.ram_pages (bound_pages whole.rules) (protection_at g)) (ap (λ (m : Machine). m.protections) same)
              (views_shown whole.rules mem guard after.tables_match (after.size ∙ joined.pages) (after.bound ∙ joined.places));
        };
        same = same;
      }

  -- a load that counts a page leaves the tables as they are
  pub counts : (f : Machine → Machine) (modules : Modules) → with_modules whole (rules_of v.policy) w.mem v.guard.pages modules ≡ f whole → IsJoined v w
      → WithTables whole (f whole) (with_modules whole (rules_of v.policy) w.mem v.guard.pages modules)
  counts f modules made joined =
      stays whole (f whole) (with_modules whole (rules_of v.policy) w.mem v.guard.pages modules) (record { region = refl; protections = refl }) made
      (views_shown (rules_of v.policy) w.mem v.guard joined.tables_match joined.pages joined.places)

  -- a load that is decided
  pub decides : (h : ℕ) (answer : Answer) (modules : Modules) (after : Machine) → modules ≡ v.modules → served_load_turn whole h ≡ hw_given whole h answer
      → WithTables (machine_of (record v { modules = modules }) w j) (hw_given (machine_of (record v { modules = modules }) w j) h answer) after
      → WithTables whole (served_load_turn whole h) after
  decides h answer modules after kept decided given =
      subst (λ (served : Machine). WithTables whole served after) (sym decided)
      (subst (λ (x : Modules). WithTables (machine_of (record v { modules = x }) w j) (hw_given (machine_of (record v { modules = x }) w j) h answer) after) kept given)
