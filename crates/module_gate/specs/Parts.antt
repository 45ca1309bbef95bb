-- A machine, whatever its other parts are, with those put in that answers about modules change, and the facts that decide them.
-- This project's own.
use Rattle.std.specs.Prelude.{ℕ, Bool, not, List, Option, Some, None, map, option_map, is_some}
use Rattle.sv_types.specs.Policies.{Rules}
use Rattle.spec_processor.specs.Regions.{Region}
use Rattle.sv_types.specs.declared.protection.Protection.{Protection}
use Rattle.sv_types.specs.declared.protection.Protection.TheVariants.{Free}
use Rattle.spec_reference.specs.Calls.{Facts}
use Rattle.sv_types.specs.Protections.{is_free}
use Rattle.spec_reference.specs.Protections.{protection_at}
use Rattle.spec_hardware.specs.Machine.{Machine, HwLoad}
use Rattle.page_guard.specs.Guarded.{with_span}
use Rattle.module_gate.specs.Gates.{Records, hw_load, load_span, with_digests}
use Rattle.module_gate.specs.declared.modules.Modules.{Modules}
use Rattle.module_gate.specs.declared.modules.PendingLoad.{PendingLoad}

-- a load under way with the digests that the gate keeps, as the machine records it
abbrev pub load_of : Records → PendingLoad → HwLoad
load_of gate u = hw_load u.hart (with_digests gate.digests u.load)

abbrev pub loading_of : Modules → Option HwLoad
loading_of modules = option_map (load_of modules.gate) modules.loading

abbrev pub with_modules : Machine → Rules → Region → List Protection → Modules → Machine
with_modules m rules region guard modules = record m {
  rules = rules;
  region = region;
  protections = guard;
  dma = map is_free guard;
  loaded = modules.gate.loaded;
  loading = loading_of modules;
  retired = modules.gate.retired;
}

-- what answers depend on; about modules they don't on harts and input
abbrev pub facts_in : (started : List Bool) → (input : List ℕ) → Rules → (ram : List ℕ) → (guard : List Protection) → Modules → Facts
facts_in started input rules ram guard modules = record {
  rules = rules;
  started = started;
  input = input;
  ram = ram;
  protected = λ page. not (is_free (protection_at guard page));
  loads = is_some (loading_of modules);
  loaded = modules.gate.loaded;
  retired = modules.gate.retired;
}

-- the protections with the pages of a load under way, if one is, free again
abbrev pub without_load : List Protection → Option PendingLoad → List Protection
without_load guard None = guard
without_load guard (Some u) = with_span guard (load_span u.load) Free
