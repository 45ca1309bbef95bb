-- A module load under way: its page turns and its decision. This project's own; the relocated fields are those of the
-- RISC-V ELF psABI, the measure is FIPS 180-4's SHA-256.
use Rattle.std.specs.Prelude.{ℕ, zero, suc, ◌*◌, Bool, false, ◌&&◌, List, Option, Some, None, slice_get}
use Rattle.std.specs.Str.{bytes_eq}
use Rattle.spec_processor.specs.Bytes.{part, page_size, ram_offset}
use Rattle.sv_types.specs.Measure.{measure}
use Rattle.sv_types.specs.Policies.{Rules, ModuleRule}
use Rattle.sv_types.specs.declared.module.Bases.{Bases}
use Rattle.sv_types.specs.declared.saved.ModulePlacement.{ModulePlacement}
use Rattle.spec_reference.specs.States.{State, Hart, Loading}
use Rattle.spec_reference.specs.Answers.{state_after_answer}
use Rattle.spec_reference.specs.ModuleCalls.{load_decision}
use Rattle.spec_reference.specs.Relocations.{masked_text, fields_right}

-- the module's text, as RAM has it now
abbrev pub module_text : List ℕ → ModulePlacement → ℕ → List ℕ
module_text ram m pages = part ram (ram_offset m.gpa) (page_size * pages)

abbrev pub module_bases : ModulePlacement → Bases
module_bases m = record { va = m.va; data_va = m.data_va }

-- the masked text measures to the policy's digest
unfoldable pub is_as_measured : ModuleRule → List ℕ → Bool
is_as_measured rule text = bytes_eq (measure (masked_text text rule.sites)) rule.measure

-- the text in RAM is as measured, and each field is right for the bases. A module that the policy doesn't have isn't good
unfoldable pub is_good_load : Rules → List ℕ → ModulePlacement → Option ModuleRule → Bool
is_good_load rules ram m None = false
is_good_load rules ram m (Some rule) =
    is_as_measured rule (module_text ram m rule.pages)
    && fields_right rules.exports (module_bases m) rule.sites (module_text ram m rule.pages)

-- the decision, on the bytes of this moment
unfoldable pub decide : State → ℕ → Hart → ModulePlacement → State
decide r h hart m = state_after_answer r h hart (load_decision (is_good_load r.rules r.ram m (slice_get r.rules.modules m.id)) m)

-- the next step: a page turn, or the decision where none is left
unfoldable pub load_step_of : State → ℕ → Hart → Loading → ℕ → State
load_step_of r h hart load zero = decide r h hart load.about
load_step_of r h hart load (suc left) = record r { loading = Some (record load { left = left }) }

abbrev pub load_step : State → ℕ → Hart → Loading → State
load_step r h hart load = load_step_of r h hart load load.left
