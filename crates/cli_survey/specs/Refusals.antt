-- The loads that a survey sees refused, with what was found of their texts at the deciding moment. This project's own.
use Rattle.std.specs.Prelude.{ℕ, ◌+◌, Bool, ◌&&◌, List, [], ◌∷◌, ◌++◌, ◌==◌, if◌then◌else◌, Option, Some, None, slice_get}
use Rattle.sv_types.specs.Policies.{ModuleRule}
use Rattle.sv_types.specs.declared.event.Event.{Event}
use Rattle.sv_types.specs.declared.event.Event.TheVariants.{Turn, Beat, Key, Tick, Poke}
use Rattle.sv_types.specs.declared.event.Verdict.{Verdict}
use Rattle.sv_types.specs.declared.event.Verdict.TheVariants.{Running, Shutdown, Stopped}
use Rattle.sv_types.specs.declared.policy.Export.{Export}
use Rattle.sv_types.specs.declared.saved.ModulePlacement.{ModulePlacement}
use Rattle.spec_reference.specs.Loads.{is_as_measured, is_good_load, module_bases, module_text}
use Rattle.spec_reference.specs.States.{State, Hart, Loading}
use Rattle.laws_simulation.specs.Passing.{survey_step}
use Rattle.page_measure.specs.Wrong.{first_wrong}
use Rattle.page_measure.specs.declared.fields.wrong.WrongField.{WrongField}
use Rattle.report.specs.Findings.{RefusedLoads, no_loads, with_load}
use Rattle.report.specs.declared.findings.loads.RefusedLoad.{RefusedLoad}

-- where the text is the one that the policy measured, its first wrong field
abbrev pub wrong_text : List Export → ModulePlacement → ModuleRule → (text : List ℕ) → Option WrongField
wrong_text exports m rule text = if is_as_measured rule text then first_wrong exports (module_bases m) text rule.sites else None

unfoldable pub wrong_in : List Export → (ram : List ℕ) → ModulePlacement → Option ModuleRule → Option WrongField
wrong_in exports ram m None = None
wrong_in exports ram m (Some rule) = wrong_text exports m rule (module_text ram m rule.pages)

-- what is told of a load that is refused in the next turn
abbrev pub refused_load : State → ℕ → ModulePlacement → RefusedLoad
refused_load r h m = record {
  id = m.id;
  wrong = wrong_in r.rules.exports r.ram m (slice_get r.rules.modules m.id);
  hart = h;
  turn = r.journal.counts.turns + 1;
}

-- a load is decided
unfoldable pub refusal : State → ℕ → ModulePlacement → List RefusedLoad
refusal r h m = if is_good_load r.rules r.ram m (slice_get r.rules.modules m.id) then [] else refused_load r h m ∷ []

-- it is decided in a turn of its hart, where no page is left to count
abbrev pub is_due : ℕ → Hart → Loading → Bool
is_due h hart load = hart.started && load.hart == h && load.left == 0

unfoldable pub refusal_of : State → ℕ → Hart → Option Loading → List RefusedLoad
refusal_of r h hart None = []
refusal_of r h hart (Some load) = if is_due h hart load then refusal r h load.about else []

unfoldable pub refusal_in_turn : State → ℕ → Option Hart → List RefusedLoad
refusal_in_turn r h None = []
refusal_in_turn r h (Some hart) = refusal_of r h hart r.loading

unfoldable pub refusal_in : State → Event → List RefusedLoad
refusal_in r (Turn h) = refusal_in_turn r h (slice_get r.harts h)
refusal_in r Beat = []
refusal_in r (Key byte) = []
refusal_in r (Tick n) = []
refusal_in r (Poke gpa value) = []

-- a machine that has ended decides nothing
unfoldable pub refusals_under : Verdict → State → Event → List RefusedLoad
refusals_under Running r e = refusal_in r e
refusals_under Shutdown r e = []
refusals_under (Stopped rule h turn) r e = []

-- the load that an event refuses, where it refuses one
abbrev pub refusals : State → Event → List RefusedLoad
refusals r e = refusals_under r.journal.verdict r e

-- ---- of a survey

abbrev pub refused : State → List Event → List RefusedLoad
refused r [] = []
refused r (e ∷ events) = refusals r e ++ refused (survey_step r e) events

abbrev pub with_loads : RefusedLoads → List RefusedLoad → RefusedLoads
with_loads l [] = l
with_loads l (load ∷ loads) = with_loads (with_load l load) loads

-- the loads that are refused in a survey of these events
abbrev pub loads_in : State → List Event → RefusedLoads
loads_in start events = with_loads no_loads (refused start events)
