-- Plans whose runs have a property of their start, whatever is found.
use Rattle.std.proofs.Common.{◌≡◌, ℕ, ◌≤◌, inl, inr, List, [], length, refl, sym, subst}
use Rattle.std.specs.Prelude.{Option, Some, None, Ok, Err}
use Rattle.sv_types.specs.Kernel.{kernel_refusal}
use Rattle.sv_types.specs.Policies.{Rules}
use Rattle.sv_types.specs.Schedule.{Schedule}
use Rattle.spec_reference.specs.States.{State}
use Rattle.policy.specs.Refusals.{Judged}
use Rattle.policy.specs.Text.{rules_of_text}
use Rattle.host_io.specs.Outside.{FilesState}
use Rattle.script.specs.AutoScripts.{events_of_text, first_refused}
use Rattle.cli_plans.specs.CommandLine.{Source, Rounds, Auto, Bursts, Text}
use Rattle.cli_plans.specs.Plans.{Due, Refuse, RunFrom, Make, Found, Faulty, Missing, Longer, Held, Plan, End, Read, Judge, found_plan}
use Rattle.cli_plans.specs.Plans.{read_part, policy_judged, policy_part, part_judged, kernel_part, image_part, disk_refusal, disk_part}
use Rattle.cli_plans.specs.Plans.{text_part, script_part}
use Rattle.cli_plans.specs.Reading.{FoundAs, Follows}
use Rattle.cli_plans.specs.declared.file_fault.FileFault.{FileFault}
use Rattle.cli_plans.specs.declared.file_fault.Part.{Part}
use Rattle.laws_program.proofs.PolicyWords.{GoodRules, text_good}

-- ---- plans, whatever is found

-- a run has the property, and where a policy is made `makes` holds
abbrev pub DueRuns : (makes : Type 0) → (State → Type 0) → Due → Type 0
DueRuns makes P (Refuse refusal) = Unit {0}
DueRuns makes P (RunFrom start events save) = P start
DueRuns makes P (Make name rules line) = makes

abbrev IsShort : ℕ → Found → Type 0
IsShort limit Faulty = Unit {0}
IsShort limit Missing = Unit {0}
IsShort limit Longer = Unit {0}
IsShort limit (Held bytes) = length bytes ≤ limit

abbrev pub Runs : (makes : Type 0) → (State → Type 0) → Plan → Type 0
Runs makes P (End due) = DueRuns makes P due
Runs makes P (Read name limit next) = (found : Found) → IsShort limit found → Runs makes P (next found)
Runs makes P (Judge next) = Runs makes P next

found_short : (old new : FilesState) (name : List ℕ) (limit : ℕ) (found : Found) → FoundAs old new name limit found → IsShort limit found
found_short old new name limit Faulty k = tt
found_short old new name limit Missing k = tt
found_short old new name limit Longer k = tt
found_short old new name limit (Held bytes) k = k.0

same_due : (due other : Due) → Some due ≡ Some other → due ≡ other
same_due due other e = cc

pub followed : (makes : Type 0) (P : State → Type 0) (plan : Plan) (old read : FilesState) (due : Due) → Runs makes P plan → Follows plan old read (Some due) → DueRuns makes P due
followed makes P (End other) old read due runs f = subst (DueRuns makes P) (sym (same_due due other f.0)) runs
followed makes P (Read name limit next) old read due runs (inl none) = absurd (cc none.0)
followed makes P (Read name limit next) old read due runs (inr k) =
    followed makes P (next k.0) k.1 read due (runs k.0 (found_short old k.1 name limit k.0 k.2)) k.3
followed makes P (Judge next) old read due runs (inl none) = absurd (cc none.0)
followed makes P (Judge next) old read due runs (inr k) = followed makes P next old read due runs k

-- ---- parts

pub part_runs : (makes : Type 0) (P : State → Type 0) (part : Part) (name : List ℕ) (limit : ℕ) (next : List ℕ → Plan) → ((bytes : List ℕ) → length bytes ≤ limit → Runs makes P (next bytes))
    → Runs makes P (read_part part name limit next)
unfolding found_plan
part_runs makes P part name limit next k Faulty short = tt
part_runs makes P part name limit next k Missing short = tt
part_runs makes P part name limit next k Longer short = tt
part_runs makes P part name limit next k (Held bytes) short = k bytes short

pub judged_runs : (makes : Type 0) (P : State → Type 0) {F : Type 0} (file_fault : F → FileFault) (next : Plan) (x : Option F) → (x ≡ None → Runs makes P next)
    → Runs makes P (part_judged file_fault next x)
judged_runs makes P file_fault next None k = k refl
judged_runs makes P file_fault next (Some fault) k = tt

pub rules_run : (makes : Type 0) (P : State → Type 0) (next : Rules → Plan) (x : Judged Rules) → ((rules : Rules) → x ≡ Ok rules → Runs makes P (next rules)) → Runs makes P (policy_judged next x)
rules_run makes P next (Ok rules) k = k rules refl
rules_run makes P next (Err fault) k = tt

pub policy_runs : (makes : Type 0) (P : State → Type 0) (name : List ℕ) (next : Rules → Plan) → ((rules : Rules) → GoodRules rules → Runs makes P (next rules)) → Runs makes P (policy_part name next)
unfolding policy_part
policy_runs makes P name next k =
    part_runs makes P Part.Policy name _ _ (λ bytes short. rules_run makes P next (rules_of_text bytes) (λ rules is. k rules (text_good bytes rules is)))

pub image_runs : (makes : Type 0) (P : State → Type 0) (rules : Rules) (name : List ℕ) (next : List ℕ → Plan)
    → ((file : List ℕ) → kernel_refusal file rules.ram_pages ≡ None → Runs makes P (next file))
    → Runs makes P (image_part rules name next)
unfolding kernel_part
image_runs makes P rules name next k =
    part_runs makes P Part.Image name _ _ (λ file short. judged_runs makes P FileFault.Image (next file) (kernel_refusal file rules.ram_pages) (k file))

pub disk_runs : (makes : Type 0) (P : State → Type 0) (name : Option (List ℕ)) (next : List ℕ → Plan) → ((disk : List ℕ) → Runs makes P (next disk)) → Runs makes P (disk_part name next)
unfolding disk_part
disk_runs makes P None next k = k []
disk_runs makes P (Some name) next k = part_runs makes P Part.Disk name _ _ (λ bytes short. judged_runs makes P (λ fault. fault) (next bytes) (disk_refusal bytes) (λ none. k bytes))

pub script_runs : (makes : Type 0) (P : State → Type 0) (harts : ℕ) (source : Source) (next : Schedule → Plan) → ((schedule : Schedule) → Runs makes P (next schedule))
    → Runs makes P (script_part harts source next)
unfolding script_part text_part
script_runs makes P harts Rounds next k = k _
script_runs makes P harts (Auto number) next k = k _
script_runs makes P harts (Bursts number) next k = k _
script_runs makes P harts (Text name) next k =
    part_runs makes P Part.Script name _ _ (λ bytes short. judged_runs makes P FileFault.ScriptLine (next (Schedule.Listed (events_of_text harts bytes))) (first_refused bytes) (λ none. k _))
