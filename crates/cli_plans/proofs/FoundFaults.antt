-- Where a plan says read fault: only where a read found no file.
use Rattle.std.proofs.Common.{◌≢◌, ℕ, List, [], ◌∷◌, true, false, Option, Some, None, Result, Ok, Err, if◌then◌else◌}
use Rattle.cli_plans.specs.Commands.{ConvertSplit}
use Rattle.std.specs.Str.{bytes_eq}
use Rattle.sv_types.specs.declared.event.Event.{Event}
use Rattle.sv_types.specs.declared.event.Verdict.{Verdict}
use Rattle.sv_types.specs.declared.event.Verdict.TheVariants.{Running, Shutdown, Stopped}
use Rattle.sv_types.specs.declared.status.Status.{Status}
use Rattle.spec_reference.specs.Start.{flat_start, boot_start}
use Rattle.guest_gen.specs.Generated.{generated_image, generated_policy}
use Rattle.sv_types.specs.Measure.{measure}
use Rattle.sv_types.specs.Output.{run_status}
use Rattle.spec_reference.specs.States.{has_number}
use Rattle.sv_types.specs.Kernel.{header_entry, kernel_refusal, kernel_segments}
use Rattle.sv_types.specs.Policies.{Rules}
use Rattle.policy.specs.Refusals.{Judged}
use Rattle.policy.specs.Text.{rules_of_text}
use Rattle.policy_making.specs.Binding.{bound_rules}
use Rattle.policy_making.specs.Faults.{Judged as Bound}
use Rattle.policy_making.specs.declared.bind_fault.BindFault.{BindFault}
use Rattle.policy_making.specs.declared.bind_fault.BindFault.TheVariants as binding
use Rattle.spec_reference.specs.Run.{run}
use Rattle.sv_types.specs.Schedule.{Schedule, first_events}
use Rattle.sv_types.specs.Limits.{max_events}
use Rattle.script.specs.AutoScripts.{events_of_text, first_refused}
use Rattle.policy_making.specs.declared.refusal.MakingFault.{MakingFault}
use Rattle.policy_making.specs.Refusals.{Judged as Judging}
use Rattle.policy_making.specs.Making.{kernel_digest, names_with, policy_after}
use Rattle.cli_plans.specs.declared.file_fault.FileFault.{FileFault}
use Rattle.cli_plans.specs.declared.refusal.Refusal.{Refusal}
use Rattle.cli_plans.specs.declared.file_fault.Part.{Part}
use Rattle.cli_plans.specs.declared.refusal.Refusal.TheVariants.{File, Measure, Entry}
use Rattle.cli_plans.specs.declared.command_words.command.DiskKind.{DiskKind}
use Rattle.cli_plans.specs.CommandLine.{Command, Flat, Generated, Run, RunWords, Source, Rounds, Auto, Bursts, Text, MakePolicy, PolicyWords, Convert, judgement_of_words}
use Rattle.cli_plans.specs.Plans.{Refuse, RunFrom, max_image_bytes, max_object_bytes, making_fault, made_judged, made_part, Kernel}
use Rattle.cli_plans.specs.Plans.{digest_part, Modules, no_modules, with_module, module_part, modules_part, making_plan, measure_plan, Plan}
use Rattle.cli_plans.specs.Plans.{End, status_due, found_plan, flat_plan, asked_plan, command_plan, plan_of, measure_judged, pages_judged}
use Rattle.cli_plans.specs.Plans.{is_whole_pages, flat_events, gen_plan, gen_due, gen_disk, policy_judged, policy_part, part_judged}
use Rattle.cli_plans.specs.Plans.{kernel_part, disk_refusal, disk_part, text_part, script_part, image_measure, boot_judged, boot_plan}
use Rattle.cli_plans.specs.Plans.{image_plan, run_plan, start_with, due_of_measure, binding_refusal, converted_judged, bound_plan}
use Rattle.cli_plans.specs.Plans.{binding_plan, convert_plan}
use Rattle.cli_plans.proofs.WordLemmas.{NoReadFault, words_no_read_fault}
use Rattle.cli_plans.proofs.PlanLemmas.{HasFoundFaults}

pub run_no_read_fault : (v : Verdict) → run_status v ≢ Status.ReadFault
run_no_read_fault Running = λ e. cc e
run_no_read_fault Shutdown = λ e. cc e
run_no_read_fault (Stopped rule hart turn) = λ e. cc e

measure_no_read_fault : (pages wanted : List ℕ) (events : List Event) → status_due (measure_judged pages wanted events) ≢ Status.ReadFault
unfolding measure_judged
measure_no_read_fault pages wanted events =
    elim (bytes_eq (measure pages) wanted) as (λ b. status_due (if b then RunFrom (flat_start pages wanted) events None else Refuse (Measure (measure pages) wanted)) ≢ Status.ReadFault) [
      | true ↦ run_no_read_fault (run (flat_start pages wanted) events).journal.verdict
      | false ↦ λ e. cc e
    ]

pages_no_read_fault : (bytes wanted : List ℕ) (events : List Event) → status_due (pages_judged bytes wanted events) ≢ Status.ReadFault
unfolding pages_judged
pages_no_read_fault bytes wanted events =
    elim (is_whole_pages bytes) as (λ b. status_due (if b then measure_judged bytes wanted events else Refuse (File FileFault.FlatPages)) ≢ Status.ReadFault) [
      | true ↦ measure_no_read_fault bytes wanted events
      | false ↦ λ e. cc e
    ]

flat_found_faults : (file wanted : List ℕ) (events : ℕ) → HasFoundFaults (flat_plan file wanted events)
unfolding flat_plan found_plan
flat_found_faults file wanted events = (λ e. cc e, λ bytes. pages_no_read_fault bytes wanted (flat_events events))

gen_found_faults : (calls : ℕ) → HasFoundFaults (gen_plan calls)
unfolding gen_plan gen_due
gen_found_faults calls =
    run_no_read_fault (run (boot_start (generated_policy calls) (generated_image calls) gen_disk) (first_events max_events (Schedule.Weave 0))).journal.verdict

part_found_faults : {F : Type 0} (file_fault : F → FileFault) (next : Plan) (found : Option F) → HasFoundFaults next → HasFoundFaults (part_judged file_fault next found)
part_found_faults file_fault next None never = never
part_found_faults file_fault next (Some fault) never = λ e. cc e

pub policy_found_faults : (next : Rules → Plan) (judged : Judged Rules) → ((rules : Rules) → HasFoundFaults (next rules)) → HasFoundFaults (policy_judged next judged)
policy_found_faults next (Ok rules) never = never rules
policy_found_faults next (Err refused) never = λ e. cc e

boot_no_read_fault : (kind : DiskKind) (rules : Rules) (file disk : List ℕ) (events : List Event) (save : Option (List ℕ)) →
    status_due (boot_judged kind rules file disk events save) ≢ Status.ReadFault
unfolding boot_judged
boot_no_read_fault kind rules file disk events save =
    elim (bytes_eq (image_measure file) rules.kernel) as (λ b. status_due (if b then
    (if has_number rules.entries (header_entry file) then RunFrom (start_with kind rules file disk) events save else Refuse (Entry (header_entry file)))
    else Refuse (Measure (image_measure file) rules.kernel)) ≢ Status.ReadFault) [
      | true ↦ elim (has_number rules.entries (header_entry file)) as (λ b. status_due (if b then RunFrom (start_with kind rules file disk) events save else
          Refuse (Entry (header_entry file))) ≢ Status.ReadFault) [
            | true ↦ run_no_read_fault (run (start_with kind rules file disk) events).journal.verdict
            | false ↦ λ e. cc e
          ]
      | false ↦ λ e. cc e
    ]

disk_found_faults : (name : Option (List ℕ)) (next : List ℕ → Plan) → ((disk : List ℕ) → HasFoundFaults (next disk)) → HasFoundFaults (disk_part name next)
unfolding disk_part found_plan
disk_found_faults None next never = never []
disk_found_faults (Some name) next never = (λ e. cc e, λ bytes. part_found_faults (λ fault. fault) (next bytes) (disk_refusal bytes) (never bytes))

pub script_found_faults : (harts : ℕ) (source : Source) (next : Schedule → Plan) → ((schedule : Schedule) → HasFoundFaults (next schedule)) → HasFoundFaults (script_part harts source next)
unfolding script_part text_part found_plan
script_found_faults harts Rounds next never = never _
script_found_faults harts (Auto number) next never = never _
script_found_faults harts (Bursts number) next never = never _
script_found_faults harts (Text name) next never =
    (λ e. cc e, λ bytes. part_found_faults FileFault.ScriptLine (next (Schedule.Listed (events_of_text harts bytes))) (first_refused bytes) (never _))

boot_found_faults : (words : RunWords) (rules : Rules) (file : List ℕ) → HasFoundFaults (boot_plan words rules file)
unfolding boot_plan
boot_found_faults words rules file =
    disk_found_faults words.disk _ (λ disk. script_found_faults rules.harts words.script _ (λ schedule. boot_no_read_fault words.kind rules file disk (first_events words.events schedule) words.save))

image_found_faults : (words : RunWords) (rules : Rules) → HasFoundFaults (image_plan words rules)
unfolding image_plan kernel_part found_plan
image_found_faults words rules =
    (λ e. cc e, λ file. part_found_faults FileFault.Image (boot_plan words rules file) (kernel_refusal file rules.ram_pages) (boot_found_faults words rules file))

pub run_found_faults : (words : RunWords) → HasFoundFaults (run_plan words)
unfolding run_plan policy_part found_plan
run_found_faults words = (λ e. cc e, λ bytes. policy_found_faults (image_plan words) (rules_of_text bytes) (image_found_faults words))

making_no_read_fault : (fault : MakingFault) → status_due (Refuse (File (making_fault fault))) ≢ Status.ReadFault
making_no_read_fault fault = λ e. cc e

made_found_faults : {A : Type 0} (next : A → Plan) (made : Judging A) → ((value : A) → HasFoundFaults (next value)) → HasFoundFaults (made_judged next made)
made_found_faults next (Ok value) never = never value
made_found_faults next (Err refused) never = making_no_read_fault refused

made_part_found_faults : {A : Type 0} (part : Part) (name : List ℕ) (limit : ℕ) (judge : List ℕ → Judging A) (next : List ℕ → A → Plan) →
    ((bytes : List ℕ) (value : A) → HasFoundFaults (next bytes value)) → HasFoundFaults (made_part part name limit judge next)
unfolding made_part found_plan
made_part_found_faults part name limit judge next never = (λ e. cc e, λ bytes. made_found_faults (next bytes) (judge bytes) (never bytes))

modules_found_faults : (names : List (List ℕ)) (before : Modules) (next : Modules → Plan) → ((modules : Modules) → HasFoundFaults (next modules)) → HasFoundFaults (modules_part names before next)
unfolding module_part
modules_found_faults [] before next never = never before
modules_found_faults (name ∷ names) before next never =
    made_part_found_faults Part.Module name max_object_bytes (names_with before.names) (λ file wanted. modules_part names (with_module before name file wanted) next)
    (λ file wanted. modules_found_faults names (with_module before name file wanted) next never)

binding_no_read_fault : (fault : BindFault) → status_due (Refuse (binding_refusal fault)) ≢ Status.ReadFault
binding_no_read_fault (binding.Convert fault) = λ e. cc e
binding_no_read_fault (binding.Measure found wanted) = λ e. cc e

converted_no_read_fault : (out : List ℕ) (bound : Bound Rules) → status_due (converted_judged out bound) ≢ Status.ReadFault
converted_no_read_fault out (Ok rules) = λ e. cc e
converted_no_read_fault out (Err fault) = binding_no_read_fault fault

bound_found_faults : (words : ConvertSplit) (rules : Rules) (file : List ℕ) → HasFoundFaults (bound_plan words rules file)
unfolding bound_plan
bound_found_faults words rules file = converted_no_read_fault words.out (bound_rules rules (kernel_segments file))

binding_found_faults : (words : ConvertSplit) (rules : Rules) → HasFoundFaults (binding_plan words rules)
unfolding binding_plan kernel_part found_plan
binding_found_faults words rules =
    (λ e. cc e, λ file. part_found_faults FileFault.Image (bound_plan words rules file) (kernel_refusal file rules.ram_pages) (bound_found_faults words rules file))

convert_found_faults : (words : ConvertSplit) → HasFoundFaults (convert_plan words)
unfolding convert_plan policy_part found_plan
convert_found_faults words = (λ e. cc e, λ bytes. policy_found_faults (binding_plan words) (rules_of_text bytes) (binding_found_faults words))

making_found_faults : (words : PolicyWords) (kernel : Kernel) (modules : Modules) → HasFoundFaults (making_plan words kernel modules)
unfolding making_plan
making_found_faults words kernel modules =
    made_found_faults (λ rules. End (due_of_measure words.out rules)) (policy_after words.terms kernel.file kernel.digest modules.names modules.objects) (λ rules. λ e. cc e)

measure_found_faults : (words : PolicyWords) → HasFoundFaults (measure_plan words)
unfolding measure_plan digest_part
measure_found_faults words =
    made_part_found_faults Part.Image words.kernel max_image_bytes (λ file. kernel_digest file words.terms.ram_pages)
    (λ file digest. modules_part words.modules no_modules (making_plan words (record { file = file; digest = digest })))
    (λ file digest. modules_found_faults words.modules no_modules (making_plan words (record { file = file; digest = digest })) (making_found_faults words (record { file = file; digest = digest })))

command_found_faults : (command : Command) → HasFoundFaults (command_plan command)
unfolding command_plan
command_found_faults (Flat file wanted events) = flat_found_faults file wanted events
command_found_faults (Generated calls) = gen_found_faults calls
command_found_faults (Run words) = run_found_faults words
command_found_faults (MakePolicy words) = measure_found_faults words
command_found_faults (Convert words) = convert_found_faults words

-- words never do
pub asked_found_faults : {A : Type 0} (next : A → Plan) (asked : Result A Refusal) → NoReadFault asked → ((words : A) → HasFoundFaults (next words)) → HasFoundFaults (asked_plan next asked)
asked_found_faults next (Ok words) is never = never words
asked_found_faults next (Err refusal) is never = is

pub judged_found_faults : (words : List (List ℕ)) → HasFoundFaults (plan_of (judgement_of_words words))
judged_found_faults words = asked_found_faults command_plan (judgement_of_words words) (words_no_read_fault words) command_found_faults
