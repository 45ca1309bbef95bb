-- Each run that a command's plan comes to begins in a measured start.
use Rattle.std.proofs.Common.{◌≡◌, ℕ, ◌≤◌, inl, inr, Bool, true, false, List, [], ◌∷◌, length, refl, arith}
use Rattle.std.specs.Prelude.{Option, Some, None, Result, Ok, Err, if◌then◌else◌}
use Rattle.std.specs.Str.{bytes_eq}
use Rattle.std.proofs.lemmas.Slice.Eq.{bytes_eq-Decides}
use Rattle.sv_types.specs.Boot.{max_flat_bytes}
use Rattle.sv_types.specs.Kernel.{header_entry, kernel_refusal, kernel_segments, text_of}
use Rattle.sv_types.specs.Measure.{measure}
use Rattle.sv_types.specs.Policies.{Rules}
use Rattle.sv_types.specs.Schedule.{first_events}
use Rattle.sv_types.specs.declared.event.Event.{Event}
use Rattle.spec_reference.specs.Start.{flat_start}
use Rattle.spec_reference.specs.States.{State, has_number}
use Rattle.guest_gen.specs.Generated.{generated_image, generated_policy, policy_of_text}
use Rattle.guest_gen.proofs.Boots.{bootable}
use Rattle.cli_plans.specs.Commands.{ConvertSplit}
use Rattle.policy_making.specs.Refusals.{Judged as Judging}
use Rattle.policy_making.specs.Making.{policy_after}
use Rattle.policy_making.specs.Binding.{bound_rules}
use Rattle.policy_making.specs.Faults.{Judged as Bound}
use Rattle.cli_plans.specs.declared.command_words.command.DiskKind.{DiskKind}
use Rattle.cli_plans.specs.CommandLine.{Command, Flat, Generated, Run, RunWords, MakePolicy, PolicyWords, Convert}
use Rattle.cli_plans.specs.Plans.{Refuse, RunFrom, Plan, End, Judge, measure_judged, pages_judged, is_whole_pages, flat_events, flat_plan}
use Rattle.cli_plans.specs.Plans.{gen_disk, gen_due, gen_plan, image_measure, made_judged, made_part, digest_part, Modules, no_modules}
use Rattle.cli_plans.specs.Plans.{with_module, module_part, modules_part, making_plan, measure_plan, converted_judged, bound_plan}
use Rattle.cli_plans.specs.Plans.{binding_plan, convert_plan, start_with, boot_judged, boot_plan, image_plan, run_plan, command_plan}
use Rattle.cli_plans.specs.Plans.{plan_of}
use Rattle.cli_plans.specs.declared.file_fault.FileFault.{FileFault}
use Rattle.cli_plans.specs.declared.file_fault.Part.{Part}
use Rattle.cli_plans.specs.declared.refusal.Refusal.{Refusal}
use Rattle.laws_program.specs.Starts.{IsMeasuredStart, StartsLaw}
use Rattle.laws_program.specs.ProgramLaw.{AsksRun}
use Rattle.host_io.specs.Outside.{FilesState}
use Rattle.cli_plans.specs.Reading.{Follows}
use Rattle.laws_program.proofs.PlanWalks.{DueRuns, Runs, followed, part_runs, policy_runs, image_runs, disk_runs, script_runs}
use Rattle.laws_program.proofs.PolicyWords.{GoodRules, are_words}

-- ---- flat

measured_by : (a b : List ℕ) → bytes_eq a b ≡ true → a ≡ b
measured_by a b e = (bytes_eq-Decides a b).0 e

flat_by : (pages wanted : List ℕ) (events : List Event) (b : Bool) → bytes_eq (measure pages) wanted ≡ b → length pages ≤ max_flat_bytes
    → DueRuns ⊥ IsMeasuredStart (if b then RunFrom (flat_start pages wanted) events None else Refuse (Refusal.Measure (measure pages) wanted))
flat_by pages wanted events true e short =
    inl (record { starts = record { pages = pages; digest = wanted; fits = short; same = refl }; measured = measured_by (measure pages) wanted e })
flat_by pages wanted events false e short = tt

whole_by : (bytes wanted : List ℕ) (events : List Event) (b : Bool) → length bytes ≤ max_flat_bytes
    → DueRuns ⊥ IsMeasuredStart (if b then measure_judged bytes wanted events else Refuse (Refusal.File FileFault.FlatPages))
unfolding measure_judged
whole_by bytes wanted events true short = flat_by bytes wanted events (bytes_eq (measure bytes) wanted) refl short
whole_by bytes wanted events false short = tt

flat_runs : (file wanted : List ℕ) (events : ℕ) → Runs ⊥ IsMeasuredStart (flat_plan file wanted events)
unfolding flat_plan pages_judged
flat_runs file wanted events = part_runs ⊥ IsMeasuredStart Part.Flat file _ _ (λ bytes short. whole_by bytes wanted (flat_events events) (is_whole_pages bytes) short)

-- ---- an image

image_start_is : (kind : DiskKind) (rules : Rules) (file disk : List ℕ) → GoodRules rules → kernel_refusal file rules.ram_pages ≡ None
    → measure (text_of (kernel_segments file)) ≡ rules.kernel → has_number rules.entries (header_entry file) ≡ true → IsMeasuredStart (start_with kind rules file disk)
image_start_is DiskKind.Block rules file disk good accepted measured entry = inr (inl (record {
  starts = record { rules = rules; file = file; disk = disk; bootable = record { within = good.within; words = good.words; accepted = accepted; entry = entry }; same = refl };
  measured = measured;
}))
image_start_is DiskKind.Virtio rules file disk good accepted measured entry = inr (inr (record {
  starts = record { rules = rules; file = file; disk = disk; bootable = record { within = good.within; words = good.words; accepted = accepted; entry = entry }; same = refl };
  measured = measured;
}))

entered_runs : (kind : DiskKind) (rules : Rules) (file disk : List ℕ) (events : List Event) (save : Option (List ℕ)) (b : Bool) → GoodRules rules
    → kernel_refusal file rules.ram_pages ≡ None → measure (text_of (kernel_segments file)) ≡ rules.kernel → has_number rules.entries (header_entry file) ≡ b
    → DueRuns ⊥ IsMeasuredStart (if b then RunFrom (start_with kind rules file disk) events save else Refuse (Refusal.Entry (header_entry file)))
entered_runs kind rules file disk events save true good accepted measured entry = image_start_is kind rules file disk good accepted measured entry
entered_runs kind rules file disk events save false good accepted measured entry = tt

boot_by : (kind : DiskKind) (rules : Rules) (file disk : List ℕ) (events : List Event) (save : Option (List ℕ)) (b : Bool) → GoodRules rules
    → kernel_refusal file rules.ram_pages ≡ None → bytes_eq (image_measure file) rules.kernel ≡ b
    → DueRuns ⊥ IsMeasuredStart (if b then (if has_number rules.entries (header_entry file) then RunFrom (start_with kind rules file disk) events save else Refuse (Refusal.Entry (header_entry file)))
    else Refuse (Refusal.Measure (image_measure file) rules.kernel))
boot_by kind rules file disk events save true good accepted measured =
    entered_runs kind rules file disk events save (has_number rules.entries (header_entry file)) good accepted
    (measured_by (image_measure file) rules.kernel measured) refl
boot_by kind rules file disk events save false good accepted measured = tt

boot_runs : (words : RunWords) (rules : Rules) (file : List ℕ) → GoodRules rules → kernel_refusal file rules.ram_pages ≡ None → Runs ⊥ IsMeasuredStart (boot_plan words rules file)
unfolding boot_plan boot_judged
boot_runs words rules file good accepted =
    disk_runs ⊥ IsMeasuredStart words.disk _ (λ disk. script_runs ⊥ IsMeasuredStart rules.harts words.script _ (λ schedule.
    boot_by words.kind rules file disk (first_events words.events schedule) words.save (bytes_eq (image_measure file) rules.kernel) good accepted refl))

pub run_runs : (words : RunWords) → Runs ⊥ IsMeasuredStart (run_plan words)
unfolding run_plan image_plan
run_runs words = policy_runs ⊥ IsMeasuredStart words.policy _ (λ rules good. image_runs ⊥ IsMeasuredStart rules words.image _ (λ file accepted. boot_runs words rules file good accepted))

-- ---- the generated guest

generated_good : (n : ℕ) → GoodRules (generated_policy n)
unfolding policy_of_text
generated_good n = record { within = refl; words = are_words (generated_policy n).entries (omega arith, (omega arith, tt)) }

gen_runs : (n : ℕ) → Runs ⊥ IsMeasuredStart (gen_plan n)
unfolding gen_plan gen_due policy_of_text
gen_runs n =
    let k = bootable n in
    image_start_is DiskKind.Block (generated_policy n) (generated_image n) gen_disk (generated_good n) k.accepted k.measured k.permitted

-- ---- no runs

made_runs_by : {A : Type 0} (next : A → Plan) (x : Judging A) → ((value : A) → Runs (Unit {0}) IsMeasuredStart (next value)) → Runs (Unit {0}) IsMeasuredStart (made_judged next x)
made_runs_by next (Ok value) k = k value
made_runs_by next (Err fault) k = tt

made_runs : {A : Type 0} (part : Part) (name : List ℕ) (limit : ℕ) (judge : List ℕ → Judging A) (next : List ℕ → A → Plan)
    → ((bytes : List ℕ) (value : A) → Runs (Unit {0}) IsMeasuredStart (next bytes value)) → Runs (Unit {0}) IsMeasuredStart (made_part part name limit judge next)
unfolding made_part
made_runs part name limit judge next k = part_runs (Unit {0}) IsMeasuredStart part name limit _ (λ bytes short. made_runs_by (next bytes) (judge bytes) (k bytes))

modules_run : (names : List (List ℕ)) (before : Modules) (next : Modules → Plan) → ((modules : Modules) → Runs (Unit {0}) IsMeasuredStart (next modules))
    → Runs (Unit {0}) IsMeasuredStart (modules_part names before next)
unfolding module_part
modules_run [] before next k = k before
modules_run (name ∷ names) before next k =
    made_runs Part.Module name _ _ _ (λ file found. modules_run names (with_module before name file found) next k)

measure_runs : (words : PolicyWords) → Runs (Unit {0}) IsMeasuredStart (measure_plan words)
unfolding measure_plan digest_part making_plan
measure_runs words =
    made_runs Part.Image words.kernel _ _ _ (λ file digest. modules_run words.modules no_modules _
    (λ modules. made_runs_by _ (policy_after words.terms file digest modules.names modules.objects) (λ rules. tt)))

converted_runs : (out : List ℕ) (x : Bound Rules) → DueRuns (Unit {0}) IsMeasuredStart (converted_judged out x)
converted_runs out (Ok rules) = tt
converted_runs out (Err fault) = tt

convert_runs : (words : ConvertSplit) → Runs (Unit {0}) IsMeasuredStart (convert_plan words)
unfolding convert_plan binding_plan bound_plan
convert_runs words =
    policy_runs (Unit {0}) IsMeasuredStart words.given _ (λ rules good. image_runs (Unit {0}) IsMeasuredStart rules words.kernel _
    (λ file accepted. converted_runs words.out (bound_rules rules (kernel_segments file))))

-- ---- all commands

measured_plan : (makes : Type 0) (plan : Plan) (old read : FilesState) (start : State) (events : List Event) (save : Option (List ℕ)) → Runs makes IsMeasuredStart plan
    → Follows plan old read (Some (RunFrom start events save)) → IsMeasuredStart start
measured_plan makes plan old read start events save runs f = followed makes IsMeasuredStart plan old read (RunFrom start events save) runs f

pub starts_law : StartsLaw
unfolding command_plan
starts_law (Err refusal) old read start events save f = measured_plan ⊥ (End (Refuse refusal)) old read start events save tt f
starts_law (Ok (Flat file wanted n)) old read start events save f = measured_plan ⊥ (Judge (flat_plan file wanted n)) old read start events save (flat_runs file wanted n) f
starts_law (Ok (Generated calls)) old read start events save f = measured_plan ⊥ (Judge (gen_plan calls)) old read start events save (gen_runs calls) f
starts_law (Ok (Run words)) old read start events save f = measured_plan ⊥ (Judge (run_plan words)) old read start events save (run_runs words) f
starts_law (Ok (MakePolicy words)) old read start events save f = measured_plan (Unit {0}) (Judge (measure_plan words)) old read start events save (measure_runs words) f
starts_law (Ok (Convert words)) old read start events save f = measured_plan (Unit {0}) (Judge (convert_plan words)) old read start events save (convert_runs words) f

-- where a run is asked for, no policy is made
pub asked_runs : (asked : Result Command Refusal) → AsksRun asked → Runs ⊥ IsMeasuredStart (plan_of asked)
unfolding command_plan
asked_runs (Ok (Flat file wanted events)) asks = flat_runs file wanted events
asked_runs (Ok (Generated calls)) asks = gen_runs calls
asked_runs (Ok (Run words)) asks = run_runs words
asked_runs (Ok (MakePolicy words)) asks = absurd asks
asked_runs (Ok (Convert words)) asks = absurd asks
asked_runs (Err refusal) asks = absurd asks
