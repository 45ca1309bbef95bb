-- The stages of a run's plan, and its boot.
use Rattle.std.proofs.Common.{◌≡◌, ◌≢◌, ◌%◌, ◌==◌, ℕ, List, [], ◌∷◌, length, Bool, IsTrue, true, false, refl, sym, ◌∙◌, ap, subst, inr, Option, Some, None, Result, Ok, Err, if◌then◌else◌}
use Rattle.std.specs.Str.{bytes_eq}
use Rattle.sv_types.specs.declared.event.Event.{Event}
use Rattle.sv_types.specs.declared.policy.Policy.{Policy}
use Rattle.sv_types.specs.Kernel.{LoadedSegment, header_entry, kernel_refusal, text_of}
use Rattle.sv_types.specs.Measure.{measure}
use Rattle.sv_types.specs.Policies.{Rules, rules_of}
use Rattle.sv_types.specs.Schedule.{Schedule, first_events}
use Rattle.script.specs.AutoScripts.{events_of_text, first_refused}
use Rattle.policy.specs.Refusals.{Judged}
use Rattle.policy.specs.Text.{rules_of_text}
use Rattle.elf64_load.specs.Images.{segments_of}
use Rattle.elf64_load.specs.declared.image.KernelImage.{KernelImage}
use Rattle.cli_plans.specs.declared.command_words.command.DiskKind.{DiskKind}
use Rattle.spec_reference.specs.States.{has_number}
use Rattle.machine.specs.declared.boot.BootRefusal.{BootRefusal}
use Rattle.machine.specs.Boot.{IsImageOf, RefusesImage}
use Rattle.host_io.specs.Outside.{FilesState}
use Rattle.sv_types.specs.declared.image_fault.ImageFault.{ImageFault}
use Rattle.sv_types.specs.Limits.{max_disk_bytes}
use Rattle.cli_plans.specs.declared.file_fault.Part.{Part}
use Rattle.cli_plans.specs.declared.file_fault.FileFault.{FileFault}
use Rattle.cli_plans.specs.declared.refusal.Refusal.{Refusal}
use Rattle.cli_plans.specs.declared.asking.Unread.{Unread}
use Rattle.cli_plans.specs.declared.asking.Unread.TheVariants as unread
use Rattle.cli_plans.specs.Words.{IsAsked}
use Rattle.cli_plans.specs.declared.refusal.Refusal.TheVariants.{File, Measure, Entry}
use Rattle.secvisor_cli.specs.declared.ready.Ready.{Ready}
use Rattle.secvisor_cli.specs.declared.ready.Stop.{Stop}
use Rattle.secvisor_cli.specs.declared.ready.Stop.TheVariants.{Refused, Memory}
use Rattle.cli_plans.specs.CommandLine.{RunWords, Rounds, Auto, Bursts, Text}
use Rattle.cli_plans.specs.Plans.{Due, Refuse, RunFrom, Plan, End, Judge, Held, found_plan, read_part, max_policy_bytes, max_script_bytes}
use Rattle.cli_plans.specs.Plans.{policy_judged, policy_part, part_judged, kernel_part, disk_refusal, disk_part, text_part, script_part}
use Rattle.cli_plans.specs.Plans.{image_measure, boot_judged, boot_plan, asked_plan, start_with}
use Rattle.cli_plans.specs.Reading.{FoundAs, Follows, MayFollow}
use Rattle.cli_plans.proofs.PlanLemmas.{asked_goes, asked_refuses, asked_wants}
use Rattle.secvisor_cli.specs.Ready.{PartRead, stop_of, stop_of_unread, IsReady, Prepares, Passes, Staged, MayStage, IsPolicy, IsKernel, IsScript}
use Rattle.secvisor_cli.proofs.ReadyLemmas.{end_ready, judge_ready, judge_wants, judge_end, read_ready, stopped_ready, bytes_eq-same, bytes_eq-other}

-- ---- any stage

-- what is ready after a stage that passes
pub pass_ready : {A : Type 0} (stage : (A → Plan) → Plan) (value : A) (next : A → Plan) (old now new : FilesState) (result : Result Ready Stop) →
    Passes stage value old now → Prepares (next value) now new result → Prepares (stage next) old new result
pass_ready stage value next old now new result pass p = record { reached = p.reached; follows = pass.follows next new p.reached p.follows; ready = p.ready }

-- ---- the words

-- words that aren't read
pub words_unread : {A T : Type 0} (next : A → Plan) (value : T → A) (asked : Result A Refusal) (why : Unread) (files : FilesState) → IsAsked value asked (Err why) →
    Prepares (asked_plan next asked) files files (Err (stop_of_unread why))
words_unread next value asked (unread.Refused refusal) files is = record { reached = Some (Refuse refusal); follows = asked_refuses next asked refusal files is; ready = refl }
words_unread next value asked unread.Memory files good = record { reached = None; follows = asked_wants next asked files good; ready = refl }

pub words_ready : {A : Type 0} (next : A → Plan) (asked : Result A Refusal) (words : A) (old new : FilesState) (result : Result Ready Stop) → asked ≡ Ok words →
    Prepares (next words) old new result → Prepares (asked_plan next asked) old new result
words_ready next asked words old new result is p = record { reached = p.reached; follows = asked_goes next asked words old new p.reached is p.follows; ready = p.ready }

-- ---- a part

-- a part that was read
pub read_follows : (part : Part) (name : List ℕ) (limit : ℕ) (next : List ℕ → Plan) (old now last : FilesState) (bytes : List ℕ) (reached : Option Due) →
    FoundAs old now name limit (Held bytes) → Follows (next bytes) now last reached → Follows (read_part part name limit next) old last reached
unfolding found_plan
read_follows part name limit next old now last bytes reached fact follows = inr (Held bytes, now, fact, follows)

pub read_may : (part : Part) (name : List ℕ) (limit : ℕ) (next : List ℕ → Plan) (old now : FilesState) (bytes : List ℕ) →
    FoundAs old now name limit (Held bytes) → MayFollow (read_part part name limit next) old → MayFollow (next bytes) now
unfolding found_plan
read_may part name limit next old now bytes fact may = subst (λ (f : FilesState). MayFollow (next bytes) f) (sym fact.2) (may.1 (Held bytes))

pub read_faults : (name : List ℕ) (limit : ℕ) (old now : FilesState) (bytes : List ℕ) → FoundAs old now name limit (Held bytes) → now.read_faults ≡ old.read_faults
read_faults name limit old now bytes fact = ap (λ (f : FilesState). f.read_faults) fact.2

-- ---- the policy

pub policy_staged : (name bytes : List ℕ) (old new : FilesState) (result : Result Policy Stop) → FoundAs old new name max_policy_bytes (Held bytes) →
    IsPolicy (rules_of_text bytes) result → Staged (policy_part name) rules_of old new result
unfolding policy_part
policy_staged name bytes old new (Ok policy) fact is = record {
  follows = λ next last reached follows.
      read_follows Part.Policy name max_policy_bytes (λ b. Judge (policy_judged next (rules_of_text b))) old new last bytes reached fact
      (inr (subst (λ (j : Judged Rules). Follows (policy_judged next j) new last reached) (sym is) follows));
  may = λ next may.
      subst (λ (j : Judged Rules). MayFollow (policy_judged next j) new) is
      (read_may Part.Policy name max_policy_bytes (λ b. Judge (policy_judged next (rules_of_text b))) old new bytes fact may);
  faults = read_faults name max_policy_bytes old new bytes fact;
}
policy_staged name bytes old new (Err (Refused refusal)) fact is = λ next.
    read_ready Part.Policy name max_policy_bytes (λ b. Judge (policy_judged next (rules_of_text b))) old new new bytes _ fact
    (judge_ready _ new new _ (subst (λ (j : Judged Rules). Prepares (policy_judged next j) new new (Err (Refused refusal))) (sym is.1)
    (end_ready (Refuse (File (FileFault.Policy is.0))) new _ is.2)))
policy_staged name bytes old new (Err Memory) fact is = λ next.
    read_ready Part.Policy name max_policy_bytes (λ b. Judge (policy_judged next (rules_of_text b))) old new new bytes _ fact (judge_wants _ new)

pub policy_unread : (name : List ℕ) (old new : FilesState) (stop : Stop) → PartRead Part.Policy name max_policy_bytes old new (Err stop) →
    Staged {T = Policy} (policy_part name) rules_of old new (Err stop)
unfolding policy_part
policy_unread name old new stop it = λ next. stopped_ready _ _ _ _ old new stop it

-- ---- the image

pub kernel_ready : (rules : Rules) (file : List ℕ) (next : Plan) (old new : FilesState) (result : Result Ready Stop) → kernel_refusal file rules.ram_pages ≡ None →
    Prepares next old new result → Prepares (kernel_part rules file next) old new result
unfolding kernel_part
kernel_ready rules file next old new result accepted p =
    judge_ready _ old new result (subst (λ (r : Option ImageFault). Prepares (part_judged FileFault.Image next r) old new result) (sym accepted) p)

pub kernel_may : (rules : Rules) (file : List ℕ) (next : Plan) (files : FilesState) → kernel_refusal file rules.ram_pages ≡ None → MayFollow (kernel_part rules file next) files →
    MayFollow next files
unfolding kernel_part
kernel_may rules file next files accepted may = subst (λ (r : Option ImageFault). MayFollow (part_judged FileFault.Image next r) files) accepted may

pub kernel_stopped : (rules : Rules) (file : List ℕ) (next : Plan) (files : FilesState) (stop : Stop) → IsKernel file rules.ram_pages (Err stop) →
    Prepares (kernel_part rules file next) files files (Err stop)
unfolding kernel_part
kernel_stopped rules file next files (Refused refusal) it =
    judge_ready _ files files _ (subst (λ (r : Option ImageFault). Prepares (part_judged FileFault.Image next r) files files (Err (Refused refusal))) (sym it.1)
    (end_ready (Refuse (File (FileFault.Image it.0))) files _ it.2))
kernel_stopped rules file next files Memory it = judge_wants _ files

-- ---- the disk

pub no_disk : (disk : List ℕ) (files : FilesState) → disk ≡ [] → Passes (disk_part None) disk files files
unfolding disk_part
no_disk disk files is = record {
  follows = λ next last reached follows. subst (λ (d : List ℕ). Follows (next d) files last reached) is follows;
  may = λ next may. subst (λ (d : List ℕ). MayFollow (next d) files) (sym is) may;
  faults = refl;
}

whole_sectors : (disk : List ℕ) → (length disk % 512 == 0) ≡ true → disk_refusal disk ≡ None
whole_sectors disk whole = ap (λ (b : Bool). if b then None else Some FileFault.DiskSectors) whole

part_sectors : (disk : List ℕ) → (length disk % 512 == 0) ≡ false → disk_refusal disk ≡ Some FileFault.DiskSectors
part_sectors disk part = ap (λ (b : Bool). if b then None else Some FileFault.DiskSectors) part

pub disk_read : (name disk : List ℕ) (old new : FilesState) → FoundAs old new name max_disk_bytes (Held disk) → (length disk % 512 == 0) ≡ true → Passes (disk_part (Some name)) disk old new
unfolding disk_part
disk_read name disk old new fact whole = record {
  follows = λ next last reached follows.
      read_follows Part.Disk name max_disk_bytes (λ b. part_judged (λ fault. fault) (next b) (disk_refusal b)) old new last disk reached fact
      (subst (λ (r : Option FileFault). Follows (part_judged (λ fault. fault) (next disk) r) new last reached) (sym (whole_sectors disk whole)) follows);
  may = λ next may.
      subst (λ (r : Option FileFault). MayFollow (part_judged (λ fault. fault) (next disk) r) new) (whole_sectors disk whole)
      (read_may Part.Disk name max_disk_bytes (λ b. part_judged (λ fault. fault) (next b) (disk_refusal b)) old new disk fact may);
  faults = read_faults name max_disk_bytes old new disk fact;
}

pub disk_refused : (name disk : List ℕ) (old new : FilesState) → FoundAs old new name max_disk_bytes (Held disk) → (length disk % 512 == 0) ≡ false →
    (next : List ℕ → Plan) → Prepares (disk_part (Some name) next) old new (Err (Refused (File FileFault.DiskSectors)))
unfolding disk_part
disk_refused name disk old new fact part = λ next.
    read_ready Part.Disk name max_disk_bytes (λ b. part_judged (λ fault. fault) (next b) (disk_refusal b)) old new new disk _ fact
    (subst (λ (r : Option FileFault). Prepares (part_judged (λ fault. fault) (next disk) r) new new (Err (Refused (File FileFault.DiskSectors)))) (sym (part_sectors disk part))
    (end_ready (Refuse (File FileFault.DiskSectors)) new _ refl))

pub disk_unread : (name : List ℕ) (old new : FilesState) (stop : Stop) → PartRead Part.Disk name max_disk_bytes old new (Err stop) →
    (next : List ℕ → Plan) → Prepares (disk_part (Some name) next) old new (Err stop)
unfolding disk_part
disk_unread name old new stop it = λ next. stopped_ready _ _ _ _ old new stop it

pub disk_asked : (name : List ℕ) (next : List ℕ → Plan) (files : FilesState) → MayFollow (disk_part (Some name) next) files → IsTrue (files.permits ((name, max_disk_bytes) ∷ []))
unfolding disk_part
disk_asked name next files may = may.0

-- ---- the script

pub rounds_pass : (harts : ℕ) (script : Schedule) (files : FilesState) → script ≡ Schedule.Rounds harts 0 → Passes (script_part harts Rounds) script files files
unfolding script_part
rounds_pass harts script files is = record {
  follows = λ next last reached follows. subst (λ (s : Schedule). Follows (next s) files last reached) is follows;
  may = λ next may. subst (λ (s : Schedule). MayFollow (next s) files) (sym is) may;
  faults = refl;
}

pub auto_pass : (harts number : ℕ) (script : Schedule) (files : FilesState) → script ≡ Schedule.Auto harts number → Passes (script_part harts (Auto number)) script files files
unfolding script_part
auto_pass harts number script files is = record {
  follows = λ next last reached follows. subst (λ (s : Schedule). Follows (next s) files last reached) is follows;
  may = λ next may. subst (λ (s : Schedule). MayFollow (next s) files) (sym is) may;
  faults = refl;
}

pub bursts_pass : (harts number : ℕ) (script : Schedule) (files : FilesState) → script ≡ Schedule.Bursts harts 0 0 number → Passes (script_part harts (Bursts number)) script files files
unfolding script_part
bursts_pass harts number script files is = record {
  follows = λ next last reached follows. subst (λ (s : Schedule). Follows (next s) files last reached) is follows;
  may = λ next may. subst (λ (s : Schedule). MayFollow (next s) files) (sym is) may;
  faults = refl;
}

-- the plan after a script's text
abbrev text_next : (harts : ℕ) → (Schedule → Plan) → List ℕ → Plan
text_next harts next bytes = Judge (part_judged FileFault.ScriptLine (next (Schedule.Listed (events_of_text harts bytes))) (first_refused bytes))

pub text_staged : (harts : ℕ) (name bytes : List ℕ) (old new : FilesState) (result : Result Schedule Stop) → FoundAs old new name max_script_bytes (Held bytes) → IsScript harts bytes result →
    Staged (text_part harts name) (λ (s : Schedule). s) old new result
unfolding text_part
text_staged harts name bytes old new (Ok script) fact is = record {
  follows = λ next last reached follows.
      read_follows Part.Script name max_script_bytes (text_next harts next) old new last bytes reached fact
      (inr (subst (λ (r : Option ℕ). Follows (part_judged FileFault.ScriptLine (next (Schedule.Listed (events_of_text harts bytes))) r) new last reached) (sym is.1)
      (subst (λ (s : Schedule). Follows (next s) new last reached) is.0 follows)));
  may = λ next may.
      subst (λ (s : Schedule). MayFollow (next s) new) (sym is.0)
      (subst (λ (r : Option ℕ). MayFollow (part_judged FileFault.ScriptLine (next (Schedule.Listed (events_of_text harts bytes))) r) new) is.1
      (read_may Part.Script name max_script_bytes (text_next harts next) old new bytes fact may));
  faults = read_faults name max_script_bytes old new bytes fact;
}
text_staged harts name bytes old new (Err (Refused refusal)) fact is = λ next.
    read_ready Part.Script name max_script_bytes (text_next harts next) old new new bytes _ fact
    (judge_ready _ new new _ (subst (λ (r : Option ℕ). Prepares (part_judged FileFault.ScriptLine (next (Schedule.Listed (events_of_text harts bytes))) r) new new (Err (Refused refusal))) (sym is.1)
    (end_ready (Refuse (File (FileFault.ScriptLine is.0))) new _ is.2)))
text_staged harts name bytes old new (Err Memory) fact is = λ next.
    read_ready Part.Script name max_script_bytes (text_next harts next) old new new bytes _ fact (judge_wants _ new)

pub text_unread : (harts : ℕ) (name : List ℕ) (old new : FilesState) (stop : Stop) → PartRead Part.Script name max_script_bytes old new (Err stop) →
    (next : Schedule → Plan) → Prepares (text_part harts name next) old new (Err stop)
unfolding text_part
text_unread harts name old new stop it = λ next. stopped_ready _ _ _ _ old new stop it

-- a text that is named by the words
pub text_source : (harts : ℕ) (name : List ℕ) (old new : FilesState) (result : Result Schedule Stop) → Staged (text_part harts name) (λ (s : Schedule). s) old new result →
    Staged (script_part harts (Text name)) (λ (s : Schedule). s) old new result
unfolding script_part
text_source harts name old new (Ok script) it = record { follows = it.follows; may = it.may; faults = it.faults }
text_source harts name old new (Err stop) it = it

pub text_may : (harts : ℕ) (name : List ℕ) (files : FilesState) → MayStage (script_part harts (Text name)) files → MayStage (text_part harts name) files
unfolding script_part
text_may harts name files it = record { next = it.next; may = it.may }

-- ---- the boot

-- the measure of the image's text
image_measured : (file : List ℕ) (ram_pages : ℕ) (image : KernelImage) (digest : List ℕ) → IsImageOf file ram_pages image → digest ≡ measure (text_of (segments_of image)) →
    digest ≡ image_measure file
image_measured file ram_pages image digest of is = is ∙ ap (λ (ss : List LoadedSegment). measure (text_of ss)) of.segments

abbrev entry_due : DiskKind → Rules → (file disk : List ℕ) → List Event → Option (List ℕ) → Bool → Due
entry_due kind rules file disk events save permitted = if permitted then RunFrom (start_with kind rules file disk) events save else Refuse (Entry (header_entry file))

abbrev measure_due : DiskKind → Rules → (file disk : List ℕ) → List Event → Option (List ℕ) → Bool → Due
measure_due kind rules file disk events save measured =
    if measured then entry_due kind rules file disk events save (has_number rules.entries (header_entry file)) else Refuse (Measure (image_measure file) rules.kernel)

is_measured : (rules : Rules) (file : List ℕ) (digest : List ℕ) → digest ≡ image_measure file → digest ≡ rules.kernel → bytes_eq (image_measure file) rules.kernel ≡ true
is_measured rules file digest found wanted = ap (λ (w : List ℕ). bytes_eq (image_measure file) w) (sym wanted ∙ found) ∙ bytes_eq-same (image_measure file)

pub image_booted : (kind : DiskKind) (rules : Rules) (file disk : List ℕ) (events : List Event) (save : Option (List ℕ)) (image : KernelImage) (result : Result Ready Stop) →
    IsImageOf file rules.ram_pages image →
    measure (text_of (segments_of image)) ≡ rules.kernel → has_number rules.entries image.entry ≡ true → IsReady (RunFrom (start_with kind rules file disk) events save) result →
    IsReady (boot_judged kind rules file disk events save) result
unfolding boot_judged
image_booted kind rules file disk events save image result of measured permitted ready =
    subst (λ (b : Bool). IsReady (measure_due kind rules file disk events save b) result) (sym (is_measured rules file _ (image_measured file rules.ram_pages image _ of refl) measured))
    (subst (λ (b : Bool). IsReady (entry_due kind rules file disk events save b) result) (sym permitted ∙ ap (λ (e : ℕ). has_number rules.entries e) of.entry) ready)

boot_wants : (kind : DiskKind) (rules : Rules) (file disk : List ℕ) (events : List Event) (save : Option (List ℕ)) → IsReady (boot_judged kind rules file disk events save) (Err Memory)
unfolding boot_judged
boot_wants kind rules file disk events save =
    elim (bytes_eq (image_measure file) rules.kernel) as (λ b. IsReady (measure_due kind rules file disk events save b) (Err Memory)) [
      | true ↦ elim (has_number rules.entries (header_entry file)) as (λ b. IsReady (entry_due kind rules file disk events save b) (Err Memory)) [
        | true ↦ tt
        | false ↦ tt
      ]
      | false ↦ tt
    ]

pub boot_stopped : (kind : DiskKind) (rules : Rules) (file disk : List ℕ) (events : List Event) (save : Option (List ℕ)) (image : KernelImage) (boot : BootRefusal) →
    IsImageOf file rules.ram_pages image →
    RefusesImage image rules boot → IsReady (boot_judged kind rules file disk events save) (Err (stop_of boot))
unfolding boot_judged
boot_stopped kind rules file disk events save image (BootRefusal.Measure found asked) of it =
    let is : found ≡ image_measure file = image_measured file rules.ram_pages image found of it.0 in
    let other : image_measure file ≢ rules.kernel = λ same. it.2 (is ∙ same) in
    subst (λ (b : Bool). IsReady (measure_due kind rules file disk events save b) (Err (Refused (Measure found asked)))) (sym (bytes_eq-other (image_measure file) rules.kernel other))
    (ap (λ (f : List ℕ). Measure f asked) is ∙ ap (λ (w : List ℕ). Measure (image_measure file) w) it.1)
boot_stopped kind rules file disk events save image (BootRefusal.Entry entry) of it =
    let is : entry ≡ header_entry file = it.0 ∙ of.entry in
    subst (λ (b : Bool). IsReady (measure_due kind rules file disk events save b) (Err (Refused (Entry entry))))
    (sym (is_measured rules file _ (image_measured file rules.ram_pages image _ of refl) it.1.1))
    (subst (λ (b : Bool). IsReady (entry_due kind rules file disk events save b) (Err (Refused (Entry entry)))) (sym it.1.0 ∙ ap (λ (e : ℕ). has_number rules.entries e) is)
    (ap (λ (e : ℕ). Entry e) is))
boot_stopped kind rules file disk events save image BootRefusal.Memory of it = boot_wants kind rules file disk events save

-- ---- what stands after the image

abbrev after_script : RunWords → Rules → (file disk : List ℕ) → Schedule → Plan
after_script words rules file disk schedule = Judge (End (boot_judged words.kind rules file disk (first_events words.events schedule) words.save))

abbrev after_disk : RunWords → Rules → (file disk : List ℕ) → Plan
after_disk words rules file disk = script_part rules.harts words.script (after_script words rules file disk)

pub disk_may : (words : RunWords) (rules : Rules) (file : List ℕ) (files : FilesState) → kernel_refusal file rules.ram_pages ≡ None →
    MayFollow (kernel_part rules file (boot_plan words rules file)) files → MayStage (disk_part words.disk) files
unfolding boot_plan
disk_may words rules file files accepted may = record { next = after_disk words rules file; may = kernel_may rules file (boot_plan words rules file) files accepted may }

pub script_may : (words : RunWords) (rules : Rules) (file disk : List ℕ) (old now : FilesState) → kernel_refusal file rules.ram_pages ≡ None → Passes (disk_part words.disk) disk old now →
    MayFollow (kernel_part rules file (boot_plan words rules file)) old → MayStage (script_part rules.harts words.script) now
unfolding boot_plan
script_may words rules file disk old now accepted pass may = record {
  next = after_script words rules file disk;
  may = pass.may (after_disk words rules file) (kernel_may rules file (boot_plan words rules file) old accepted may);
}

pub disk_stopped : (words : RunWords) (rules : Rules) (file : List ℕ) (old new : FilesState) (stop : Stop) → kernel_refusal file rules.ram_pages ≡ None →
    ((next : List ℕ → Plan) → Prepares (disk_part words.disk next) old new (Err stop)) → Prepares (kernel_part rules file (boot_plan words rules file)) old new (Err stop)
unfolding boot_plan
disk_stopped words rules file old new stop accepted it = kernel_ready rules file (boot_plan words rules file) old new (Err stop) accepted (it (after_disk words rules file))

disk_ready : (words : RunWords) (rules : Rules) (file disk : List ℕ) (old now new : FilesState) (result : Result Ready Stop) → kernel_refusal file rules.ram_pages ≡ None →
    Passes (disk_part words.disk) disk old now → Prepares (after_disk words rules file disk) now new result → Prepares (kernel_part rules file (boot_plan words rules file)) old new result
unfolding boot_plan
disk_ready words rules file disk old now new result accepted pass p =
    kernel_ready rules file (boot_plan words rules file) old new result accepted (pass_ready (disk_part words.disk) disk (after_disk words rules file) old now new result pass p)

pub script_stopped : (words : RunWords) (rules : Rules) (file disk : List ℕ) (old now new : FilesState) (stop : Stop) → kernel_refusal file rules.ram_pages ≡ None →
    Passes (disk_part words.disk) disk old now → ((next : Schedule → Plan) → Prepares (script_part rules.harts words.script next) now new (Err stop)) →
    Prepares (kernel_part rules file (boot_plan words rules file)) old new (Err stop)
script_stopped words rules file disk old now new stop accepted pass it =
    disk_ready words rules file disk old now new (Err stop) accepted pass (it (after_script words rules file disk))

pub script_ready : (words : RunWords) (rules : Rules) (file disk : List ℕ) (schedule : Schedule) (old now new : FilesState) (result : Result Ready Stop) → kernel_refusal file rules.ram_pages ≡ None →
    Passes (disk_part words.disk) disk old now → Passes (script_part rules.harts words.script) schedule now new →
    IsReady (boot_judged words.kind rules file disk (first_events words.events schedule) words.save) result → Prepares (kernel_part rules file (boot_plan words rules file)) old new result
script_ready words rules file disk schedule old now new result accepted pass script ready =
    disk_ready words rules file disk old now new result accepted pass
    (pass_ready (script_part rules.harts words.script) schedule (after_script words rules file disk) now new new result script (judge_end _ new result ready))
