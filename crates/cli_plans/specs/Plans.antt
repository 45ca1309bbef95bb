-- What is asked, as a plan: which files are read, under which names, in which order, and what is due by what is found in
-- them. This project's own.
use Rattle.std.specs.Prelude.{ℕ, ◌%◌, ◌*◌, ◌^◌, List, [], ◌∷◌, ◌++◌, length, map, codes, Bool, ◌&&◌, ◌==◌, nat_lt, if◌then◌else◌, Option}
use Rattle.std.specs.Prelude.{Some, None, Result, Ok, Err}
use Rattle.cli_plans.specs.Commands.{ConvertSplit}
use Rattle.std.specs.Fmt.{decimal}
use Rattle.std.specs.Str.{bytes_eq}
use Rattle.sv_types.specs.declared.event.Event.{Event}
use Rattle.sv_types.specs.declared.status.Status.{Status}
use Rattle.spec_processor.specs.Bytes.{page_size}
use Rattle.sv_types.specs.Boot.{max_flat_bytes}
use Rattle.sv_types.specs.ApprovedPages.{numbers_from}
use Rattle.guest_gen.specs.Generated.{generated_image, generated_policy}
use Rattle.policy_limits.specs.declared.policy_fault.PolicyFault.{PolicyFault}
use Rattle.policy.specs.Refusals.{Judged}
use Rattle.policy.specs.Text.{rules_of_text}
use Rattle.sv_types.specs.Kernel.{header_entry, kernel_refusal, kernel_segments, text_of}
use Rattle.sv_types.specs.Policies.{Rules}
use Rattle.spec_reference.specs.Start.{flat_start, boot_start, virtio_start}
use Rattle.sv_types.specs.Measure.{measure}
use Rattle.sv_types.specs.Output.{run_status, line_end, hexadecimal_bytes}
use Rattle.spec_reference.specs.BlockDisk.{sector_size}
use Rattle.spec_reference.specs.Disk.{disk_bytes}
use Rattle.spec_reference.specs.Report.{output}
use Rattle.spec_reference.specs.States.{State, has_number}
use Rattle.spec_reference.specs.Run.{run}
use Rattle.sv_types.specs.Schedule.{Schedule, first_events}
use Rattle.sv_types.specs.Limits.{max_events, max_disk_bytes}
use Rattle.script.specs.AutoScripts.{events_of_text, first_refused}
use Rattle.cli_plans.specs.declared.command_words.command.DiskKind.{DiskKind}
use Rattle.policy_making.specs.declared.refusal.MakingFault.{MakingFault}
use Rattle.policy_making.specs.declared.refusal.MakingFault.TheVariants as making
use Rattle.policy_making.specs.Refusals.{Judged as Judging}
use Rattle.policy_making.specs.Making.{ModuleFile, kernel_digest, names_with, policy_after}
use Rattle.policy_making.specs.Binding.{bound_rules}
use Rattle.policy_making.specs.Faults.{Judged as Bound}
use Rattle.policy_making.specs.declared.bind_fault.BindFault.{BindFault}
use Rattle.policy_making.specs.declared.bind_fault.BindFault.TheVariants as binding
use Rattle.cli_plans.specs.declared.file_fault.Part.{Part}
use Rattle.cli_plans.specs.declared.file_fault.FileFault.{FileFault}
use Rattle.cli_plans.specs.declared.refusal.Refusal.{Refusal}
use Rattle.cli_plans.specs.declared.refusal.Refusal.TheVariants.{ReadFault, File, Measure, Entry}
use Rattle.cli_plans.specs.Refusals.{refusal_line, refusal_status}
use Rattle.cli_plans.specs.CommandLine.{Command, Flat, Generated, Run, RunWords, LiveWords, SnapWords, MakePolicy, PolicyWords, Convert}
use Rattle.cli_plans.specs.CommandLine.{Source, Rounds, Auto, Bursts, Text}

-- ---- what is due

pub data Due : Type 0 where
  Refuse : Refusal → Due
  -- a run. After its report the disk's bytes are saved, where a name for them is given
  RunFrom : (start : State) → (events : List Event) → (save : Option (List ℕ)) → Due
  -- a policy that was made. It is saved, and then a line is printed
  Make : (name : List ℕ) → (rules : Rules) → (line : List ℕ) → Due

abbrev pub measured_line : List ℕ → List ℕ
measured_line digest = codes "measured " ++ (hexadecimal_bytes digest ++ line_end)

-- the number of entries
abbrev pub converted_line : ℕ → List ℕ
converted_line entries = codes "converted " ++ (decimal entries ++ line_end)

-- the line of the kernel's digest
abbrev pub due_of_measure : (name : List ℕ) → Rules → Due
due_of_measure name rules = Make name rules (measured_line rules.kernel)

abbrev pub due_of_convert : (name : List ℕ) → Rules → Due
due_of_convert name rules = Make name rules (converted_line (length rules.entries))

-- all bytes that are due, and the status
abbrev pub bytes_due : Due → List ℕ
bytes_due (Refuse refusal) = refusal_line refusal
bytes_due (RunFrom start events save) = output (run start events)
bytes_due (Make name rules line) = line

abbrev pub status_due : Due → Status
status_due (Refuse refusal) = refusal_status refusal
status_due (RunFrom start events save) = run_status (run start events).journal.verdict
status_due (Make name rules line) = Status.Done

-- what the saved bytes are
pub data Content : Type 0 where
  Exactly : (bytes : List ℕ) → Content
  -- a text that reads as a policy
  PolicyOf : (rules : Rules) → Content

-- bytes that are saved under a name
pub record Saving : Type 0 where
  pub name : List ℕ
  pub content : Content

-- bytes, where a name for them is given
abbrev pub saving_of_bytes : (bytes : List ℕ) → Option (List ℕ) → Option Saving
saving_of_bytes bytes None = None
saving_of_bytes bytes (Some name) = Some (record { name = name; content = Exactly bytes })

abbrev pub policy_saving : (name : List ℕ) → Rules → Saving
policy_saving name rules = record { name = name; content = PolicyOf rules }

-- what is saved
abbrev pub saves_due : Due → Option Saving
saves_due (Refuse refusal) = None
saves_due (RunFrom start events save) = saving_of_bytes (disk_bytes (run start events).devices.disk) save
saves_due (Make name rules line) = Some (policy_saving name rules)

-- ---- plans

-- what reading a name gave
pub data Found : Type 0 where
  -- the read failed
  Faulty : Found
  -- no such name is held
  Missing : Found
  -- more bytes than the limit
  Longer : Found
  Held : (bytes : List ℕ) → Found

pub data Plan : Type 0 where
  End : Due → Plan
  -- at most so many bytes are read under a name, once, and what is found decides how it goes on
  Read : (name : List ℕ) → (limit : ℕ) → (next : Found → Plan) → Plan
  -- the words, or what was read of files, are judged, and what is due is made ready, for which memory may run out, before
  -- it goes on
  Judge : (next : Plan) → Plan

-- a part that is not read is refused, and else its bytes decide
unfoldable pub found_plan : Part → (List ℕ → Plan) → Found → Plan
found_plan part next Faulty = End (Refuse (ReadFault part))
found_plan part next Missing = End (Refuse (ReadFault part))
found_plan part next Longer = End (Refuse (File (FileFault.Longer part)))
found_plan part next (Held bytes) = next bytes

abbrev pub read_part : Part → (name : List ℕ) → (limit : ℕ) → (List ℕ → Plan) → Plan
read_part part name limit next = Read name limit (found_plan part next)

-- ---- flat

-- the pages are measured before anything runs
unfoldable pub measure_judged : List ℕ → List ℕ → List Event → Due
measure_judged pages wanted events =
    if bytes_eq (measure pages) wanted then RunFrom (flat_start pages wanted) events None else Refuse (Measure (measure pages) wanted)

-- whole pages, at least one
abbrev pub is_whole_pages : List ℕ → Bool
is_whole_pages bytes = nat_lt 0 (length bytes) && length bytes % page_size == 0

unfoldable pub pages_judged : List ℕ → List ℕ → List Event → Due
pages_judged bytes wanted events = if is_whole_pages bytes then measure_judged bytes wanted events else Refuse (File FileFault.FlatPages)

-- turns of the one hart
abbrev pub flat_events : ℕ → List Event
flat_events events = first_events events (Schedule.Rounds 1 0)

unfoldable pub flat_plan : (file wanted : List ℕ) → (events : ℕ) → Plan
flat_plan file wanted events =
    read_part Part.Flat file max_flat_bytes (λ bytes. Judge (End (pages_judged bytes wanted (flat_events events))))

-- ---- gen

-- two sectors, in which each byte is the last one of its place
unfoldable pub gen_disk : List ℕ
gen_disk = map (λ place. place % 256) (numbers_from 0 (2 * sector_size))

-- the generated guest runs to its end
unfoldable pub gen_due : ℕ → Due
gen_due calls =
    RunFrom (boot_start (generated_policy calls) (generated_image calls) gen_disk) (first_events max_events (Schedule.Weave 0)) None

unfoldable pub gen_plan : ℕ → Plan
gen_plan calls = Judge (End (gen_due calls))

-- ---- run and vrun: each part is judged before the next one is read

abbrev pub max_policy_bytes : ℕ
max_policy_bytes = 16 * 2 ^ 20

abbrev pub max_image_bytes : ℕ
max_image_bytes = 64 * 2 ^ 20

abbrev pub max_script_bytes : ℕ
max_script_bytes = 2 ^ 20

abbrev pub policy_judged : (Rules → Plan) → Judged Rules → Plan
policy_judged next (Ok rules) = next rules
policy_judged next (Err fault) = End (Refuse (File (FileFault.Policy fault)))

unfoldable pub policy_part : (name : List ℕ) → (Rules → Plan) → Plan
policy_part name next =
    read_part Part.Policy name max_policy_bytes (λ bytes. Judge (policy_judged next (rules_of_text bytes)))

-- a part without a fault is good
abbrev pub part_judged : {F : Type 0} → (F → FileFault) → Plan → Option F → Plan
part_judged file_fault next None = next
part_judged file_fault next (Some fault) = End (Refuse (File (file_fault fault)))

-- what holds of a file of the image, under rules
unfoldable pub kernel_part : Rules → (file : List ℕ) → Plan → Plan
kernel_part rules file next = Judge (part_judged FileFault.Image next (kernel_refusal file rules.ram_pages))

abbrev pub image_part : Rules → (name : List ℕ) → (List ℕ → Plan) → Plan
image_part rules name next = read_part Part.Image name max_image_bytes (λ file. kernel_part rules file (next file))

-- whole sectors
abbrev pub disk_refusal : List ℕ → Option FileFault
disk_refusal bytes = if length bytes % sector_size == 0 then None else Some FileFault.DiskSectors

unfoldable pub disk_part : Option (List ℕ) → (List ℕ → Plan) → Plan
disk_part None next = next []
disk_part (Some name) next =
    read_part Part.Disk name max_disk_bytes (λ bytes. part_judged (λ fault. fault) (next bytes) (disk_refusal bytes))

unfoldable pub text_part : (harts : ℕ) (name : List ℕ) → (Schedule → Plan) → Plan
text_part harts name next =
    read_part Part.Script name max_script_bytes
    (λ bytes. Judge (part_judged FileFault.ScriptLine (next (Schedule.Listed (events_of_text harts bytes))) (first_refused bytes)))

unfoldable pub script_part : (harts : ℕ) → Source → (Schedule → Plan) → Plan
script_part harts Rounds next = next (Schedule.Rounds harts 0)
script_part harts (Auto number) next = next (Schedule.Auto harts number)
script_part harts (Bursts number) next = next (Schedule.Bursts harts 0 0 number)
script_part harts (Text name) next = text_part harts name next

abbrev pub image_measure : List ℕ → List ℕ
image_measure file = measure (text_of (kernel_segments file))

-- the start with a disk of such a kind
abbrev pub start_with : DiskKind → Rules → (file disk : List ℕ) → State
start_with DiskKind.Block rules file disk = boot_start rules file disk
start_with DiskKind.Virtio rules file disk = virtio_start rules file disk

-- the text is measured, and the entry has to be a permitted one
unfoldable pub boot_judged : DiskKind → Rules → (file disk : List ℕ) → List Event → (save : Option (List ℕ)) → Due
boot_judged kind rules file disk events save =
    if bytes_eq (image_measure file) rules.kernel then
    (if has_number rules.entries (header_entry file) then RunFrom (start_with kind rules file disk) events save
    else Refuse (Entry (header_entry file)))
    else Refuse (Measure (image_measure file) rules.kernel)

-- what stands after the image: the disk, the script and the boot
unfoldable pub boot_plan : RunWords → Rules → (file : List ℕ) → Plan
boot_plan words rules file =
    disk_part words.disk (λ disk. script_part rules.harts words.script
    (λ schedule. Judge (End (boot_judged words.kind rules file disk (first_events words.events schedule) words.save))))

unfoldable pub image_plan : RunWords → Rules → Plan
image_plan words rules = image_part rules words.image (boot_plan words rules)

unfoldable pub run_plan : RunWords → Plan
run_plan words = policy_part words.policy (image_plan words)

-- ---- survey, debug, live and snap: what `run` reads and judges for the same words

-- words that are refused never run out of memory, and else memory may run out for reading them by their names
abbrev pub asked_plan : {A : Type 0} → (next : A → Plan) → Result A Refusal → Plan
asked_plan next (Err refusal) = End (Refuse refusal)
asked_plan next (Ok words) = Judge (next words)

abbrev pub survey_plan : Result RunWords Refusal → Plan
survey_plan words = asked_plan run_plan words

abbrev pub live_plan : Result LiveWords Refusal → Plan
live_plan words = asked_plan (λ w. run_plan w.run) words

abbrev pub snap_plan : Result SnapWords Refusal → Plan
snap_plan words = asked_plan (λ w. run_plan w.run) words

-- ---- measure: each file is read once, just before its first judgement

abbrev pub max_object_bytes : ℕ
max_object_bytes = 16 * 2 ^ 20

-- the number of all modules' relocated fields is judged last
abbrev pub making_fault : MakingFault → FileFault
making_fault (making.Image fault) = FileFault.Image fault
making_fault (making.Module fault) = FileFault.Module fault
making_fault making.TooManySites = FileFault.Policy PolicyFault.BeyondLimit

abbrev pub made_judged : {A : Type 0} → (A → Plan) → Judging A → Plan
made_judged next (Ok value) = next value
made_judged next (Err fault) = End (Refuse (File (making_fault fault)))

-- a part is read, and what is made of it decides
unfoldable pub made_part : {A : Type 0} → Part → (name : List ℕ) → (limit : ℕ) → (List ℕ → Judging A) → (List ℕ → A → Plan) → Plan
made_part part name limit judge next = read_part part name limit (λ bytes. Judge (made_judged (next bytes) (judge bytes)))

-- a kernel's file and its digest
pub record Kernel : Type 0 where
  pub file : List ℕ
  pub digest : List ℕ

unfoldable pub digest_part : (name : List ℕ) → (ram_pages : ℕ) → (Kernel → Plan) → Plan
digest_part name ram_pages next =
    made_part Part.Image name max_image_bytes (λ file. kernel_digest file ram_pages)
    (λ file digest. next (record { file = file; digest = digest }))

-- modules' objects, and the names that they want of the kernel
pub record Modules : Type 0 where
  pub names : List (List ℕ)
  pub objects : List ModuleFile

abbrev pub no_modules : Modules
no_modules = record { names = []; objects = [] }

-- a module and the names that it wants stand after those before it
abbrev pub with_module : Modules → (name file : List ℕ) → (names : List (List ℕ)) → Modules
with_module before name file names = record { names = names; objects = before.objects ++ record { name = name; bytes = file } ∷ [] }

unfoldable pub module_part : (name : List ℕ) → Modules → (Modules → Plan) → Plan
module_part name before next =
    made_part Part.Module name max_object_bytes (names_with before.names) (λ file names. next (with_module before name file names))

-- one after another
abbrev pub modules_part : (names : List (List ℕ)) → Modules → (Modules → Plan) → Plan
modules_part [] before next = next before
modules_part (name ∷ names) before next = module_part name before (λ now. modules_part names now next)

-- the exports, the modules under them, and the number of all relocated fields
unfoldable pub making_plan : PolicyWords → Kernel → Modules → Plan
making_plan words kernel modules =
    Judge (made_judged (λ rules. End (due_of_measure words.out rules)) (policy_after words.terms kernel.file kernel.digest modules.names modules.objects))

unfoldable pub measure_plan : PolicyWords → Plan
measure_plan words =
    digest_part words.kernel words.terms.ram_pages (λ kernel. modules_part words.modules no_modules (making_plan words kernel))

-- ---- convert: the policy and then the kernel are judged, before entries are bound

abbrev pub binding_refusal : BindFault → Refusal
binding_refusal (binding.Convert fault) = File (FileFault.Convert fault)
binding_refusal (binding.Measure found wanted) = Measure found wanted

abbrev pub converted_judged : (out : List ℕ) → Bound Rules → Due
converted_judged out (Ok rules) = due_of_convert out rules
converted_judged out (Err fault) = Refuse (binding_refusal fault)

unfoldable pub bound_plan : ConvertSplit → Rules → (file : List ℕ) → Plan
bound_plan words rules file = Judge (End (converted_judged words.out (bound_rules rules (kernel_segments file))))

unfoldable pub binding_plan : ConvertSplit → Rules → Plan
binding_plan words rules = image_part rules words.kernel (bound_plan words rules)

unfoldable pub convert_plan : ConvertSplit → Plan
convert_plan words = policy_part words.given (binding_plan words)

-- ---- all commands

unfoldable pub command_plan : Command → Plan
command_plan (Flat file wanted events) = flat_plan file wanted events
command_plan (Generated calls) = gen_plan calls
command_plan (Run words) = run_plan words
command_plan (MakePolicy words) = measure_plan words
command_plan (Convert words) = convert_plan words

abbrev pub plan_of : Result Command Refusal → Plan
plan_of words = asked_plan command_plan words
