-- What is made ready of a command, before anything is written.
use Rattle.std.specs.Prelude.{◌≡◌, ◌≤◌, ℕ, List, [], Option, Some, None, Result, Ok, Err, IsErrOf, Vec, map, string_bytes}
use Rattle.std.specs.Option.{option_copied}
use Rattle.std.specs.declared.alloc.Global.{Global}
use Rattle.sv_types.specs.Limits.{max_events}
use Rattle.spec_reference.specs.Counting.{CountsAtMost}
use Rattle.sv_types.specs.declared.event.Event.{Event}
use Rattle.spec_reference.specs.States.{State}
use Rattle.spec_hardware.specs.Machine.{Machine}
use Rattle.spec_hardware.specs.Reaches.{IsNew}
use Rattle.sv_types.specs.Schedule.{Schedule, first_events}
use Rattle.script.specs.AutoScripts.{events_of_text, first_refused}
use Rattle.sv_types.specs.Kernel.{kernel_refusal}
use Rattle.sv_types.specs.Policies.{Rules, rules_of}
use Rattle.sv_types.specs.declared.image_fault.ImageFault.{ImageFault}
use Rattle.sv_types.specs.declared.policy.Policy.{Policy}
use Rattle.policy_limits.specs.declared.policy_fault.PolicyFault.{PolicyFault}
use Rattle.policy.specs.Refusals.{Judged}
use Rattle.policy.specs.Text.{rules_of_text}
use Rattle.policy_making.specs.Making.{file_of}
use Rattle.policy_making.specs.declared.refusal.MakingRefusal.{MakingRefusal}
use Rattle.policy_making.specs.declared.refusal.MakingRefusal.TheVariants as making
use Rattle.elf64_load.specs.declared.image.KernelImage.{KernelImage}
use Rattle.policy_making.specs.declared.bind_fault.BindRefusal.{BindRefusal}
use Rattle.policy_making.specs.declared.bind_fault.BindRefusal.TheVariants as binding
use Rattle.machine.specs.Boot.{IsImageOf}
use Rattle.host_io.specs.Outside.{FilesState, after_asking}
use Rattle.machine.specs.declared.boot.BootRefusal.{BootRefusal}
use Rattle.cli_plans.specs.declared.file_fault.Part.{Part}
use Rattle.cli_plans.specs.declared.file_fault.FileFault.{FileFault}
use Rattle.cli_plans.specs.declared.refusal.Refusal.{Refusal}
use Rattle.cli_plans.specs.declared.asking.Unread.{Unread}
use Rattle.cli_plans.specs.declared.asking.Unread.TheVariants as unread
use Rattle.cli_plans.specs.declared.refusal.Refusal.TheVariants.{ReadFault, File}
use Rattle.secvisor_cli.specs.declared.ready.Ready.{Ready}
use Rattle.secvisor_cli.specs.declared.ready.Ready.TheVariants.{Run, Save}
use Rattle.secvisor_cli.specs.declared.ready.MeasuredRun.{MeasuredRun}
use Rattle.secvisor_cli.specs.declared.ready.PreparedRun.{PreparedRun}
use Rattle.secvisor_cli.specs.declared.ready.Made.{Made}
use Rattle.policy_making.specs.declared.policy.MeasuredKernel.{MeasuredKernel}
use Rattle.secvisor_cli.specs.declared.making.WantingModules.{WantingModules}
use Rattle.secvisor_cli.specs.declared.ready.Stop.{Stop}
use Rattle.secvisor_cli.specs.declared.ready.Stop.TheVariants.{Refused, Memory}
use Rattle.cli_plans.specs.Plans.{Due, Refuse, RunFrom, Make, making_fault, binding_refusal, Kernel, Modules, saves_due, Plan, Found}
use Rattle.cli_plans.specs.Plans.{Faulty, Missing, Longer, Held}
use Rattle.cli_plans.specs.Reading.{Follows, FoundAs, MayFollow, MaySave}
use Rattle.machine.specs.Standing.{HasState}

-- the refusal of a part that isn't read
abbrev pub read_refusal : Part → Found → Option Refusal
read_refusal part Faulty = Some (ReadFault part)
read_refusal part Missing = Some (ReadFault part)
read_refusal part Longer = Some (File (FileFault.Longer part))
read_refusal part (Held bytes) = None

-- a part was read, once
abbrev pub PartRead : Part → List ℕ → ℕ → FilesState → FilesState → Result (Vec ℕ Global) Stop → Type 0
PartRead part name limit old new (Ok bytes) = FoundAs old new name limit (Held bytes.items)
PartRead part name limit old new (Err (Refused refusal)) = (found : Found) × FoundAs old new name limit found × (read_refusal part found ≡ Some refusal)
PartRead part name limit old new (Err Memory) = new ≡ after_asking name limit old

-- words that aren't read
abbrev pub stop_of_unread : Unread → Stop
stop_of_unread (unread.Refused refusal) = Refused refusal
stop_of_unread unread.Memory = Memory

-- what is ready of a command that runs a machine
abbrev pub run_ready : Result PreparedRun Stop → Result Ready Stop
run_ready (Ok booted) = Ok (Run booted)
run_ready (Err stop) = Err stop

-- what is ready of a run without its digests
abbrev pub run_of : Result MeasuredRun Stop → Result PreparedRun Stop
run_of (Ok measured) = Ok measured.run
run_of (Err stop) = Err stop

-- a boot that is refused
abbrev pub stop_of : BootRefusal → Stop
stop_of (BootRefusal.Measure found wanted) = Refused (Refusal.Measure found wanted)
stop_of (BootRefusal.Entry entry) = Refused (Refusal.Entry entry)
stop_of BootRefusal.Memory = Memory

-- a policy that isn't made
abbrev pub stop_of_making : MakingRefusal → Stop
stop_of_making (making.Fault fault) = Refused (File (making_fault fault))
stop_of_making making.Memory = Memory

-- a policy whose entries aren't bound
abbrev pub stop_of_binding : BindRefusal → Stop
stop_of_binding (binding.Fault fault) = Refused (binding_refusal fault)
stop_of_binding binding.Memory = Memory

-- a machine that has made no event, and the events that it is to make
pub record IsFresh (ready : PreparedRun) : Type 0 where
  pub events : ready.events ≤ max_events
  pub state : HasState ready.machine
  pub counts : CountsAtMost 0 ready.machine.journal.counts
  pub console : ready.machine.journal.printed ≡ []

-- a machine of which nothing is printed yet and no count is above the most events, and the events that it is to make
pub record IsRunnable (ready : PreparedRun) : Type 0 where
  pub events : ready.events ≤ max_events
  pub state : HasState ready.machine
  pub counts : CountsAtMost max_events ready.machine.journal.counts
  pub console : ready.machine.journal.printed ≡ []

-- the events are drawn after a number, for as many harts as the machine has
abbrev pub DrawsFrom : (number : ℕ) → PreparedRun → Type 0
DrawsFrom number booted = booted.script ≡ Schedule.Auto booted.machine.rules.harts number

-- a text that reads as the policy, under its name, and the line that is printed after it
pub record IsMade (name : List ℕ) (rules : Rules) (line : List ℕ) (made : Made) : Type 0 where
  pub name_is : made.name.now ≡ name
  pub reads : rules_of_text made.text.items ≡ Ok rules
  pub line_is : string_bytes made.line ≡ line

-- the machine starts somewhere, and the disk of its run may be saved
pub record MaySaveRun (machine : Machine) (events : List Event) (save : Option (List ℕ)) (files : FilesState) : Type 0 where
  pub start : State
  pub new : IsNew machine start
  pub may : MaySave (saves_due (RunFrom start events save)) files

-- what is due is ready, or refused, or memory ran out
abbrev pub IsReady : Due → Result Ready Stop → Type 0
IsReady (RunFrom start events save) (Ok (Run booted)) =
    IsNew booted.machine start × (first_events booted.events booted.script ≡ events) × (option_copied booted.save ≡ save) × IsFresh booted
IsReady (RunFrom start events save) (Ok (Save made)) = ⊥
IsReady (Make name rules line) (Ok (Run booted)) = ⊥
IsReady (Make name rules line) (Ok (Save made)) = IsMade name rules line made
IsReady (Refuse refusal) (Ok ready) = ⊥
IsReady (Refuse refusal) (Err (Refused given)) = given ≡ refusal
IsReady (RunFrom start events save) (Err (Refused given)) = ⊥
IsReady (Make name rules line) (Err (Refused given)) = ⊥
IsReady due (Err Memory) = Unit {0}

-- what is ready is due, and what it saves may be saved
pub record MayCarryOut (ready : Ready) (files : FilesState) : Type 0 where
  pub due : Due
  pub ready_is : IsReady due (Ok ready)
  pub may : MaySave (saves_due due) files

-- where memory ran out, the end of the plan wasn't reached
abbrev pub IsReadyWhere : Option Due → Result Ready Stop → Type 0
IsReadyWhere None result = IsErrOf result Memory
IsReadyWhere (Some due) (Ok ready) = IsReady due (Ok ready)
IsReadyWhere (Some due) (Err (Refused refusal)) = IsReady due (Err (Refused refusal))
IsReadyWhere (Some due) (Err Memory) = ⊥

pub record Prepares (plan : Plan) (old new : FilesState) (result : Result Ready Stop) : Type 0 where
  pub reached : Option Due
  pub follows : Follows plan old new reached
  pub ready : IsReadyWhere reached result

-- ---- stages of a plan, each from what it gives to the plan after it

-- it gave this, and whatever plan stands after it goes on there
pub record Passes {A : Type 0} (stage : (A → Plan) → Plan) (value : A) (old new : FilesState) : Type 0 where
  pub follows : (next : A → Plan) → (last : FilesState) → (reached : Option Due) →
      Follows (next value) new last reached → Follows (stage next) old last reached
  pub may : (next : A → Plan) → MayFollow (stage next) old → MayFollow (next value) new
  pub faults : new.read_faults ≡ old.read_faults

-- it gave something, or it is where the plan ends
abbrev pub Staged : {T A : Type 0} → ((A → Plan) → Plan) → (T → A) → FilesState → FilesState → Result T Stop → Type 0
Staged stage value old new (Ok given) = Passes stage (value given) old new
Staged stage value old new (Err stop) = (next : _) → Prepares (stage next) old new (Err stop)

-- what it asks for is permitted
pub record MayStage {A : Type 0} (stage : (A → Plan) → Plan) (files : FilesState) : Type 0 where
  pub next : A → Plan
  pub may : MayFollow (stage next) files

-- ---- the parts of a policy that is made, by value

abbrev pub kernel_value : MeasuredKernel → Kernel
kernel_value k = record { file = k.file.items; digest = k.digest }

abbrev pub modules_value : WantingModules → Modules
modules_value m = record { names = m.names.items; objects = map file_of m.objects.items }

-- ---- the parts of a run, judged

-- the rules of a policy's text, or its fault
abbrev pub IsPolicy : Judged Rules → Result Policy Stop → Type 0
IsPolicy judged (Ok policy) = judged ≡ Ok (rules_of policy)
IsPolicy judged (Err (Refused refusal)) =
    (fault : PolicyFault) × (judged ≡ Err fault) × (refusal ≡ File (FileFault.Policy fault))
IsPolicy judged (Err Memory) = Unit {0}

-- the image of a kernel's file, or its fault
abbrev pub IsKernel : (file : List ℕ) → (ram_pages : ℕ) → Result KernelImage Stop → Type 0
IsKernel file ram_pages (Ok image) = IsImageOf file ram_pages image
IsKernel file ram_pages (Err (Refused refusal)) =
    (fault : ImageFault) × (kernel_refusal file ram_pages ≡ Some fault) × (refusal ≡ File (FileFault.Image fault))
IsKernel file ram_pages (Err Memory) = Unit {0}

-- the events of a script's text, or the number of the line that refuses it
abbrev pub IsScript : (harts : ℕ) → List ℕ → Result Schedule Stop → Type 0
IsScript harts text (Ok script) = (script ≡ Schedule.Listed (events_of_text harts text)) × (first_refused text ≡ None)
IsScript harts text (Err (Refused refusal)) =
    (line : ℕ) × (first_refused text ≡ Some line) × (refusal ≡ File (FileFault.ScriptLine line))
IsScript harts text (Err Memory) = Unit {0}
