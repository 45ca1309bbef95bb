-- What is made ready of `survey`, from what is made ready of a run.
use Rattle.std.proofs.Common.{◌≡◌, ◌∙◌, ℕ, List, [], Bool, true, false, refl, sym, ap, subst, inl, inr, IsTrue, Option, Some, None, Ok}
use Rattle.std.specs.Prelude.{if◌then◌else◌}
use Rattle.std.specs.Str.{bytes_eq}
use Rattle.std.proofs.lemmas.Option.{same_Some}
use Rattle.sv_types.specs.Kernel.{header_entry, kernel_refusal}
use Rattle.sv_types.specs.Policies.{Rules, rules_within}
use Rattle.sv_types.specs.Schedule.{Schedule, first_events}
use Rattle.sv_types.specs.declared.event.Event.{Event}
use Rattle.sv_types.specs.declared.image_fault.ImageFault.{ImageFault}
use Rattle.cli_plans.specs.declared.command_words.command.DiskKind.{DiskKind}
use Rattle.spec_reference.specs.Soundness.{IsSound}
use Rattle.spec_reference.specs.Start.{AreWords, IsStart, boot_start, start as begin}
use Rattle.spec_reference.specs.States.{State, has_number}
use Rattle.host_io.specs.Outside.{FilesState}
use Rattle.script.specs.AutoScripts.{events_of_text, first_refused}
use Rattle.cli_plans.specs.CommandLine.{RunWords, Source, Text}
use Rattle.cli_plans.specs.Plans.{Due, Refuse, RunFrom, Make, Plan, End, Read, Judge, Found, Held, found_plan}
use Rattle.cli_plans.specs.Plans.{policy_part, part_judged, kernel_part, disk_refusal, disk_part, text_part, script_part, image_measure}
use Rattle.cli_plans.specs.Plans.{boot_judged, boot_plan, image_plan, max_image_bytes, run_plan}
use Rattle.cli_plans.specs.Reading.{Follows, FoundAs}
use Rattle.cli_plans.proofs.PlanLemmas.{follows_keeps}
use Rattle.cli_plans.specs.declared.file_fault.FileFault.{FileFault}
use Rattle.cli_plans.specs.declared.file_fault.Part.{Part}
use Rattle.cli_plans.specs.declared.refusal.Refusal.TheVariants.{Measure, Entry}
use Rattle.secvisor_cli.specs.Ready.{Passes, Prepares}
use Rattle.secvisor_cli.specs.declared.ready.Ready.TheVariants.{Run}
use Rattle.cli_survey.specs.SurveyAnswers.{BeginsSurvey, StartsFrom}
use Rattle.cli_survey.specs.declared.ready.ReadySurvey.{ReadySurvey}
use Rattle.secvisor_cli.proofs.ReadyLemmas.{begins as booted_begins}
use Rattle.std.specs.Option.{option_copied}

-- ---- whatever is found in files

-- this holds of what is due at each end of a plan
abbrev AllDue : (Due → Type 0) → Plan → Type 0
AllDue P (End due) = P due
AllDue P (Read name limit next) = (found : Found) → AllDue P (next found)
AllDue P (Judge next) = AllDue P next

due_at_end : (P : Due → Type 0) (plan : Plan) (old new : FilesState) (due : Due) → AllDue P plan → Follows plan old new (Some due) → P due
due_at_end P (End it) old new due all follows = subst P (sym (same_Some due it follows.0)) all
due_at_end P (Read name limit next) old new due all (inl wanting) = absurd (cc wanting.0)
due_at_end P (Read name limit next) old new due all (inr it) = due_at_end P (next it.0) it.1 new due (all it.0) it.3
due_at_end P (Judge next) old new due all (inl wanting) = absurd (cc wanting.0)
due_at_end P (Judge next) old new due all (inr it) = due_at_end P next old new due all it

-- the boot of a file, which isn't refused and begins at a permitted entry
record IsBoot (rules : Rules) (file : List ℕ) (start : State) : Type 0 where
  disk : List ℕ
  accepted : kernel_refusal file rules.ram_pages ≡ None
  entry : has_number rules.entries (header_entry file) ≡ true
  same : start ≡ boot_start rules file disk

-- a refusal, or the run from such a boot
abbrev IsBootDue : Rules → (file : List ℕ) → Due → Type 0
IsBootDue rules file (Refuse refusal) = Unit {0}
IsBootDue rules file (RunFrom start events save) = IsBoot rules file start
IsBootDue rules file (Make name made line) = ⊥

entry_due : (rules : Rules) (file disk : List ℕ) (events : List Event) (save : Option (List ℕ)) (permitted : Bool) → kernel_refusal file rules.ram_pages ≡ None →
    has_number rules.entries (header_entry file) ≡ permitted →
    IsBootDue rules file (if permitted then RunFrom (boot_start rules file disk) events save else Refuse (Entry (header_entry file)))
entry_due rules file disk events save true accepted entry = record { disk = disk; accepted = accepted; entry = entry; same = refl }
entry_due rules file disk events save false accepted entry = tt

measure_due : (rules : Rules) (file disk : List ℕ) (events : List Event) (save : Option (List ℕ)) (measured : Bool) → kernel_refusal file rules.ram_pages ≡ None →
    IsBootDue rules file (if measured then
    (if has_number rules.entries (header_entry file) then RunFrom (boot_start rules file disk) events save else Refuse (Entry (header_entry file)))
    else Refuse (Measure (image_measure file) rules.kernel))
measure_due rules file disk events save true accepted = entry_due rules file disk events save (has_number rules.entries (header_entry file)) accepted refl
measure_due rules file disk events save false accepted = tt

boot_due : (kind : DiskKind) (rules : Rules) (file disk : List ℕ) (events : List Event) (save : Option (List ℕ)) → kind ≡ DiskKind.Block → kernel_refusal file rules.ram_pages ≡ None →
    IsBootDue rules file (boot_judged kind rules file disk events save)
unfolding boot_judged
boot_due DiskKind.Block rules file disk events save is accepted = measure_due rules file disk events save (bytes_eq (image_measure file) rules.kernel) accepted
boot_due DiskKind.Virtio rules file disk events save is accepted = absurd (cc is)

module _ (rules : Rules) (file : List ℕ) where
  found_due : (part : Part) (next : List ℕ → Plan) → ((bytes : List ℕ) → AllDue (IsBootDue rules file) (next bytes)) → (found : Found) → AllDue (IsBootDue rules file) (found_plan part next found)
  unfolding found_plan
  found_due part next each (Held bytes) = each bytes
  found_due part next each _ = tt

  part_due : {F : Type 0} (file_fault : F → FileFault) (next : Plan) (fault : Option F) → AllDue (IsBootDue rules file) next → AllDue (IsBootDue rules file) (part_judged file_fault next fault)
  part_due file_fault next None all = all
  part_due file_fault next (Some fault) all = tt

  disk_due : (name : Option (List ℕ)) (next : List ℕ → Plan) → ((disk : List ℕ) → AllDue (IsBootDue rules file) (next disk)) → AllDue (IsBootDue rules file) (disk_part name next)
  unfolding disk_part
  disk_due None next each = each []
  disk_due (Some name) next each = found_due Part.Disk (λ bytes. part_judged (λ fault. fault) (next bytes) (disk_refusal bytes))
      (λ bytes. part_due (λ fault. fault) (next bytes) (disk_refusal bytes) (each bytes))

  script_due : (harts : ℕ) (source : Source) (next : Schedule → Plan) → ((schedule : Schedule) → AllDue (IsBootDue rules file) (next schedule)) →
      AllDue (IsBootDue rules file) (script_part harts source next)
  unfolding script_part text_part
  script_due harts (Text name) next each =
      found_due Part.Script _ (λ bytes. part_due FileFault.ScriptLine (next (Schedule.Listed (events_of_text harts bytes))) (first_refused bytes) (each _))
  script_due harts _ next each = each _

  after_due : (words : RunWords) → words.kind ≡ DiskKind.Block → kernel_refusal file rules.ram_pages ≡ None → AllDue (IsBootDue rules file) (boot_plan words rules file)
  unfolding boot_plan
  after_due words is accepted =
      disk_due words.disk _ (λ disk. script_due rules.harts words.script _ (λ schedule. boot_due words.kind rules file disk (first_events words.events schedule) words.save is accepted))

  by_refusal : (words : RunWords) (refusal : Option ImageFault) → words.kind ≡ DiskKind.Block → kernel_refusal file rules.ram_pages ≡ refusal →
      AllDue (IsBootDue rules file) (part_judged FileFault.Image (boot_plan words rules file) refusal)
  by_refusal words None is accepted = after_due words is accepted
  by_refusal words (Some fault) is accepted = tt

  kernel_due : (words : RunWords) → words.kind ≡ DiskKind.Block → AllDue (IsBootDue rules file) (kernel_part rules file (boot_plan words rules file))
  unfolding kernel_part
  kernel_due words is = by_refusal words (kernel_refusal file rules.ram_pages) is refl

-- ---- what was read before

-- a policy that was read changes nothing that the files hold
record KeepsHeld (old new : FilesState) : Type 0 where
  held : new.held ≡ old.held
  tells : new.tells ≡ old.tells

passed_held : (name : List ℕ) (rules : Rules) (old new : FilesState) → Passes (policy_part name) rules old new → (due : Due) → KeepsHeld old new
passed_held name rules old new pass due =
    let k = follows_keeps (policy_part name (λ _. End due)) old new (Some due) (pass.follows (λ _. End due) new (Some due) (refl, refl)) in
    record { held = k.held; tells = k.tells }

held_first : (image file : List ℕ) (limit : ℕ) (old now next : FilesState) → KeepsHeld old now → FoundAs now next image limit (Held file) → IsTrue old.tells → old.held image ≡ Some file
held_first image file limit old now next k found tells =
    ap (λ (h : List ℕ → Option (List ℕ)). h image) (sym k.held) ∙ found.1 (subst (λ (b : Bool). IsTrue b) (sym k.tells) tells)

-- ---- the start

rules_are : (rules : Rules) (file disk : List ℕ) → (boot_start rules file disk).rules ≡ rules
unfolding boot_start begin
rules_are rules file disk = refl

starts_from : (image : List ℕ) (files : FilesState) (rules : Rules) (file : List ℕ) (start : State) → IsBoot rules file start → IsSound start → (IsTrue files.tells → files.held image ≡ Some file) →
    StartsFrom image files start file
starts_from image files rules file start boot sound held =
    let there : start.rules ≡ rules = ap (λ (s : State). s.rules) boot.same ∙ rules_are rules file boot.disk in
    record {
      rules = rules;
      disk = boot.disk;
      bootable = record {
        within = subst (λ (r : Rules). IsTrue (rules_within r)) there sound.within;
        words = subst (λ (r : Rules). AreWords r.entries) there sound.words;
        accepted = boot.accepted;
        entry = boot.entry;
      };
      same = boot.same;
      held = held;
    }

pub is_start : (image : List ℕ) (files : FilesState) (start : State) (file : List ℕ) → StartsFrom image files start file → IsStart start
is_start image files start file s = inr (inl (record { rules = s.rules; file = file; disk = s.disk; bootable = s.bootable; same = s.same }))

-- ---- what is ready

pub begins : (words : RunWords) (rules : Rules) (file : List ℕ) (f0 f1 f2 f3 : FilesState) (ready : ReadySurvey) → words.kind ≡ DiskKind.Block → Passes (policy_part words.policy) rules f0 f1 →
    FoundAs f1 f2 words.image max_image_bytes (Held file) → Prepares (kernel_part rules file (boot_plan words rules file)) f2 f3 (Ok (Run ready.booted)) → ready.kernel.bytes.items ≡ file →
    BeginsSurvey words f0 f3 ready
unfolding run_plan image_plan found_plan
begins words rules file f0 f1 f2 f3 ready is pass found p items =
    let b = booted_begins (kernel_part rules file (boot_plan words rules file)) f2 f3 ready.booted p in
    let due : Due = RunFrom b.start (first_events ready.booted.events ready.booted.script) (option_copied ready.booted.save) in
    let boot : IsBoot rules file b.start = due_at_end (IsBootDue rules file) (kernel_part rules file (boot_plan words rules file)) f2 f3 due (kernel_due rules file words is) b.follows in
    record {
      start = b.start;
      save = option_copied ready.booted.save;
      follows = pass.follows (image_plan words) f3 (Some due) (inr (Held file, f2, found, b.follows));
      is_new = b.is_new;
      fresh = b.fresh;
      starts =
          subst (λ (f : List ℕ). StartsFrom words.image f0 b.start f) (sym items)
          (starts_from words.image f0 rules file b.start boot b.is_new.stands.sound (held_first words.image file max_image_bytes f0 f1 f2 (passed_held words.policy rules f0 f1 pass due) found));
    }
