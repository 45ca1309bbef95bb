-- What `run` accepts, `snap` does, and what `vrun` does, `vsnap`: the words, and the plan up to the run.
use Rattle.std.proofs.Common.{◌≡◌, ◌||◌, ◌++◌, ℕ, List, [], ◌∷◌, Bool, true, false, refl, ◌∙◌, ap, subst, Option, Some, None, Ok, Err, if◌then◌else◌}
use Rattle.std.specs.List.{list_any}
use Rattle.std.specs.Str.{bytes_eq}
use Rattle.std.proofs.lemmas.Bool.{or_parts, or_from}
use Rattle.sv_types.specs.Kernel.{header_entry, kernel_refusal}
use Rattle.sv_types.specs.Limits.{max_events}
use Rattle.sv_types.specs.Numbers.{number_within}
use Rattle.sv_types.specs.Policies.{Rules}
use Rattle.sv_types.specs.Schedule.{Schedule, first_events}
use Rattle.sv_types.specs.declared.event.Event.{Event}
use Rattle.policy.specs.Refusals.{Judged}
use Rattle.policy.specs.Text.{rules_of_text}
use Rattle.spec_reference.specs.States.{State, has_number}
use Rattle.script.specs.AutoScripts.{events_of_text, first_refused}
use Rattle.cli_plans.specs.declared.command_words.table.CommandName.{CommandName}
use Rattle.cli_plans.specs.declared.command_words.table.CommandName.TheVariants as command
use Rattle.cli_plans.specs.Commands.{RunSplit, SnapSplit, has_dash, name_of, named_by, named_shape, named_words, run_name, snap_name}
use Rattle.cli_plans.specs.declared.command_words.command.DiskKind.{DiskKind}
use Rattle.cli_plans.specs.CommandLine.{RunWords, Source, Rounds, Auto, Bursts, Text, judgement_of_words, run_words, source_of}
use Rattle.cli_plans.specs.CommandLine.{command_after, named_judged, snap_after, unless_none, SnapWords, unsaved_run, snap_judged, snap_words}
use Rattle.secvisor_cli.specs.DueIn.{due_in}
use Rattle.cli_plans.specs.Plans.{Due, Refuse, RunFrom, Make, Plan, Found, Held, boot_judged, boot_plan}
use Rattle.cli_plans.specs.Plans.{command_plan, disk_part, disk_refusal, found_plan, image_measure, image_plan, kernel_part, part_judged}
use Rattle.cli_plans.specs.Plans.{plan_of, policy_judged, policy_part, run_plan, script_part, start_with, text_part, snap_plan}
use Rattle.cli_plans.specs.declared.file_fault.FileFault.{FileFault}
use Rattle.cli_plans.specs.declared.file_fault.Part.{Part}
use Rattle.cli_plans.specs.declared.refusal.Refusal.{Refusal}
use Rattle.cli_plans.specs.declared.refusal.Refusal.TheVariants.{NoCommand, Measure, Entry}
use Rattle.cli_snap.specs.SnapEnds.{IsAccepted, SnapLine, run_line, snap_line}

-- ---- the plan but for the save

-- the same run, saved under another name, or not
abbrev with_save : Option (List ℕ) → Due → Due
with_save save (Refuse refusal) = Refuse refusal
with_save save (RunFrom start events other) = RunFrom start events save
with_save save (Make name rules line) = Make name rules line

module _ (held : List ℕ → Option (List ℕ)) (save : Option (List ℕ)) where
  -- a plan is due what another one is but for the save
  abbrev SameBut : (other plan : Plan) → Type 0
  SameBut other plan = due_in held other ≡ with_save save (due_in held plan)

  found_same : (part : Part) (other next : List ℕ → Plan) (found : Found) → ((bytes : List ℕ) → SameBut (other bytes) (next bytes)) →
      SameBut (found_plan part other found) (found_plan part next found)
  unfolding found_plan
  found_same part other next (Held bytes) same = same bytes
  found_same part other next _ same = refl

  part_same : {F : Type 0} (file_fault : F → FileFault) (other next : Plan) (fault : Option F) → SameBut other next →
      SameBut (part_judged file_fault other fault) (part_judged file_fault next fault)
  part_same file_fault other next None same = same
  part_same file_fault other next (Some fault) same = refl

  policy_same : (other next : Rules → Plan) (rules : Judged Rules) → ((given : Rules) → SameBut (other given) (next given)) →
      SameBut (policy_judged other rules) (policy_judged next rules)
  policy_same other next (Ok rules) same = same rules
  policy_same other next (Err fault) same = refl

  disk_same : (name : Option (List ℕ)) (other next : List ℕ → Plan) → ((disk : List ℕ) → SameBut (other disk) (next disk)) → SameBut (disk_part name other) (disk_part name next)
  unfolding disk_part
  disk_same None other next same = same []
  disk_same (Some name) other next same =
      found_same Part.Disk _ _ _ (λ bytes. part_same (λ fault. fault) (other bytes) (next bytes) (disk_refusal bytes) (same bytes))

  script_same : (harts : ℕ) (source : Source) (other next : Schedule → Plan) → ((schedule : Schedule) → SameBut (other schedule) (next schedule)) →
      SameBut (script_part harts source other) (script_part harts source next)
  unfolding script_part text_part
  script_same harts Rounds other next same = same (Schedule.Rounds harts 0)
  script_same harts (Auto number) other next same = same (Schedule.Auto harts number)
  script_same harts (Bursts number) other next same = same (Schedule.Bursts harts 0 0 number)
  script_same harts (Text name) other next same =
      found_same Part.Script _ _ _ (λ bytes. part_same FileFault.ScriptLine (other (Schedule.Listed (events_of_text harts bytes)))
      (next (Schedule.Listed (events_of_text harts bytes))) (first_refused bytes) (same (Schedule.Listed (events_of_text harts bytes))))

  boot_by : (measured entered : Bool) (start : State) (events : List Event) (by_measure by_entry : Refusal) (kept : Option (List ℕ)) →
      (if measured then (if entered then RunFrom start events save else Refuse by_entry) else Refuse by_measure)
      ≡ with_save save (if measured then (if entered then RunFrom start events kept else Refuse by_entry) else Refuse by_measure)
  boot_by true true start events by_measure by_entry kept = refl
  boot_by true false start events by_measure by_entry kept = refl
  boot_by false entered start events by_measure by_entry kept = refl

  boot_same : (kind : DiskKind) (rules : Rules) (file disk : List ℕ) (events : List Event) (kept : Option (List ℕ)) →
      boot_judged kind rules file disk events save ≡ with_save save (boot_judged kind rules file disk events kept)
  unfolding boot_judged
  boot_same kind rules file disk events kept =
      boot_by (bytes_eq (image_measure file) rules.kernel) (has_number rules.entries (header_entry file)) (start_with kind rules file disk) events
      (Measure (image_measure file) rules.kernel) (Entry (header_entry file)) kept

  after_image : (words : RunWords) (rules : Rules) (file : List ℕ) → SameBut (boot_plan (record words { save = save }) rules file) (boot_plan words rules file)
  unfolding boot_plan
  after_image words rules file =
      disk_same words.disk _ _ (λ disk. script_same rules.harts words.script _ _ (λ schedule. boot_same words.kind rules file disk (first_events words.events schedule) words.save))

  after_policy : (words : RunWords) (rules : Rules) → SameBut (image_plan (record words { save = save }) rules) (image_plan words rules)
  unfolding image_plan kernel_part
  after_policy words rules =
      found_same Part.Image _ _ _ (λ file. part_same FileFault.Image (boot_plan (record words { save = save }) rules file) (boot_plan words rules file)
      (kernel_refusal file rules.ram_pages) (after_image words rules file))

  run_same : (words : RunWords) → SameBut (run_plan (record words { save = save })) (run_plan words)
  unfolding run_plan policy_part
  run_same words =
      found_same Part.Policy _ _ _ (λ bytes. policy_same (image_plan (record words { save = save })) (image_plan words) (rules_of_text bytes) (after_policy words))

-- ---- the words

-- words of which none begins with a dash, with another last one
last_dash : (words : List (List ℕ)) (one other : List ℕ) → has_dash other ≡ false → list_any has_dash (words ++ one ∷ []) ≡ false → list_any has_dash (words ++ other ∷ []) ≡ false
last_dash [] one other good none = ap (λ (b : Bool). b || false) good
last_dash (word ∷ words) one other good none =
    let parts = or_parts (has_dash word) (list_any has_dash (words ++ one ∷ [])) none in
    or_from (has_dash word) (list_any has_dash (words ++ other ∷ [])) parts.0 (last_dash words one other good parts.1)

-- the snapshot is asked for of this run too
pub record SnapAccepted (held : List ℕ → Option (List ℕ)) (line : SnapLine) (start : State) (events : List Event) : Type 0 where
  pub words : SnapWords
  pub judged_as : snap_judged (snap_line line) ≡ Ok words
  pub out : words.out ≡ line.out
  pub due : due_in held (snap_plan (Ok words)) ≡ RunFrom start events None

abbrev split_of : SnapLine → (save : List ℕ) → RunSplit
split_of line save = record {
  kind = line.kind;
  image = line.image;
  policy = line.policy;
  disk = line.disk;
  script = line.script;
  events = line.events;
  save = save;
}

abbrev snap_of_line : SnapLine → SnapSplit
snap_of_line line = record {
  kind = line.kind;
  image = line.image;
  policy = line.policy;
  disk = line.disk;
  script = line.script;
  events = line.events;
  out = line.out;
}

words_by : (held : List ℕ → Option (List ℕ)) (line : SnapLine) (save : List ℕ) (source : Option Source) (count : Option ℕ) (start : State) (events : List Event) (kept : Option (List ℕ)) →
    snap_judged (snap_line line) ≡ snap_words (snap_of_line line) source count →
    due_in held (plan_of (run_words (split_of line save) source count)) ≡ RunFrom start events kept → SnapAccepted held line start events
unfolding command_plan run_words snap_words
words_by held line save (Some source) (Some count) start events kept words due =
    let asked : RunWords = unsaved_run line.kind line.image line.policy line.disk source count in
    record {
      words = record { run = asked; out = line.out };
      judged_as = words;
      out = refl;
      due = run_same held None (record asked { save = unless_none save }) ∙ ap (with_save None) due;
    }
words_by held line save _ _ start events kept words due = absurd (cc due)

-- the names of the commands
snap_named : (kind : DiskKind) → name_of (snap_name kind) ≡ Some (command.Snap kind)
snap_named DiskKind.Block = refl
snap_named DiskKind.Virtio = refl

run_named : (kind : DiskKind) → name_of (run_name kind) ≡ Some (command.Run kind)
run_named DiskKind.Block = refl
run_named DiskKind.Virtio = refl

snap_plain : (kind : DiskKind) → has_dash (snap_name kind) ≡ false
snap_plain DiskKind.Block = refl
snap_plain DiskKind.Virtio = refl

undashed : (line : SnapLine) → list_any has_dash (snap_line line) ≡ false →
    snap_judged (snap_line line) ≡ snap_words (snap_of_line line) (source_of line.script) (number_within 0 max_events line.events)
unfolding snap_judged named_words
undashed line none =
    ap (λ (b : Bool). named_judged snap_after (if b then None else named_shape (snap_line line))) none
    ∙ ap (λ (name : Option CommandName). named_judged snap_after (named_by name (line.image ∷ line.policy ∷ line.disk ∷ line.script ∷ line.events ∷ line.out ∷ []))) (snap_named line.kind)

no_run : (held : List ℕ → Option (List ℕ)) (refusal : Refusal) (start : State) (events : List Event) (kept : Option (List ℕ)) → due_in held (plan_of (Err refusal)) ≡ RunFrom start events kept → ⊥
no_run held refusal start events kept is = cc is

line_by : (held : List ℕ → Option (List ℕ)) (line : SnapLine) (save : List ℕ) (dashed : Bool) (start : State) (events : List Event) (kept : Option (List ℕ)) → has_dash line.out ≡ false →
    list_any has_dash (run_line line save) ≡ dashed → due_in held (plan_of (named_judged command_after (if dashed then None else named_shape (run_line line save)))) ≡ RunFrom start events kept →
    SnapAccepted held line start events
line_by held line save true start events kept good any due = absurd (no_run held NoCommand start events kept due)
line_by held line save false start events kept good any due =
    let rest : List (List ℕ) = line.image ∷ line.policy ∷ line.disk ∷ line.script ∷ line.events ∷ save ∷ [] in
    let plain = (or_parts (has_dash (run_name line.kind)) (list_any has_dash rest) any).1 in
    let none : list_any has_dash (snap_line line) ≡ false = or_from (has_dash (snap_name line.kind)) _ (snap_plain line.kind)
    (last_dash (line.image ∷ line.policy ∷ line.disk ∷ line.script ∷ line.events ∷ []) save line.out good plain) in
    let is = subst (λ (name : Option CommandName). due_in held (plan_of (named_judged command_after (named_by name rest))) ≡ RunFrom start events kept) (run_named line.kind) due in
    words_by held line save (source_of line.script) (number_within 0 max_events line.events) start events kept (undashed line none) is

pub snap_accepted : (held : List ℕ → Option (List ℕ)) (line : SnapLine) (start : State) (events : List Event) → has_dash line.out ≡ false → IsAccepted held line start events →
    SnapAccepted held line start events
unfolding judgement_of_words named_words
snap_accepted held line start events good it = line_by held line it.save (list_any has_dash (run_line line it.save)) start events it.kept good refl it.due
