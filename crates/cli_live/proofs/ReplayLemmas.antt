-- From what a live run did to what `run`, or `vrun`, is due.
use Rattle.std.proofs.Common.{◌≡◌, ◌≤◌, ◌+◌, ℕ, List, [], ◌∷◌, ◌++◌, length, Bool, true, false, ◌&&◌, ◌||◌, nat_le, IsTrue, refl, sym, ◌∙◌}
use Rattle.std.proofs.Common.{ap, subst, arith, Option, Some, None, Result, Ok, Err, if◌then◌else◌, take_all, length-append}
use Rattle.std.proofs.lemmas.Bool.{leb-true, ne_eqb, or_from}
use Rattle.std.specs.Char.{is_ascii_digit}
use Rattle.std.specs.Fmt.{decimal}
use Rattle.std.specs.List.{list_any, list_all}
use Rattle.std.specs.Str.{bytes_eq}
use Rattle.std.specs.Cmp.{first_so, second_so}
use Rattle.std.proofs.lemmas.Option.{same_Some}
use Rattle.sv_types.specs.Kernel.{header_entry, kernel_refusal}
use Rattle.sv_types.specs.Numbers.{is_number, decimal_value, number_within}
use Rattle.sv_types.specs.Policies.{Rules}
use Rattle.sv_types.specs.Schedule.{Schedule, first_events}
use Rattle.sv_types.specs.declared.event.Event.{Event}
use Rattle.sv_types.specs.declared.image_fault.ImageFault.{ImageFault}
use Rattle.sv_types.specs.declared.event.Event.TheVariants.{Turn, Beat, Key, Tick, Poke}
use Rattle.sv_types.specs.Limits.{max_events, max_disk_bytes}
use Rattle.policy.specs.Refusals.{Judged}
use Rattle.policy.specs.Text.{rules_of_text}
use Rattle.spec_reference.specs.Start.{boot_start, virtio_start, start as begin}
use Rattle.spec_reference.specs.States.{State, has_number}
use Rattle.host_io.specs.Outside.{FilesState}
use Rattle.script.proofs.FirstEvents.{first_listed, first_few}
use Rattle.script.specs.AutoScripts.{events_of_text, first_refused}
use Rattle.cli_plans.specs.declared.command_words.table.CommandName.TheVariants as command
use Rattle.cli_plans.specs.declared.command_words.table.CommandName.{CommandName}
use Rattle.cli_plans.specs.Commands.{Named, RunSplit, LiveSplit, has_dash, live_name, run_name, name_of, named_by, named_shape, named_words}
use Rattle.live_keys.specs.Line.{StartsWith, max_keys}
use Rattle.live_keys.specs.Placed.{keys_among, others_among}
use Rattle.live_keys.proofs.JournalLines.{number_back}
use Rattle.cli_plans.specs.declared.file_fault.FileFault.{FileFault}
use Rattle.cli_plans.specs.declared.file_fault.Part.{Part}
use Rattle.cli_plans.specs.declared.refusal.Refusal.{Refusal}
use Rattle.cli_plans.specs.declared.refusal.Refusal.TheVariants.{Measure, Entry}
use Rattle.cli_plans.specs.declared.command_words.command.DiskKind.{DiskKind}
use Rattle.cli_plans.specs.CommandLine.{Command, Run, RunWords, Source, Text, Auto, judgement_of_words, named_judged, command_after}
use Rattle.cli_plans.specs.CommandLine.{live_after, run_words, unless_none, LiveWords, unsaved_run, live_words, live_judged, max_live_events}
use Rattle.cli_plans.specs.Plans.{Due, Refuse, RunFrom, Plan, End, Judge, max_policy_bytes, max_image_bytes, max_script_bytes}
use Rattle.cli_plans.specs.Plans.{policy_judged, policy_part, part_judged, kernel_part, disk_refusal, disk_part, text_part, script_part}
use Rattle.cli_plans.specs.Plans.{image_measure, start_with, boot_judged, boot_plan, image_plan, run_plan, command_plan, plan_of}
use Rattle.cli_plans.specs.Reading.{Follows}
use Rattle.cli_plans.proofs.PlanLemmas.{Keeps}
use Rattle.cli_live.specs.LiveAnswers.{IsScriptOf}
use Rattle.secvisor_cli.specs.DueIn.{due_in}
use Rattle.secvisor_cli.proofs.DueLemmas.{held_before, due_held}
use Rattle.cli_live.specs.Replays.{LiveLine, live_line, run_line, NamesScript, Parts, HoldDisk, HoldParts}
use Rattle.cli_live.proofs.PlanLemmas.{part_gives, judge_gives}

-- ---- what was judged good

-- parts that are accepted under rules, and the state in which their machine starts
pub record AreGood (kind : DiskKind) (rules : Rules) (parts : Parts) (start : State) : Type 0 where
  pub policy_few : length parts.policy ≤ max_policy_bytes
  pub policy : rules_of_text parts.policy ≡ Ok rules
  pub image_few : length parts.image ≤ max_image_bytes
  pub image : kernel_refusal parts.image rules.ram_pages ≡ None
  pub disk_few : length parts.disk ≤ max_disk_bytes
  pub disk : disk_refusal parts.disk ≡ None
  pub boots : (events : List Event) (save : Option (List ℕ)) → boot_judged kind rules parts.image parts.disk events save ≡ RunFrom start events save
  pub harts : start.rules.harts ≡ rules.harts

policy_good : (next : Rules → Plan) (judged : Judged Rules) (now read : FilesState) (start : State) (events : List Event) (save : Option (List ℕ)) →
    Follows (policy_judged next judged) now read (Some (RunFrom start events save)) → (rules : Rules) × (judged ≡ Ok rules) × Follows (next rules) now read (Some (RunFrom start events save))
policy_good next (Ok rules) now read start events save it = (rules, refl, it)
policy_good next (Err fault) now read start events save it = absurd (cc it.0)

part_good : {F : Type 0} (file_fault : F → FileFault) (next : Plan) (found : Option F) (now read : FilesState) (start : State) (events : List Event) (save : Option (List ℕ)) →
    Follows (part_judged file_fault next found) now read (Some (RunFrom start events save)) → (found ≡ None) × Follows next now read (Some (RunFrom start events save))
part_good file_fault next None now read start events save it = (refl, it)
part_good file_fault next (Some fault) now read start events save it = absurd (cc it.0)

-- the disk's bytes, where the plan went on with them
record DiskGives (name : Option (List ℕ)) (next : List ℕ → Plan) (old read : FilesState) (due : Due) : Type 0 where
  pub bytes : List ℕ
  pub few : length bytes ≤ max_disk_bytes
  pub good : disk_refusal bytes ≡ None
  pub held : IsTrue old.tells → HoldDisk old.held name bytes
  pub now : FilesState
  pub rest : Follows (next bytes) now read (Some due)

disk_gives : (name : Option (List ℕ)) (next : List ℕ → Plan) (old read : FilesState) (start : State) (events : List Event) (save : Option (List ℕ)) →
    Follows (disk_part name next) old read (Some (RunFrom start events save)) → DiskGives name next old read (RunFrom start events save)
unfolding disk_part
disk_gives None next old read start events save it = record { bytes = []; few = omega arith; good = refl; held = λ _. refl; now = old; rest = it }
disk_gives (Some name) next old read start events save it =
    let p = part_gives Part.Disk name max_disk_bytes (λ bytes. part_judged (λ fault. fault) (next bytes) (disk_refusal bytes)) old read start events save it in
    let g = part_good (λ fault. fault) (next p.bytes) (disk_refusal p.bytes) p.now read start events save p.rest in
    record { bytes = p.bytes; few = p.few; good = g.0; held = p.held; now = p.now; rest = g.1 }

disk_before : (old now : FilesState) (name : Option (List ℕ)) (bytes : List ℕ) → Keeps old now → (IsTrue now.tells → HoldDisk now.held name bytes) → IsTrue old.tells → HoldDisk old.held name bytes
disk_before old now name bytes k found tells =
    subst (λ (h : List ℕ → Option (List ℕ)). HoldDisk h name bytes) k.held (found (subst (λ (b : Bool). IsTrue b) (sym k.tells) tells))

-- what a boot was judged by
record BootGives (measured entered : Bool) (first : State) (asked again : List Event) (other : Option (List ℕ)) (by_measure by_entry : Refusal) (start : State) (events : List Event) : Type 0 where
  pub events_are : asked ≡ events
  pub start_is : start ≡ first
  pub boots : (if measured then (if entered then RunFrom first again other else Refuse by_entry) else Refuse by_measure) ≡ RunFrom start again other

boot_gives : (measured entered : Bool) (first : State) (asked again : List Event) (one other : Option (List ℕ)) (by_measure by_entry : Refusal) (start : State)
    (events : List Event) (save : Option (List ℕ)) →
    (if measured then (if entered then RunFrom first asked one else Refuse by_entry) else Refuse by_measure) ≡ RunFrom start events save →
    BootGives measured entered first asked again other by_measure by_entry start events
boot_gives true true first asked again one other by_measure by_entry start events save is =
    let same : first ≡ start = cc is in
    record { events_are = cc is; start_is = sym same; boots = ap (λ (s : State). RunFrom s again other) same }
boot_gives _ _ first asked again one other by_measure by_entry start events save is = absurd (cc is)

booted : (kind : DiskKind) (rules : Rules) (file disk : List ℕ) (asked again : List Event) (one other : Option (List ℕ)) (start : State) (events : List Event) (save : Option (List ℕ)) →
    boot_judged kind rules file disk asked one ≡ RunFrom start events save →
    (asked ≡ events) × (start ≡ start_with kind rules file disk) × (boot_judged kind rules file disk again other ≡ RunFrom start again other)
unfolding boot_judged
booted kind rules file disk asked again one other start events save is =
    let it = boot_gives (bytes_eq (image_measure file) rules.kernel) (has_number rules.entries (header_entry file)) (start_with kind rules file disk) asked again one other
    (Measure (image_measure file) rules.kernel) (Entry (header_entry file)) start events save is in
    (it.events_are, it.start_is, it.boots)

start_harts : (kind : DiskKind) (rules : Rules) (file disk : List ℕ) (start : State) → start ≡ start_with kind rules file disk → start.rules.harts ≡ rules.harts
unfolding boot_start virtio_start begin
start_harts DiskKind.Block rules file disk start is = ap (λ (s : State). s.rules.harts) is
start_harts DiskKind.Virtio rules file disk start is = ap (λ (s : State). s.rules.harts) is

-- what is known where `live` went on to a run
pub record RunGives (line : LiveLine) (count : ℕ) (old : FilesState) (start : State) (asked : List Event) : Type 0 where
  pub rules : Rules
  pub parts : Parts
  pub good : AreGood line.kind rules parts start
  pub found : IsTrue old.tells → HoldParts old.held line parts
  pub asked_are : first_events count (Schedule.Auto rules.harts 0) ≡ asked

-- after the image: the disk and the boot
record AfterImage (line : LiveLine) (count : ℕ) (rules : Rules) (file : List ℕ) (old : FilesState) (start : State) (asked : List Event) : Type 0 where
  pub bytes : List ℕ
  pub few : length bytes ≤ max_disk_bytes
  pub good : disk_refusal bytes ≡ None
  pub held : IsTrue old.tells → HoldDisk old.held (unless_none line.disk) bytes
  pub asked_are : first_events count (Schedule.Auto rules.harts 0) ≡ asked
  pub start_is : start ≡ start_with line.kind rules file bytes
  pub boots : (events : List Event) (save : Option (List ℕ)) → boot_judged line.kind rules file bytes events save ≡ RunFrom start events save

after_image : (line : LiveLine) (count : ℕ) (rules : Rules) (file : List ℕ) (old read : FilesState) (start : State) (asked : List Event) (save : Option (List ℕ)) →
    Follows (boot_plan (unsaved_run line.kind line.image line.policy line.disk (Auto 0) count) rules file) old read (Some (RunFrom start asked save)) → AfterImage line count rules file old start asked
unfolding boot_plan script_part
after_image line count rules file old read start asked save follows =
    let d = disk_gives (unless_none line.disk) (λ disk. Judge (End (boot_judged line.kind rules file disk (first_events count (Schedule.Auto rules.harts 0)) None))) old read
    start asked save follows in
    let ended = judge_gives (End (boot_judged line.kind rules file d.bytes (first_events count (Schedule.Auto rules.harts 0)) None)) d.now read (RunFrom start asked save) d.rest in
    let is : boot_judged line.kind rules file d.bytes (first_events count (Schedule.Auto rules.harts 0)) None ≡ RunFrom start asked save = sym (same_Some _ _ ended.0) in
    let it = booted line.kind rules file d.bytes (first_events count (Schedule.Auto rules.harts 0)) [] None None start asked save is in
    record {
      bytes = d.bytes;
      few = d.few;
      good = d.good;
      held = d.held;
      asked_are = it.0;
      start_is = it.1;
      boots = λ events other. (booted line.kind rules file d.bytes (first_events count (Schedule.Auto rules.harts 0)) events None other start asked save is).2;
    }

-- after the policy: the image, and what stands after it
record AfterPolicy (line : LiveLine) (count : ℕ) (rules : Rules) (old : FilesState) (start : State) (asked : List Event) : Type 0 where
  pub bytes : List ℕ
  pub few : length bytes ≤ max_image_bytes
  pub good : kernel_refusal bytes rules.ram_pages ≡ None
  pub held : IsTrue old.tells → old.held line.image ≡ Some bytes
  pub now : FilesState
  pub keeps : Keeps old now
  pub rest : AfterImage line count rules bytes now start asked

after_policy : (line : LiveLine) (count : ℕ) (rules : Rules) (old read : FilesState) (start : State) (asked : List Event) (save : Option (List ℕ)) →
    Follows (image_plan (unsaved_run line.kind line.image line.policy line.disk (Auto 0) count) rules) old read (Some (RunFrom start asked save)) → AfterPolicy line count rules old start asked
unfolding image_plan kernel_part
after_policy line count rules old read start asked save follows =
    let words : RunWords = unsaved_run line.kind line.image line.policy line.disk (Auto 0) count in
    let p = part_gives Part.Image line.image max_image_bytes (λ file. Judge (part_judged FileFault.Image (boot_plan words rules file) (kernel_refusal file rules.ram_pages))) old
    read start asked save follows in
    let checked = judge_gives (part_judged FileFault.Image (boot_plan words rules p.bytes) (kernel_refusal p.bytes rules.ram_pages)) p.now read (RunFrom start asked save) p.rest in
    let g = part_good FileFault.Image (boot_plan words rules p.bytes) (kernel_refusal p.bytes rules.ram_pages) p.now read start asked save checked in
    record { bytes = p.bytes; few = p.few; good = g.0; held = p.held; now = p.now; keeps = p.keeps; rest = after_image line count rules p.bytes p.now read start asked save g.1 }

pub run_gives : (line : LiveLine) (count : ℕ) (old read : FilesState) (start : State) (asked : List Event) (save : Option (List ℕ)) →
    Follows (run_plan (unsaved_run line.kind line.image line.policy line.disk (Auto 0) count)) old read (Some (RunFrom start asked save)) → RunGives line count old start asked
unfolding run_plan policy_part
run_gives line count old read start asked save follows =
    let words : RunWords = unsaved_run line.kind line.image line.policy line.disk (Auto 0) count in
    let p = part_gives Part.Policy line.policy max_policy_bytes (λ bytes. Judge (policy_judged (image_plan words) (rules_of_text bytes))) old read start asked save follows in
    let g = policy_good (image_plan words) (rules_of_text p.bytes) p.now read start asked save (judge_gives (policy_judged (image_plan words) (rules_of_text p.bytes)) p.now read
    (RunFrom start asked save) p.rest) in
    let i : AfterPolicy line count g.0 p.now start asked = after_policy line count g.0 p.now read start asked save g.2 in
    let d : AfterImage line count g.0 i.bytes i.now start asked = i.rest in
    record {
      rules = g.0;
      parts = record { image = i.bytes; policy = p.bytes; disk = d.bytes };
      good = record {
        policy_few = p.few;
        policy = g.1;
        image_few = i.few;
        image = i.good;
        disk_few = d.few;
        disk = d.good;
        boots = d.boots;
        harts = start_harts line.kind g.0 i.bytes d.bytes start d.start_is;
      };
      found = λ tells. record {
        image = held_before old p.now line.image (Some i.bytes) p.keeps i.held tells;
        policy = p.held tells;
        disk = disk_before old p.now (unless_none line.disk) d.bytes p.keeps (disk_before p.now i.now (unless_none line.disk) d.bytes i.keeps d.held) tells;
      };
      asked_are = d.asked_are;
    }

-- ---- what `run`, or `vrun`, is due

abbrev pub again_run : LiveLine → (script : List ℕ) → (events : ℕ) → (save : Option (List ℕ)) → RunWords
again_run line script events save = record {
  kind = line.kind;
  image = line.image;
  policy = line.policy;
  disk = unless_none line.disk;
  script = Text script;
  events = events;
  save = save;
}

first_all : (count : ℕ) (events : List Event) → length events ≤ count → first_events count (Schedule.Listed events) ≡ events
first_all count events few = first_listed count events ∙ take_all count events few

disk_due : (held : List ℕ → Option (List ℕ)) (name : Option (List ℕ)) (next : List ℕ → Plan) (bytes : List ℕ) → HoldDisk held name bytes → length bytes ≤ max_disk_bytes → disk_refusal bytes ≡ None →
    due_in held (disk_part name next) ≡ due_in held (next bytes)
unfolding disk_part
disk_due held None next bytes is few good = ap (λ (disk : List ℕ). due_in held (next disk)) (sym is)
disk_due held (Some name) next bytes is few good =
    due_held held Part.Disk name max_disk_bytes (λ disk. part_judged (λ fault. fault) (next disk) (disk_refusal disk)) bytes is few
    ∙ ap (λ (found : Option FileFault). due_in held (part_judged (λ fault. fault) (next bytes) found)) good

script_due : (held : List ℕ → Option (List ℕ)) (harts : ℕ) (script text : List ℕ) (journal : List Event) (next : Schedule → Plan) → held script ≡ Some text → IsScriptOf harts journal text →
    due_in held (script_part harts (Text script) next) ≡ due_in held (next (Schedule.Listed journal))
unfolding script_part text_part
script_due held harts script text journal next is it =
    due_held held Part.Script script max_script_bytes (λ bytes. Judge (part_judged FileFault.ScriptLine (next (Schedule.Listed (events_of_text harts bytes))) (first_refused bytes))) text is it.short
    ∙ ap (λ (found : Option ℕ). due_in held (part_judged FileFault.ScriptLine (next (Schedule.Listed (events_of_text harts text))) found)) it.accepted
    ∙ ap (λ (events : List Event). due_in held (next (Schedule.Listed events))) it.reads

boot_due : (line : LiveLine) (rules : Rules) (parts : Parts) (start : State) (journal : List Event) (held : List ℕ → Option (List ℕ)) (script text : List ℕ) (events : ℕ) (save : Option (List ℕ)) →
    AreGood line.kind rules parts start → HoldParts held line parts → held script ≡ Some text → IsScriptOf rules.harts journal text → length journal ≤ events →
    due_in held (boot_plan (again_run line script events save) rules parts.image) ≡ RunFrom start journal save
unfolding boot_plan
boot_due line rules parts start journal held script text events save good holds is it few =
    disk_due held (unless_none line.disk)
    (λ disk. script_part rules.harts (Text script) (λ schedule. Judge (End (boot_judged line.kind rules parts.image disk (first_events events schedule) save))))
    parts.disk holds.disk good.disk_few good.disk
    ∙ script_due held rules.harts script text journal (λ schedule. Judge (End (boot_judged line.kind rules parts.image parts.disk (first_events events schedule) save))) is it
    ∙ good.boots (first_events events (Schedule.Listed journal)) save
    ∙ ap (λ (es : List Event). RunFrom start es save) (first_all events journal few)

pub run_due : (line : LiveLine) (rules : Rules) (parts : Parts) (start : State) (journal : List Event) (held : List ℕ → Option (List ℕ)) (script text : List ℕ) (events : ℕ) (save : Option (List ℕ)) →
    AreGood line.kind rules parts start → HoldParts held line parts → held script ≡ Some text → IsScriptOf rules.harts journal text → length journal ≤ events →
    due_in held (run_plan (again_run line script events save)) ≡ RunFrom start journal save
unfolding run_plan policy_part image_plan kernel_part
run_due line rules parts start journal held script text events save good holds is it few =
    let words : RunWords = again_run line script events save in
    due_held held Part.Policy line.policy max_policy_bytes (λ bytes. Judge (policy_judged (image_plan words) (rules_of_text bytes))) parts.policy holds.policy good.policy_few
    ∙ ap (λ (judged : Judged Rules). due_in held (policy_judged (image_plan words) judged)) good.policy
    ∙ due_held held Part.Image line.image max_image_bytes (λ file. kernel_part rules file (boot_plan words rules file)) parts.image holds.image good.image_few
    ∙ ap (λ (found : Option ImageFault). due_in held (part_judged FileFault.Image (boot_plan words rules parts.image) found)) good.image
    ∙ boot_due line rules parts start journal held script text events save good holds is it few

-- ---- the words

or_first : (a b : Bool) → a || b ≡ false → a ≡ false
or_first false b is = refl
or_first true b is = absurd (cc is)

or_second : (a b : Bool) → a || b ≡ false → b ≡ false
or_second false b is = is
or_second true b is = absurd (cc is)

-- the names of the commands
live_named : (kind : DiskKind) → name_of (live_name kind) ≡ Some (command.Live kind)
live_named DiskKind.Block = refl
live_named DiskKind.Virtio = refl

run_named : (kind : DiskKind) → name_of (run_name kind) ≡ Some (command.Run kind)
run_named DiskKind.Block = refl
run_named DiskKind.Virtio = refl

run_plain : (kind : DiskKind) → has_dash (run_name kind) ≡ false
run_plain DiskKind.Block = refl
run_plain DiskKind.Virtio = refl

-- the words of a live run that are good
pub record LineGood (line : LiveLine) (words : LiveWords) : Type 0 where
  pub image : has_dash line.image ≡ false
  pub policy : has_dash line.policy ≡ false
  pub disk : has_dash line.disk ≡ false
  pub count : ℕ
  pub few : count ≤ max_live_events
  pub words_are : words ≡ record { run = unsaved_run line.kind line.image line.policy line.disk (Auto 0) count; out = line.out }

-- a text that is a number within its range
record IsWithin (number high_enough : Bool) (value n : ℕ) : Type 0 where
  pub number_is : number ≡ true
  pub high_is : high_enough ≡ true
  pub value_is : value ≡ n

within_by : (number low_enough high_enough : Bool) (value n : ℕ) → (if number && low_enough && high_enough then Some value else None) ≡ Some n → IsWithin number high_enough value n
within_by true true true value n is = record { number_is = refl; high_is = refl; value_is = cc is }
within_by _ _ _ value n is = absurd (cc is)

within_high : (low high n : ℕ) (text : List ℕ) → number_within low high text ≡ Some n → n ≤ high
unfolding number_within
within_high low high n text is =
    let it = within_by (is_number text) (nat_le low (decimal_value 0 text)) (nat_le (decimal_value 0 text) high) (decimal_value 0 text) n is in
    subst (λ (k : ℕ). k ≤ high) it.value_is (leb-true (decimal_value 0 text) high it.high_is)

abbrev split_of : LiveLine → LiveSplit
split_of line = record { kind = line.kind; image = line.image; policy = line.policy; disk = line.disk; events = line.events; out = line.out }

named_good : (line : LiveLine) (count : Option ℕ) (words : LiveWords) → ((n : ℕ) → count ≡ Some n → n ≤ max_live_events) → has_dash line.image ≡ false → has_dash line.policy ≡
    false → has_dash line.disk ≡ false →
    live_words (split_of line) count ≡ Ok words → LineGood line words
unfolding live_words
named_good line None words within image policy disk is = absurd (cc is)
named_good line (Some count) words within image policy disk is =
    record { image = image; policy = policy; disk = disk; count = count; few = within count refl; words_are = sym (cc is) }

line_by : (line : LiveLine) (dashed : Bool) (words : LiveWords) → list_any has_dash (live_line line) ≡ dashed →
    named_judged live_after (if dashed then None else named_shape (live_line line)) ≡ Ok words → LineGood line words
line_by line true words any is = absurd (cc is)
line_by line false words any is =
    let rest : List (List ℕ) = line.image ∷ line.policy ∷ line.disk ∷ line.events ∷ line.out ∷ [] in
    let good = subst (λ (name : Option CommandName). named_judged live_after (named_by name rest) ≡ Ok words) (live_named line.kind) is in
    let image : list_any has_dash rest ≡ false = or_second (has_dash (live_name line.kind)) _ any in
    let policy = or_second (has_dash line.image) _ image in
    let disk = or_second (has_dash line.policy) _ policy in
    named_good line (number_within 0 max_live_events line.events) words (λ n within. within_high 0 max_live_events n line.events within)
    (or_first (has_dash line.image) _ image) (or_first (has_dash line.policy) _ policy) (or_first (has_dash line.disk) _ disk) good

pub line_good : (line : LiveLine) (words : LiveWords) → live_judged (live_line line) ≡ Ok words → LineGood line words
unfolding live_judged named_words
line_good line words is = line_by line (list_any has_dash (live_line line)) words refl is

-- ---- the words of `run`, or of `vrun`

digit_dash : (word : List ℕ) → list_all is_ascii_digit word ≡ true → has_dash word ≡ false
digit_dash [] all = refl
digit_dash (first ∷ rest) all =
    let digit : nat_le 48 first && nat_le first 57 ≡ true = first_so (is_ascii_digit first) (list_all is_ascii_digit rest) all in
    let above : 48 ≤ first = leb-true 48 first (first_so (nat_le 48 first) (nat_le first 57) digit) in
    ne_eqb first 45 (λ is. omega arith)

number_dash : (low high n : ℕ) (word : List ℕ) → number_within low high word ≡ Some n → has_dash word ≡ false
unfolding number_within
number_dash low high n word is =
    let it = within_by (is_number word) (nat_le low (decimal_value 0 word)) (nat_le (decimal_value 0 word) high) (decimal_value 0 word) n is in
    digit_dash word (second_so (nat_le 1 (length word) && nat_le (length word) 20) (list_all is_ascii_digit word) it.number_is)

number_of_run : (events : ℕ) → events ≤ max_events → number_within 0 max_events (decimal events) ≡ Some events
number_of_run events few = number_back 0 max_events events (omega arith) (omega arith) few

no_dash : (line : LiveLine) (words : LiveWords) (script : List ℕ) (events : ℕ) (save : List ℕ) → LineGood line words → NamesScript script → has_dash save ≡ false → events ≤ max_events →
    list_any has_dash (run_line line script events save) ≡ false
no_dash line words script events save good names saves few =
    or_from (has_dash (run_name line.kind)) _ (run_plain line.kind)
    (or_from (has_dash line.image) _ good.image
    (or_from (has_dash line.policy) _ good.policy
    (or_from (has_dash line.disk) _ good.disk
    (or_from (has_dash script) _ names.dash
    (or_from (has_dash (decimal events)) _ (number_dash 0 max_events events (decimal events) (number_of_run events few))
    (or_from (has_dash save) false saves refl))))))

named_as : (line : LiveLine) (script : List ℕ) (events : ℕ) (save : List ℕ) → list_any has_dash (run_line line script events save) ≡ false →
    named_words (run_line line script events save) ≡ Some (record {
      command = command.Run line.kind;
      rest = line.image ∷ line.policy ∷ line.disk ∷ script ∷ decimal events ∷ save ∷ [];
    })
unfolding named_words
named_as line script events save none =
    ap (λ (b : Bool). if b then None else named_shape (run_line line script events save)) none
    ∙ ap (λ (name : Option CommandName). named_by name (line.image ∷ line.policy ∷ line.disk ∷ script ∷ decimal events ∷ save ∷ [])) (run_named line.kind)

pub run_judged_as : (line : LiveLine) (words : LiveWords) (script : List ℕ) (events : ℕ) (save : List ℕ) → LineGood line words → NamesScript script → has_dash save ≡ false → events ≤ max_events →
    judgement_of_words (run_line line script events save) ≡ Ok (Run (again_run line script events (unless_none save)))
unfolding judgement_of_words run_words
run_judged_as line words script events save good names saves few =
    let split : RunSplit = record { kind = line.kind; image = line.image; policy = line.policy; disk = line.disk; script = script; events = decimal events; save = save } in
    ap (λ (named : Option Named). named_judged command_after named) (named_as line script events save (no_dash line words script events save good names saves few))
    ∙ ap (λ (source : Option Source). run_words split source (number_within 0 max_events (decimal events))) names.file
    ∙ ap (λ (count : Option ℕ). run_words split (Some (Text script)) count) (number_of_run events few)

-- what is due by the words is due by its plan
pub words_due : (line : LiveLine) (words : LiveWords) (script : List ℕ) (events : ℕ) (save : List ℕ) (held : List ℕ → Option (List ℕ)) → LineGood line words → NamesScript script →
    has_dash save ≡ false →
    events ≤ max_events → due_in held (plan_of (judgement_of_words (run_line line script events save))) ≡ due_in held (run_plan (again_run line script events (unless_none save)))
unfolding command_plan
words_due line words script events save held good names saves few =
    ap (λ (asked : Result Command Refusal). due_in held (plan_of asked)) (run_judged_as line words script events save good names saves few)

-- ---- how many events there are

events_among : (events : List Event) → length events ≡ length (keys_among events) + length (others_among events)
events_among [] = refl
events_among (Key byte ∷ events) = let rest = events_among events in omega arith
events_among (Turn hart ∷ events) = let rest = events_among events in omega arith
events_among (Beat ∷ events) = let rest = events_among events in omega arith
events_among (Tick ticks ∷ events) = let rest = events_among events in omega arith
events_among (Poke gpa value ∷ events) = let rest = events_among events in omega arith

-- with every key the events of a live run are at most 2^32
pub journal_few : (journal left asked : List Event) (bytes keys : List ℕ) (count : ℕ) (script : Schedule) → others_among journal ++ left ≡ asked → first_events count script ≡
    asked → count ≤ max_live_events →
    keys_among journal ≡ keys → StartsWith bytes keys → length bytes ≤ max_keys → length journal ≤ max_events
journal_few journal left asked bytes keys count script others drawn few keys_are front most =
    let all : length journal ≡ length (keys_among journal) + length (others_among journal) = events_among journal in
    let some : length (others_among journal) + length left ≡ length asked = sym (length-append (others_among journal) left) ∙ ap (λ (es : List Event). length es) others in
    let asked_few : length asked ≤ count = subst (λ (es : List Event). length es ≤ count) drawn (first_few count script) in
    let read : length keys + length front.rest ≡ length bytes = sym (length-append keys front.rest) ∙ ap (λ (bs : List ℕ). length bs) front.split in
    let same : length (keys_among journal) ≡ length keys = ap (λ (bs : List ℕ). length bs) keys_are in
    omega arith
