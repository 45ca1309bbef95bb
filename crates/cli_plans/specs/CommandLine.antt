-- The words of a command line by their names: what they ask for, or the first one that is out of its range. This
-- project's own.
use Rattle.std.specs.Prelude.{ℕ, ◌^◌, ◌-◌, ◌+◌, nat_lt, List, if◌then◌else◌, Option, Some, None, option_map, take, drop, Result, Ok, Err, codes}
use Rattle.std.specs.Prelude.{Bool, true, false, not}
use Rattle.std.specs.Str.{bytes_eq}
use Rattle.cli_plans.specs.declared.command_words.command.DiskKind.{DiskKind}
use Rattle.cli_plans.specs.declared.command_words.table.CommandName.{CommandName}
use Rattle.cli_plans.specs.declared.command_words.table.CommandName.TheVariants as command
use Rattle.cli_plans.specs.Commands.{Named, FlatSplit, RunSplit, SurveySplit, LiveSplit, SnapSplit, SweepSplit, ResumeSplit, ShowSplit, MeasureSplit}
use Rattle.cli_plans.specs.Commands.{ConvertSplit, flat_split, gen_split, run_split, survey_split, live_split, snap_split, sweep_split}
use Rattle.cli_plans.specs.Commands.{resume_split, show_split, measure_split, convert_split, named_words}
use Rattle.sv_types.specs.Numbers.{number_within, digest_of}
use Rattle.spec_processor.specs.Regions.{max_ram_pages}
use Rattle.sv_types.specs.declared.module.Span.{Span}
use Rattle.sv_types.specs.Limits.{max_events, max_harts, min_ram_pages}
use Rattle.guest_gen.specs.GuestCode.{max_calls}
use Rattle.live_keys.specs.Line.{max_keys}
use Rattle.policy_making.specs.Making.{Terms}
use Rattle.policy_making.specs.WordRanges.{are_entries, entries_of, span_of, are_module_names}
use Rattle.cli_plans.specs.declared.words.DrawnOrder.{DrawnOrder}
use Rattle.cli_plans.specs.declared.words.DrawnOrder.TheVariants as drawn
use Rattle.cli_plans.specs.declared.refusal.Word.{Word}
use Rattle.cli_plans.specs.declared.refusal.Refusal.{Refusal}
use Rattle.cli_plans.specs.declared.refusal.Refusal.TheVariants.{NoCommand, OutOfRange}

-- where the events of a run come from
pub data Source : Type 0 where
  -- the harts in turn
  Rounds : Source
  -- drawn after a number
  Auto : (number : ℕ) → Source
  -- bursts of one hart, drawn after a number
  Bursts : (number : ℕ) → Source
  -- the text of a file
  Text : (name : List ℕ) → Source

-- a run of an image under a policy
pub record RunWords : Type 0 where
  -- which block device the machine has
  pub kind : DiskKind
  pub image : List ℕ
  pub policy : List ℕ
  -- none for an empty disk
  pub disk : Option (List ℕ)
  pub script : Source
  pub events : ℕ
  -- where the disk is saved after the report, if it is
  pub save : Option (List ℕ)

-- a policy that is made of a kernel and of modules
pub record PolicyWords : Type 0 where
  -- the name that it is saved under
  pub out : List ℕ
  pub kernel : List ℕ
  -- what it says besides its files
  pub terms : Terms
  -- the names of the modules' objects
  pub modules : List (List ℕ)

-- a run whose events are drawn, and the name that its script is saved under
pub record LiveWords : Type 0 where
  pub run : RunWords
  pub out : List ℕ

-- a run, and the name that its snapshot, or its small script, is saved under
pub record SnapWords : Type 0 where
  pub run : RunWords
  pub out : List ℕ

-- the runs of so many numbers, each of which draws the order of its run
pub record SweepWords : Type 0 where
  pub image : List ℕ
  pub policy : List ℕ
  -- none for an empty disk
  pub disk : Option (List ℕ)
  pub order : DrawnOrder
  pub first : ℕ
  pub count : ℕ
  -- the most events of each run
  pub events : ℕ

-- a run that goes on from a snapshot
pub record ResumeWords : Type 0 where
  pub saved : List ℕ
  pub policy : List ℕ
  -- the script of the whole run
  pub script : Source
  -- the most events of the whole run
  pub events : ℕ
  -- where the disk is saved after the report, if it is
  pub save : Option (List ℕ)

-- a command of the top call. `survey`, `debug`, `live`, `snap`, `sweep`, `shrink`, `resume` and `show` have calls of their own
pub data Command : Type 0 where
  Flat : (file wanted : List ℕ) → (events : ℕ) → Command
  -- the generated guest, which calls its kernel so many times
  Generated : (calls : ℕ) → Command
  Run : RunWords → Command
  MakePolicy : PolicyWords → Command
  -- a policy whose entries are bound to their places in a kernel
  Convert : ConvertSplit → Command

-- ---- flat FILE MEASURE EVENTS

unfoldable pub flat_words : List ℕ → Option (List ℕ) → Option ℕ → Result Command Refusal
flat_words file None events = Err (OutOfRange Word.Measure)
flat_words file (Some wanted) None = Err (OutOfRange Word.Events)
flat_words file (Some wanted) (Some events) = Ok (Flat file wanted events)

-- the ranges are judged from left to right
abbrev pub flat_judged : FlatSplit → Result Command Refusal
flat_judged w = flat_words w.file (digest_of w.wanted) (number_within 0 max_events w.events)

-- ---- gen N

unfoldable pub gen_words : Option ℕ → Result Command Refusal
gen_words None = Err (OutOfRange Word.Calls)
gen_words (Some calls) = Ok (Generated calls)

abbrev pub gen_judged : List ℕ → Result Command Refusal
gen_judged calls = gen_words (number_within 1 max_calls calls)

-- ---- run IMAGE POLICY DISK SCRIPT EVENTS SAVE, and vrun with the same words

-- a name, where the word isn't `none`
abbrev pub unless_none : List ℕ → Option (List ℕ)
unless_none word = if bytes_eq word (codes "none") then None else Some word

abbrev pub auto_of : List ℕ → Option Source
auto_of number = option_map Auto (number_within 0 (2 ^ 64 - 1) number)

abbrev pub bursts_of : List ℕ → Option Source
bursts_of number = option_map Bursts (number_within 0 (2 ^ 64 - 1) number)

-- a word that begins with `auto:` or `bursts:` goes on with a number, or is out of range
unfoldable pub source_of : List ℕ → Option Source
source_of word =
    if bytes_eq word (codes "none") then Some Rounds
    else if bytes_eq (take 5 word) (codes "auto:") then auto_of (drop 5 word)
    else if bytes_eq (take 7 word) (codes "bursts:") then bursts_of (drop 7 word)
    else Some (Text word)

abbrev pub is_text : Option Source → Bool
is_text (Some (Text name)) = true
is_text _ = false

-- whether a word as SCRIPT is no file
abbrev pub is_no_file : List ℕ → Bool
is_no_file word = not (is_text (source_of word))

abbrev pub run_of : RunSplit → Source → ℕ → RunWords
run_of w script events = record {
  kind = w.kind;
  image = w.image;
  policy = w.policy;
  disk = unless_none w.disk;
  script = script;
  events = events;
  save = unless_none w.save;
}

unfoldable pub run_words : RunSplit → Option Source → Option ℕ → Result Command Refusal
run_words w None events = Err (OutOfRange Word.Script)
run_words w (Some script) None = Err (OutOfRange Word.Events)
run_words w (Some script) (Some events) = Ok (Run (run_of w script events))

abbrev pub run_judged : RunSplit → Result Command Refusal
run_judged w = run_words w (source_of w.script) (number_within 0 max_events w.events)

-- ---- live IMAGE POLICY DISK EVENTS OUT, and vlive with the same words

-- with every key these are at most 2^32 events
abbrev pub max_live_events : ℕ
max_live_events = max_events - max_keys

-- the disk isn't saved alongside the script or the snapshot
abbrev pub unsaved_run : DiskKind → (image policy disk : List ℕ) → Source → (events : ℕ) → RunWords
unsaved_run kind image policy disk script events = record {
  kind = kind;
  image = image;
  policy = policy;
  disk = unless_none disk;
  script = script;
  events = events;
  save = None;
}

abbrev pub drawn_run : LiveSplit → (events : ℕ) → RunWords
drawn_run w events = unsaved_run w.kind w.image w.policy w.disk (Auto 0) events

unfoldable pub live_words : LiveSplit → Option ℕ → Result LiveWords Refusal
live_words w None = Err (OutOfRange Word.Events)
live_words w (Some events) = Ok (record { run = drawn_run w events; out = w.out })

abbrev pub live_of : LiveSplit → Result LiveWords Refusal
live_of w = live_words w (number_within 0 max_live_events w.events)

-- ---- survey IMAGE POLICY DISK SCRIPT EVENTS

unfoldable pub survey_words : (image policy disk : List ℕ) → Option Source → Option ℕ → Result RunWords Refusal
survey_words image policy disk None events = Err (OutOfRange Word.Script)
survey_words image policy disk (Some script) None = Err (OutOfRange Word.Events)
survey_words image policy disk (Some script) (Some events) = Ok (unsaved_run DiskKind.Block image policy disk script events)

abbrev pub survey_of : SurveySplit → Result RunWords Refusal
survey_of w = survey_words w.image w.policy w.disk (source_of w.script) (number_within 0 max_events w.events)

-- ---- snap IMAGE POLICY DISK SCRIPT EVENTS OUT, and vsnap with the same words

unfoldable pub snap_words : SnapSplit → Option Source → Option ℕ → Result SnapWords Refusal
snap_words w None events = Err (OutOfRange Word.Script)
snap_words w (Some script) None = Err (OutOfRange Word.Events)
snap_words w (Some script) (Some events) = Ok (record { run = unsaved_run w.kind w.image w.policy w.disk script events; out = w.out })

abbrev pub snap_of : SnapSplit → Result SnapWords Refusal
snap_of w = snap_words w (source_of w.script) (number_within 0 max_events w.events)

-- ---- sweep IMAGE POLICY DISK SCHEDULE FIRST COUNT EVENTS

abbrev pub drawn_order_of : List ℕ → Option DrawnOrder
drawn_order_of word =
    if bytes_eq word (codes "auto") then Some drawn.Auto else if bytes_eq word (codes "bursts") then Some drawn.Bursts else None

abbrev pub max_sweep_runs : ℕ
max_sweep_runs = 1000000

-- the most numbers from the first on that are below 2^64, at most a million
abbrev pub most_runs : (first : ℕ) → ℕ
most_runs first = if nat_lt (2 ^ 64 - 1 - first) max_sweep_runs then 2 ^ 64 - 1 - first + 1 else max_sweep_runs

unfoldable pub sweep_with : SweepSplit → DrawnOrder → (first : ℕ) → Option ℕ → Option ℕ → Result SweepWords Refusal
sweep_with w order first None events = Err (OutOfRange Word.Count)
sweep_with w order first (Some count) None = Err (OutOfRange Word.Events)
sweep_with w order first (Some count) (Some events) = Ok (record {
  image = w.image;
  policy = w.policy;
  disk = unless_none w.disk;
  order = order;
  first = first;
  count = count;
  events = events;
})

unfoldable pub sweep_words : SweepSplit → Option DrawnOrder → Option ℕ → Result SweepWords Refusal
sweep_words w None first = Err (OutOfRange Word.Schedule)
sweep_words w (Some order) None = Err (OutOfRange Word.First)
sweep_words w (Some order) (Some first) = sweep_with w order first (number_within 1 (most_runs first) w.count) (number_within 0 max_events w.events)

abbrev pub sweep_of : SweepSplit → Result SweepWords Refusal
sweep_of w = sweep_words w (drawn_order_of w.schedule) (number_within 0 (2 ^ 64 - 1) w.first)

-- where a number's events come from
abbrev pub drawn_source : DrawnOrder → (number : ℕ) → Source
drawn_source drawn.Auto number = Auto number
drawn_source drawn.Bursts number = Bursts number

-- the run of the first number
abbrev pub first_run : SweepWords → RunWords
first_run w = record {
  kind = DiskKind.Block;
  image = w.image;
  policy = w.policy;
  disk = w.disk;
  script = drawn_source w.order w.first;
  events = w.events;
  save = None;
}

-- ---- resume SNAPSHOT POLICY SCRIPT EVENTS SAVE

unfoldable pub resume_words : (saved policy save : List ℕ) → Option Source → Option ℕ → Result ResumeWords Refusal
resume_words saved policy save None events = Err (OutOfRange Word.Script)
resume_words saved policy save (Some script) None = Err (OutOfRange Word.Events)
resume_words saved policy save (Some script) (Some events) =
    Ok (record { saved = saved; policy = policy; script = script; events = events; save = unless_none save })

abbrev pub resume_of : ResumeSplit → Result ResumeWords Refusal
resume_of w = resume_words w.saved w.policy w.save (source_of w.script) (number_within 0 max_events w.events)

-- ---- measure OUT KERNEL RAM HARTS ENTRIES INIT MODULES...

abbrev pub entries_judged : List ℕ → Option (List ℕ)
entries_judged word = if are_entries word then Some (entries_of word) else None

-- the word `none` for no init pages
unfoldable pub init_of : (ram_pages : ℕ) → List ℕ → Option (Option Span)
init_of ram_pages word = if bytes_eq word (codes "none") then Some None else option_map Some (span_of ram_pages word)

unfoldable pub terms_with : (ram_pages harts : ℕ) → (entries : List ℕ) → Option (Option Span) → Result Terms Refusal
terms_with ram_pages harts entries None = Err (OutOfRange Word.Init)
terms_with ram_pages harts entries (Some init) = Ok (record { harts = harts; ram_pages = ram_pages; entries = entries; init = init })

unfoldable pub terms_words : (init : List ℕ) → Option ℕ → Option ℕ → Option (List ℕ) → Result Terms Refusal
terms_words init None harts entries = Err (OutOfRange Word.Ram)
terms_words init (Some ram_pages) None entries = Err (OutOfRange Word.Harts)
terms_words init (Some ram_pages) (Some harts) None = Err (OutOfRange Word.Entries)
terms_words init (Some ram_pages) (Some harts) (Some entries) = terms_with ram_pages harts entries (init_of ram_pages init)

abbrev pub terms_judged : (ram harts entries init : List ℕ) → Result Terms Refusal
terms_judged ram harts entries init = terms_words init (number_within min_ram_pages max_ram_pages ram) (number_within 1 max_harts harts)
    (entries_judged entries)

-- the modules are judged after the other words
unfoldable pub making_words : MeasureSplit → Result Terms Refusal → Result Command Refusal
making_words w (Err refusal) = Err refusal
making_words w (Ok terms) =
    if are_module_names w.modules then Ok (MakePolicy (record { out = w.out; kernel = w.kernel; terms = terms; modules = w.modules }))
    else Err (OutOfRange Word.Modules)

abbrev pub making_judged : MeasureSplit → Result Command Refusal
making_judged w = making_words w (terms_judged w.ram w.harts w.entries w.init)

-- ---- by the name of the command

-- words of another number are of no command
abbrev pub split_judged : {S A : Type 0} → (S → Result A Refusal) → Option S → Result A Refusal
split_judged judge None = Err NoCommand
split_judged judge (Some words) = judge words

-- none of the words of `convert` and of `show` is out of its range
abbrev pub command_after : CommandName → List (List ℕ) → Result Command Refusal
command_after command.Flat rest = split_judged flat_judged (flat_split rest)
command_after command.Generated rest = split_judged gen_judged (gen_split rest)
command_after (command.Run kind) rest = split_judged run_judged (run_split kind rest)
command_after command.Measure rest = split_judged making_judged (measure_split rest)
command_after command.Convert rest = split_judged (λ w. Ok (Convert w)) (convert_split rest)
command_after _ rest = Err NoCommand

abbrev pub survey_after : CommandName → List (List ℕ) → Result RunWords Refusal
survey_after command.Survey rest = split_judged survey_of (survey_split rest)
survey_after _ rest = Err NoCommand

-- the words of `survey`
abbrev pub debug_after : CommandName → List (List ℕ) → Result RunWords Refusal
debug_after command.Debug rest = split_judged survey_of (survey_split rest)
debug_after _ rest = Err NoCommand

abbrev pub live_after : CommandName → List (List ℕ) → Result LiveWords Refusal
live_after (command.Live kind) rest = split_judged live_of (live_split kind rest)
live_after _ rest = Err NoCommand

abbrev pub snap_after : CommandName → List (List ℕ) → Result SnapWords Refusal
snap_after (command.Snap kind) rest = split_judged snap_of (snap_split kind rest)
snap_after _ rest = Err NoCommand

abbrev pub sweep_after : CommandName → List (List ℕ) → Result SweepWords Refusal
sweep_after command.Sweep rest = split_judged sweep_of (sweep_split rest)
sweep_after _ rest = Err NoCommand

-- the words of `snap`
abbrev pub shrink_after : CommandName → List (List ℕ) → Result SnapWords Refusal
shrink_after command.Shrink rest = split_judged snap_of (snap_split DiskKind.Block rest)
shrink_after _ rest = Err NoCommand

abbrev pub resume_after : CommandName → List (List ℕ) → Result ResumeWords Refusal
resume_after command.Resume rest = split_judged resume_of (resume_split rest)
resume_after _ rest = Err NoCommand

abbrev pub show_after : CommandName → List (List ℕ) → Result ShowSplit Refusal
show_after command.Show rest = split_judged Ok (show_split rest)
show_after _ rest = Err NoCommand

-- ---- all words

abbrev pub named_judged : {A : Type 0} → (CommandName → List (List ℕ) → Result A Refusal) → Option Named → Result A Refusal
named_judged judge None = Err NoCommand
named_judged judge (Some n) = judge n.command n.rest

-- what the words of the top call ask for, or the first one that is out of its range
unfoldable pub judgement_of_words : List (List ℕ) → Result Command Refusal
judgement_of_words words = named_judged command_after (named_words words)

-- the same of each command that has a call of its own, which refuses the words of all others
unfoldable pub survey_judged : List (List ℕ) → Result RunWords Refusal
survey_judged words = named_judged survey_after (named_words words)

unfoldable pub debug_judged : List (List ℕ) → Result RunWords Refusal
debug_judged words = named_judged debug_after (named_words words)

unfoldable pub live_judged : List (List ℕ) → Result LiveWords Refusal
live_judged words = named_judged live_after (named_words words)

unfoldable pub snap_judged : List (List ℕ) → Result SnapWords Refusal
snap_judged words = named_judged snap_after (named_words words)

unfoldable pub sweep_judged : List (List ℕ) → Result SweepWords Refusal
sweep_judged words = named_judged sweep_after (named_words words)

unfoldable pub shrink_judged : List (List ℕ) → Result SnapWords Refusal
shrink_judged words = named_judged shrink_after (named_words words)

unfoldable pub resume_judged : List (List ℕ) → Result ResumeWords Refusal
resume_judged words = named_judged resume_after (named_words words)

unfoldable pub show_judged : List (List ℕ) → Result ShowSplit Refusal
show_judged words = named_judged show_after (named_words words)

-- ---- what is wrong with the words of any command

abbrev pub refusal_in : {A : Type 0} → Result A Refusal → Option Refusal
refusal_in (Ok asked) = None
refusal_in (Err refusal) = Some refusal

abbrev pub refusal_after : CommandName → List (List ℕ) → Option Refusal
refusal_after command.Flat rest = refusal_in (split_judged flat_judged (flat_split rest))
refusal_after command.Generated rest = refusal_in (split_judged gen_judged (gen_split rest))
refusal_after (command.Run kind) rest = refusal_in (split_judged run_judged (run_split kind rest))
refusal_after command.Survey rest = refusal_in (split_judged survey_of (survey_split rest))
refusal_after command.Debug rest = refusal_in (split_judged survey_of (survey_split rest))
refusal_after (command.Live kind) rest = refusal_in (split_judged live_of (live_split kind rest))
refusal_after (command.Snap kind) rest = refusal_in (split_judged snap_of (snap_split kind rest))
refusal_after command.Sweep rest = refusal_in (split_judged sweep_of (sweep_split rest))
refusal_after command.Shrink rest = refusal_in (split_judged snap_of (snap_split DiskKind.Block rest))
refusal_after command.Resume rest = refusal_in (split_judged resume_of (resume_split rest))
refusal_after command.Show rest = refusal_in (split_judged Ok (show_split rest))
refusal_after command.Measure rest = refusal_in (split_judged making_judged (measure_split rest))
refusal_after command.Convert rest = refusal_in (split_judged (λ words. Ok (Convert words)) (convert_split rest))

abbrev pub refusal_named : Option Named → Option Refusal
refusal_named None = Some NoCommand
refusal_named (Some n) = refusal_after n.command n.rest

-- none where nothing is
unfoldable pub refusal_of_words : List (List ℕ) → Option Refusal
refusal_of_words words = refusal_named (named_words words)
