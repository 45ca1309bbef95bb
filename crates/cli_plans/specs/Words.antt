-- What judging and reading the words answers.
use Rattle.std.specs.Prelude.{ℕ, ◌≡◌, ◌≤◌, ◌+◌, ◌^◌, IsTrue, List, [], ◌∷◌, Option, Some, None, codes, map, Result, Ok, Err}
use Rattle.clap.specs.Words.{Row}
use Rattle.cli_plans.specs.Values.{convert_split_of}
use Rattle.std.specs.Option.{option_copied}
use Rattle.std.specs.Result.{is_ok}
use Rattle.sv_types.specs.Limits.{max_events}
use Rattle.guest_gen.specs.GuestCode.{max_calls}
use Rattle.policy_making.specs.Making.{Terms}
use Rattle.policy_making.specs.Ranges.{terms_within}
use Rattle.policy_making.specs.WordRanges.{entries_of, are_module_names}
use Rattle.cli_plans.specs.declared.command_words.command.DiskKind.{DiskKind}
use Rattle.cli_plans.specs.declared.refusal.Refusal.{Refusal}
use Rattle.cli_plans.specs.declared.words.Command.{Command as Asked}
use Rattle.cli_plans.specs.declared.words.Command.TheVariants as asked
use Rattle.cli_plans.specs.declared.words.Source.{Source as Named}
use Rattle.cli_plans.specs.declared.words.Source.TheVariants as named
use Rattle.cli_plans.specs.declared.words.Run.{Run as AskedRun}
use Rattle.cli_plans.specs.declared.words.Terms.{Terms as AskedTerms}
use Rattle.cli_plans.specs.declared.words.Live.{Live}
use Rattle.cli_plans.specs.declared.words.Snap.{Snap}
use Rattle.cli_plans.specs.declared.words.Sweep.{Sweep}
use Rattle.cli_plans.specs.declared.words.Resume.{Resume}
use Rattle.cli_plans.specs.declared.asking.Unread.{Unread}
use Rattle.cli_plans.specs.declared.asking.Unread.TheVariants.{Refused, Memory}
use Rattle.cli_plans.specs.declared.words.MakePolicy.{MakePolicy as AskedPolicy}
use Rattle.cli_plans.specs.CommandLine.{Command, Flat, Generated, Run, RunWords, LiveWords, SnapWords, SweepWords, ResumeWords}
use Rattle.cli_plans.specs.CommandLine.{max_live_events, MakePolicy, PolicyWords, Convert, Source, Rounds, Auto, Bursts, Text}
use Rattle.cli_plans.specs.CommandLine.{drawn_run, run_of, split_judged, unless_none, unsaved_run}
use Rattle.cli_plans.specs.Commands.{FlatSplit, RunSplit, SurveySplit, LiveSplit, SnapSplit, SweepSplit, ResumeSplit, MeasureSplit}
use Rattle.cli_plans.specs.Parsing.{Want, One, word_of}
use Rattle.cli_plans.specs.declared.refusal.Refusal.TheVariants.{NoCommand, OutOfRange}
use Rattle.cli_plans.specs.declared.refusal.Word.{Word}
use Rattle.cli_plans.specs.declared.words.FlatTerms.{FlatTerms}
use Rattle.cli_plans.specs.declared.words.Order.{Order}
use Rattle.cli_plans.specs.declared.words.Draws.{Draws}

-- where the events come from, by value
abbrev pub source_value : Named → Source
source_value named.Rounds = Rounds
source_value (named.Auto number) = Auto number
source_value (named.Bursts number) = Bursts number
source_value (named.Text name) = Text name.now

abbrev pub run_value : AskedRun → RunWords
run_value run = record {
  kind = run.kind;
  image = run.image.now;
  policy = run.policy.now;
  disk = option_copied run.disk;
  script = source_value run.script;
  events = run.events;
  save = option_copied run.save;
}

abbrev pub live_value : Live → LiveWords
live_value live = record { run = run_value live.run; out = live.out.now }

abbrev pub snap_value : Snap → SnapWords
snap_value snap = record { run = run_value snap.run; out = snap.out.now }

abbrev pub sweep_value : Sweep → SweepWords
sweep_value sweep = record {
  image = sweep.image.now;
  policy = sweep.policy.now;
  disk = option_copied sweep.disk;
  order = sweep.order;
  first = sweep.first;
  count = sweep.count;
  events = sweep.events;
}

abbrev pub resume_value : Resume → ResumeWords
resume_value resume = record {
  saved = resume.saved.now;
  policy = resume.policy.now;
  script = source_value resume.script;
  events = resume.events;
  save = option_copied resume.save;
}

-- a word for the entries stands for its addresses
abbrev pub terms_value : AskedTerms → Terms
terms_value t = record { harts = t.harts; ram_pages = t.ram_pages; entries = entries_of t.entries.now; init = t.init }

abbrev pub policy_value : AskedPolicy → PolicyWords
policy_value p = record {
  out = p.out.now;
  kernel = p.kernel.now;
  terms = terms_value p.terms;
  modules = map (λ name. name.now) p.modules.items;
}

-- the values of the words
abbrev pub command_of : Asked → Command
command_of (asked.Flat flat) = Flat flat.file.now flat.wanted flat.events
command_of (asked.Generated calls) = Generated calls
command_of (asked.Run run) = Run (run_value run)
command_of (asked.MakePolicy policy) = MakePolicy (policy_value policy)
command_of (asked.Convert convert) = Convert (convert_split_of convert)

-- the values of these words, or the first one that is out of its range
abbrev pub IsRead : {A T : Type 0} → (value : T → A) → Result A Refusal → Result T Refusal → Type 0
IsRead value due (Ok asked) = due ≡ Ok (value asked)
IsRead value due (Err refusal) = due ≡ Err refusal

-- the value of a word, or it is out of its range
abbrev pub IsWord : {A T : Type 0} → Word → (value : T → A) → Option A → Result T Refusal → Type 0
IsWord word value due (Ok given) = due ≡ Some (value given)
IsWord word value due (Err refusal) = (due ≡ None) × (refusal ≡ OutOfRange word)

-- words and what those of them say that have a range
abbrev pub said_by : {S N A : Type 0} → (value : S → N → A) → Option S → N → Result A Refusal
said_by value None said = Err NoCommand
said_by value (Some words) said = Ok (value words said)

-- what those words say that have a range, with which all of them have this value; or the first one that is out of it
abbrev pub AreJudged : {S N A : Type 0} → (value : S → N → A) → (judge : S → Result A Refusal) → Option S → Result N Refusal → Type 0
AreJudged value judge split (Ok said) = IsTrue (is_ok (split_judged judge split)) × (split_judged judge split ≡ said_by value split said)
AreJudged value judge split (Err refusal) = split_judged judge split ≡ Err refusal

-- the values of these words or the first one that is out of its range, where memory may run out for words that aren't refused
abbrev pub IsAsked : {A T : Type 0} → (value : T → A) → Result A Refusal → Result T Unread → Type 0
IsAsked value due (Ok asked) = due ≡ Ok (value asked)
IsAsked value due (Err (Refused refusal)) = due ≡ Err refusal
IsAsked value due (Err Memory) = IsTrue (is_ok due)

abbrev pub IsInRange : Asked → Type 0
IsInRange (asked.Flat flat) = flat.events ≤ max_events
IsInRange (asked.Generated calls) = (1 ≤ calls) × (calls ≤ max_calls)
IsInRange (asked.Run run) = run.events ≤ max_events
IsInRange (asked.MakePolicy policy) = IsTrue (terms_within (terms_value policy.terms)) × IsTrue (are_module_names (map (λ name. name.now) policy.modules.items))
IsInRange (asked.Convert convert) = Unit {0}

-- a run over the project's block device
abbrev pub IsSurveyRun : AskedRun → Type 0
IsSurveyRun run = (run.kind ≡ DiskKind.Block) × (run.events ≤ max_events)

-- a run whose events are drawn after 0, few enough that keys may be among them
abbrev pub IsDrawnRun : Live → Type 0
IsDrawnRun live = (live.run.events ≤ max_live_events) × (source_value live.run.script ≡ Auto 0)

-- all numbers are below 2^64
abbrev pub AreNumbers : Sweep → Type 0
AreNumbers sweep = (sweep.first + sweep.count ≤ 2 ^ 64) × (sweep.events ≤ max_events)

abbrev pub IsBlockRun : Snap → Type 0
IsBlockRun snap = (snap.run.kind ≡ DiskKind.Block) × (snap.run.events ≤ max_events)

-- ---- words and what those of them say that have a range

abbrev pub flat_with : FlatSplit → FlatTerms → Command
flat_with w said = Flat w.file said.wanted said.events

abbrev pub run_with : RunSplit → Order → Command
run_with w order = Run (run_of w (source_value order.script) order.events)

abbrev pub survey_with : SurveySplit → Order → RunWords
survey_with w order = unsaved_run DiskKind.Block w.image w.policy w.disk (source_value order.script) order.events

abbrev pub live_with : LiveSplit → (events : ℕ) → LiveWords
live_with w events = record { run = drawn_run w events; out = w.out }

abbrev pub snap_with : SnapSplit → Order → SnapWords
snap_with w order = record { run = unsaved_run w.kind w.image w.policy w.disk (source_value order.script) order.events; out = w.out }

abbrev pub sweep_by : SweepSplit → Draws → SweepWords
sweep_by w draws = record {
  image = w.image;
  policy = w.policy;
  disk = unless_none w.disk;
  order = draws.order;
  first = draws.first;
  count = draws.count;
  events = draws.events;
}

abbrev pub resume_with : ResumeSplit → Order → ResumeWords
resume_with w order =
    record { saved = w.saved; policy = w.policy; script = source_value order.script; events = order.events; save = unless_none w.save }

abbrev pub making_with : MeasureSplit → AskedTerms → Command
making_with w terms = MakePolicy (record { out = w.out; kernel = w.kernel; terms = terms_value terms; modules = w.modules })

-- ---- a run whose files have names

abbrev pub run_names : List Want
run_names = One (codes "IMAGE") ∷ One (codes "POLICY") ∷ One (codes "DISK") ∷ []

abbrev pub named_run : DiskKind → List Row → Source → (events : ℕ) → (save : Option (List ℕ)) → RunWords
named_run kind rows script events save = record {
  kind = kind;
  image = word_of (codes "IMAGE") rows;
  policy = word_of (codes "POLICY") rows;
  disk = unless_none (word_of (codes "DISK") rows);
  script = script;
  events = events;
  save = save;
}
