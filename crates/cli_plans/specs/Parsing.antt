-- The commands as `clap` is told them, and the words that it gives back.
use Rattle.std.specs.Prelude.{ℕ, ◌≡◌, IsTrue, ⊤, true, List, [], ◌∷◌, fold, Some, codes, is_some, unwrap_or}
use Rattle.clap.specs.Words.{App, Row, Rule, Text, new_app, new_rule, with_rule, first_of, all_of}
use Rattle.clap.specs.Simple.{on_top}
use Rattle.clap.specs.declared.builder.ArgAction.TheVariants.{Set, Append}
use Rattle.cli_plans.specs.declared.command_words.command.DiskKind.{DiskKind}
use Rattle.cli_plans.specs.declared.command_words.table.CommandName.{CommandName}
use Rattle.cli_plans.specs.declared.command_words.table.CommandName.TheVariants as command
use Rattle.cli_plans.specs.declared.command_words.table.Argument.{Argument}
use Rattle.cli_plans.specs.declared.command_words.table.Argument.TheVariants as argument
use Rattle.cli_plans.specs.Commands.{FlatSplit, RunSplit, SurveySplit, LiveSplit, SnapSplit, SweepSplit, ResumeSplit, ShowSplit, MeasureSplit}
use Rattle.cli_plans.specs.Commands.{ConvertSplit, flat_split, gen_split, run_split, survey_split, live_split, snap_split, sweep_split}
use Rattle.cli_plans.specs.Commands.{resume_split, show_split, measure_split, convert_split}

-- what a command has under a name
pub data Want : Type 0 where
  -- one word
  One : Text → Want
  -- one word, or none
  Maybe : Text → Want
  -- any number of words, none too
  Any : Text → Want

abbrev pub want_of : Argument → Want
want_of (argument.One name) = One name.now
want_of (argument.Maybe name) = Maybe name.now
want_of (argument.Any name) = Any name.now

abbrev pub flat_wants : List Want
flat_wants = One (codes "FILE") ∷ One (codes "MEASURE") ∷ One (codes "EVENTS") ∷ []

abbrev pub gen_wants : List Want
gen_wants = One (codes "N") ∷ []

abbrev pub run_wants : List Want
run_wants = One (codes "IMAGE") ∷ One (codes "POLICY") ∷ One (codes "DISK") ∷ One (codes "SCRIPT") ∷ One (codes "EVENTS") ∷ One (codes "SAVE") ∷ []

abbrev pub survey_wants : List Want
survey_wants = One (codes "IMAGE") ∷ One (codes "POLICY") ∷ One (codes "DISK") ∷ One (codes "SCRIPT") ∷ One (codes "EVENTS") ∷ []

abbrev pub live_wants : List Want
live_wants = One (codes "IMAGE") ∷ One (codes "POLICY") ∷ One (codes "DISK") ∷ One (codes "EVENTS") ∷ One (codes "OUT") ∷ []

abbrev pub snap_wants : List Want
snap_wants = One (codes "IMAGE") ∷ One (codes "POLICY") ∷ One (codes "DISK") ∷ One (codes "SCRIPT") ∷ One (codes "EVENTS") ∷ One (codes "OUT") ∷ []

abbrev pub sweep_wants : List Want
sweep_wants =
    One (codes "IMAGE") ∷ One (codes "POLICY") ∷ One (codes "DISK") ∷ One (codes "SCHEDULE") ∷ One (codes "FIRST") ∷ One (codes "COUNT") ∷ One
    (codes "EVENTS") ∷ []

abbrev pub resume_wants : List Want
resume_wants = One (codes "SNAPSHOT") ∷ One (codes "POLICY") ∷ One (codes "SCRIPT") ∷ One (codes "EVENTS") ∷ One (codes "SAVE") ∷ []

abbrev pub show_wants : List Want
show_wants = One (codes "SNAPSHOT") ∷ Maybe (codes "KERNEL") ∷ []

abbrev pub measure_wants : List Want
measure_wants =
    One (codes "OUT") ∷ One (codes "KERNEL") ∷ One (codes "RAM") ∷ One (codes "HARTS") ∷ One (codes "ENTRIES") ∷ One (codes "INIT") ∷ Any (codes "MODULES") ∷ []

abbrev pub convert_wants : List Want
convert_wants = One (codes "KERNEL") ∷ One (codes "IN") ∷ One (codes "OUT") ∷ []

abbrev pub wants_of : CommandName → List Want
wants_of command.Flat = flat_wants
wants_of command.Generated = gen_wants
wants_of (command.Run kind) = run_wants
wants_of command.Survey = survey_wants
wants_of command.Debug = survey_wants
wants_of (command.Live kind) = live_wants
wants_of (command.Snap kind) = snap_wants
wants_of command.Sweep = sweep_wants
wants_of command.Shrink = snap_wants
wants_of command.Resume = resume_wants
wants_of command.Show = show_wants
wants_of command.Measure = measure_wants
wants_of command.Convert = convert_wants

-- ---- as `clap` is told them

abbrev pub rule_of_want : Want → Rule
rule_of_want (One name) = record (new_rule name) { required = true; action = Some Set }
rule_of_want (Maybe name) = record (new_rule name) { action = Some Set }
rule_of_want (Any name) = record (new_rule name) { action = Some Append }

abbrev pub with_want : App → Want → App
with_want app want = with_rule app (rule_of_want want)

-- the words stand after the name of the command, and nothing asks for help
abbrev pub bare_app : App
bare_app = on_top (λ s. record s { no_binary_name = true; disable_help_flag = true }) (new_app (codes "secvisor"))

abbrev pub app_of_wants : List Want → App
app_of_wants wants = fold with_want bare_app wants

-- ---- the words under their names

-- each name of one word has it
abbrev pub HasWords : List Want → List Row → Type 0
HasWords [] rows = ⊤
HasWords (One name ∷ rest) rows = IsTrue (is_some (first_of name rows)) × HasWords rest rows
HasWords (Maybe name ∷ rest) rows = HasWords rest rows
HasWords (Any name ∷ rest) rows = HasWords rest rows

abbrev pub word_of : Text → List Row → Text
word_of name rows = unwrap_or (first_of name rows) []

abbrev pub flat_found : List Row → FlatSplit
flat_found rows = record {
  file = word_of (codes "FILE") rows;
  wanted = word_of (codes "MEASURE") rows;
  events = word_of (codes "EVENTS") rows;
}

abbrev pub gen_found : List Row → List ℕ
gen_found rows = word_of (codes "N") rows

abbrev pub run_found : DiskKind → List Row → RunSplit
run_found kind rows = record {
  kind = kind;
  image = word_of (codes "IMAGE") rows;
  policy = word_of (codes "POLICY") rows;
  disk = word_of (codes "DISK") rows;
  script = word_of (codes "SCRIPT") rows;
  events = word_of (codes "EVENTS") rows;
  save = word_of (codes "SAVE") rows;
}

abbrev pub survey_found : List Row → SurveySplit
survey_found rows = record {
  image = word_of (codes "IMAGE") rows;
  policy = word_of (codes "POLICY") rows;
  disk = word_of (codes "DISK") rows;
  script = word_of (codes "SCRIPT") rows;
  events = word_of (codes "EVENTS") rows;
}

abbrev pub live_found : DiskKind → List Row → LiveSplit
live_found kind rows = record {
  kind = kind;
  image = word_of (codes "IMAGE") rows;
  policy = word_of (codes "POLICY") rows;
  disk = word_of (codes "DISK") rows;
  events = word_of (codes "EVENTS") rows;
  out = word_of (codes "OUT") rows;
}

abbrev pub snap_found : DiskKind → List Row → SnapSplit
snap_found kind rows = record {
  kind = kind;
  image = word_of (codes "IMAGE") rows;
  policy = word_of (codes "POLICY") rows;
  disk = word_of (codes "DISK") rows;
  script = word_of (codes "SCRIPT") rows;
  events = word_of (codes "EVENTS") rows;
  out = word_of (codes "OUT") rows;
}

abbrev pub sweep_found : List Row → SweepSplit
sweep_found rows = record {
  image = word_of (codes "IMAGE") rows;
  policy = word_of (codes "POLICY") rows;
  disk = word_of (codes "DISK") rows;
  schedule = word_of (codes "SCHEDULE") rows;
  first = word_of (codes "FIRST") rows;
  count = word_of (codes "COUNT") rows;
  events = word_of (codes "EVENTS") rows;
}

abbrev pub resume_found : List Row → ResumeSplit
resume_found rows = record {
  saved = word_of (codes "SNAPSHOT") rows;
  policy = word_of (codes "POLICY") rows;
  script = word_of (codes "SCRIPT") rows;
  events = word_of (codes "EVENTS") rows;
  save = word_of (codes "SAVE") rows;
}

abbrev pub show_found : List Row → ShowSplit
show_found rows = record { saved = word_of (codes "SNAPSHOT") rows; kernel = first_of (codes "KERNEL") rows }

abbrev pub modules_found : List Row → List Text
modules_found rows = unwrap_or (all_of (codes "MODULES") rows) []

abbrev pub measure_found : List Row → MeasureSplit
measure_found rows = record {
  out = word_of (codes "OUT") rows;
  kernel = word_of (codes "KERNEL") rows;
  ram = word_of (codes "RAM") rows;
  harts = word_of (codes "HARTS") rows;
  entries = word_of (codes "ENTRIES") rows;
  init = word_of (codes "INIT") rows;
  modules = modules_found rows;
}

abbrev pub convert_found : List Row → ConvertSplit
convert_found rows = record {
  kernel = word_of (codes "KERNEL") rows;
  given = word_of (codes "IN") rows;
  out = word_of (codes "OUT") rows;
}

-- the command has words of this shape
abbrev pub IsKnown : CommandName → List Text → Type 0
IsKnown command.Flat words = IsTrue (is_some (flat_split words))
IsKnown command.Generated words = IsTrue (is_some (gen_split words))
IsKnown (command.Run kind) words = IsTrue (is_some (run_split kind words))
IsKnown command.Survey words = IsTrue (is_some (survey_split words))
IsKnown command.Debug words = IsTrue (is_some (survey_split words))
IsKnown (command.Live kind) words = IsTrue (is_some (live_split kind words))
IsKnown (command.Snap kind) words = IsTrue (is_some (snap_split kind words))
IsKnown command.Sweep words = IsTrue (is_some (sweep_split words))
IsKnown command.Shrink words = IsTrue (is_some (snap_split DiskKind.Block words))
IsKnown command.Resume words = IsTrue (is_some (resume_split words))
IsKnown command.Show words = IsTrue (is_some (show_split words))
IsKnown command.Measure words = IsTrue (is_some (measure_split words))
IsKnown command.Convert words = IsTrue (is_some (convert_split words))

-- what was found under the names is what the words are by their places
abbrev pub Finds : CommandName → List Text → List Row → Type 0
Finds command.Flat words rows = flat_split words ≡ Some (flat_found rows)
Finds command.Generated words rows = gen_split words ≡ Some (gen_found rows)
Finds (command.Run kind) words rows = run_split kind words ≡ Some (run_found kind rows)
Finds command.Survey words rows = survey_split words ≡ Some (survey_found rows)
Finds command.Debug words rows = survey_split words ≡ Some (survey_found rows)
Finds (command.Live kind) words rows = live_split kind words ≡ Some (live_found kind rows)
Finds (command.Snap kind) words rows = snap_split kind words ≡ Some (snap_found kind rows)
Finds command.Sweep words rows = sweep_split words ≡ Some (sweep_found rows)
Finds command.Shrink words rows = snap_split DiskKind.Block words ≡ Some (snap_found DiskKind.Block rows)
Finds command.Resume words rows = resume_split words ≡ Some (resume_found rows)
Finds command.Show words rows = show_split words ≡ Some (show_found rows)
Finds command.Measure words rows = measure_split words ≡ Some (measure_found rows)
Finds command.Convert words rows = convert_split words ≡ Some (convert_found rows)
