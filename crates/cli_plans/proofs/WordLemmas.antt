-- The words of the command line.
use Rattle.std.proofs.Common.{◌≡◌, ◌≢◌, ◌<◌, ℕ, List, [], ◌∷◌, Bool, true, false, ◌&&◌, IsTrue, ap, length, refl, subst, sym, arith, cond, Option, Some, None, Result, Ok, Err}
use Rattle.std.specs.Prelude.{◌^◌, ◌-◌, if◌then◌else◌, nat_le, option_map, codes}
use Rattle.std.specs.Str.{bytes_eq}
use Rattle.std.specs.Option.{is_some}
use Rattle.std.specs.Result.{is_ok}
use Rattle.sv_types.specs.Numbers.{is_number, decimal_value, number_within, digest_of}
use Rattle.sv_types.specs.Policies.{harts_within, ram_pages_within, entries_count_within, entries_within, init_within, is_between}
use Rattle.spec_processor.specs.Regions.{max_ram_pages}
use Rattle.sv_types.specs.declared.module.Span.{Span}
use Rattle.sv_types.specs.declared.status.Status.{Status}
use Rattle.sv_types.specs.Limits.{max_events}
use Rattle.cli_plans.specs.CommandLine.{max_live_events}
use Rattle.guest_gen.specs.GuestCode.{max_calls}
use Rattle.policy_making.specs.Making.{Terms}
use Rattle.policy_making.specs.Ranges.{terms_within}
use Rattle.policy_making.specs.WordRanges.{are_entries, entries_of, are_module_names, span_of}
use Rattle.policy_making.proofs.WordsWithin.{entries_count, entries_good, span_of_within}
use Rattle.cli_plans.specs.declared.command_words.command.DiskKind.{DiskKind}
use Rattle.cli_plans.specs.declared.command_words.table.CommandName.{CommandName}
use Rattle.cli_plans.specs.declared.command_words.table.CommandName.TheVariants as command
use Rattle.cli_plans.specs.Commands.{Named, RunSplit, LiveSplit, SnapSplit, SweepSplit, MeasureSplit}
use Rattle.cli_plans.specs.Commands.{flat_split, gen_split, run_split, survey_split, live_split, snap_split, sweep_split, resume_split}
use Rattle.cli_plans.specs.Commands.{show_split, measure_split, convert_split, named_words}
use Rattle.cli_plans.specs.declared.refusal.Refusal.{Refusal}
use Rattle.cli_plans.specs.declared.refusal.Refusal.TheVariants.{OutOfRange}
use Rattle.cli_plans.specs.declared.words.DrawnOrder.{DrawnOrder}
use Rattle.cli_plans.specs.declared.refusal.Word.{Word}
use Rattle.cli_plans.specs.Refusals.{refusal_status}
use Rattle.cli_plans.specs.CommandLine.{Command, Convert, Source, flat_words, gen_words, source_of}
use Rattle.cli_plans.specs.CommandLine.{run_words, live_words, live_of, snap_words, snap_of, sweep_with, sweep_words, sweep_of, most_runs}
use Rattle.cli_plans.specs.CommandLine.{drawn_order_of, resume_words, resume_of, entries_judged, init_of, terms_with, terms_words}
use Rattle.cli_plans.specs.CommandLine.{terms_judged, making_words, making_judged, flat_judged, gen_judged, run_judged, split_judged, refusal_in}
use Rattle.cli_plans.specs.CommandLine.{command_after, live_after, snap_after, sweep_after, shrink_after, resume_after}
use Rattle.cli_plans.specs.Words.{AreJudged}
use Rattle.cli_plans.specs.CommandLine.{named_judged, judgement_of_words, live_judged, snap_judged, sweep_judged, shrink_judged}
use Rattle.cli_plans.specs.CommandLine.{resume_judged, survey_words, survey_after, survey_judged, survey_of, debug_after, debug_judged}

-- ---- so many words are of no command

pub not_flat : (words : List (List ℕ)) → length words ≢ 3 → flat_split words ≡ None
not_flat (a ∷ b ∷ c ∷ []) other = absurd (other refl)
not_flat _ other = refl

pub not_gen : (words : List (List ℕ)) → length words ≢ 1 → gen_split words ≡ None
not_gen (a ∷ []) other = absurd (other refl)
not_gen _ other = refl

pub not_run : (kind : DiskKind) (words : List (List ℕ)) → length words ≢ 6 → run_split kind words ≡ None
not_run kind (a ∷ b ∷ c ∷ d ∷ e ∷ f ∷ []) other = absurd (other refl)
not_run kind _ other = refl

pub not_measure : (words : List (List ℕ)) → length words < 6 → measure_split words ≡ None
not_measure (a ∷ b ∷ c ∷ d ∷ e ∷ f ∷ rest) few = absurd (omega arith)
not_measure _ few = refl

pub not_convert : (words : List (List ℕ)) → length words ≢ 3 → convert_split words ≡ None
not_convert (a ∷ b ∷ c ∷ []) other = absurd (other refl)
not_convert _ other = refl

pub not_survey : (words : List (List ℕ)) → length words ≢ 5 → survey_split words ≡ None
not_survey (a ∷ b ∷ c ∷ d ∷ e ∷ []) other = absurd (other refl)
not_survey _ other = refl

pub not_live : (kind : DiskKind) (words : List (List ℕ)) → length words ≢ 5 → live_split kind words ≡ None
not_live kind (a ∷ b ∷ c ∷ d ∷ e ∷ []) other = absurd (other refl)
not_live kind _ other = refl

pub not_snap : (kind : DiskKind) (words : List (List ℕ)) → length words ≢ 6 → snap_split kind words ≡ None
not_snap kind (a ∷ b ∷ c ∷ d ∷ e ∷ f ∷ []) other = absurd (other refl)
not_snap kind _ other = refl

pub not_sweep : (words : List (List ℕ)) → length words ≢ 7 → sweep_split words ≡ None
not_sweep (a ∷ b ∷ c ∷ d ∷ e ∷ f ∷ g ∷ []) other = absurd (other refl)
not_sweep _ other = refl

pub not_resume : (words : List (List ℕ)) → length words ≢ 5 → resume_split words ≡ None
not_resume (a ∷ b ∷ c ∷ d ∷ e ∷ []) other = absurd (other refl)
not_resume _ other = refl

pub not_show : (words : List (List ℕ)) → length words ≢ 1 → length words ≢ 2 → show_split words ≡ None
not_show (a ∷ []) other more = absurd (other refl)
not_show (a ∷ b ∷ []) other more = absurd (more refl)
not_show _ other more = refl

-- ---- words that were judged good

-- a command has them
pub split_is_some : {S A : Type 0} (judge : S → Result A Refusal) (split : Option S) → IsTrue (is_ok (split_judged judge split)) → IsTrue (is_some split)
split_is_some judge None good = good
split_is_some judge (Some split) good = refl

names_of_making : (words : MeasureSplit) (terms : Result Terms Refusal) → IsTrue (is_ok (making_words words terms)) → IsTrue (are_module_names words.modules)
unfolding making_words
names_of_making words (Err refusal) good = absurd (cc good)
names_of_making words (Ok terms) good = go (are_module_names words.modules) _ _ good
  where
    go : (b : Bool) (some : Command) (none : Refusal) → IsTrue (is_ok (cond b (Ok some) (Err none))) → IsTrue b
    go true some none good = refl
    go false some none good = good

-- the names of modules are in range
pub has_module_names : (split : Option MeasureSplit) (words : MeasureSplit) → split ≡ Some words → IsTrue (is_ok (split_judged making_judged split)) → IsTrue (are_module_names words.modules)
has_module_names None words is good = absurd (cc is)
has_module_names (Some w) words is good =
    subst (λ (o : Option MeasureSplit). IsTrue (is_ok (split_judged making_judged o)) → IsTrue (are_module_names words.modules)) (sym is)
    (λ ok. names_of_making words (terms_judged words.ram words.harts words.entries words.init) ok) good

-- ---- what a policy says besides its files is within its limits

number_by : (low high value n : ℕ) (good above below : Bool) → nat_le low value ≡ above → nat_le value high ≡ below → (if good && above && below then Some value else None) ≡ Some n
    → is_between low high n ≡ true
number_by low high value n true true true above below is =
    let same : value ≡ n = cc is in subst (λ (k : ℕ). is_between low high k ≡ true) same (rw (above, below) refl)
number_by low high value n true true false above below is = absurd (cc is)
number_by low high value n true false fits above below is = absurd (cc is)
number_by low high value n false fits most above below is = absurd (cc is)

number_between : (low high : ℕ) (text : List ℕ) (n : ℕ) → number_within low high text ≡ Some n → is_between low high n ≡ true
unfolding number_within
number_between low high text n is =
    number_by low high (decimal_value 0 text) n (is_number text) (nat_le low (decimal_value 0 text)) (nat_le (decimal_value 0 text) high) refl refl is

some_init : (ram_pages : ℕ) (word : List ℕ) (o : Option Span) (init : Option Span) → span_of ram_pages word ≡ o → option_map Some o ≡ Some init → init_within ram_pages init ≡ true
some_init ram_pages word None init span is = absurd (cc is)
some_init ram_pages word (Some s) init span is =
    let same : Some s ≡ init = cc is in subst (λ (i : Option Span). init_within ram_pages i ≡ true) same (span_of_within ram_pages word s span)

init_by : (ram_pages : ℕ) (word : List ℕ) (none : Bool) (init : Option Span) → (if none then Some None else option_map Some (span_of ram_pages word)) ≡ Some init → init_within ram_pages init ≡ true
init_by ram_pages word true init is =
    let same : None ≡ init = cc is in subst (λ (i : Option Span). init_within ram_pages i ≡ true) same refl
init_by ram_pages word false init is = some_init ram_pages word (span_of ram_pages word) init refl is

init_good : (ram_pages : ℕ) (word : List ℕ) (init : Option Span) → init_of ram_pages word ≡ Some init → init_within ram_pages init ≡ true
unfolding init_of
init_good ram_pages word init is = init_by ram_pages word (bytes_eq word (codes "none")) init is

record AreEntries (entries : List ℕ) : Type 0 where
  count : entries_count_within (length entries) ≡ true
  each : entries_within entries ≡ true

entries_by : (word entries : List ℕ) (good : Bool) → are_entries word ≡ good → (if good then Some (entries_of word) else None) ≡ Some entries → AreEntries entries
entries_by word entries true good is =
    let same : entries_of word ≡ entries = cc is in subst AreEntries same (record { count = entries_count word good; each = entries_good word good })
entries_by word entries false good is = absurd (cc is)

all_terms : (t : Terms) → harts_within t.harts ≡ true → ram_pages_within t.ram_pages ≡ true → AreEntries t.entries → init_within t.ram_pages t.init ≡ true → terms_within t ≡ true
all_terms t harts ram entries init = rw (harts, ram, entries.count, entries.each, init) refl

with_init : (ram_pages harts : ℕ) (entries word : List ℕ) (init : Option (Option Span)) (terms : Terms) → init_of ram_pages word ≡ init → terms_with ram_pages harts entries init ≡ Ok terms
    → harts_within harts ≡ true → ram_pages_within ram_pages ≡ true → AreEntries entries → terms_within terms ≡ true
unfolding terms_with
with_init ram_pages harts entries word None terms is e of_harts of_ram of_entries = absurd (cc e)
with_init ram_pages harts entries word (Some init) terms is e of_harts of_ram of_entries =
    let made : Terms = record { harts = harts; ram_pages = ram_pages; entries = entries; init = init } in
    let same : made ≡ terms = cc e in
    subst (λ (t : Terms). terms_within t ≡ true) same (all_terms made of_harts of_ram of_entries (init_good ram_pages word init is))

with_words : (ram harts entries init : List ℕ) (ram_pages count : Option ℕ) (addresses : Option (List ℕ)) (terms : Terms) → number_within 16 max_ram_pages ram ≡ ram_pages
    → number_within 1 4 harts ≡ count → entries_judged entries ≡ addresses → terms_words init ram_pages count addresses ≡ Ok terms → terms_within terms ≡ true
unfolding terms_words
with_words ram harts entries init None count addresses terms of_ram of_harts of_entries e = absurd (cc e)
with_words ram harts entries init (Some ram_pages) None addresses terms of_ram of_harts of_entries e = absurd (cc e)
with_words ram harts entries init (Some ram_pages) (Some count) None terms of_ram of_harts of_entries e = absurd (cc e)
with_words ram harts entries init (Some ram_pages) (Some count) (Some addresses) terms of_ram of_harts of_entries e =
    with_init ram_pages count addresses init (init_of ram_pages init) terms refl e (number_between 1 4 harts count of_harts) (number_between 16 max_ram_pages ram ram_pages of_ram)
    (entries_by entries addresses (are_entries entries) refl of_entries)

pub terms_in_range : (ram harts entries init : List ℕ) (terms : Terms) → terms_judged ram harts entries init ≡ Ok terms → terms_within terms ≡ true
terms_in_range ram harts entries init terms e =
    with_words ram harts entries init (number_within 16 max_ram_pages ram) (number_within 1 4 harts) (entries_judged entries) terms refl refl refl e

-- ---- what refuses the words is no read fault

abbrev pub NoReadFault : {A : Type 0} → Result A Refusal → Type 0
NoReadFault (Ok value) = Unit {0}
NoReadFault (Err refusal) = refusal_status refusal ≢ Status.ReadFault

flat_no_read_fault : (file : List ℕ) (wanted : Option (List ℕ)) (events : Option ℕ) → NoReadFault (flat_words file wanted events)
unfolding flat_words
flat_no_read_fault file None events = λ e. cc e
flat_no_read_fault file (Some wanted) None = λ e. cc e
flat_no_read_fault file (Some wanted) (Some events) = tt

gen_no_read_fault : (calls : Option ℕ) → NoReadFault (gen_words calls)
unfolding gen_words
gen_no_read_fault None = λ e. cc e
gen_no_read_fault (Some calls) = tt

run_no_read_fault : (words : RunSplit) (script : Option Source) (events : Option ℕ) → NoReadFault (run_words words script events)
unfolding run_words
run_no_read_fault words None events = λ e. cc e
run_no_read_fault words (Some script) None = λ e. cc e
run_no_read_fault words (Some script) (Some events) = tt

with_no_read_fault : (ram_pages harts : ℕ) (entries : List ℕ) (init : Option (Option Span)) → NoReadFault (terms_with ram_pages harts entries init)
unfolding terms_with
with_no_read_fault ram_pages harts entries None = λ e. cc e
with_no_read_fault ram_pages harts entries (Some init) = tt

terms_no_read_fault : (init : List ℕ) (ram_pages harts : Option ℕ) (entries : Option (List ℕ)) → NoReadFault (terms_words init ram_pages harts entries)
unfolding terms_words
terms_no_read_fault init None harts entries = λ e. cc e
terms_no_read_fault init (Some ram_pages) None entries = λ e. cc e
terms_no_read_fault init (Some ram_pages) (Some harts) None = λ e. cc e
terms_no_read_fault init (Some ram_pages) (Some harts) (Some entries) = with_no_read_fault ram_pages harts entries (init_of ram_pages init)

making_no_read_fault : (words : MeasureSplit) (terms : Result Terms Refusal) → NoReadFault terms → NoReadFault (making_words words terms)
unfolding making_words
making_no_read_fault words (Err refusal) is = is
making_no_read_fault words (Ok terms) is = go (are_module_names words.modules) _
  where
    go : (b : Bool) (command : Command) → NoReadFault (cond b (Ok command) (Err (OutOfRange Word.Modules)))
    go true command = tt
    go false command = λ e. cc e

live_no_fault : (w : LiveSplit) (events : Option ℕ) → NoReadFault (live_words w events)
unfolding live_words
live_no_fault w None = λ e. cc e
live_no_fault w (Some events) = tt

snap_no_fault : (w : SnapSplit) (script : Option Source) (events : Option ℕ) → NoReadFault (snap_words w script events)
unfolding snap_words
snap_no_fault w None events = λ e. cc e
snap_no_fault w (Some script) None = λ e. cc e
snap_no_fault w (Some script) (Some events) = tt

survey_no_fault : (image policy disk : List ℕ) (script : Option Source) (events : Option ℕ) → NoReadFault (survey_words image policy disk script events)
unfolding survey_words
survey_no_fault image policy disk None events = λ e. cc e
survey_no_fault image policy disk (Some script) None = λ e. cc e
survey_no_fault image policy disk (Some script) (Some events) = tt

sweep_with_no_fault : (w : SweepSplit) (order : DrawnOrder) (first : ℕ) (count events : Option ℕ) → NoReadFault (sweep_with w order first count events)
unfolding sweep_with
sweep_with_no_fault w order first None events = λ e. cc e
sweep_with_no_fault w order first (Some count) None = λ e. cc e
sweep_with_no_fault w order first (Some count) (Some events) = tt

sweep_no_fault : (w : SweepSplit) (order : Option DrawnOrder) (first : Option ℕ) → NoReadFault (sweep_words w order first)
unfolding sweep_words
sweep_no_fault w None first = λ e. cc e
sweep_no_fault w (Some order) None = λ e. cc e
sweep_no_fault w (Some order) (Some first) = sweep_with_no_fault w order first (number_within 1 (most_runs first) w.count) (number_within 0 max_events w.events)

resume_no_fault : (saved policy save : List ℕ) (script : Option Source) (events : Option ℕ) → NoReadFault (resume_words saved policy save script events)
unfolding resume_words
resume_no_fault saved policy save None events = λ e. cc e
resume_no_fault saved policy save (Some script) None = λ e. cc e
resume_no_fault saved policy save (Some script) (Some events) = tt

-- whatever judges words, and whatever command they are of
split_no_fault : {S A : Type 0} (judge : S → Result A Refusal) (split : Option S) → ((words : S) → NoReadFault (judge words)) → NoReadFault (split_judged judge split)
split_no_fault judge None never = λ e. cc e
split_no_fault judge (Some words) never = never words

named_no_fault : {A : Type 0} (judge : CommandName → List (List ℕ) → Result A Refusal) (named : Option Named) → ((name : CommandName) (rest : List (List ℕ)) → NoReadFault (judge name rest)) →
    NoReadFault (named_judged judge named)
named_no_fault judge None never = λ e. cc e
named_no_fault judge (Some n) never = never n.command n.rest

command_no_fault : (name : CommandName) (rest : List (List ℕ)) → NoReadFault (command_after name rest)
command_no_fault command.Flat rest = split_no_fault flat_judged (flat_split rest) (λ w. flat_no_read_fault w.file (digest_of w.wanted) (number_within 0 max_events w.events))
command_no_fault command.Generated rest = split_no_fault gen_judged (gen_split rest) (λ calls. gen_no_read_fault (number_within 1 max_calls calls))
command_no_fault (command.Run kind) rest = split_no_fault run_judged (run_split kind rest) (λ w. run_no_read_fault w (source_of w.script) (number_within 0 max_events w.events))
command_no_fault command.Measure rest = split_no_fault making_judged (measure_split rest) (λ w.
    making_no_read_fault w (terms_judged w.ram w.harts w.entries w.init)
    (terms_no_read_fault w.init (number_within 16 max_ram_pages w.ram) (number_within 1 4 w.harts) (entries_judged w.entries)))
command_no_fault command.Convert rest = split_no_fault (λ w. Ok (Convert w)) (convert_split rest) (λ w. tt)
command_no_fault _ rest = λ e. cc e

pub words_no_read_fault : (words : List (List ℕ)) → NoReadFault (judgement_of_words words)
unfolding judgement_of_words
words_no_read_fault words = named_no_fault command_after (named_words words) command_no_fault

live_after_no_fault : (name : CommandName) (rest : List (List ℕ)) → NoReadFault (live_after name rest)
live_after_no_fault (command.Live kind) rest = split_no_fault live_of (live_split kind rest) (λ w. live_no_fault w (number_within 0 max_live_events w.events))
live_after_no_fault _ rest = λ e. cc e

pub live_no_read_fault : (words : List (List ℕ)) → NoReadFault (live_judged words)
unfolding live_judged
live_no_read_fault words = named_no_fault live_after (named_words words) live_after_no_fault

snap_after_no_fault : (name : CommandName) (rest : List (List ℕ)) → NoReadFault (snap_after name rest)
snap_after_no_fault (command.Snap kind) rest = split_no_fault snap_of (snap_split kind rest) (λ w. snap_no_fault w (source_of w.script) (number_within 0 max_events w.events))
snap_after_no_fault _ rest = λ e. cc e

pub snap_no_read_fault : (words : List (List ℕ)) → NoReadFault (snap_judged words)
unfolding snap_judged
snap_no_read_fault words = named_no_fault snap_after (named_words words) snap_after_no_fault

sweep_after_no_fault : (name : CommandName) (rest : List (List ℕ)) → NoReadFault (sweep_after name rest)
sweep_after_no_fault command.Sweep rest = split_no_fault sweep_of (sweep_split rest) (λ w. sweep_no_fault w (drawn_order_of w.schedule) (number_within 0 (2 ^ 64 - 1) w.first))
sweep_after_no_fault _ rest = λ e. cc e

pub sweep_no_read_fault : (words : List (List ℕ)) → NoReadFault (sweep_judged words)
unfolding sweep_judged
sweep_no_read_fault words = named_no_fault sweep_after (named_words words) sweep_after_no_fault

shrink_after_no_fault : (name : CommandName) (rest : List (List ℕ)) → NoReadFault (shrink_after name rest)
shrink_after_no_fault command.Shrink rest = split_no_fault snap_of (snap_split DiskKind.Block rest) (λ w. snap_no_fault w (source_of w.script) (number_within 0 max_events w.events))
shrink_after_no_fault _ rest = λ e. cc e

pub shrink_no_read_fault : (words : List (List ℕ)) → NoReadFault (shrink_judged words)
unfolding shrink_judged
shrink_no_read_fault words = named_no_fault shrink_after (named_words words) shrink_after_no_fault

debug_after_no_fault : (name : CommandName) (rest : List (List ℕ)) → NoReadFault (debug_after name rest)
debug_after_no_fault command.Debug rest = split_no_fault survey_of (survey_split rest) (λ w. survey_no_fault w.image w.policy w.disk (source_of w.script) (number_within 0 max_events w.events))
debug_after_no_fault _ rest = λ e. cc e

pub debug_no_read_fault : (words : List (List ℕ)) → NoReadFault (debug_judged words)
unfolding debug_judged
debug_no_read_fault words = named_no_fault debug_after (named_words words) debug_after_no_fault

survey_after_no_fault : (name : CommandName) (rest : List (List ℕ)) → NoReadFault (survey_after name rest)
survey_after_no_fault command.Survey rest = split_no_fault survey_of (survey_split rest) (λ w. survey_no_fault w.image w.policy w.disk (source_of w.script) (number_within 0 max_events w.events))
survey_after_no_fault _ rest = λ e. cc e

pub survey_no_read_fault : (words : List (List ℕ)) → NoReadFault (survey_judged words)
unfolding survey_judged
survey_no_read_fault words = named_no_fault survey_after (named_words words) survey_after_no_fault

resume_after_no_fault : (name : CommandName) (rest : List (List ℕ)) → NoReadFault (resume_after name rest)
resume_after_no_fault command.Resume rest = split_no_fault resume_of (resume_split rest) (λ w. resume_no_fault w.saved w.policy w.save (source_of w.script) (number_within 0 max_events w.events))
resume_after_no_fault _ rest = λ e. cc e

pub resume_no_read_fault : (words : List (List ℕ)) → NoReadFault (resume_judged words)
unfolding resume_judged
resume_no_read_fault words = named_no_fault resume_after (named_words words) resume_after_no_fault

-- ---- what is wrong with words

none_in : {A : Type 0} (due : Result A Refusal) → IsTrue (is_ok due) → refusal_in due ≡ None
none_in (Ok asked) right = refl
none_in (Err refusal) right = absurd (cc)

pub judged_refusal : {S N A : Type 0} (value : S → N → A) (judge : S → Result A Refusal) (split : Option S) (result : Result N Refusal) → AreJudged value judge split result
    → refusal_in (split_judged judge split) ≡ refusal_in result
judged_refusal value judge split (Ok said) judged = none_in (split_judged judge split) judged.0
judged_refusal value judge split (Err refusal) judged = ap refusal_in judged
