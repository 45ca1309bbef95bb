-- What `clap` makes of the words after the name of a command.
use Rattle.std.proofs.Common.{◌≡◌, ◌∙◌, ◌+◌, ◌&&◌, ℕ, Bool, true, false, true≢false, List, [], ◌∷◌, ◌++◌, Option, Some, None, drop, refl, sym, subst, ap, ap₂, codes, inl, append_assoc, if◌then◌else◌}
use Rattle.std.specs.List.{fold, list_all, list_any}
use Rattle.std.specs.Option.{is_some}
use Rattle.clap.specs.Words.{App, Row, Rule, Shape, Text, built, is_simple, matches_of, takes, reading_of}
use Rattle.clap.specs.Simple.{argument_words, entered, names_of}
use Rattle.clap.specs.Takes.{built_takes, entered_passes, settle_passes, default_passes, is_valid}
use Rattle.clap.specs.Walk.{Walk, positional, rows_after, settled, finished, nothing_held, walk_from}
use Rattle.clap.specs.declared.builder.value_parser.ValueParser.TheVariants as vp
use Rattle.clap.specs.declared.parser.matches.ValueSource.TheVariants.{CommandLine}
use Rattle.clap.proofs.WalkLemmas.{both}
use Rattle.cli_plans.specs.declared.command_words.command.DiskKind.{DiskKind}
use Rattle.cli_plans.specs.declared.command_words.table.CommandName.{CommandName}
use Rattle.cli_plans.specs.declared.command_words.table.CommandName.TheVariants as command
use Rattle.cli_plans.specs.Commands.{flat_split, gen_split, run_split, survey_split, live_split, snap_split, sweep_split, resume_split, show_split, measure_split, convert_split, has_dash}
use Rattle.cli_plans.specs.Parsing.{Finds, HasWords, IsKnown, Want, app_of_wants, bare_app, rule_of_want, flat_wants, gen_wants, run_wants}
use Rattle.cli_plans.specs.Parsing.{survey_wants, live_wants, snap_wants, sweep_wants, resume_wants, show_wants, measure_wants}
use Rattle.cli_plans.specs.Parsing.{convert_wants, wants_of, flat_found, gen_found, run_found, survey_found, live_found, snap_found}
use Rattle.cli_plans.specs.Parsing.{sweep_found, resume_found, show_found, measure_found, convert_found}
use Rattle.cli_plans.proofs.PlainWords.{IsOn, NoneTrails, walk_after, placed_pass, pass_is, walk_is}

-- ---- the words of any command

abbrev start : Walk
start = walk_from nothing_held

start_on : IsOn start
start_on = record { waiting = inl refl; is_trailing = refl; stopped = refl }

-- a command of this shape without subcommands
abbrev alone : Shape → App
alone s = record { top = s; subs = [] }

-- the command is built to this shape
record IsAlone (wants : List Want) (s : Shape) : Type 0 where
  simple : is_simple (app_of_wants wants) ≡ true
  shape : built (app_of_wants wants) ≡ alone s
  bare : (app_of_wants wants).top.no_binary_name ≡ true
  trails : NoneTrails s.rules

-- `clap` takes the words, and what it finds is the split
pub record IsRead {S : Type 0} (wants : List Want) (found : List Row → S) (words : List Text) (split : Option S) : Type 0 where
  pub taken : takes (app_of_wants wants) words ≡ true
  pub has : (rows : List Row) → rows ≡ matches_of (app_of_wants wants) words → HasWords wants rows
  pub is : (rows : List Row) (s : S) → rows ≡ matches_of (app_of_wants wants) words → s ≡ found rows → split ≡ Some s

pub takes_simple : (app : App) (words : List Text) → takes app words ≡ true → is_simple app ≡ true
takes_simple app words taken = (both (is_simple app) (built_takes (built app) nothing_held (argument_words app words)) taken).0

module _ (wants : List Want) (s : Shape) (is : IsAlone wants s) (words : List Text) where
  abbrev app : App
  app = app_of_wants wants

  -- after the words
  abbrev end : Walk
  end = fold (walk_after s.rules) start words

  abbrev ends_well : Bool → Walk → Bool
  ends_well passes w = entered_passes (alone s) w.stopped && (passes && (settle_passes s.rules s.args_override_self w.held
      && (list_all default_passes s.rules && is_valid s (finished s.rules w.held) (is_some (entered (alone s) w.stopped)))))

  taken_is : list_any has_dash words ≡ false → takes app words ≡ ends_well (placed_pass s start words) end
  taken_is plain =
      let first : takes app words ≡ built_takes (built app) nothing_held (argument_words app words) =
      ap (λ b. b && built_takes (built app) nothing_held (argument_words app words)) is.simple in
      let second : built_takes (built app) nothing_held (argument_words app words) ≡ built_takes (alone s) nothing_held (argument_words app words) =
      ap (λ (a : App). built_takes a nothing_held (argument_words app words)) is.shape in
      let third : built_takes (alone s) nothing_held (argument_words app words) ≡ built_takes (alone s) nothing_held words =
      ap (λ b. built_takes (alone s) nothing_held (if b then words else drop 1 words)) is.bare in
      first ∙ second ∙ third ∙ ap₂ ends_well (pass_is s start words is.trails start_on plain) (walk_is s.rules start words is.trails start_on plain)

  matches_are : list_any has_dash words ≡ false → matches_of app words ≡ finished s.rules end.held
  matches_are plain =
      let first : matches_of app words ≡ rows_after s.rules [] (argument_words app words) =
      ap (λ (a : App). rows_after a.top.rules (names_of a) (argument_words app words)) is.shape in
      let second : rows_after s.rules [] (argument_words app words) ≡ rows_after s.rules [] words =
      ap (λ b. rows_after s.rules [] (if b then words else drop 1 words)) is.bare in
      first ∙ second ∙ ap (λ (w : Walk). finished s.rules w.held) (walk_is s.rules start words is.trails start_on plain)

  read_by : {S : Type 0} (found : List Row → S) (split : Option S) → list_any has_dash words ≡ false
      → ends_well (placed_pass s start words) end ≡ true
      → HasWords wants (finished s.rules end.held)
      → split ≡ Some (found (finished s.rules end.held))
      → IsRead wants found words split
  read_by found split plain ends has finds = record {
    taken = taken_is plain ∙ ends;
    has = λ rows e. subst (HasWords wants) (sym (e ∙ matches_are plain)) has;
    is = λ rows x e f. finds ∙ ap (λ r. Some (found r)) (sym (e ∙ matches_are plain)) ∙ ap Some (sym f);
  }

-- the rule of the argument at this place, as it is built
abbrev built_rule : ℕ → Rule → Rule
built_rule place rule = record rule {
  index = Some place;
  range = Some (record { start_inclusive = 1; end_inclusive = 1 });
  parser = Some vp.String;
}

abbrev built_rules : ℕ → List Want → List Rule
built_rules place [] = []
built_rules place (want ∷ rest) = built_rule place (rule_of_want want) ∷ built_rules (place + 1) rest

abbrev shape_of_wants : List Want → Shape
shape_of_wants wants = record bare_app.top { rules = built_rules 1 wants; disable_help_subcommand = true; is_built = true }

flat_is : IsAlone flat_wants (shape_of_wants flat_wants)
flat_is = record { simple = refl; shape = refl; bare = refl; trails = refl }

gen_is : IsAlone gen_wants (shape_of_wants gen_wants)
gen_is = record { simple = refl; shape = refl; bare = refl; trails = refl }

run_is : IsAlone run_wants (shape_of_wants run_wants)
run_is = record { simple = refl; shape = refl; bare = refl; trails = refl }

survey_is : IsAlone survey_wants (shape_of_wants survey_wants)
survey_is = record { simple = refl; shape = refl; bare = refl; trails = refl }

live_is : IsAlone live_wants (shape_of_wants live_wants)
live_is = record { simple = refl; shape = refl; bare = refl; trails = refl }

snap_is : IsAlone snap_wants (shape_of_wants snap_wants)
snap_is = record { simple = refl; shape = refl; bare = refl; trails = refl }

sweep_is : IsAlone sweep_wants (shape_of_wants sweep_wants)
sweep_is = record { simple = refl; shape = refl; bare = refl; trails = refl }

resume_is : IsAlone resume_wants (shape_of_wants resume_wants)
resume_is = record { simple = refl; shape = refl; bare = refl; trails = refl }

show_is : IsAlone show_wants (shape_of_wants show_wants)
show_is = record { simple = refl; shape = refl; bare = refl; trails = refl }

measure_is : IsAlone measure_wants (shape_of_wants measure_wants)
measure_is = record { simple = refl; shape = refl; bare = refl; trails = refl }

convert_is : IsAlone convert_wants (shape_of_wants convert_wants)
convert_is = record { simple = refl; shape = refl; bare = refl; trails = refl }

-- ---- the words of each command

flat_read : (words : List Text) → is_some (flat_split words) ≡ true → list_any has_dash words ≡ false
    → IsRead flat_wants flat_found words (flat_split words)
flat_read (a ∷ b ∷ c ∷ []) known plain = read_by _ _ flat_is _ _ _ plain refl (refl, (refl, (refl, tt))) refl
flat_read _ known plain = absurd (true≢false (sym known))

gen_read : (words : List Text) → is_some (gen_split words) ≡ true → list_any has_dash words ≡ false
    → IsRead gen_wants gen_found words (gen_split words)
gen_read (a ∷ []) known plain = read_by _ _ gen_is _ _ _ plain refl (refl, tt) refl
gen_read _ known plain = absurd (true≢false (sym known))

run_read : (kind : DiskKind) (words : List Text) → is_some (run_split kind words) ≡ true → list_any has_dash words ≡ false
    → IsRead run_wants (run_found kind) words (run_split kind words)
run_read kind (a ∷ b ∷ c ∷ d ∷ e ∷ f ∷ []) known plain = read_by _ _ run_is _ _ _ plain refl (refl, (refl, (refl, (refl, (refl, (refl, tt)))))) refl
run_read kind _ known plain = absurd (true≢false (sym known))

survey_read : (words : List Text) → is_some (survey_split words) ≡ true → list_any has_dash words ≡ false
    → IsRead survey_wants survey_found words (survey_split words)
survey_read (a ∷ b ∷ c ∷ d ∷ e ∷ []) known plain = read_by _ _ survey_is _ _ _ plain refl (refl, (refl, (refl, (refl, (refl, tt))))) refl
survey_read _ known plain = absurd (true≢false (sym known))

live_read : (kind : DiskKind) (words : List Text) → is_some (live_split kind words) ≡ true → list_any has_dash words ≡ false
    → IsRead live_wants (live_found kind) words (live_split kind words)
live_read kind (a ∷ b ∷ c ∷ d ∷ e ∷ []) known plain = read_by _ _ live_is _ _ _ plain refl (refl, (refl, (refl, (refl, (refl, tt))))) refl
live_read kind _ known plain = absurd (true≢false (sym known))

snap_read : (kind : DiskKind) (words : List Text) → is_some (snap_split kind words) ≡ true → list_any has_dash words ≡ false
    → IsRead snap_wants (snap_found kind) words (snap_split kind words)
snap_read kind (a ∷ b ∷ c ∷ d ∷ e ∷ f ∷ []) known plain = read_by _ _ snap_is _ _ _ plain refl (refl, (refl, (refl, (refl, (refl, (refl, tt)))))) refl
snap_read kind _ known plain = absurd (true≢false (sym known))

sweep_read : (words : List Text) → is_some (sweep_split words) ≡ true → list_any has_dash words ≡ false
    → IsRead sweep_wants sweep_found words (sweep_split words)
sweep_read (a ∷ b ∷ c ∷ d ∷ e ∷ f ∷ g ∷ []) known plain = read_by _ _ sweep_is _ _ _ plain refl (refl, (refl, (refl, (refl, (refl, (refl, (refl, tt))))))) refl
sweep_read _ known plain = absurd (true≢false (sym known))

resume_read : (words : List Text) → is_some (resume_split words) ≡ true → list_any has_dash words ≡ false
    → IsRead resume_wants resume_found words (resume_split words)
resume_read (a ∷ b ∷ c ∷ d ∷ e ∷ []) known plain = read_by _ _ resume_is _ _ _ plain refl (refl, (refl, (refl, (refl, (refl, tt))))) refl
resume_read _ known plain = absurd (true≢false (sym known))

show_read : (words : List Text) → is_some (show_split words) ≡ true → list_any has_dash words ≡ false
    → IsRead show_wants show_found words (show_split words)
show_read (a ∷ []) known plain = read_by _ _ show_is _ _ _ plain refl (refl, tt) refl
show_read (a ∷ b ∷ []) known plain = read_by _ _ show_is _ _ _ plain refl (refl, tt) refl
show_read _ known plain = absurd (true≢false (sym known))

convert_read : (words : List Text) → is_some (convert_split words) ≡ true → list_any has_dash words ≡ false
    → IsRead convert_wants convert_found words (convert_split words)
convert_read (a ∷ b ∷ c ∷ []) known plain = read_by _ _ convert_is _ _ _ plain refl (refl, (refl, (refl, tt))) refl
convert_read _ known plain = absurd (true≢false (sym known))

-- ---- any number of modules

abbrev measure_shape : Shape
measure_shape = shape_of_wants measure_wants

abbrev modules_row : List Text → Row
modules_row modules = record {
  id = codes "MODULES";
  values = modules;
  count = None;
  source = Some CommandLine;
  reading = reading_of vp.String;
}

module _ (a b c d e f : Text) where
  -- after the six words that are wanted
  abbrev six : Walk
  six = fold (walk_after measure_shape.rules) start (a ∷ b ∷ c ∷ d ∷ e ∷ f ∷ [])

  abbrev rows_with : List Text → List Row
  rows_with modules = (settled measure_shape.rules six.held).rows ++ modules_row modules ∷ []

  -- after these modules and one more, which is pending
  abbrev after_modules : List Text → Text → Walk
  after_modules seen last = record six {
    held = record { rows = rows_with seen; pending = Some (codes "MODULES", last ∷ []); skip = 0 };
    waiting = positional;
  }

  abbrev end_of_modules : List Text → Text → List Text → Walk
  end_of_modules seen last words = fold (walk_after measure_shape.rules) (after_modules seen last) words

  ends : (seen : List Text) (last : Text) (words : List Text)
      → ends_well measure_wants measure_shape measure_is [] (placed_pass measure_shape (after_modules seen last) words) (end_of_modules seen last words) ≡ true
  ends seen last [] = refl
  ends seen last (word ∷ rest) = ends (seen ++ last ∷ []) word rest

  rows : (seen : List Text) (last : Text) (words : List Text)
      → finished measure_shape.rules (end_of_modules seen last words).held ≡ rows_with (seen ++ last ∷ words)
  rows seen last [] = refl
  rows seen last (word ∷ rest) = rows (seen ++ last ∷ []) word rest ∙ ap rows_with (append_assoc seen (last ∷ []) (word ∷ rest))

  modules_read : (modules : List Text) → list_any has_dash (a ∷ b ∷ c ∷ d ∷ e ∷ f ∷ modules) ≡ false
      → IsRead measure_wants measure_found (a ∷ b ∷ c ∷ d ∷ e ∷ f ∷ modules) (measure_split (a ∷ b ∷ c ∷ d ∷ e ∷ f ∷ modules))
  modules_read [] plain = read_by _ _ measure_is _ _ _ plain refl (refl, (refl, (refl, (refl, (refl, (refl, tt)))))) refl
  modules_read (first ∷ []) plain = read_by _ _ measure_is _ _ _ plain refl (refl, (refl, (refl, (refl, (refl, (refl, tt)))))) refl
  modules_read (first ∷ second ∷ words) plain =
      let found = rows (first ∷ []) second words in
      read_by _ _ measure_is _ _ _ plain (ends (first ∷ []) second words)
      (subst (HasWords measure_wants) (sym found) (refl, (refl, (refl, (refl, (refl, (refl, tt)))))))
      (ap (λ (r : List Row). Some (measure_found r)) (sym found))

measure_read : (words : List Text) → is_some (measure_split words) ≡ true → list_any has_dash words ≡ false
    → IsRead measure_wants measure_found words (measure_split words)
measure_read (a ∷ b ∷ c ∷ d ∷ e ∷ f ∷ modules) known plain = modules_read a b c d e f modules plain
measure_read _ known plain = absurd (true≢false (sym known))

-- ---- by the name of the command

-- `clap` takes the words, and what it finds is what they are by their places
pub record ReadsAs (name : CommandName) (words : List Text) : Type 0 where
  pub taken : takes (app_of_wants (wants_of name)) words ≡ true
  pub has : (rows : List Row) → rows ≡ matches_of (app_of_wants (wants_of name)) words → HasWords (wants_of name) rows
  pub finds : (rows : List Row) → rows ≡ matches_of (app_of_wants (wants_of name)) words → Finds name words rows

reads : {S : Type 0} (name : CommandName) (words : List Text) (found : List Row → S) (split : Option S) → IsRead (wants_of name) found words split
    → ((rows : List Row) → split ≡ Some (found rows) → Finds name words rows) → ReadsAs name words
reads name words found split it finds = record { taken = it.taken; has = it.has; finds = λ rows e. finds rows (it.is rows _ e refl) }

pub words_read : (name : CommandName) (words : List Text) → IsKnown name words → list_any has_dash words ≡ false → ReadsAs name words
words_read command.Flat words known plain = reads command.Flat words _ _ (flat_read words known plain) (λ rows e. e)
words_read command.Generated words known plain = reads command.Generated words _ _ (gen_read words known plain) (λ rows e. e)
words_read (command.Run kind) words known plain = reads (command.Run kind) words _ _ (run_read kind words known plain) (λ rows e. e)
words_read command.Survey words known plain = reads command.Survey words _ _ (survey_read words known plain) (λ rows e. e)
words_read command.Debug words known plain = reads command.Debug words _ _ (survey_read words known plain) (λ rows e. e)
words_read (command.Live kind) words known plain = reads (command.Live kind) words _ _ (live_read kind words known plain) (λ rows e. e)
words_read (command.Snap kind) words known plain = reads (command.Snap kind) words _ _ (snap_read kind words known plain) (λ rows e. e)
words_read command.Sweep words known plain = reads command.Sweep words _ _ (sweep_read words known plain) (λ rows e. e)
words_read command.Shrink words known plain = reads command.Shrink words _ _ (snap_read DiskKind.Block words known plain) (λ rows e. e)
words_read command.Resume words known plain = reads command.Resume words _ _ (resume_read words known plain) (λ rows e. e)
words_read command.Show words known plain = reads command.Show words _ _ (show_read words known plain) (λ rows e. e)
words_read command.Measure words known plain = reads command.Measure words _ _ (measure_read words known plain) (λ rows e. e)
words_read command.Convert words known plain = reads command.Convert words _ _ (convert_read words known plain) (λ rows e. e)
