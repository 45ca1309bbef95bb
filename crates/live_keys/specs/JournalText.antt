-- The text of a journal, as a script: a line for each key, and one for each run of other events.
use Rattle.std.specs.Prelude.{ℕ, zero, suc, ◌-◌, List, [], ◌∷◌, ◌++◌, flat_map, codes}
use Rattle.sv_types.specs.Schedule.{blank}
use Rattle.std.specs.Fmt.{decimal}
use Rattle.live_keys.specs.declared.live_key.LiveKey.{LiveKey}
use Rattle.sv_types.specs.Output.{line_end}

abbrev pub key_line : ℕ → List ℕ
key_line byte = codes "key" ++ blank ∷ decimal byte

abbrev pub auto_line : ℕ → List ℕ
auto_line count = codes "auto" ++ blank ∷ decimal count

-- one line for a run of events, none for no event
abbrev pub auto_lines : ℕ → List (List ℕ)
auto_lines zero = []
auto_lines (suc count) = auto_line (suc count) ∷ []

-- the lines from one number of other events up to another
abbrev pub journal_lines : (first : ℕ) → List LiveKey → (last : ℕ) → List (List ℕ)
journal_lines first [] last = auto_lines (last - first)
journal_lines first (key ∷ keys) last = auto_lines (key.before - first) ++ key_line key.byte ∷ journal_lines key.before keys last

-- the most bytes that a key's line takes with the run before it, and the last run
abbrev pub max_key_bytes : ℕ
max_key_bytes = 24

abbrev pub max_run_bytes : ℕ
max_run_bytes = 16

abbrev pub ended_line : List ℕ → List ℕ
ended_line line = line ++ line_end

abbrev pub text_of : List (List ℕ) → List ℕ
text_of all = flat_map ended_line all

unfoldable pub journal_text : List LiveKey → (last : ℕ) → List ℕ
journal_text keys last = text_of (journal_lines 0 keys last)
