-- What the text of a script says: events, and lines `auto N`, each of which is the next N events of `auto(0, harts)`, counted on
-- through the whole text.
use Rattle.std.specs.Prelude.{ℕ, Bool, false, not, List, [], ◌∷◌, replicate, map, flat_map, ◌==◌, if◌then◌else◌, Option, Some, is_none}
use Rattle.std.specs.Prelude.{unwrap_or, option_map, codes}
use Rattle.std.specs.List.{list_all, position_from}
use Rattle.std.specs.Str.{bytes_eq}
use Rattle.sv_types.specs.declared.event.Event.{Event}
use Rattle.sv_types.specs.Schedule.{Schedule, Auto, lines, fields, repeats, two_fields_events, fields_events, begun_with, next_event, after_event, number_sign}
use Rattle.script.specs.declared.said.Said.{Said}
use Rattle.script.specs.declared.said.Said.TheVariants.{This, Drawn}

-- ---- the forms of a line

-- events, each of which is said
abbrev pub all_said : Option (List Event) → Option (List Said)
all_said events = option_map (map This) events

-- what is drawn a number of times
abbrev pub drawn_times : ℕ → List Said
drawn_times count = replicate count Drawn

-- a word and a number
unfoldable pub two_fields_said : List ℕ → List ℕ → Option (List Said)
two_fields_said word number =
    if bytes_eq word (codes "auto") then option_map drawn_times (repeats number) else all_said (two_fields_events word number)

-- what a line's fields say, none where they are of no form
abbrev pub fields_said : List (List ℕ) → Option (List Said)
fields_said (word ∷ number ∷ []) = two_fields_said word number
fields_said fields = all_said (fields_events fields)

-- empty lines and those that begin with a number sign are passed over
unfoldable pub line_said : List ℕ → Option (List Said)
line_said [] = Some []
line_said (first ∷ rest) = if first == number_sign then Some [] else fields_said (fields (first ∷ rest))

-- ---- a text

abbrev pub is_refused : List ℕ → Bool
is_refused line = is_none (line_said line)

-- the number of the first line of no form, where lines are counted from 1
unfoldable pub first_refused : List ℕ → Option ℕ
first_refused text = position_from is_refused 1 (lines text)

abbrev pub said_of_line : List ℕ → List Said
said_of_line line = unwrap_or (line_said line) []

-- what all lines say
unfoldable pub text_said : List ℕ → List Said
text_said text = flat_map said_of_line (lines text)

-- the events that are said, where those that are drawn are a schedule's
abbrev pub events_drawn : Schedule → List Said → List Event
events_drawn autos [] = []
events_drawn autos (This event ∷ more) = event ∷ events_drawn autos more
events_drawn autos (Drawn ∷ more) = begun_with (next_event autos) (events_drawn (after_event autos) more)

-- the events of a text, for a machine of so many harts
abbrev pub events_of_text : (harts : ℕ) → List ℕ → List Event
events_of_text harts text = events_drawn (Auto harts 0) (text_said text)

-- ---- texts without these lines

-- the word `auto`, and one field more
abbrev pub is_auto : List (List ℕ) → Bool
is_auto (word ∷ number ∷ []) = bytes_eq word (codes "auto")
is_auto _ = false

-- no line is one of them
abbrev pub has_no_autos : List ℕ → Bool
has_no_autos text = list_all (λ line. not (is_auto (fields line))) (lines text)
