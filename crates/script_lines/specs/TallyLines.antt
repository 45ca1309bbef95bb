-- The lines of a sweep, and its status. This project's own.
use Rattle.std.specs.Prelude.{ℕ, ◌==◌, Bool, true, false, if◌then◌else◌, List, [], ◌++◌, length, take, filter, flat_map, codes}
use Rattle.std.specs.Fmt.{decimal}
use Rattle.sv_types.specs.Output.{address_text, line_end}
use Rattle.sv_types.specs.declared.status.Status.{Status}
use Rattle.script_lines.specs.declared.tally.outcome.Outcome.{Outcome}
use Rattle.script_lines.specs.declared.tally.outcome.Outcome.TheVariants.{ShutDown, Entry, Write, Ended}
use Rattle.script_lines.specs.declared.tally.tally.Tally.{Tally}
use Rattle.script_lines.specs.Tallies.{tally_in}

-- ---- one line

abbrev pub first_text : Tally → List ℕ
first_text tally = if tally.runs == 0 then codes "none" else decimal tally.first

-- how many runs, and the least of their numbers
unfoldable pub runs_text : Tally → List ℕ
runs_text tally = decimal tally.runs ++ (codes " first " ++ first_text tally)

unfoldable pub shut_down_line : Tally → List ℕ
shut_down_line tally = codes "shutdown " ++ (runs_text tally ++ line_end)

unfoldable pub ended_line : Tally → List ℕ
ended_line tally = codes "ended " ++ (runs_text tally ++ line_end)

-- how many distinct ways to stop came
unfoldable pub count_line : ℕ → List ℕ
count_line count = codes "stops " ++ (decimal count ++ line_end)

unfoldable pub stop_line : Outcome × Tally → List ℕ
stop_line (ShutDown, tally) = []
stop_line (Entry target, tally) = codes "stopped entry target " ++ (address_text target ++ (codes " " ++ (runs_text tally ++ line_end)))
stop_line (Write pc gpa, tally) =
    codes "stopped write pc " ++ (address_text pc ++ (codes " gpa " ++ (address_text gpa ++ (codes " " ++ (runs_text tally ++ line_end)))))
stop_line (Ended, tally) = []

-- ---- all lines

abbrev pub is_stop : Outcome → Bool
is_stop ShutDown = false
is_stop (Entry target) = true
is_stop (Write pc gpa) = true
is_stop Ended = false

-- the ways to stop that came, in the order of their least numbers
abbrev pub stops_of : List (Outcome × Tally) → List (Outcome × Tally)
stops_of entries = filter (λ entry. is_stop entry.0) entries

-- so many of them have a line
abbrev pub max_stop_lines : ℕ
max_stop_lines = 64

abbrev pub stop_lines : List (Outcome × Tally) → List ℕ
stop_lines stops = flat_map stop_line (take max_stop_lines stops)

unfoldable pub sweep_text : List (Outcome × Tally) → List ℕ
sweep_text entries =
    shut_down_line (tally_in ShutDown entries) ++
    (count_line (length (stops_of entries)) ++ (stop_lines (stops_of entries) ++ ended_line (tally_in Ended entries)))

-- ---- the status

abbrev pub without_stop : Tally → Status
without_stop ended = if ended.runs == 0 then Status.Done else Status.Ended

-- done where all runs shut down, stopped where one did
abbrev pub sweep_status : List (Outcome × Tally) → Status
sweep_status entries = if length (stops_of entries) == 0 then without_stop (tally_in Ended entries) else Status.Stopped
