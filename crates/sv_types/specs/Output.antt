-- What a run prints, and its status. This project's own.
use Rattle.std.specs.Prelude.{ℕ, zero, suc, ◌/◌, ◌%◌, List, [], ◌∷◌, ◌++◌, codes}
use Rattle.std.specs.Fmt.{decimal}
use Rattle.std.specs.Char.{digit_char}
use Rattle.sv_types.specs.declared.event.Counts.{Counts}
use Rattle.sv_types.specs.declared.event.Verdict.{Verdict}
use Rattle.sv_types.specs.declared.event.Verdict.TheVariants.{Running, Shutdown, Stopped}
use Rattle.sv_types.specs.declared.event.Rule.{Rule}
use Rattle.sv_types.specs.declared.event.Rule.TheVariants.{Entry, Write}
use Rattle.sv_types.specs.declared.status.Status.{Status}
use Rattle.sv_types.specs.Schedule.{line_feed}
use Rattle.sv_types.specs.Addresses.{address_digits}

-- what ends a line
abbrev pub line_end : List ℕ
line_end = line_feed ∷ []

-- the lowest n hexadecimal digits of a number, in lower case
unfoldable pub hexadecimal : ℕ → ℕ → List ℕ
hexadecimal zero value = []
hexadecimal (suc n) value = hexadecimal n (value / 16) ++ digit_char (value % 16) ∷ []

-- the hexadecimal digits of bytes
abbrev pub hexadecimal_bytes : List ℕ → List ℕ
hexadecimal_bytes [] = []
hexadecimal_bytes (b ∷ bs) = digit_char (b / 16) ∷ digit_char (b % 16) ∷ hexadecimal_bytes bs

-- the hexadecimal digits of an address, which has 64 bits
unfoldable pub address_text : ℕ → List ℕ
address_text a = codes "0x" ++ hexadecimal address_digits a

-- ---- counts

unfoldable pub notes_line : Counts → List ℕ
notes_line c = codes "notes " ++ (decimal c.notes ++ line_end)

unfoldable pub events_line : Counts → List ℕ
events_line c =
    codes "turns " ++ (decimal c.turns ++ (codes " beats " ++ (decimal c.beats ++ (codes " keys " ++ (decimal c.keys ++
    (codes " ticks " ++ (decimal c.ticks ++ line_end)))))))

unfoldable pub retired_line : Counts → List ℕ
retired_line c =
    codes "retired " ++ (decimal c.retired ++ (codes " traps " ++ (decimal c.traps ++ (codes " enters " ++ (decimal c.enters ++
    (codes " leaves " ++ (decimal c.leaves ++ (codes " demotes " ++ (decimal c.demotes ++ line_end)))))))))

unfoldable pub denied_line : Counts → List ℕ
denied_line c =
    codes "denied " ++ (decimal c.denied ++ (codes " dropped " ++ (decimal c.dropped ++ (codes " loads " ++ (decimal c.loads ++
    (codes " unloads " ++ (decimal c.unloads ++ (codes " refused " ++ (decimal c.refused ++ line_end)))))))))

-- ---- the verdict

unfoldable pub rule_name : Rule → List ℕ
rule_name (Entry target) = codes "entry"
rule_name (Write pc gpa) = codes "write"

unfoldable pub rule_places : Rule → List ℕ
rule_places (Entry target) = codes " target " ++ address_text target
rule_places (Write pc gpa) = codes " pc " ++ address_text pc ++ codes " gpa " ++ address_text gpa

unfoldable pub stop_head : Rule → ℕ → ℕ → List ℕ
stop_head rule hart turn =
    codes "verdict stopped " ++ (rule_name rule ++ (codes " hart " ++ (decimal hart ++ (codes " turn " ++ decimal turn))))

unfoldable pub verdict_line : Verdict → List ℕ
verdict_line Running = codes "verdict ended" ++ line_end
verdict_line Shutdown = codes "verdict shutdown" ++ line_end
verdict_line (Stopped rule hart turn) = stop_head rule hart turn ++ rule_places rule ++ line_end

-- ---- the whole

-- the report's lines after those of the notes
unfoldable pub report_lines : Verdict → Counts → List ℕ
report_lines verdict counts = notes_line counts ++ events_line counts ++ retired_line counts ++ denied_line counts ++ verdict_line verdict

abbrev pub run_status : Verdict → Status
run_status Running = Status.Ended
run_status Shutdown = Status.Done
run_status (Stopped rule hart turn) = Status.Stopped

-- the exit status of the program's process
abbrev pub status_number : Status → ℕ
status_number Status.Done = 0
status_number Status.Stopped = 1
status_number Status.Usage = 2
status_number Status.Refused = 3
status_number Status.ReadFault = 4
status_number Status.WriteFault = 5
status_number Status.Memory = 6
status_number Status.Ended = 7
