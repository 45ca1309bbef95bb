-- Why a run stands as it does: its verdict, or what was noted last. This project's own.
use Rattle.std.specs.Prelude.{ℕ, ◌-◌, ◌==◌, if◌then◌else◌, List, [], ◌++◌, length, slice_get, codes, Option, Some, None}
use Rattle.std.specs.Fmt.{decimal}
use Rattle.sv_types.specs.Output.{line_end, verdict_line}
use Rattle.sv_types.specs.declared.event.Note.{Note}
use Rattle.sv_types.specs.declared.event.Note.TheVariants.{Demote, Denied, Load, Unload, Retire}
use Rattle.sv_types.specs.declared.event.Rule.{Rule}
use Rattle.sv_types.specs.declared.event.Rule.TheVariants.{Entry, Write}
use Rattle.sv_types.specs.declared.event.Verdict.{Verdict}
use Rattle.sv_types.specs.declared.event.Verdict.TheVariants.{Running, Shutdown, Stopped}
use Rattle.spec_reference.specs.Report.{note_line}
use Rattle.spec_reference.specs.States.{Journal}
use Rattle.debug_session.specs.Places.{place_line}
use Rattle.debug_session.specs.declared.places.Place.TheVariants.{By, At, To}

abbrev pub last_of : List Note → Option Note
last_of notes = slice_get notes (length notes - 1)

abbrev pub line_of : Option Note → List ℕ
line_of None = codes "nothing is noted" ++ line_end
line_of (Some note) = note_line note

-- the last note; the journal keeps the first 4,096
unfoldable pub noted_text : List Note → (counted : ℕ) → List ℕ
noted_text notes counted =
    if counted == length notes then line_of (last_of notes) else codes "the last note of " ++ (decimal counted ++ (codes " isn't kept" ++ line_end))

abbrev pub reason_of : Verdict → List Note → (counted : ℕ) → List ℕ
reason_of Running notes counted = noted_text notes counted
reason_of Shutdown notes counted = verdict_line Shutdown
reason_of (Stopped rule hart turn) notes counted = verdict_line (Stopped rule hart turn)

abbrev pub reason_text : Journal → List ℕ
reason_text j = reason_of j.verdict j.notes j.counts.notes

-- ---- the names of the addresses in it, a line each

abbrev pub write_names : (kernel : List ℕ) → (pc gpa : ℕ) → List ℕ
write_names kernel pc gpa = place_line kernel (By pc) ++ place_line kernel (At gpa)

abbrev pub rule_names : (kernel : List ℕ) → Rule → List ℕ
rule_names kernel (Entry target) = place_line kernel (To target)
rule_names kernel (Write pc gpa) = write_names kernel pc gpa

abbrev pub note_names : (kernel : List ℕ) → Option Note → List ℕ
note_names kernel None = []
note_names kernel (Some (Demote hart turn pc gpa)) = write_names kernel pc gpa
note_names kernel (Some (Denied gpa)) = place_line kernel (At gpa)
note_names kernel (Some (Load hart turn id code)) = []
note_names kernel (Some (Unload hart turn id code)) = []
note_names kernel (Some (Retire hart turn code)) = []

-- the last note, where the journal keeps it
abbrev pub kept_last : List Note → (counted : ℕ) → Option Note
kept_last notes counted = if counted == length notes then last_of notes else None

abbrev pub names_of : (kernel : List ℕ) → Verdict → List Note → (counted : ℕ) → List ℕ
names_of kernel Running notes counted = note_names kernel (kept_last notes counted)
names_of kernel Shutdown notes counted = []
names_of kernel (Stopped rule hart turn) notes counted = rule_names kernel rule

abbrev pub reason_names : (kernel : List ℕ) → Journal → List ℕ
reason_names kernel j = names_of kernel j.verdict j.notes j.counts.notes
