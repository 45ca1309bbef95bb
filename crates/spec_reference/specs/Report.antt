-- What a run prints: the console's bytes, a line feed, a line for each note that is kept, and the lines of the counts and of
-- the verdict. This project's own.
use Rattle.std.specs.Prelude.{List, [], ◌∷◌, ◌++◌, ℕ, codes}
use Rattle.std.specs.Fmt.{decimal, signed_decimal}
use Rattle.sv_types.specs.Output.{line_end, address_text, report_lines}
use Rattle.sv_types.specs.SbiCodes.{code_number}
use Rattle.sv_types.specs.declared.event.Note.{Note}
use Rattle.sv_types.specs.declared.event.Note.TheVariants.{Demote, Denied, Load, Unload, Retire}
use Rattle.spec_reference.specs.States.{State, Journal}

unfoldable pub note_line : Note → List ℕ
note_line (Demote hart turn pc gpa) =
    codes "demote hart " ++ (decimal hart ++ (codes " turn " ++ (decimal turn ++ (codes " pc " ++ (address_text pc ++
    (codes " gpa " ++ (address_text gpa ++ line_end)))))))
note_line (Denied gpa) = codes "denied gpa " ++ (address_text gpa ++ line_end)
note_line (Load hart turn id code) =
    codes "load hart " ++ (decimal hart ++ (codes " turn " ++ (decimal turn ++ (codes " id " ++ (decimal id ++
    (codes " code " ++ (signed_decimal (code_number code) ++ line_end)))))))
note_line (Unload hart turn id code) =
    codes "unload hart " ++ (decimal hart ++ (codes " turn " ++ (decimal turn ++ (codes " id " ++ (decimal id ++
    (codes " code " ++ (signed_decimal (code_number code) ++ line_end)))))))
note_line (Retire hart turn code) =
    codes "retire hart " ++ (decimal hart ++ (codes " turn " ++ (decimal turn ++ (codes " code " ++ (signed_decimal (code_number code) ++ line_end)))))

abbrev pub note_lines : List Note → List ℕ
note_lines [] = []
note_lines (note ∷ notes) = note_line note ++ note_lines notes

-- what stands after the console's bytes
abbrev pub report : Journal → List ℕ
report j = line_end ++ (note_lines j.notes ++ report_lines j.verdict j.counts)

abbrev pub output : State → List ℕ
output r = r.journal.printed ++ report r.journal
