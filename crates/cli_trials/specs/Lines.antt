-- What is printed of a run that was to be made small, and the status. This project's own.
use Rattle.std.specs.Prelude.{ℕ, List, ◌++◌, length, codes}
use Rattle.std.specs.Fmt.{decimal}
use Rattle.sv_types.specs.Output.{line_end}
use Rattle.sv_types.specs.declared.status.Status.{Status}
use Rattle.cli_trials.specs.declared.shrink.shrinking.Shrunk.{Shrunk}
use Rattle.cli_trials.specs.declared.shrink.shrinking.Shrunk.TheVariants.{NothingStopped, Made}

-- the lines that are left, those up to the stop before any was taken away, and the runs that it took
unfoldable pub shrunk_line : Shrunk → List ℕ
shrunk_line NothingStopped = codes "nothing stopped" ++ line_end
shrunk_line (Made script) =
    codes "shrunk " ++
    (decimal (length script.lines.items) ++ (codes " of " ++ (decimal script.lines_before ++ (codes " runs " ++ (decimal script.runs ++ line_end)))))

abbrev pub shrunk_status : Shrunk → Status
shrunk_status NothingStopped = Status.Ended
shrunk_status (Made script) = Status.Done
