use Rattle.std.proofs.Common.{◌≡◌, ◌++◌, string_bytes}
use Rattle.cli_snap.specs.DeviceTexts.{module_line}
use Rattle.cli_snap.specs.Lines.{lines_of}
use Rattle.cli_snap.proofs.LineLists.{lines_from}
use Rattle.cli_snap.proofs.show.modules.push_modules.Given as goal

abbrev pub invariant-modules : goal.invariant-modules
invariant-modules l =
    string_bytes l.text ++ lines_from (λ place m. module_line m) l.modules l.place ≡ string_bytes l.fn.text ++ lines_of (λ place m. module_line m) 0 l.modules
