use Rattle.std.proofs.Common.{◌≡◌, ◌++◌, [], map, get_or, option_map}
use Rattle.elf64_load.specs.KernelViews.{names_view}
use Rattle.cli_snap.specs.Lines.{lines_of, register_line}
use Rattle.cli_snap.proofs.LineLists.{lines_from}
use Rattle.cli_snap.proofs.show.lines.push_registers.Given as goal

abbrev pub invariant-values : goal.invariant-values
invariant-values l =
    l.text.items ++ lines_from (λ place value. register_line (option_map names_view l.names) (get_or (map (λ name. name.now) l.registers) place []) value) l.values l.place
    ≡ l.fn.text.items ++ lines_of (λ place value. register_line (option_map names_view l.names) (get_or (map (λ name. name.now) l.registers) place []) value) 0 l.values
