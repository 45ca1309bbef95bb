use Rattle.std.proofs.Common.{◌≡◌, ◌++◌, flat_map, take}
use Rattle.elf64_load.specs.KernelViews.{names_view}
use Rattle.report.specs.Lines.{write_line}
use Rattle.report.proofs.findings.lines.push_write_lines.Given as goal

abbrev pub invariant-findings : goal.invariant-findings
invariant-findings l = l.text.items ≡ l.initial.text.items ++ flat_map (write_line (names_view l.names)) (take l.finding-index l.findings)
