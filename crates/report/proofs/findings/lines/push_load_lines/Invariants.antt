use Rattle.std.proofs.Common.{◌≡◌, ◌++◌, flat_map, take}
use Rattle.sv_types.specs.Policies.{rules_of}
use Rattle.report.specs.Lines.{load_line}
use Rattle.report.proofs.findings.lines.push_load_lines.Given as goal

abbrev pub invariant-loads : goal.invariant-loads
invariant-loads l = l.text.items ≡ l.initial.text.items ++ flat_map (load_line (rules_of l.policy).modules) (take l.load-index l.loads)
