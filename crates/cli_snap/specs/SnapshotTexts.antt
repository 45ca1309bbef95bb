-- What is shown of a snapshot: its events and its time, harts, pages, modules and devices, and then the report that a run
-- that ended here would print. This project's own.
use Rattle.std.specs.Prelude.{ℕ, List, ◌++◌, Option, codes}
use Rattle.std.specs.Fmt.{decimal}
use Rattle.spec_reference.specs.Report.{report}
use Rattle.report.specs.Journals.{journal_with}
use Rattle.elf64_load.specs.Names.{KernelNames}
use Rattle.snapshot_format.specs.Snapshots.{Contents}
use Rattle.sv_types.specs.Output.{line_end}
use Rattle.cli_snap.specs.HartTexts.{hart_texts}
use Rattle.cli_snap.specs.PageTexts.{page_texts}
use Rattle.cli_snap.specs.DeviceTexts.{module_lines, load_line, init_line, console_line, port_line, disk_line}

unfoldable pub head_line : (events time : ℕ) → List ℕ
head_line events time = codes "events " ++ (decimal events ++ (codes " time " ++ (decimal time ++ line_end)))

unfoldable pub gate_lines : Contents → List ℕ
gate_lines s = module_lines s.modules ++ load_line s.loading ++ init_line s.retired

unfoldable pub device_lines : Contents → List ℕ
device_lines s = console_line s.console ++ port_line s.port ++ disk_line s.disk

-- with the names of a kernel's code, where one is given
unfoldable pub snapshot_text : Option KernelNames → Contents → List ℕ
snapshot_text names s =
    head_line s.events s.time ++ hart_texts names s.harts ++ page_texts s.protection ++ gate_lines s ++ device_lines s
    ++ report (journal_with s.notes s.verdict s.counts)
