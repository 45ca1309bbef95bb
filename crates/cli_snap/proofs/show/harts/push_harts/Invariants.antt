use Rattle.std.proofs.Common.{◌≡◌, ◌++◌, option_map}
use Rattle.elf64_load.specs.KernelViews.{names_view}
use Rattle.cli_snap.specs.HartTexts.{hart_text}
use Rattle.cli_snap.specs.Lines.{lines_of}
use Rattle.cli_snap.proofs.LineLists.{lines_from}
use Rattle.cli_snap.proofs.show.harts.push_harts.Given as goal

abbrev pub invariant-harts : goal.invariant-harts
invariant-harts l =
    l.text.items ++ lines_from (hart_text (option_map names_view l.names)) l.harts l.number
    ≡ l.fn.text.items ++ lines_of (hart_text (option_map names_view l.names)) 0 l.harts
