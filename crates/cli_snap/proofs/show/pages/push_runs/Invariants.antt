use Rattle.std.proofs.Common.{◌≡◌, ◌++◌, drop, string_bytes}
use Rattle.cli_snap.specs.PageTexts.{run_lines}
use Rattle.cli_snap.proofs.show.pages.push_runs.Given as goal

abbrev pub invariant-pages : goal.invariant-pages
invariant-pages l =
    (string_bytes l.text ++ run_lines l.run (drop l.page-index l.rest)
    ≡ string_bytes l.fn.text ++ run_lines (record { first = 0; last = 0; protection = l.fn.protection }) l.rest)
    × (l.run.last ≡ l.page-index)
