use Rattle.std.proofs.Common.{◌≡◌, ◌+◌, ◌≤◌, ◌++◌, drop}
use Rattle.std.specs.Prelude.{flat_map, string_bytes}
use Rattle.debug_views.specs.Pages.{joined, page_runs, pages_text, run_line}
use Rattle.debug_views.proofs.pages.pages_text.Given as goal

-- the lines so far, that of the run under way, and those of the pages that are left
abbrev pub invariant-pages : goal.invariant-pages
invariant-pages l = record {
  text : string_bytes l.text ++ flat_map run_line (joined l.run (page_runs l.page (drop l.page l.guards))) ≡ pages_text l.guards;
  within : l.run.first + l.run.count ≤ l.page;
}
