-- The lines of pages: a line for each longest run of pages that are guarded alike, by the numbers of its first and of its
-- last page. This project's own.
use Rattle.std.specs.Prelude.{ℕ, ◌+◌, List, [], ◌∷◌, ◌++◌, if◌then◌else◌, codes}
use Rattle.std.specs.Fmt.{decimal}
use Rattle.sv_types.specs.Output.{line_end}
use Rattle.sv_types.specs.declared.protection.Protection.{Protection}
use Rattle.sv_types.specs.Protections.{is_same, protection_name}
use Rattle.cli_snap.specs.declared.show.pages.PageRun.{PageRun}

unfoldable pub run_line : PageRun → List ℕ
run_line run =
    codes "pages " ++ (decimal run.first ++ (codes " to " ++ (decimal run.last ++ (codes " " ++ (protection_name run.protection ++ line_end)))))

-- the run that the next page is in
unfoldable pub next_run : PageRun → Protection → PageRun
next_run run page =
    if is_same run.protection page then record run { last = run.last + 1 }
    else record { first = run.last + 1; last = run.last + 1; protection = page }

-- the line of a run that ends before the next page
unfoldable pub ended_line : PageRun → Protection → List ℕ
ended_line run page = if is_same run.protection page then [] else run_line run

unfoldable pub run_lines : PageRun → List Protection → List ℕ
run_lines run [] = run_line run
run_lines run (page ∷ pages) = ended_line run page ++ run_lines (next_run run page) pages

unfoldable pub page_texts : List Protection → List ℕ
page_texts [] = []
page_texts (page ∷ pages) = run_lines (record { first = 0; last = 0; protection = page }) pages
