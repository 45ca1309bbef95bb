-- Runs of pages that are guarded alike. This project's own.
use Rattle.std.specs.Prelude.{ℕ, ◌+◌, ◌*◌, if◌then◌else◌, List, [], ◌∷◌, ◌++◌, flat_map, codes}
use Rattle.std.specs.Fmt.{decimal}
use Rattle.spec_processor.specs.Bytes.{ram_base, page_size}
use Rattle.sv_types.specs.Output.{address_text, line_end}
use Rattle.sv_types.specs.declared.protection.Protection.{Protection}
use Rattle.sv_types.specs.Protections.{is_same, protection_name}
use Rattle.debug_views.specs.declared.pages.PageRun.{PageRun}

-- a page alone
abbrev pub one_page : ℕ → Protection → PageRun
one_page page guard = record { first = page; count = 1; guard = guard }

-- a run before others; it is one with the first of them where both are guarded alike
abbrev pub joined : PageRun → List PageRun → List PageRun
joined run [] = run ∷ []
joined run (next ∷ rest) = if is_same run.guard next.guard then record run { count = run.count + next.count } ∷ rest else run ∷ (next ∷ rest)

-- the runs of pages from one on
unfoldable pub page_runs : (page : ℕ) → List Protection → List PageRun
page_runs page [] = []
page_runs page (guard ∷ guards) = joined (one_page page guard) (page_runs (page + 1) guards)

-- ---- the text

abbrev pub page_address : ℕ → ℕ
page_address page = ram_base + page_size * page

unfoldable pub run_line : PageRun → List ℕ
run_line run =
    codes "pages " ++ (decimal run.count
    ++ (codes " from " ++ (address_text (page_address run.first) ++ (codes " " ++ (protection_name run.guard ++ line_end)))))

-- a line for each run
unfoldable pub pages_text : List Protection → List ℕ
pages_text guards = flat_map run_line (page_runs 0 guards)
