-- Runs of pages, as a loop finds them.
use Rattle.std.proofs.Common.{◌≡◌, ℕ, ◌+◌, ◌<◌, ◌≤◌, List, ◌++◌, length, get_or, drop, refl, sym, ap, ◌∙◌, append_assoc, Bool, true, false, if◌then◌else◌, add-one}
use Rattle.std.proofs.Math.Seq.{drop-cons}
use Rattle.std.proofs.lemmas.List.{drop_all}
use Rattle.sv_types.specs.declared.protection.Protection.{Protection}
use Rattle.cli_snap.specs.declared.show.pages.PageRun.{PageRun}
use Rattle.sv_types.specs.Protections.{is_same}
use Rattle.cli_snap.specs.PageTexts.{run_line, next_run, ended_line, run_lines}

lines_left : (run : PageRun) (pages : List Protection) (i : ℕ) (d : Protection) → i < length pages →
    run_lines run (drop i pages) ≡ ended_line run (get_or pages i d) ++ run_lines (next_run run (get_or pages i d)) (drop (i + 1) pages)
unfolding run_lines
lines_left run pages i d inside =
    ap (run_lines run) (drop-cons pages i d inside)
    ∙ ap (λ n. ended_line run (get_or pages i d) ++ run_lines (next_run run (get_or pages i d)) (drop n pages)) (sym (add-one i))

pub one_page : (run next : PageRun) (pages : List Protection) (i : ℕ) (d : Protection) (whole out after : List ℕ) → i < length pages →
    out ++ run_lines run (drop i pages) ≡ whole → after ≡ out ++ ended_line run (get_or pages i d) → next ≡ next_run run (get_or pages i d) →
    after ++ run_lines next (drop (i + 1) pages) ≡ whole
one_page run next pages i d whole out after inside so_far pushed next_is =
    ap (λ r. after ++ run_lines r (drop (i + 1) pages)) next_is
    ∙ ap (λ bytes. bytes ++ run_lines (next_run run (get_or pages i d)) (drop (i + 1) pages)) pushed
    ∙ append_assoc out (ended_line run (get_or pages i d)) (run_lines (next_run run (get_or pages i d)) (drop (i + 1) pages))
    ∙ ap (λ bytes. out ++ bytes) (sym (lines_left run pages i d inside))
    ∙ so_far

last_by : (b : Bool) (run : PageRun) (page : Protection) →
    (if b then record run { last = run.last + 1 } else record { first = run.last + 1; last = run.last + 1; protection = page }).last ≡ run.last + 1
last_by true run page = refl
last_by false run page = refl

pub last_next : (run : PageRun) (page : Protection) → (next_run run page).last ≡ run.last + 1
unfolding next_run
last_next run page = last_by (is_same run.protection page) run page

pub last_line : (run : PageRun) (pages : List Protection) (i : ℕ) (whole out after : List ℕ) → length pages ≤ i →
    out ++ run_lines run (drop i pages) ≡ whole → after ≡ out ++ run_line run → after ≡ whole
unfolding run_lines
last_line run pages i whole out after end so_far pushed =
    pushed ∙ ap (λ rest. out ++ run_lines run rest) (sym (drop_all i pages end)) ∙ so_far
