use Rattle.std.proofs.Common.{rules, ◌≡◌, ◌+◌, ◌<◌, ◌≤◌, ◌++◌, [], length, drop, subst, sym, ◌∙◌, ap, arith}
use Rattle.std.specs.Prelude.{flat_map, get_or, string_bytes}
use Rattle.sv_types.specs.declared.protection.Protection.TheVariants.{Free}
use Rattle.debug_views.specs.Pages.{joined, one_page, page_runs, run_line}
use Rattle.debug_views.proofs.PageRuns.{from_first, last_run, next_page, no_pages}
use Rattle.debug_views.proofs.pages.pages_text.Goals as goal

pub returns-then-is_empty : goal.returns-then-is_empty
returns-then-is_empty c =
    let empty : string_bytes c.new-text.result ≡ [] = search rules in
    let none : length c.args.guards.now ≡ 0 = search rules in
    empty ∙ no_pages c.args.guards.now none

pub pages-init : goal.pages-init
pages-init c =
    let empty : string_bytes c.new-text.result ≡ [] = search rules in
    let some : 0 < length c.args.guards.now = search rules in
    let run : c.one_page-run.result ≡ one_page 0 (get_or c.args.guards.now 0 Free) = c.one_page-run.ensures in
    let rest = page_runs 1 (drop 1 c.args.guards.now) in
    record {
      text = ap (λ xs. xs ++ flat_map run_line (joined c.one_page-run.result rest)) empty ∙ ap (λ r. flat_map run_line (joined r rest)) run
          ∙ from_first c.args.guards.now Free some;
      within = subst (λ r. r.first + r.count ≤ 1) (sym run) (omega arith);
    }

pub pages-preserved : goal.pages-preserved
pages-preserved c =
    let some : c.pages.page < length c.args.guards.now = search rules in
    record {
      text = c.in_ok-run.ensures.text (page_runs (c.pages.page + 1) (drop (c.pages.page + 1) c.args.guards.now))
          ∙ ap (λ runs. string_bytes c.pages.text ++ flat_map run_line (joined c.pages.run runs)) (sym (next_page c.args.guards.now c.pages.page Free some))
          ∙ c.pages.invariant.text;
      within = c.in_ok-run.ensures.within;
    }

pub returns : goal.returns
returns c =
    let over : length c.args.guards.now ≤ c.pages.page = search rules in
    let line : string_bytes c.push_str.new.self ≡ string_bytes c.pages.text ++ run_line c.pages.run = search rules in
    last_run c.pages.run c.args.guards.now c.pages.page (string_bytes c.pages.text) (string_bytes c.push_str.new.self) _ over c.pages.invariant.text line
