-- Runs of pages, page by page.
use Rattle.std.proofs.Common.{◌≡◌, ℕ, ◌+◌, ◌<◌, ◌≤◌, Bool, true, false, if◌then◌else◌, List, [], ◌∷◌, ◌++◌, length, drop, refl, sym, ◌∙◌, ap, arith}
use Rattle.std.proofs.lemmas.List.{append-nil, append_assoc, drop_more, drop_all}
use Rattle.std.specs.Prelude.{flat_map, get_or}
use Rattle.sv_types.specs.declared.protection.Protection.{Protection}
use Rattle.sv_types.specs.declared.protection.Protection.TheVariants.{Free, Held, Approved}
use Rattle.sv_types.specs.Protections.{is_same}
use Rattle.debug_views.specs.Pages.{joined, one_page, page_runs, run_line, pages_text}
use Rattle.debug_views.specs.declared.pages.PageRun.{PageRun}

same_guards : (a b : Protection) → is_same a b ≡ true → a ≡ b
same_guards Free Free is = refl
same_guards Free Held is = absurd (cc)
same_guards Free Approved is = absurd (cc)
same_guards Held Free is = absurd (cc)
same_guards Held Held is = refl
same_guards Held Approved is = absurd (cc)
same_guards Approved Free is = absurd (cc)
same_guards Approved Held is = absurd (cc)
same_guards Approved Approved is = refl

same_itself : (a : Protection) → is_same a a ≡ true
same_itself Free = refl
same_itself Held = refl
same_itself Approved = refl

abbrev run_of : (first count : ℕ) → Protection → PageRun
run_of first count guard = record { first = first; count = count; guard = guard }

longer : (first count page : ℕ) (g : Protection) (r : PageRun) (rs : List PageRun) (b : Bool) → is_same g r.guard ≡ b →
    (if b then run_of first (count + 1 + r.count) g ∷ rs else run_of first (count + 1) g ∷ (r ∷ rs))
    ≡ joined (run_of first count g) (if b then run_of page (1 + r.count) g ∷ rs else one_page page g ∷ (r ∷ rs))
longer first count page g r rs true is =
    let sum : count + 1 + r.count ≡ count + (1 + r.count) = omega arith in
    ap (λ n. run_of first n g ∷ rs) sum
    ∙ sym (ap (λ b. if b then run_of first (count + (1 + r.count)) g ∷ rs else run_of first count g ∷ (run_of page (1 + r.count) g ∷ rs)) (same_itself g))
longer first count page g r rs false is =
    sym (ap (λ b. if b then run_of first (count + 1) g ∷ (r ∷ rs) else run_of first count g ∷ (one_page page g ∷ (r ∷ rs))) (same_itself g))

-- a run that a page is put to
one_more : (first count page : ℕ) (g : Protection) (rest : List PageRun) →
    joined (run_of first (count + 1) g) rest ≡ joined (run_of first count g) (joined (one_page page g) rest)
one_more first count page g [] = sym (ap (λ b. if b then run_of first (count + 1) g ∷ [] else run_of first count g ∷ (one_page page g ∷ [])) (same_itself g))
one_more first count page g (r ∷ rs) = longer first count page g r rs (is_same g r.guard) refl

pub page_joined : (run : PageRun) (page : ℕ) (guard : Protection) (put : List ℕ) → is_same run.guard guard ≡ true → (rest : List PageRun) →
    put ++ flat_map run_line (joined (run_of run.first (run.count + 1) run.guard) rest) ≡ put ++ flat_map run_line (joined run (joined (one_page page guard) rest))
page_joined run page guard put is rest =
    ap (λ runs. put ++ flat_map run_line runs)
    (one_more run.first run.count page run.guard rest ∙ ap (λ g. joined run (joined (one_page page g) rest)) (same_guards run.guard guard is))

apart_by : (run : PageRun) (page : ℕ) (guard : Protection) (r : PageRun) (rs : List PageRun) (b : Bool) → is_same run.guard guard ≡ false →
    joined run (if b then run_of page (1 + r.count) guard ∷ rs else one_page page guard ∷ (r ∷ rs))
    ≡ run ∷ (if b then run_of page (1 + r.count) guard ∷ rs else one_page page guard ∷ (r ∷ rs))
apart_by run page guard r rs true is =
    ap (λ b. if b then run_of run.first (run.count + (1 + r.count)) run.guard ∷ rs else run ∷ (run_of page (1 + r.count) guard ∷ rs)) is
apart_by run page guard r rs false is = ap (λ b. if b then run_of run.first (run.count + 1) run.guard ∷ (r ∷ rs) else run ∷ (one_page page guard ∷ (r ∷ rs))) is

-- a run that a page isn't put to
apart : (run : PageRun) (page : ℕ) (guard : Protection) (rest : List PageRun) → is_same run.guard guard ≡ false →
    joined run (joined (one_page page guard) rest) ≡ run ∷ joined (one_page page guard) rest
apart run page guard [] is = ap (λ b. if b then run_of run.first (run.count + 1) run.guard ∷ [] else run ∷ (one_page page guard ∷ [])) is
apart run page guard (r ∷ rs) is = apart_by run page guard r rs (is_same guard r.guard) is

pub run_ended : (run : PageRun) (page : ℕ) (guard : Protection) (put front : List ℕ) → is_same run.guard guard ≡ false → front ≡ put ++ run_line run → (rest : List PageRun) →
    front ++ flat_map run_line (joined (one_page page guard) rest) ≡ put ++ flat_map run_line (joined run (joined (one_page page guard) rest))
run_ended run page guard put front is line rest =
    ap (λ xs. xs ++ flat_map run_line (joined (one_page page guard) rest)) line
    ∙ append_assoc put (run_line run) (flat_map run_line (joined (one_page page guard) rest))
    ∙ ap (λ runs. put ++ flat_map run_line runs) (sym (apart run page guard rest is))

-- ---- all pages

pub no_pages : (guards : List Protection) → length guards ≡ 0 → [] ≡ pages_text guards
unfolding pages_text page_runs
no_pages [] none = refl
no_pages (g ∷ guards) none = absurd (cc)

pub from_first : (guards : List Protection) (d : Protection) → 0 < length guards → flat_map run_line (joined (one_page 0 (get_or guards 0 d)) (page_runs 1 (drop 1 guards))) ≡ pages_text guards
unfolding pages_text page_runs
from_first [] d some = absurd (omega (arith, some))
from_first (g ∷ guards) d some = refl

pub next_page : (guards : List Protection) (page : ℕ) (d : Protection) → page < length guards →
    page_runs page (drop page guards) ≡ joined (one_page page (get_or guards page d)) (page_runs (page + 1) (drop (page + 1) guards))
unfolding page_runs
next_page guards page d some = ap (page_runs page) (drop_more guards page d some)

pub last_run : (run : PageRun) (guards : List Protection) (page : ℕ) (put front whole : List ℕ) → length guards ≤ page →
    put ++ flat_map run_line (joined run (page_runs page (drop page guards))) ≡ whole →
    front ≡ put ++ run_line run → front ≡ whole
unfolding page_runs
last_run run guards page put front whole over is line =
    line ∙ ap (λ xs. put ++ xs) (sym (append-nil (run_line run)))
    ∙ ap (λ gs. put ++ flat_map run_line (joined run (page_runs page gs))) (sym (drop_all page guards over)) ∙ is
