-- The lines of a walk, level by level.
use Rattle.std.proofs.Common.{◌≡◌, ℕ, Bool, true, false, ◌&&◌, if◌then◌else◌, List, ◌++◌, refl, sym, ◌∙◌, ap, Option, Some, None}
use Rattle.std.proofs.lemmas.List.{append-nil, append_assoc}
use Rattle.std.specs.Prelude.{is_some}
use Rattle.spec_processor.specs.Translation.{Settings, entry_in_ram}
use Rattle.sv39_walk.specs.Levels.{indices_of}
use Rattle.sv39_walk.proofs.Steps.{IsFirst, levels_of}
use Rattle.debug_views.specs.Walks.{going_on, level_line, next_table, walk_lines}

pub leaf_permits : (canonical leaf permitted : Bool) (gpa : ℕ) → canonical ≡ true → is_some (if canonical && leaf && permitted then Some gpa else None) ≡ (leaf && permitted)
leaf_permits true true true gpa is = refl
leaf_permits true true false gpa is = refl
leaf_permits true false true gpa is = refl
leaf_permits true false false gpa is = refl
leaf_permits false leaf permitted gpa is = absurd (cc)

walk_step : (ram : List ℕ) (s : Settings) (levels below table va at : ℕ) → IsFirst levels below table va at →
    walk_lines ram s (indices_of levels va) table
    ≡ level_line s below at (entry_in_ram ram at) ++ going_on (λ next. walk_lines ram s (indices_of below va) next) (next_table (entry_in_ram ram at))
unfolding walk_lines
walk_step ram s levels below table va at first = rw (first.more, first.place, levels_of below va) refl

abbrev after_line : (ram : List ℕ) → Settings → (below va : ℕ) → Option ℕ → List ℕ
after_line ram s below va table = going_on (λ next. walk_lines ram s (indices_of below va) next) table

step_put : (ram : List ℕ) (s : Settings) (levels below table va at : ℕ) (word : Option ℕ) (put front whole : List ℕ) → IsFirst levels below table va at → word ≡ entry_in_ram ram at →
    put ++ walk_lines ram s (indices_of levels va) table ≡ whole → front ≡ put ++ level_line s below at word → front ++ after_line ram s below va (next_table word) ≡ whole
step_put ram s levels below table va at word put front whole first read is line =
    ap (λ xs. xs ++ after_line ram s below va (next_table word)) line
    ∙ append_assoc put (level_line s below at word) (after_line ram s below va (next_table word))
    ∙ ap (λ w. put ++ (level_line s below at w ++ after_line ram s below va (next_table w))) read
    ∙ ap (λ xs. put ++ xs) (sym (walk_step ram s levels below table va at first)) ∙ is

pub walk_goes_on : (ram : List ℕ) (s : Settings) (levels below table va at next : ℕ) (word : Option ℕ) (put front whole : List ℕ) → IsFirst levels below table va at → word ≡ entry_in_ram ram at →
    next_table word ≡ Some next → put ++ walk_lines ram s (indices_of levels va) table ≡ whole → front ≡ put ++ level_line s below at word →
    front ++ walk_lines ram s (indices_of below va) next ≡ whole
walk_goes_on ram s levels below table va at next word put front whole first read more is line =
    ap (λ t. front ++ after_line ram s below va t) (sym more) ∙ step_put ram s levels below table va at word put front whole first read is line

pub walk_ends : (ram : List ℕ) (s : Settings) (levels below table va at : ℕ) (word : Option ℕ) (put front whole : List ℕ) → IsFirst levels below table va at → word ≡ entry_in_ram ram at →
    next_table word ≡ None → put ++ walk_lines ram s (indices_of levels va) table ≡ whole → front ≡ put ++ level_line s below at word → front ≡ whole
walk_ends ram s levels below table va at word put front whole first read none is line =
    sym (append-nil front) ∙ ap (λ t. front ++ after_line ram s below va t) (sym none) ∙ step_put ram s levels below table va at word put front whole first read is line

pub walk_over : (ram : List ℕ) (s : Settings) (levels table va : ℕ) (put whole : List ℕ) → levels ≡ 0 → put ++ walk_lines ram s (indices_of levels va) table ≡ whole → put ≡ whole
unfolding walk_lines
walk_over ram s levels table va put whole none is =
    sym (append-nil put) ∙ ap (λ n. put ++ walk_lines ram s (indices_of n va) table) (sym none) ∙ is
