-- Pages that are approved some at a time, as the judgement of a snapshot's pages asks.
use Rattle.std.proofs.Common.{◌≡◌, ℕ, zero, suc, ◌*◌, ◌/◌, ◌<◌, List, [], ◌∷◌, ◌++◌, length, drop, get_or, replicate, refl, sym, ◌∙◌, ap, subst, Bool, true, false, arith}
use Rattle.std.specs.Prelude.{Option, Some, None, is_some}
use Rattle.std.specs.List.{list_all}
use Rattle.spec_processor.specs.Bytes.{page_size}
use Rattle.sv_types.specs.ApprovedPages.{numbers_from}
use Rattle.sv_types.specs.Policies.{Rules}
use Rattle.sv_types.specs.declared.module.Span.{Span}
use Rattle.sv_types.specs.declared.protection.Protection.{Protection}
use Rattle.sv_types.specs.declared.protection.Protection.TheVariants.{Free, Held, Approved}
use Rattle.sv_types.specs.declared.saved.ModulePlacement.{ModulePlacement}
use Rattle.spec_reference.specs.Protections.{with_pages}
use Rattle.spec_reference.specs.States.{module_pages}
use Rattle.page_guard.specs.Guarded.{first_taken, with_span}
use Rattle.snapshot_format.specs.Snapshots.{Contents}
use Rattle.snapshot_format.specs.declared.whole.TextPage.{TextPage}
use Rattle.snapshot_format.proofs.FormLaws.{first_true, second_true}
use Rattle.snapshot_format.specs.Judgements.{approved_of, guard_due, protections_are_due, is_guarded_right, load_pages, loaded_pages, take_pages, text_left, then_held}
use Rattle.snapshot_format.specs.Taking.{left_of}
use Rattle.snapshot_format.proofs.TakenSpans.{span_twice, taken_none, taken_span}
use Rattle.snapshot_format.proofs.TakenLoops.{modules_break, none_behind, some_after, text_breaks}
use Rattle.laws_resume.proofs.DueProtections.{all_same}
use Rattle.machine.specs.Approving.{Approves, CanApprove, CanTake}

-- ---- where all can be taken, the first of them can

by_first : (x y : Option (List Protection)) → (x ≡ None → y ≡ None) → is_some y ≡ true → is_some x ≡ true
by_first None y none there = let gone : is_some y ≡ false = ap is_some (none refl) in cc
by_first (Some guard) y none there = refl

pub free_first : (p : Protection) (guard : List Protection) (some rest : List ℕ) → CanTake p guard (some ++ rest) → CanTake p guard some
free_first p guard some rest all = by_first (take_pages p guard some) (take_pages p guard (some ++ rest)) (none_behind p guard some rest) all

pub free_after : (p : Protection) (guard next : List Protection) (some rest : List ℕ) → CanTake p guard (some ++ rest) → take_pages p guard some ≡ Some next → CanTake p next rest
free_after p guard next some rest all is = subst (λ (g : Option (List Protection)). is_some g ≡ true) (some_after p guard next some rest is) all

-- the next page of the text, and the next module
pub text_free : (rules : Rules) (retired : Bool) (text : List TextPage) (i : ℕ) (d : TextPage) (old guard : List Protection) (all : List ℕ) → i < length text → CanApprove old all
    → take_pages Approved old all ≡ take_pages Approved guard (left_of rules retired (drop i text)) → CanApprove guard (left_of rules retired (get_or text i d ∷ []))
text_free rules retired text i d old guard all within free before =
    by_first (take_pages Approved guard (left_of rules retired (get_or text i d ∷ []))) (take_pages Approved old all)
    (λ none. text_breaks rules retired text i d (take_pages Approved old all) guard guard false within refl none before) free

pub module_free : (rules : Rules) (modules : List ModulePlacement) (i : ℕ) (d : ModulePlacement) (old guard : List Protection) (all : List ℕ) → i < length modules → CanApprove old all
    → take_pages Approved old all ≡ take_pages Approved guard (loaded_pages rules (drop i modules)) → CanApprove guard (module_pages rules (get_or modules i d))
module_free rules modules i d old guard all within free before =
    by_first (take_pages Approved guard (module_pages rules (get_or modules i d))) (take_pages Approved old all)
    (λ none. modules_break rules modules i d (take_pages Approved old all) guard guard false within refl none before) free

pub all_at : {A : Type 0} (test : A → Bool) (xs : List A) (i : ℕ) (d : A) → list_all test xs ≡ true → i < length xs → test (get_or xs i d) ≡ true
all_at test [] i d all within = absurd (omega (arith, within))
all_at test (x ∷ xs) zero d all within = first_true (test x) _ all
all_at test (x ∷ xs) (suc i) d all within = all_at test xs i d (second_true (test x) _ all) (omega (arith, within))

-- ---- a page past the end

-- ---- a span

pub span_set : (guard mid after : List Protection) (span hold : Span) → first_taken guard span ≡ None → mid ≡ with_span guard span Held → hold ≡ span
    → after ≡ with_span mid hold Approved → Approves guard after (numbers_from span.first span.count)
unfolding first_taken
span_set guard mid after span hold none held same set =
    let all : after ≡ with_pages guard span.first span.count Approved =
    set ∙ ap (λ (s : Span). with_span mid s Approved) same ∙ ap (λ (g : List Protection). with_span g span Approved) held
    ∙ span_twice guard span.first span.count Held Approved in
    taken_span Approved guard span.first span.count none ∙ ap Some (sym all)

pub span_busy : (p : Protection) (guard : List Protection) (span : Span) (q : ℕ) → CanTake p guard (numbers_from span.first span.count) → first_taken guard span ≡ Some q → ⊥
unfolding first_taken
span_busy p guard span q free found =
    let none : take_pages p guard (numbers_from span.first span.count) ≡ None = taken_none p guard (numbers_from span.first span.count) q found in
    let gone : is_some (take_pages p guard (numbers_from span.first span.count)) ≡ false = ap is_some none in cc

-- ---- what the judgement says

due_some : (x : Option (List Protection)) (pages : List ℕ) (ps : List Protection) → protections_are_due (then_held x pages) ps ≡ true → is_some x ≡ true
due_some None pages ps e = absurd cc
due_some (Some guard) pages ps e = refl

pub guard_free : (rules : Rules) (s : Contents) → is_guarded_right rules s ≡ true → CanApprove (replicate rules.ram_pages Free) (approved_of rules s)
unfolding is_guarded_right guard_due
guard_free rules s right = due_some (take_pages Approved (replicate rules.ram_pages Free) (approved_of rules s)) (load_pages rules s.loading) s.protection right

-- text first, and modules after it
pub both_taken : (guard mid after : List Protection) (text modules : List ℕ) → Approves guard mid text → Approves mid after modules → Approves guard after (text ++ modules)
both_taken guard mid after text modules first second = some_after Approved guard mid text modules first ∙ second

some_due : (x : Option (List Protection)) (ps : List Protection) → protections_are_due x ps ≡ true → is_some x ≡ true
some_due None ps e = absurd cc
some_due (Some guard) ps e = refl

-- the load's pages are free then
pub load_free : (rules : Rules) (s : Contents) (mid : List Protection) → is_guarded_right rules s ≡ true → Approves (replicate rules.ram_pages Free) mid (approved_of rules s)
    → CanTake Held mid (load_pages rules s.loading)
unfolding is_guarded_right guard_due
load_free rules s mid right is =
    some_due (take_pages Held mid (load_pages rules s.loading)) s.protection
    (subst (λ (x : Option (List Protection)). protections_are_due (then_held x (load_pages rules s.loading)) s.protection ≡ true) is right)

-- and the protections after it are the snapshot's
pub guard_is : (rules : Rules) (s : Contents) (mid after : List Protection) → is_guarded_right rules s ≡ true → Approves (replicate rules.ram_pages Free) mid (approved_of rules s)
    → take_pages Held mid (load_pages rules s.loading) ≡ Some after → after ≡ s.protection
unfolding is_guarded_right guard_due
guard_is rules s mid after right is held =
    all_same after s.protection
    (subst (λ (x : Option (List Protection)). protections_are_due x s.protection ≡ true) held
    (subst (λ (x : Option (List Protection)). protections_are_due (then_held x (load_pages rules s.loading)) s.protection ≡ true) is right))

-- ---- the guard, from all pages free on

pub fresh_pages : (n bytes : ℕ) (guard : List Protection) → bytes ≡ page_size * n → guard ≡ replicate (bytes / page_size) Free → guard ≡ replicate n Free
fresh_pages n bytes guard size fresh =
    let pages : bytes / page_size ≡ n = omega (arith, size) in fresh ∙ ap (λ (k : ℕ). replicate k Free) pages

pub text_first : (rules : Rules) (s : Contents) (guard : List Protection) → guard ≡ replicate rules.ram_pages Free → is_guarded_right rules s ≡ true → CanApprove guard (text_left rules s)
text_first rules s guard fresh right =
    subst (λ (g : List Protection). CanApprove g (text_left rules s)) (sym fresh)
    (free_first Approved (replicate rules.ram_pages Free) (text_left rules s) (loaded_pages rules s.modules) (guard_free rules s right))

pub modules_then : (rules : Rules) (s : Contents) (guard mid : List Protection) → guard ≡ replicate rules.ram_pages Free → is_guarded_right rules s ≡ true
    → Approves guard mid (text_left rules s) → CanApprove mid (loaded_pages rules s.modules)
modules_then rules s guard mid fresh right first =
    free_after Approved (replicate rules.ram_pages Free) mid (text_left rules s) (loaded_pages rules s.modules) (guard_free rules s right)
    (subst (λ (g : List Protection). Approves g mid (text_left rules s)) fresh first)

pub all_approved : (rules : Rules) (s : Contents) (guard mid after : List Protection) → guard ≡ replicate rules.ram_pages Free → Approves guard mid (text_left rules s)
    → Approves mid after (loaded_pages rules s.modules) → Approves (replicate rules.ram_pages Free) after (approved_of rules s)
all_approved rules s guard mid after fresh first second =
    both_taken (replicate rules.ram_pages Free) mid after (text_left rules s) (loaded_pages rules s.modules)
    (subst (λ (g : List Protection). Approves g mid (text_left rules s)) fresh first) second

pub length_free : (n : ℕ) → length (replicate n Free) ≡ n
length_free zero = refl
length_free (suc n) = ap suc (length_free n)
