-- The pages of a load that are counted again, from the first to those that were counted before.
use Rattle.std.proofs.Common.{◌≡◌, ℕ, suc, ◌+◌, ◌-◌, ◌*◌, ◌/◌, ◌%◌, ◌<◌, ◌≤◌, List, [], ◌∷◌, length, refl, sym, ◌∙◌, ap, subst, Bool, true, false, ◌||◌, arith, slice_get}
use Rattle.std.proofs.lemmas.Bool.Decides.{nat_tests}
use Rattle.std.specs.Prelude.{Option, Some, None, IsTrue, IsSome, is_some, filter, find, nat_le, ◌==◌, if◌then◌else◌}
use Rattle.std.specs.List.{list_any}
use Rattle.std.proofs.lemmas.Bool.{eq-eqb}
use Rattle.spec_processor.specs.Bytes.{page_size, page_of, page_bytes, ram_base, ram_offset}
use Rattle.sv_types.specs.Policies.{Rules, ModuleRule, rules_within}
use Rattle.sv_types.specs.declared.module.Site.{Site}
use Rattle.sv_types.specs.declared.protection.Protection.{Protection}
use Rattle.sv_types.specs.declared.protection.Protection.TheVariants.{Held}
use Rattle.sv_types.specs.declared.saved.ModulePlacement.{ModulePlacement}
use Rattle.spec_reference.specs.Protections.{with_pages, is_taken}
use Rattle.spec_reference.specs.Relocations.{fields_right}
use Rattle.spec_reference.specs.States.{Loading, module_pages, pages_in_rule}
use Rattle.spec_hardware.specs.HwExits.{load_counted}
use Rattle.spec_hardware.specs.Machine.{HwLoad}
use Rattle.spec_hardware.specs.StandsFor.{kept_answer, kept_digests, load_kept, load_kept_by}
use Rattle.laws_simulation.proofs.SitesInPages.{below}
use Rattle.laws_simulation.proofs.LoadsMirrored.{about_is, left_is, kept_next}
use Rattle.spec_reference.specs.declared.saved_machine.whole.SavedLoad.{SavedLoad}
use Rattle.page_guard.specs.Guarded.{with_span}
use Rattle.module_gate.specs.Gates.{PageTurns, Progress, new_load, hw_load, is_good_place, load_span, next_counted, with_digests}
use Rattle.module_gate.proofs.LoadTurns.{counted_is}
use Rattle.snapshot_format.specs.Judgements.{fits, take_pages}
use Rattle.snapshot_format.proofs.TakenSpans.{taken_none, taken_span}
use Rattle.laws_resume.proofs.ResumedPages.{fits_is, place_aligned}
use Rattle.laws_resume.specs.Resuming.{load_resumed}
use Rattle.machine.specs.Approving.{CanTake}
use Rattle.machine.specs.Counting.{IsCounted, IsWithin}
use Rattle.laws_resume.proofs.Loads.{there_is}

-- ---- the text

-- whole pages that begin with a page end where their bytes end
pub pages_inside : (place pages size : ℕ) → place % page_size ≡ 0 → place + page_size * pages ≤ size → page_size * (place / page_size + pages) ≤ size
pages_inside place pages size aligned inside = omega (arith, aligned, inside)

-- ---- a load with one page more

abbrev loading_at : ℕ → ModulePlacement → ℕ → Loading
loading_at hart about left = record { hart = hart; about = about; left = left }

kept_more : (rules : Rules) (ram : List ℕ) (hart : ℕ) (old : PageTurns) (left : ℕ) (x : Option ModuleRule) → IsTrue (rules_within rules) → slice_get rules.modules old.about.id ≡ x
    → IsCounted rules ram old → old.left ≡ suc left
    → load_counted rules ram (load_kept_by rules ram (loading_at hart old.about old.left) x) left x ≡ load_kept_by rules ram (loading_at hart old.about left) x
kept_more rules ram hart old left None within known counted some =
    let none : 0 ≡ old.pages = ap pages_in_rule (sym known) ∙ counted.pages in
    absurd (omega (arith, none, some, counted.few))
kept_more rules ram hart old left (Some rule) within known counted some =
    let pages : rule.pages ≡ old.pages = ap pages_in_rule (sym known) ∙ counted.pages in
    sym (kept_next rules ram (loading_at hart old.about old.left) left rule within known counted.begins
    (subst (λ (n : ℕ). ram_offset old.about.gpa + page_size * n ≤ length ram) (sym pages) counted.inside) some
    (subst (λ (n : ℕ). old.left ≤ n) (sym pages) counted.few))

-- what counting a page of these bytes makes of a load
abbrev pub Counts : Rules → List ℕ → (old new : PageTurns) → Type 0
Counts rules bytes old new = (hart : ℕ) → hw_load hart new ≡ next_counted rules bytes (hw_load hart old) (slice_get rules.modules old.about.id)

-- what was counted is counted, and one page more
pub record IsNext (rules : Rules) (ram : List ℕ) (old new : PageTurns) : Type 0 where
  pub counted : IsCounted rules ram new
  pub left : new.left + 1 ≡ old.left
  pub about : new.about ≡ old.about

pub counted_next : (rules : Rules) (ram : List ℕ) (old new : PageTurns) (bytes : List ℕ) → IsTrue (rules_within rules) → IsCounted rules ram old → 0 < old.left → new.pages ≡ old.pages
    → length new.digests + new.left ≡ new.pages → bytes ≡ page_bytes ram (page_of old.about.gpa + (old.pages - old.left)) → Counts rules bytes old new → IsNext rules ram old new
counted_next rules ram old new bytes within counted more pages tallied read counts =
    let rest : ℕ = old.left - 1 in
    let some : old.left ≡ suc rest = omega (arith, more) in
    let its : Option ModuleRule = slice_get rules.modules old.about.id in
    let all : (hart : ℕ) → hw_load hart new ≡ load_kept_by rules ram (loading_at hart old.about rest) its = λ hart.
    counts hart ∙ counted_is rules ram (hw_load hart old) rest old.pages its bytes counted.pages counted.few some read
    ∙ ap (λ (load : HwLoad). load_counted rules ram load rest its) (counted.kept hart)
    ∙ kept_more rules ram hart old rest its within refl counted some in
    let about : new.about ≡ old.about = ap (λ (load : HwLoad). load.about) (all 0) ∙ about_is rules ram (loading_at 0 old.about rest) its in
    let left : new.left ≡ rest = ap (λ (load : HwLoad). load.left) (all 0) ∙ left_is rules ram (loading_at 0 old.about rest) its in
    record {
      counted = record {
        kept = λ hart. all hart
            ∙ ap (λ (n : ℕ). load_kept rules ram (loading_at hart old.about n)) (sym left)
            ∙ ap (λ (m : ModulePlacement). load_kept rules ram (loading_at hart m new.left)) (sym about);
        pages = ap (λ (m : ModulePlacement). pages_in_rule (slice_get rules.modules m.id)) about ∙ counted.pages ∙ sym pages;
        few = omega (arith, left, pages, some, counted.few);
        tallied = tallied;
        begins = ap (λ (m : ModulePlacement). ram_offset m.gpa % page_size) about ∙ counted.begins;
        inside = subst (λ (m : ModulePlacement). ram_offset m.gpa + page_size * new.pages ≤ length ram) (sym about)
            (subst (λ (n : ℕ). ram_offset old.about.gpa + page_size * n ≤ length ram) (sym pages) counted.inside);
      };
      left = omega (arith, left, some);
      about = about;
    }

-- ---- a load whose pages are not counted yet

none_below : (sites : List Site) → filter (below 0) sites ≡ []
none_below [] = refl
none_below (site ∷ sites) =
    let past : below 0 site ≡ false = grind (arith, nat_tests) in
    ap (λ (b : Bool). if b then site ∷ filter (below 0) sites else filter (below 0) sites) past ∙ none_below sites

kept_begun : (rules : Rules) (ram : List ℕ) (hart pages : ℕ) (about : ModulePlacement) (rule : ModuleRule) → pages ≡ rule.pages
    → hw_load hart (with_digests [] (new_load about pages)) ≡ load_kept_by rules ram (loading_at hart about pages) (Some rule)
unfolding load_kept_by kept_digests kept_answer fields_right
kept_begun rules ram hart pages about rule same =
    let none : rule.pages - pages ≡ 0 = omega (arith, same) in
    rw (none, none_below) refl

pub begun_counted : (rules : Rules) (ram : List ℕ) (about : ModulePlacement) (load : PageTurns) (rule : ModuleRule) → slice_get rules.modules about.id ≡ Some rule
    → load ≡ with_digests [] (new_load about (pages_in_rule (slice_get rules.modules about.id))) → ram_offset about.gpa % page_size ≡ 0
    → ram_offset about.gpa + page_size * pages_in_rule (slice_get rules.modules about.id) ≤ length ram → IsCounted rules ram load
begun_counted rules ram about load rule known is begins inside =
    let pages : ℕ = pages_in_rule (slice_get rules.modules about.id) in
    subst (IsCounted rules ram) (sym is) (record {
      kept = λ hart. kept_begun rules ram hart pages about rule (ap pages_in_rule known)
          ∙ ap (load_kept_by rules ram (loading_at hart about pages)) (sym known);
      pages = refl;
      few = omega arith;
      tallied = omega arith;
      begins = begins;
      inside = inside;
    })

-- ---- where it may begin

pub rule_of : (rules : Rules) (m : ModulePlacement) → fits rules m ≡ true → (rule : ModuleRule) × (slice_get rules.modules m.id ≡ Some rule)
rule_of rules m fit = there_is rules.modules m.id (fits_is rules m fit).known

any_by : (b any : Bool) (x : ℕ) (rest : Option ℕ) → (rest ≡ None → any ≡ false) → (if b then Some x else rest) ≡ None → (b || any) ≡ false
any_by true any x rest later e = absurd cc
any_by false any x rest later e = later e

found_any : (test : ℕ → Bool) (xs : List ℕ) → find test xs ≡ None → list_any test xs ≡ false
found_any test [] none = refl
found_any test (x ∷ xs) none = any_by (test x) (list_any test xs) x (find test xs) (found_any test xs) none

none_by : (p : Protection) (guard : List Protection) (pages : List ℕ) (x : Option ℕ) → find (is_taken guard) pages ≡ x → CanTake p guard pages → x ≡ None
none_by p guard pages None found free = refl
none_by p guard pages (Some q) found free =
    let none : take_pages p guard pages ≡ None = taken_none p guard pages q found in
    let gone : is_some (take_pages p guard pages) ≡ false = ap is_some none in absurd cc

none_busy : (p : Protection) (guard : List Protection) (pages : List ℕ) → CanTake p guard pages → find (is_taken guard) pages ≡ None
none_busy p guard pages free = none_by p guard pages (find (is_taken guard) pages) refl free

-- the place is a good one
pub good_place : (rules : Rules) (ram : List ℕ) (guard : List Protection) (load : SavedLoad) → IsWithin rules load → length ram ≡ page_size * rules.ram_pages
    → CanTake Held guard (module_pages rules load.«module»)
    → is_good_place ram guard load.«module» (pages_in_rule (slice_get rules.modules load.«module».id)) ≡ true
unfolding is_good_place
good_place rules ram guard load within size free =
    let m = load.«module» in
    let n : ℕ = pages_in_rule (slice_get rules.modules m.id) in
    let fit = fits_is rules m within.fits in
    let gpa : (m.gpa % page_size == 0) ≡ true = eq-eqb (m.gpa % page_size) 0 within.gpa in
    let va : (m.va % page_size == 0) ≡ true = eq-eqb (m.va % page_size) 0 within.va in
    let base : nat_le ram_base m.gpa ≡ true = let b = fit.base in grind (arith, nat_tests) in
    let end : nat_le (ram_offset m.gpa + page_size * n) (length ram) ≡
    true = let e = fit.inside in let room : ram_offset m.gpa + page_size * n ≤ length ram = omega (arith, e, size) in grind (arith, nat_tests) in
    let none : list_any (is_taken guard) (module_pages rules m) ≡ false = found_any (is_taken guard) (module_pages rules m) (none_busy Held guard (module_pages rules m) free) in
    rw (gpa, va, base, end, none) refl

-- the pages that it takes
pub load_taken : (rules : Rules) (guard after : List Protection) (m : ModulePlacement) (load : Progress) → CanTake Held guard (module_pages rules m)
    → load ≡ new_load m (pages_in_rule (slice_get rules.modules m.id)) → after ≡ with_span guard (load_span load) Held → take_pages Held guard (module_pages rules m) ≡ Some after
load_taken rules guard after m load free is set =
    let n : ℕ = pages_in_rule (slice_get rules.modules m.id) in
    let all : after ≡ with_pages guard (page_of m.gpa) n Held = set ∙ ap (λ (l : Progress). with_span guard (load_span l) Held) is in
    taken_span Held guard (page_of m.gpa) n (none_busy Held guard (module_pages rules m) free) ∙ ap Some (sym all)

-- ---- the load that goes on

pub resumed_is : (rules : Rules) (ram now : List ℕ) (saved : SavedLoad) (load : PageTurns) (pages : ℕ) → IsCounted rules now load → now ≡ ram → load.about ≡ saved.«module»
    → load.left + (pages - saved.left) ≡ pages → saved.left ≤ pages → hw_load saved.hart load ≡ load_resumed rules ram saved
resumed_is rules ram now saved load pages counted same about left few =
    let rest : load.left ≡ saved.left = omega (arith, left, few) in
    counted.kept saved.hart
    ∙ ap (λ (bytes : List ℕ). load_kept rules bytes (loading_at saved.hart load.about load.left)) same
    ∙ ap (λ (m : ModulePlacement). load_kept rules ram (loading_at saved.hart m load.left)) about
    ∙ ap (λ (n : ℕ). load_kept rules ram (loading_at saved.hart saved.«module» n)) rest

some_has : {A : Type 0} (x : Option A) (a : A) → x ≡ Some a → IsSome x
some_has None a e = cc
some_has (Some b) a e = refl

pub has_rule : (rules : Rules) (m : ModulePlacement) → fits rules m ≡ true → IsSome (slice_get rules.modules m.id)
has_rule rules m fit = let known = rule_of rules m fit in some_has (slice_get rules.modules m.id) known.0 known.1

-- the load that began, in RAM as it is now
pub begun_where : (rules : Rules) (ram now : List ℕ) (saved : SavedLoad) (load : PageTurns) → IsWithin rules saved → now ≡ ram → length ram ≡ page_size * rules.ram_pages
    → load ≡ with_digests [] (new_load saved.«module» (pages_in_rule (slice_get rules.modules saved.«module».id))) → IsCounted rules now load
begun_where rules ram now saved load within same size is =
    let m = saved.«module» in
    let known = rule_of rules m within.fits in
    let fit = fits_is rules m within.fits in
    let inside = fit.inside in
    begun_counted rules now m load known.0 known.1 is (place_aligned m.gpa fit.base within.gpa)
    (let whole : length now ≡ length ram = ap length same in omega (arith, inside, size, whole))

-- RAM has as many pages as are guarded
pub ram_sized : (bytes pages n : ℕ) → bytes ≡ page_size * pages → pages ≡ n → bytes ≡ page_size * n
ram_sized bytes pages n whole same = whole ∙ ap (λ (k : ℕ). page_size * k) same
