-- Pages and modules: the machine knows of them what the state says, and SecVisor's answers change them as the reference
-- machine's do.
use mathlib.Core.Path.{fun_ext}
use Rattle.std.proofs.Common.{◌≡◌, ℕ, zero, suc, ◌+◌, ◌-◌, ◌*◌, ◌/◌, ◌<◌, ◌≤◌, inl, inr, List, [], ◌∷◌, length, map, filter, refl, sym, ◌∙◌}
use Rattle.std.proofs.Common.{ap, subst, Bool, true, false, not, ◌&&◌, ◌||◌, arith, slice_get}
use Rattle.std.specs.Prelude.{Option, Some, None, option_map, if◌then◌else◌, ◌==◌, nat_lt, is_some}
use Rattle.std.specs.List.{list_any}
use Rattle.std.proofs.lemmas.Bool.Decides.{nat_tests}
use Rattle.std.proofs.lemmas.Bool.{false_from_ne_true, cases_Bool, and_from, or_right}
use Rattle.spec_processor.specs.Bytes.{page_size, page_of, ram_offset}
use Rattle.spec_processor.specs.HypervisorRegisters.{HypervisorRegisters}
use Rattle.sv_types.specs.Policies.{ModuleRule}
use Rattle.sv_types.specs.ApprovedPages.{numbers_from}
use Rattle.sv_types.specs.declared.module.Site.{Site}
use Rattle.sv_types.specs.declared.module.Span.{Span}
use Rattle.sv_types.specs.declared.protection.Protection.{Protection}
use Rattle.sv_types.specs.declared.protection.Protection.TheVariants.{Free, Held, Approved}
use Rattle.laws_processor.proofs.ByteLemmas.{lt_or_le}
use Rattle.sv_types.specs.declared.saved.ModulePlacement.{ModulePlacement}
use Rattle.sv_types.specs.Protections.{is_approved, is_free}
use Rattle.spec_hardware.specs.HwCalls.{hw_pages_side_effect, hw_init, hw_facts}
use Rattle.spec_hardware.specs.Machine.{Machine, HwHart, HwLoad}
use Rattle.spec_reference.specs.Answers.{pages_side_effect, span_pages, init_text}
use Rattle.spec_reference.specs.Calls.{Facts, facts_of}
use Rattle.spec_reference.specs.declared.answers.SideEffect.{SideEffect}
use Rattle.spec_reference.specs.declared.answers.SideEffect.TheVariants.{BeginsLoad, ApprovesModule, ReleasesModule, UnloadsModule, RetiresInit}
use Rattle.spec_reference.specs.Origins.{AllAbove, Ascends, IsOwned, ownership, is_kernel_text}
use Rattle.spec_reference.specs.Protections.{protection_at, or_free, with_pages, with_each}
use Rattle.spec_reference.specs.States.{State, Hart, Loading, has_number, is_approved_in, is_protected, module_pages, find_module}
use Rattle.spec_reference.specs.States.{with_module, without_module, without_pages, pages_in_rule, protection_in, protection_by}
use Rattle.spec_reference.specs.States.{protections_of}
use Rattle.spec_reference.specs.Relocations.{fields_right}
use Rattle.spec_hardware.specs.StandsFor.{Unseen, IsRightFor, machine_of, hw_harts, load_kept, load_kept_by, kept_digests, kept_answer, without_printed}
use Rattle.spec_reference.specs.Soundness.{IsSound, IsSoundLoad, HoldsModule}
use Rattle.laws_simulation.proofs.AnswersMay.{MayHaveSideEffect}
use Rattle.laws_simulation.proofs.Lookups.{both, same_number, numbers_bounds}
use Rattle.laws_simulation.proofs.ModulesSound.{IsGoodAddress, approves}
use Rattle.laws_simulation.proofs.Mirrored.{Mirrors, Changed, with_parts}
use Rattle.laws_simulation.proofs.ProtectionsChange.{held_protections, approved_protections, released_protections, unloaded_protections, retired_protections, at_page}
use Rattle.sv_types.proofs.TruthValues.{and_first}

-- ---- protections of pages, in RAM and past its end

none_numbers : (f : ℕ → Protection) (first n i : ℕ) → n ≤ i → slice_get (map f (numbers_from first n)) i ≡ None
none_numbers f first zero i past = refl
none_numbers f first (suc n) zero past = absurd (omega arith)
none_numbers f first (suc n) (suc i) past = none_numbers f (first + 1) n i (omega arith)

not_approved : (r : State) (page : ℕ) → IsSound r → r.rules.ram_pages ≤ page → is_approved_in r.approved page ≡ false
not_approved r page s past = false_from_ne_true (is_approved_in r.approved page) (λ t. let below : page < r.rules.ram_pages = s.pages.inside page t in absurd (omega arith))

past_page : (r : State) (page : ℕ) → r.rules.ram_pages ≤ page → protection_at (protections_of r) page ≡ Free
past_page r page past = ap or_free (none_numbers (protection_in r.approved r.held) 0 r.rules.ram_pages page past)

not_free_by : (a b : Bool) → not (is_free (protection_by a b)) ≡ (a || b)
unfolding protection_by
not_free_by true b = refl
not_free_by false true = refl
not_free_by false false = refl

beyond : (place n ram_pages page : ℕ) → place + page_size * n ≤ page_size * ram_pages → page < place / page_size + n → ram_pages ≤ page → ⊥
beyond place n ram_pages page inside below past = omega arith

not_held_past : (r : State) (x : Option Loading) (page : ℕ) → IsSoundLoad r.rules r.approved r.loaded r.held x → r.rules.ram_pages ≤ page → has_number r.held page ≡ false
not_held_past r None page k past = rw k refl
not_held_past r (Some load) page k past = false_from_ne_true (has_number r.held page) (λ t.
    let there : has_number (module_pages r.rules load.about) page ≡ true = subst (λ (list : List ℕ). has_number list page ≡ true) k.pages t in
    let bounds = numbers_bounds (page_of load.about.gpa) (pages_in_rule (slice_get r.rules.modules load.about.id)) page there in
    beyond (ram_offset load.about.gpa) (pages_in_rule (slice_get r.rules.modules load.about.id)) r.rules.ram_pages page k.inside bounds.1 past)

protected_same : (r : State) (page : ℕ) → IsSound r → not (is_free (protection_at (protections_of r) page)) ≡ is_protected r page
unfolding is_protected protection_in
protected_same r page s = elim (lt_or_le page r.rules.ram_pages) [
  | inl below ↦ ap (λ (p : Protection). not (is_free p)) (at_page r page below) ∙ not_free_by (is_approved_in r.approved page) (has_number r.held page)
  | inr past ↦ ap (λ (p : Protection). not (is_free p)) (past_page r page past) ∙ rw (not_approved r page s past, not_held_past r r.loading page s.load past) refl
]

pub approved_by : (a b : Bool) → is_approved (protection_by a b) ≡ a
unfolding protection_by
approved_by true b = refl
approved_by false true = refl
approved_by false false = refl

approved_is : (r : State) (page : ℕ) → IsSound r → is_approved (protection_at (protections_of r) page) ≡ is_approved_in r.approved page
unfolding protection_in
approved_is r page s = elim (lt_or_le page r.rules.ram_pages) [
  | inl below ↦ ap is_approved (at_page r page below) ∙ approved_by (is_approved_in r.approved page) (has_number r.held page)
  | inr past ↦ ap is_approved (past_page r page past) ∙ sym (not_approved r page s past)
]

-- ---- a load that begins

minus_self : (n : ℕ) → n - n ≡ 0
minus_self n = omega arith

none_before : (sites : List Site) → filter (λ (site : Site). nat_lt site.offset (page_size * 0)) sites ≡ []
none_before [] = refl
none_before (site ∷ sites) =
    let none : nat_lt site.offset (page_size * 0) ≡ false = grind (arith, nat_tests) in
    ap (λ (b : Bool). if b then site ∷ filter (λ (s : Site). nat_lt s.offset (page_size * 0)) sites else filter (λ (s : Site). nat_lt s.offset (page_size * 0)) sites) none ∙ none_before sites

abbrev pub fresh_load : ℕ → ModulePlacement → ℕ → HwLoad
fresh_load h about pages = record { hart = h; about = about; left = pages; digests = []; right = true }

fresh_by : (r : State) (h : ℕ) (m : ModulePlacement) (rule : ModuleRule) → load_kept_by r.rules r.ram (record { hart = h; about = m; left = rule.pages }) (Some rule) ≡ fresh_load h m rule.pages
unfolding load_kept_by kept_digests kept_answer fields_right
fresh_by r h m rule = rw (minus_self rule.pages) (rw (none_before rule.sites) refl)

none_held : (r : State) (x : Option Loading) → x ≡ None → IsSoundLoad r.rules r.approved r.loaded r.held x → r.held ≡ []
none_held r None e load = load
none_held r (Some l) e load = absurd (cc)

-- ---- which approved pages are the kernel's

above_found : (id k : ℕ) (modules : List ModulePlacement) (m : ModulePlacement) → AllAbove id modules → find_module modules k ≡ Some m → id < m.id
unfolding find_module
above_found id k [] m all e = cc
above_found id k (x ∷ modules) m all e = above_by id k x modules m (x.id == k) refl all e (above_found id k modules m all.1)
  where
    above_by : (id k : ℕ) (x : ModulePlacement) (modules : List ModulePlacement) (m : ModulePlacement) (b : Bool) → (x.id == k) ≡ b → AllAbove id (x ∷ modules) →
        (if b then Some x else find_module modules k) ≡ Some m
        → (find_module modules k ≡ Some m → id < m.id) → id < m.id
    above_by id k x modules m true at all e rest = let same : x ≡ m = cc in subst (λ (n : ModulePlacement). id < n.id) same all.0
    above_by id k x modules m false at all e rest = rest e

-- a module of the list for which a test holds
pub record Fits (test : ModulePlacement → Bool) (modules : List ModulePlacement) : Type 0 where
  pub one : ModulePlacement
  pub found : find_module modules one.id ≡ Some one
  pub holds : test one ≡ true

fits_first : (test : ModulePlacement → Bool) (x : ModulePlacement) (modules : List ModulePlacement) → test x ≡ true → Fits test (x ∷ modules)
unfolding find_module
fits_first test x modules e = record { one = x; found = rw (same_number x.id) refl; holds = e }

fits_later : (test : ModulePlacement → Bool) (x : ModulePlacement) (modules : List ModulePlacement) → AllAbove x.id modules → Fits test modules → Fits test (x ∷ modules)
unfolding find_module
fits_later test x modules all k =
    let more : x.id < k.one.id = above_found x.id k.one.id modules k.one all k.found in
    let other : (x.id == k.one.id) ≡ false = grind (arith, nat_tests) in
    record { one = k.one; found = ap (λ (b : Bool). if b then Some x else find_module modules k.one.id) other ∙ k.found; holds = k.holds }

any_fits : (test : ModulePlacement → Bool) (modules : List ModulePlacement) → Ascends modules → list_any test modules ≡ true → Fits test modules
any_fits test [] up e = cc
any_fits test (x ∷ modules) up e = fits_by test x modules (test x) refl up e (any_fits test modules up.1)
  where
    fits_by : (test : ModulePlacement → Bool) (x : ModulePlacement) (modules : List ModulePlacement) (b : Bool) → test x ≡ b → Ascends (x ∷ modules) → (b || list_any test modules) ≡ true
        → (list_any test modules ≡ true → Fits test modules) → Fits test (x ∷ modules)
    fits_by test x modules true at up e rest = fits_first test x modules at
    fits_by test x modules false at up e rest = fits_later test x modules up.0 (rest e)

fits_any : (test : ModulePlacement → Bool) (modules : List ModulePlacement) (id : ℕ) (m : ModulePlacement) → find_module modules id ≡ Some m → test m ≡ true → list_any test modules ≡ true
unfolding find_module
fits_any test [] id m found e = cc
fits_any test (x ∷ modules) id m found e = any_by test x modules id m (x.id == id) refl found e (fits_any test modules id m)
  where
    any_by : (test : ModulePlacement → Bool) (x : ModulePlacement) (modules : List ModulePlacement) (id : ℕ) (m : ModulePlacement) (b : Bool) → (x.id == id) ≡ b →
        (if b then Some x else find_module modules id) ≡ Some m → test m ≡ true
        → (find_module modules id ≡ Some m → test m ≡ true → list_any test modules ≡ true) → list_any test (x ∷ modules) ≡ true
    any_by test x modules id m true at found e rest = let same : x ≡ m = cc in let there : test x ≡ true = ap test same ∙ e in rw there refl
    any_by test x modules id m false at found e rest = or_right (test x) (list_any test modules) (rest found e)

abbrev pub in_modules : State → ℕ → Bool
in_modules r page = list_any (λ (m : ModulePlacement). has_number (module_pages r.rules m) page) r.loaded

text_is : (r : State) (page : ℕ) → r.retired ≡ false → has_number r.text page ≡ true → is_kernel_text (ownership r) page ≡ true
text_is r page before e = rw before (and_from (has_number r.text page) true e refl)

no_module : (r : State) (page : ℕ) → IsSound r → is_kernel_text (ownership r) page ≡ true → in_modules r page ≡ false
no_module r page s text = false_from_ne_true (in_modules r page) (λ t.
    let k = any_fits (λ (m : ModulePlacement). has_number (module_pages r.rules m) page) r.loaded s.ascends t in
    both (is_kernel_text (ownership r) page) text (s.pages.no_text k.one page (record { loaded_is = k.found; inside = k.holds })))

owned_not_text : (r : State) (page : ℕ) → has_number r.text page ≡ false → IsOwned (ownership r) page → in_modules r page ≡ true
owned_not_text r page other (inl text) = absurd (both (has_number r.text page) (and_first (has_number r.text page) (not (r.retired && _)) text) other)
owned_not_text r page other (inr of) = fits_any (λ (m : ModulePlacement). has_number (module_pages r.rules m) page) r.loaded of.0.id of.0 of.1.loaded_is of.1.inside

kernels_by : (a b : Bool) → (a ≡ true → b ≡ true) → (a && not b) ≡ false
kernels_by true b all = rw (all refl) refl
kernels_by false b all = refl

text_pages : (r : State) (page : ℕ) → IsSound r → r.retired ≡ false → (is_approved_in r.approved page && not (in_modules r page)) ≡ has_number r.text page
text_pages r page s before = elim (cases_Bool (has_number r.text page)) [
  | inl text ↦ let there = text_is r page before text in rw (s.pages.text page there, no_module r page s there) (sym text)
  | inr other ↦ kernels_by (is_approved_in r.approved page) (in_modules r page) (λ t. owned_not_text r page other (s.pages.owned page t)) ∙ sym other
]

same_filter : (p q : ℕ → Bool) (xs : List ℕ) → ((x : ℕ) → p x ≡ q x) → filter p xs ≡ filter q xs
same_filter p q [] same = refl
same_filter p q (x ∷ xs) same = rw (same x, same_filter p q xs same) refl

same_init : (o : Unseen) (r : State) (span : Span) → IsSound r → r.retired ≡ false → hw_init (machine_of o r) span ≡ init_text r span
unfolding machine_of
same_init o r span s before =
    same_filter (λ page. is_approved (protection_at (protections_of r) page) && not (in_modules r page)) (has_number r.text) (span_pages span)
    (λ page. ap (λ (b : Bool). b && not (in_modules r page)) (approved_is r page s) ∙ text_pages r page s before)

-- ---- the machine's facts are the state's

is_some_map : {A : Type 0} {B : Type 0} (f : A → B) (x : Option A) → is_some (option_map f x) ≡ is_some x
is_some_map f None = refl
is_some_map f (Some x) = refl

loads_same : (o : Unseen) (r : State) → is_some (machine_of o r).loading ≡ is_some r.loading
unfolding machine_of
loads_same o r = is_some_map (load_kept r.rules r.ram) r.loading

started_same : (t : ℕ) (exits : List HypervisorRegisters) (harts : List Hart) → length exits ≡ length harts
    → map (λ (hw : HwHart). hw.started) (hw_harts t exits harts) ≡ map (λ (hart : Hart). hart.started) harts
unfolding hw_harts
started_same t [] [] size = refl
started_same t [] (x ∷ harts) size = absurd (cc)
started_same t (c ∷ exits) [] size = refl
started_same t (c ∷ exits) (x ∷ harts) size = ap (◌∷◌ x.started) (started_same t exits harts (cc))

abbrev facts_with : State → List Bool → (ℕ → Bool) → Bool → Facts
facts_with r started protected loads = record (facts_of r) { started = started; protected = protected; loads = loads }

pub facts_same : (o : Unseen) (r : State) → IsSound r → length o.exits ≡ length r.harts → hw_facts (machine_of o r) ≡ facts_of r
unfolding machine_of
facts_same o r s size =
    ap (λ (x : List Bool). facts_with r x (λ page. not (is_free (protection_at (protections_of r) page))) (is_some (machine_of o r).loading)) (started_same (length o.tables) o.exits r.harts size)
    ∙ ap (λ (x : ℕ → Bool). facts_with r (facts_of r).started x (is_some (machine_of o r).loading)) (fun_ext (λ page. protected_same r page s))
    ∙ ap (facts_with r (facts_of r).started (is_protected r)) (loads_same o r)

-- ---- what an answer does to pages, alongside the other parts that it changes

abbrev hosted_by : (o : Unseen) (r : State) (h : ℕ) → SideEffect → Changed o r h → Machine
hosted_by o r h b x = record (hw_pages_side_effect b h (machine_of o r)) { harts = x.hw_all; devices = x.devices; journal = without_printed o.cleared x.journal }

abbrev stepped_by : (o : Unseen) (r : State) (h : ℕ) → SideEffect → Changed o r h → State
stepped_by o r h b x = record (pages_side_effect b h r) { harts = x.harts; devices = x.devices; journal = x.journal }

abbrev Paged : (o : Unseen) (r : State) (h : ℕ) → SideEffect → Changed o r h → Type 0
Paged o r h b x = Mirrors o r h (hosted_by o r h b x) (stepped_by o r h b x)

begun_paged : (o : Unseen) (r : State) (h : ℕ) (m : ModulePlacement) (rule : ModuleRule) (x : Changed o r h) → IsRightFor o r → r.held ≡ []
    → slice_get r.rules.modules m.id ≡ Some rule → IsGoodAddress r m.gpa rule.pages → Paged o r h (BeginsLoad m rule.pages) x
unfolding machine_of pages_side_effect hw_pages_side_effect
begun_paged o r h m rule x right none known good =
    let load : Loading = record { hart = h; about = m; left = rule.pages } in
    with_parts o r h x r.approved (module_pages r.rules m) r.loaded (Some load) r.retired (with_pages (protections_of r) (page_of m.gpa) rule.pages Held)
    (Some (fresh_load h m rule.pages)) right
    (held_protections r m (Some load) none (λ page there. good.free page (rw known at there)) ∙ rw known refl)
    (ap Some (rw known (fresh_by r h m rule)))

approved_paged : (o : Unseen) (r : State) (h : ℕ) (load : Loading) (x : Changed o r h) → IsRightFor o r → HoldsModule r.rules r.approved r.loaded r.held load
    → Paged o r h (ApprovesModule load.about) x
unfolding machine_of pages_side_effect hw_pages_side_effect
approved_paged o r h load x right k =
    with_parts o r h x (approves r load.about).approved [] (with_module r.loaded load.about) None r.retired
    (with_pages (protections_of r) (page_of load.about.gpa) (pages_in_rule (slice_get r.rules.modules load.about.id)) Approved) None right (approved_protections r load k) refl

released_paged : (o : Unseen) (r : State) (h : ℕ) (load : Loading) (x : Changed o r h) → IsRightFor o r → HoldsModule r.rules r.approved r.loaded r.held load
    → Paged o r h (ReleasesModule load.about) x
unfolding machine_of pages_side_effect hw_pages_side_effect
released_paged o r h load x right k =
    with_parts o r h x r.approved [] r.loaded None r.retired
    (with_pages (protections_of r) (page_of load.about.gpa) (pages_in_rule (slice_get r.rules.modules load.about.id)) Free) None right (released_protections r load k) refl

pub paged : (o : Unseen) (r : State) (h : ℕ) (b : SideEffect) (x : Changed o r h) → IsRightFor o r → IsSound r → MayHaveSideEffect r b → Paged o r h b x
unfolding machine_of pages_side_effect hw_pages_side_effect
paged o r h (BeginsLoad m pages) x right s may =
    subst (λ (n : ℕ). Paged o r h (BeginsLoad m n) x) may.number
    (begun_paged o r h m may.rule x right (none_held r r.loading may.idle s.load) may.known (may.good s))
paged o r h (ApprovesModule m) x right s may =
    subst (λ (n : ModulePlacement). Paged o r h (ApprovesModule n) x) may.0.about (approved_paged o r h may.0.load x right may.0.holds)
paged o r h (ReleasesModule m) x right s may =
    subst (λ (n : ModulePlacement). Paged o r h (ReleasesModule n) x) may.about (released_paged o r h may.load x right may.holds)
paged o r h (UnloadsModule m) x right s may =
    with_parts o r h x (without_pages r.approved (module_pages r.rules m)) r.held (without_module r.loaded m.id) r.loading r.retired
    (with_pages (protections_of r) (page_of m.gpa) (pages_in_rule (slice_get r.rules.modules m.id)) Free) (option_map (load_kept r.rules r.ram) r.loading) right
    (unloaded_protections r m s may) refl
paged o r h (RetiresInit span) x right s may =
    with_parts o r h x (without_pages r.approved (init_text r span)) r.held r.loaded r.loading true
    (with_each (protections_of r) (hw_init (machine_of o r) span) Free) (option_map (load_kept r.rules r.ram) r.loading) right
    (retired_protections r span s may.1 ∙ ap (λ (pages : List ℕ). with_each (protections_of r) pages Free) (sym (same_init o r span s may.1))) refl
paged o r h _ x right s may =
    with_parts o r h x r.approved r.held r.loaded r.loading r.retired (protections_of r) (option_map (load_kept r.rules r.ram) r.loading) right refl refl
