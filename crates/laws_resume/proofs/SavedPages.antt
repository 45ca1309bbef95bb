-- The pages, the text and the modules that were saved of a state have an encoding.
use Rattle.std.proofs.Common.{◌≡◌, ℕ, zero, suc, ◌+◌, ◌%◌, ◌<◌, ◌≤◌, List, [], ◌∷◌, ◌++◌, length, map, refl, ◌∙◌, ap, subst, Bool, true, false, not, ◌&&◌, ◌||◌, arith, slice_get}
use Rattle.std.specs.Prelude.{Option, Some, None, option_map, ◌==◌, nat_lt, nat_le, IsTrue}
use Rattle.std.specs.List.{list_all}
use Rattle.spec_processor.specs.Bytes.{page_size, ram_base, ram_offset}
use Rattle.spec_processor.specs.declared.mode.Mode.{Mode}
use Rattle.spec_processor.specs.declared.mode.Mode.TheVariants.{Kernel}
use Rattle.sv_types.specs.Clock.{Clock}
use Rattle.sv_types.specs.Policies.{Rules, ModuleRule, rules_within, modules_count_within}
use Rattle.sv_types.specs.declared.protection.Protection.{Protection}
use Rattle.sv_types.specs.declared.protection.Protection.TheVariants.{Free, Held, Approved}
use Rattle.sv_types.specs.declared.saved.ModulePlacement.{ModulePlacement}
use Rattle.spec_reference.specs.Origins.{AllAbove, Ascends}
use Rattle.spec_reference.specs.Soundness.{HoldsModule, IsSound, IsSoundLoad}
use Rattle.spec_reference.specs.States.{State, Hart, Loading, has_number, find_module, pages_in_rule}
use Rattle.spec_reference.specs.SavedStates.{saved_hart, saved_harts, saved_load}
use Rattle.snapshot_format.specs.Forms.{is_word, has_all}
use Rattle.snapshot_format.specs.HartForms.{multiple_of, flag, is_user}
use Rattle.snapshot_format.specs.PageForms.{is_above, last_id, last_page, load, load_after, load_under_way, may_load, module_within}
use Rattle.snapshot_format.specs.PageForms.{modules, next_module, protection_form, protections, text, text_page}
use Rattle.snapshot_format.specs.Typed.{are_words, is_typed_module, is_typed_page, load_numbers, module_numbers}
use Rattle.snapshot_format.specs.declared.whole.TextPage.{TextPage}
use Rattle.snapshot_format.proofs.FormLaws.{both_true, first_true, second_true}
use Rattle.snapshot_format.specs.Judgements.{page_numbers}
use Rattle.snapshot_format.proofs.ModuleSites.{some_pages}
use Rattle.laws_simulation.proofs.Lookups.{all_found}
use Rattle.laws_resume.specs.Keepable.{AreAligned, AscendFrom, IsKeepableLoad, MayGoOn}
use Rattle.laws_resume.proofs.FormParts.{last_of, least_is, less_is, small_word}
use Rattle.laws_resume.proofs.SavedHarts.{aligned_has, word_at, words_after}
use Rattle.laws_resume.proofs.TakenPages.{AllBelow, tail_below, head_below, after_page}
use Rattle.std.proofs.lemmas.Bool.{eqb-true}
use Rattle.sv_types.proofs.PolicyLimits.{few_modules}

-- ---- protections

one_has : (p : Protection) → protection_form.has p ≡ true
unfolding protection_form
one_has Free = refl
one_has Held = refl
one_has Approved = refl

each_has : (before ps : List Protection) → has_all (λ before. protection_form) before (length ps) ps ≡ true
unfolding has_all
each_has before [] = refl
each_has before (p ∷ ps) = both_true (protection_form.has p) _ (one_has p) (each_has (before ++ p ∷ []) ps)

pub protections_have : (ps : List Protection) → (protections (length ps)).has ps ≡ true
unfolding protections
protections_have ps = each_has [] ps

-- ---- ascending numbers

above_is : (last : Option ℕ) (n : ℕ) → after_page last ≤ n → is_above last n ≡ true
above_is None n e = refl
above_is (Some last) n e = less_is last n (omega (arith, e))

-- no more of them than there are numbers
ascending_few : (first end : ℕ) (ns : List ℕ) → AscendFrom first ns → AllBelow end ns → first ≤ end → first + length ns ≤ end
ascending_few first end [] up below least = omega (arith, least)
ascending_few first end (n ∷ ns) up below least =
    let less = head_below end n ns below in
    let rest = ascending_few (n + 1) end ns up.1 (tail_below end n ns below) (omega (arith, less)) in
    let low = up.0 in omega (arith, rest, low)

length_numbers : (ts : List TextPage) → length (page_numbers ts) ≡ length ts
length_numbers [] = refl
length_numbers (t ∷ ts) = ap suc (length_numbers ts)

-- ---- text

text_each : (pages : ℕ) (before ts : List TextPage) (last : Option ℕ) → last_page before ≡ last → pages ≤ 262144 → AscendFrom (after_page last) (page_numbers ts)
    → AllBelow pages (page_numbers ts) → list_all is_typed_page ts ≡ true → has_all (text_page pages) before (length ts) ts ≡ true
unfolding has_all text_page
text_each pages before [] last at few up below typed = refl
text_each pages before (t ∷ ts) last at few up below typed =
    let less : t.page < pages = head_below pages t.page (page_numbers ts) below in
    both_true ((text_page pages before).has t) _
    (both_true _ (length t.digest == 32)
    (both_true (is_word t.page) _ (small_word t.page (omega (arith, less, few)))
    (both_true (nat_lt t.page pages) _ (less_is t.page pages less) (ap (λ (x : Option ℕ). is_above x t.page) at ∙ above_is last t.page up.0)))
    (first_true (length t.digest == 32) _ typed))
    (text_each pages (before ++ t ∷ []) ts (Some t.page) (ap (option_map (λ (x : TextPage). x.page)) (last_of before t)) few up.1
    (tail_below pages t.page (page_numbers ts) below) (second_true (length t.digest == 32) _ typed))

pub text_has : (pages : ℕ) (ts : List TextPage) → pages ≤ 262144 → AscendFrom 0 (page_numbers ts) → AllBelow pages (page_numbers ts)
    → list_all is_typed_page ts ≡ true → (text pages).has ts ≡ true
unfolding text
text_has pages ts few up below typed =
    let most : length ts ≤ pages = plain (length (page_numbers ts)) (length ts) (length_numbers ts) (ascending_few 0 pages (page_numbers ts) up below (omega arith)) in
    both_true _ (has_all (text_page pages) [] (length ts) ts)
    (both_true (is_word (length ts)) (nat_le (length ts) pages) (small_word (length ts) (omega (arith, most, few))) (least_is (length ts) pages most))
    (text_each pages [] ts None refl few up below typed)
  where
    plain : (a b : ℕ) → a ≡ b → 0 + a ≤ pages → b ≤ pages
    plain a b s e = omega (arith, s, e)

-- ---- modules

abbrev ids_of : List ModulePlacement → List ℕ
ids_of ms = map (λ (m : ModulePlacement). m.id) ms

ids_ascend : (first : ℕ) (ms : List ModulePlacement) → ((id : ℕ) → id < first → AllAbove id ms) → Ascends ms → AscendFrom first (ids_of ms)
ids_ascend first [] above up = tt
ids_ascend first (m ∷ ms) above up =
    (at_least first m.id (λ id less. (above id less).0), ids_ascend (m.id + 1) ms (λ id less. lower id m.id ms (omega (arith, less)) up.0) up.1)
  where
    at_least : (first id : ℕ) → ((k : ℕ) → k < first → k < id) → first ≤ id
    at_least zero id all = omega arith
    at_least (suc first) id all = let less = all first (omega arith) in omega (arith, less)

    lower : (low high : ℕ) (ms : List ModulePlacement) → low ≤ high → AllAbove high ms → AllAbove low ms
    lower low high [] least all = tt
    lower low high (m ∷ ms) least all = let first : high < m.id = all.0 in (omega (arith, least, first), lower low high ms least all.1)

-- what is asked of each of them
record IsGoodModule (m : ModulePlacement) : Type 0 where
  base : ram_base ≤ m.gpa
  aligned : ram_offset m.gpa % page_size ≡ 0

whole_gpa : (gpa : ℕ) → ram_base ≤ gpa → ram_offset gpa % page_size ≡ 0 → gpa % page_size ≡ 0
whole_gpa gpa base whole = omega (arith, base, whole)

module_has : (good : ℕ → Bool) (m : ModulePlacement) → good m.id ≡ true → IsGoodModule m → m.va % page_size ≡ 0 → are_words (module_numbers m) ≡ true → (module_within good).has m ≡ true
unfolding module_within
module_has good m id k va words =
    both_true (is_word m.id && good m.id) _ (both_true (is_word m.id) (good m.id) (word_at (module_numbers m) 0 m.id words refl) id)
    (both_true ((multiple_of page_size).has m.gpa) _ (aligned_has page_size m.gpa (word_at (module_numbers m) 1 m.gpa words refl) (whole_gpa m.gpa k.base k.aligned))
    (both_true ((multiple_of page_size).has m.va) _ (aligned_has page_size m.va (word_at (module_numbers m) 2 m.va words refl) va)
    (word_at (module_numbers m) 3 m.data_va words refl)))

modules_each : (before ms : List ModulePlacement) (last : Option ℕ) → last_id before ≡ last → AscendFrom (after_page last) (ids_of ms)
    → ((i : ℕ) (m : ModulePlacement) → slice_get ms i ≡ Some m → IsGoodModule m) → AreAligned ms
    → list_all is_typed_module ms ≡ true → has_all next_module before (length ms) ms ≡ true
unfolding has_all
modules_each before [] last at up good va typed = refl
modules_each before (m ∷ ms) last at up good va typed =
    both_true ((next_module before).has m) _
    (module_has (is_above (last_id before)) m (ap (λ (x : Option ℕ). is_above x m.id) at ∙ above_is last m.id up.0) (good 0 m refl) va.0 (first_true (are_words (module_numbers m)) _ typed))
    (modules_each (before ++ m ∷ []) ms (Some m.id) (ap (option_map (λ (x : ModulePlacement). x.id)) (last_of before m)) up.1 (λ i x e. good (suc i) x e) va.1
    (second_true (are_words (module_numbers m)) _ typed))

length_ids : (ms : List ModulePlacement) → length (ids_of ms) ≡ length ms
length_ids [] = refl
length_ids (m ∷ ms) = ap suc (length_ids ms)

first_or_later : (end id : ℕ) (m : ModulePlacement) (any here : Bool) → (m.id == id) ≡ here → m.id < end → (any ≡ true → id < end) → (here || any) ≡ true → id < end
first_or_later end id m any true at first later e = subst (λ (k : ℕ). k < end) (eqb-true m.id id at) first
first_or_later end id m any false at first later e = later e

-- an id of the list is a module's
ids_below : (end : ℕ) (ms : List ModulePlacement) → ((i : ℕ) (m : ModulePlacement) → slice_get ms i ≡ Some m → m.id < end) → AllBelow end (ids_of ms)
ids_below end [] all id there = cc
ids_below end (m ∷ ms) all id there =
    first_or_later end id m (has_number (ids_of ms) id) (m.id == id) refl (all 0 m refl) (λ e. ids_below end ms (λ i x f. all (suc i) x f) id e) there

pub modules_have : (r : State) → IsSound r → AreAligned r.loaded → list_all is_typed_module r.loaded ≡ true → modules.has r.loaded ≡ true
unfolding modules
modules_have r sound va typed =
    let found : (i : ℕ) (m : ModulePlacement) → slice_get r.loaded i ≡ Some m → find_module r.loaded m.id ≡ Some m = λ i m at. all_found r.loaded i m sound.ascends at in
    let up : AscendFrom 0 (ids_of r.loaded) = ids_ascend 0 r.loaded (λ id less. absurd (omega (arith, less))) sound.ascends in
    let few = few_modules r.rules sound.within in
    let most : length r.loaded ≤ 64 = plain (length (ids_of r.loaded)) (length r.loaded) (length r.rules.modules) (length_ids r.loaded) few
    (ascending_few 0 (length r.rules.modules) (ids_of r.loaded) up (ids_below (length r.rules.modules) r.loaded (λ i m at. sound.pages.ids m (found i m at))) (omega arith)) in
    both_true _ (has_all next_module [] (length r.loaded) r.loaded)
    (both_true (is_word (length r.loaded)) (modules_count_within (length r.loaded)) (small_word (length r.loaded) (omega (arith, most))) (least_is (length r.loaded) 64 most))
    (modules_each [] r.loaded None refl up
    (λ i m at. let k = sound.modules m (found i m at) in record { base = k.base; aligned = k.aligned }) va typed)
  where
    plain : (a b n : ℕ) → a ≡ b → n ≤ 64 → 0 + a ≤ n → b ≤ 64
    plain a b n s few e = omega (arith, s, few, e)

-- ---- the load under way

get_saved : (clock : Clock) (h i : ℕ) (hs : List Hart) (one : Hart) → slice_get hs i ≡ Some one → slice_get (saved_harts clock h hs) i ≡ Some (saved_hart clock (h + i) one)
unfolding saved_harts
get_saved clock h i [] one at = cc
get_saved clock h zero (x ∷ hs) one at = let same : x ≡ one = cc in let here : h ≡ h + 0 = omega arith in
    ap (λ (y : Hart). Some (saved_hart clock h y)) same ∙ ap (λ (n : ℕ). Some (saved_hart clock n one)) here
get_saved clock h (suc i) (x ∷ hs) one at = let next : h + 1 + i ≡ h + suc i = omega arith in
    get_saved clock (h + 1) i hs one at ∙ ap (λ (n : ℕ). Some (saved_hart clock n one)) next

kernel_may : (one : Hart) → one.started ≡ true → one.mode ≡ Kernel → (one.started && not (is_user one.mode)) ≡ true
kernel_may one started mode = both_true one.started _ started (ap (λ (m : Mode). not (is_user m)) mode)

few_left : (rules : Rules) (id left : ℕ) (x : Option ModuleRule) → IsTrue (rules_within rules) → slice_get rules.modules id ≡ x → left ≤ pages_in_rule x → left ≤ 1024
few_left rules id left None within at e = omega (arith, e)
few_left rules id left (Some rule) within at e = let most = (some_pages rules id rule within at).1 in omega (arith, e, most)

load_has : (r : State) (one : Loading) → IsSound r → HoldsModule r.rules r.approved r.loaded r.held one → MayGoOn r.harts one
    → are_words (load_numbers (Some (saved_load one))) ≡ true → (load (saved_harts r.devices.clock 0 r.harts)).has (saved_load one) ≡ true
unfolding load
load_has r one sound k goes words =
    let numbers : List ℕ = load_numbers (Some (saved_load one)) in
    let hs = saved_harts r.devices.clock 0 r.harts in
    both_true (is_word one.hart && may_load (slice_get hs one.hart)) _
    (both_true (is_word one.hart) _ (word_at numbers 0 one.hart words refl)
    (ap may_load (get_saved r.devices.clock 0 one.hart r.harts goes.hart goes.found) ∙ kernel_may goes.hart goes.started goes.mode))
    (both_true ((module_within (is_above None)).has one.about) _
    (module_has (is_above None) one.about refl (record { base = k.base; aligned = k.aligned }) goes.aligned (words_after numbers 2 words))
    (both_true (is_word one.left) (nat_le one.left 1024) (word_at numbers 1 one.left words refl)
    (least_is one.left 1024 (few_left r.rules one.about.id one.left (slice_get r.rules.modules one.about.id) sound.within refl k.left))))

loading_by : (r : State) (x : Option Loading) → IsSound r → IsSoundLoad r.rules r.approved r.loaded r.held x → IsKeepableLoad r.harts x
    → are_words (load_numbers (option_map saved_load x)) ≡ true → (load_under_way (saved_harts r.devices.clock 0 r.harts)).has (option_map saved_load x) ≡ true
unfolding load_under_way load_after flag
loading_by r None sound k goes words = refl
loading_by r (Some one) sound k goes words = load_has r one sound k goes words

pub loading_has : (r : State) → IsSound r → IsKeepableLoad r.harts r.loading
    → are_words (load_numbers (option_map saved_load r.loading)) ≡ true → (load_under_way (saved_harts r.devices.clock 0 r.harts)).has (option_map saved_load r.loading) ≡ true
loading_has r sound goes words = loading_by r r.loading sound sound.load goes words
