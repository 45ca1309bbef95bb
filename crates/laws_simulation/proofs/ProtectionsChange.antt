-- What each step of a load, an unload and a retirement makes of the protections of all pages, and the views for them.
use Rattle.std.proofs.Common.{◌≡◌, ℕ, zero, suc, ◌+◌, ◌<◌, ◌≤◌, inl, inr, List, [], ◌∷◌, map, refl, sym, ◌∙◌, ap, subst, Bool, true, false, ◌||◌, arith, slice_get, slice_set}
use Rattle.std.specs.Prelude.{Option, Some, None, if◌then◌else◌, ◌==◌}
use Rattle.std.proofs.lemmas.Bool.{eqb-true, false_from_ne_true, cases_Bool}
use Rattle.std.proofs.lemmas.Bool.Decides.{nat_tests}
use Rattle.spec_processor.specs.Bytes.{page_of}
use Rattle.sv_types.specs.Policies.{Rules}
use Rattle.sv_types.specs.ApprovedPages.{numbers_from, approved_bytes}
use Rattle.sv_types.specs.declared.module.Span.{Span}
use Rattle.sv_types.specs.declared.protection.Protection.{Protection}
use Rattle.sv_types.specs.declared.protection.Protection.TheVariants.{Free, Held, Approved}
use Rattle.sv_types.specs.declared.saved.ModulePlacement.{ModulePlacement}
use Rattle.spec_reference.specs.States.{State, Loading, protection_in, protection_by, has_number, is_approved_in, find_module, module_pages, pages_in_rule, without_pages, protections_of}
use Rattle.spec_reference.specs.Answers.{init_text}
use Rattle.spec_reference.specs.Protections.{or_free, protection_at, with_pages, with_each}
use Rattle.sv_types.specs.Views.{AreViews}
use Rattle.spec_hardware.specs.StandsFor.{bound_pages}
use Rattle.spec_reference.specs.Soundness.{IsSound, IsSoundLoad, HoldsModule}
use Rattle.laws_simulation.proofs.Lookups.{both, same_number, numbers_bounds, approved_without}
use Rattle.laws_simulation.proofs.LoadsKept.{elsewhere}
use Rattle.laws_simulation.proofs.ModulesSound.{loads, approves, unloads, retires, front_case, bytes_left, text_before}
use Rattle.laws_simulation.proofs.ViewsMeet.{get_numbers, views_meet}

-- ---- lists over all pages

map_agree : (f g : ℕ → Protection) (s n : ℕ) → ((j : ℕ) → s ≤ j → j < s + n → f j ≡ g j) → map f (numbers_from s n) ≡ map g (numbers_from s n)
map_agree f g s zero same = refl
map_agree f g s (suc n) same =
    rw (same s (omega arith) (omega arith), map_agree f g (s + 1) n (λ j low high. same j (omega arith) (omega arith))) refl

set_one : (f : ℕ → Protection) (p : Protection) (s n i : ℕ) → slice_set (map f (numbers_from s n)) i p ≡ map (λ j. if j == s + i then p else f j) (numbers_from s n)
set_one f p s zero i = refl
set_one f p s (suc n) zero =
    let here : (s == s + 0) ≡ true = grind (arith, nat_tests) in
    rw here (ap (◌∷◌ p) (map_agree f (λ j. if j == s + 0 then p else f j) (s + 1) n
    (λ j low high. let other : (j == s + 0) ≡ false = grind (arith, nat_tests) in rw other refl)))
set_one f p s (suc n) (suc i) =
    let other : (s == s + suc i) ≡ false = grind (arith, nat_tests) in
    rw other (ap (◌∷◌ (f s)) (set_one f p (s + 1) n i ∙ map_agree (λ j. if j == s + 1 + i then p else f j) (λ j. if j == s + suc i then p else f j) (s + 1) n
    (λ j low high. let same : s + 1 + i ≡ s + suc i = omega arith in ap (λ (k : ℕ). if j == k then p else f j) same)))

-- each page by whether it is one of the list
pub each_changed : (f : ℕ → Protection) (p : Protection) (n : ℕ) (pages : List ℕ)
    → with_each (map f (numbers_from 0 n)) pages p ≡ map (λ j. if has_number pages j then p else f j) (numbers_from 0 n)
unfolding with_each
each_changed f p n [] = refl
each_changed f p n (q ∷ pages) =
    ap (λ (guard : List Protection). with_each guard pages p) (set_one f p 0 n q)
    ∙ each_changed (λ j. if j == 0 + q then p else f j) p n pages
    ∙ map_agree (λ j. if has_number pages j then p else (if j == 0 + q then p else f j)) (λ j. if (q == j) || has_number pages j then p else f j) 0 n
    (λ j low high. either j q (has_number pages j) (q == j) refl)
  where
    either : (j q : ℕ) (later here : Bool) → (q == j) ≡ here → (if later then p else (if j == 0 + q then p else f j)) ≡ (if here || later then p else f j)
    either j q true true at = refl
    either j q true false at = refl
    either j q false true at = let same : (j == 0 + q) ≡ true = grind (arith, nat_tests) in rw same refl
    either j q false false at = let other : (j == 0 + q) ≡ false = grind (arith, nat_tests) in rw other refl

spanned : (f g : ℕ → Protection) (p : Protection) (first count j : ℕ) (b : Bool) → (j == 0 + (first + count)) ≡ b
    → g j ≡ (if has_number (numbers_from first count) j then p else f j)
    → (if b then p else g j) ≡ (if has_number (numbers_from first (suc count)) j then p else f j)
spanned f g p first count j true at e =
    let there : has_number (numbers_from first (suc count)) j ≡ true = last_there first count j (omega_same first count j at) in rw there refl
  where
    omega_same : (first count j : ℕ) → (j == 0 + (first + count)) ≡ true → j ≡ first + count
    omega_same first count j at = let same : j ≡ 0 + (first + count) = eqb-true j (0 + (first + count)) at in omega arith

    last_there : (first count j : ℕ) → j ≡ first + count → has_number (numbers_from first (suc count)) j ≡ true
    last_there first count j same = elim (cases_Bool (has_number (numbers_from first (suc count)) j)) [
      | inl there ↦ there
      | inr gone ↦ absurd (elim (elsewhere first (suc count) j gone) [ inl before ↦ omega arith | inr behind ↦ omega arith ])
    ]
spanned f g p first count j false at e =
    e ∙ ap (λ (c : Bool). if c then p else f j) (same_there first count j at)
  where
    plain : (first count j : ℕ) → j ≡ first + count → j ≡ 0 + (first + count)
    plain first count j same = omega arith

    same_there : (first count j : ℕ) → (j == 0 + (first + count)) ≡ false → has_number (numbers_from first count) j ≡ has_number (numbers_from first (suc count)) j
    same_there first count j at = elim (cases_Bool (has_number (numbers_from first count) j)) [
      | inl there ↦ elim (cases_Bool (has_number (numbers_from first (suc count)) j)) [
        | inl also ↦ there ∙ sym also
        | inr gone ↦ let k = numbers_bounds first count j there in let low = k.0 in let high = k.1 in
            absurd (elim (elsewhere first (suc count) j gone) [ inl before ↦ omega arith | inr behind ↦ omega arith ])
      ]
      | inr gone ↦ elim (cases_Bool (has_number (numbers_from first (suc count)) j)) [
        | inl there ↦ let k = numbers_bounds first (suc count) j there in let low = k.0 in let high = k.1 in
            let other : j ≡ first + count → ⊥ = λ same. both (j == 0 + (first + count)) (subst (λ (x : ℕ). (j == x) ≡ true) (plain first count j same) (same_number j)) at in
            absurd (elim (elsewhere first count j gone) [ inl before ↦ omega arith | inr behind ↦ other (omega arith) ])
        | inr also ↦ gone ∙ sym also
      ]
    ]

-- the same for pages from a first one on
pub span_changed : (f : ℕ → Protection) (p : Protection) (n first count : ℕ)
    → with_pages (map f (numbers_from 0 n)) first count p ≡ map (λ j. if has_number (numbers_from first count) j then p else f j) (numbers_from 0 n)
unfolding with_pages
span_changed f p n first zero = refl
span_changed f p n first (suc count) =
    ap (λ (guard : List Protection). slice_set guard (first + count) p) (span_changed f p n first count)
    ∙ set_one (λ j. if has_number (numbers_from first count) j then p else f j) p 0 n (first + count)
    ∙ map_agree (λ j. if j == 0 + (first + count) then p else (if has_number (numbers_from first count) j then p else f j)) (λ j. if has_number (numbers_from first (suc count)) j then p else f j) 0 n
    (λ j low high. spanned f (λ i. if has_number (numbers_from first count) i then p else f i) p first count j (j == 0 + (first + count)) refl refl)

-- ---- the steps

-- the protections of all pages, where some have changed to one
changed_span : (f g : ℕ → Protection) (p : Protection) (n first count : ℕ) → ((j : ℕ) → g j ≡ (if has_number (numbers_from first count) j then p else f j))
    → map g (numbers_from 0 n) ≡ with_pages (map f (numbers_from 0 n)) first count p
changed_span f g p n first count same =
    map_agree g (λ j. if has_number (numbers_from first count) j then p else f j) 0 n (λ j low high. same j) ∙ sym (span_changed f p n first count)

changed_each : (f g : ℕ → Protection) (p : Protection) (n : ℕ) (pages : List ℕ) → ((j : ℕ) → g j ≡ (if has_number pages j then p else f j))
    → map g (numbers_from 0 n) ≡ with_each (map f (numbers_from 0 n)) pages p
changed_each f g p n pages same = map_agree g (λ j. if has_number pages j then p else f j) 0 n (λ j low high. same j) ∙ sym (each_changed f p n pages)

abbrev pub first_of : ModulePlacement → ℕ
first_of m = page_of m.gpa

abbrev pub count_of : Rules → ModulePlacement → ℕ
count_of rules m = pages_in_rule (slice_get rules.modules m.id)

case_of : (b : Bool) (x y z : Protection) → (b ≡ true → z ≡ x) → (b ≡ false → z ≡ y) → z ≡ (if b then x else y)
case_of true x y z there gone = there refl
case_of false x y z there gone = gone refl

-- a load begins: its pages, which are free, are held
pub held_protections : (r : State) (m : ModulePlacement) (x : Option Loading) → r.held ≡ [] → ((page : ℕ) → has_number (module_pages r.rules m) page ≡ true → is_approved_in r.approved page ≡ false)
    → protections_of (loads r (module_pages r.rules m) x) ≡ with_pages (protections_of r) (first_of m) (count_of r.rules m) Held
unfolding protection_in protection_by
held_protections r m x none free =
    changed_span (protection_in r.approved r.held) (protection_in r.approved (module_pages r.rules m)) Held r.rules.ram_pages (first_of m) (count_of r.rules m)
    (λ j. case_of (has_number (module_pages r.rules m) j) Held (protection_in r.approved r.held j) (protection_in r.approved (module_pages r.rules m) j)
    (λ there. rw (free j there, there) refl)
    (λ gone. rw (gone, none) refl))

-- the load is refused: they are free again
pub released_protections : (r : State) (load : Loading) → HoldsModule r.rules r.approved r.loaded r.held load
    → protections_of (loads r [] None) ≡ with_pages (protections_of r) (first_of load.about) (count_of r.rules load.about) Free
unfolding protection_in protection_by
released_protections r load k =
    changed_span (protection_in r.approved r.held) (protection_in r.approved []) Free r.rules.ram_pages (first_of load.about) (count_of r.rules load.about)
    (λ j. case_of (has_number (module_pages r.rules load.about) j) Free (protection_in r.approved r.held j) (protection_in r.approved [] j)
    (λ there. rw (k.free j (subst (λ (list : List ℕ). has_number list j ≡ true) (sym k.pages) there)) refl)
    (λ gone. let none : has_number r.held j ≡ false = subst (λ (list : List ℕ). has_number list j ≡ false) (sym k.pages) gone in rw none refl))

-- or they are approved
pub approved_protections : (r : State) (load : Loading) → HoldsModule r.rules r.approved r.loaded r.held load
    → protections_of (approves r load.about) ≡ with_pages (protections_of r) (first_of load.about) (count_of r.rules load.about) Approved
unfolding protection_in protection_by
approved_protections r load k =
    changed_span (protection_in r.approved r.held) (protection_in (approves r load.about).approved []) Approved r.rules.ram_pages (first_of load.about) (count_of r.rules load.about)
    (λ j. case_of (has_number (module_pages r.rules load.about) j) Approved (protection_in r.approved r.held j) (protection_in (approves r load.about).approved [] j)
    (λ there. rw (front_case r load.about j true there) refl)
    (λ gone. let none : has_number r.held j ≡ false = subst (λ (list : List ℕ). has_number list j ≡ false) (sym k.pages) gone in rw (front_case r load.about j false gone, none) refl))

not_held : (r : State) (x : Option Loading) (page : ℕ) → IsSoundLoad r.rules r.approved r.loaded r.held x → is_approved_in r.approved page ≡ true → has_number r.held page ≡ false
not_held r None page load e = rw load refl
not_held r (Some load) page k e = false_from_ne_true (has_number r.held page) (λ t. both (is_approved_in r.approved page) e (k.free page t))

taken_away : (r : State) (pages : List ℕ) (page : ℕ) → has_number pages page ≡ true → approved_bytes (without_pages r.approved pages) page ≡ None
taken_away r pages page there = approved_without r.approved pages page ∙ ap (λ (b : Bool). if b then None else approved_bytes r.approved page) there

-- some approved pages are free
freed : (r : State) (pages : List ℕ) (j : ℕ) → IsSound r → ((page : ℕ) → has_number pages page ≡ true → is_approved_in r.approved page ≡ true)
    → protection_in (without_pages r.approved pages) r.held j ≡ (if has_number pages j then Free else protection_in r.approved r.held j)
unfolding protection_in protection_by
freed r pages j s approved =
    case_of (has_number pages j) Free (protection_in r.approved r.held j) (protection_in (without_pages r.approved pages) r.held j)
    (λ there. rw (taken_away r pages j there, not_held r r.loading j s.load (approved j there)) refl)
    (λ gone. rw (bytes_left r.approved pages j gone) refl)

pub unloaded_protections : (r : State) (m : ModulePlacement) → IsSound r → find_module r.loaded m.id ≡ Some m
    → protections_of (unloads r m) ≡ with_pages (protections_of r) (first_of m) (count_of r.rules m) Free
unloaded_protections r m s found =
    changed_span (protection_in r.approved r.held) (protection_in (without_pages r.approved (module_pages r.rules m)) r.held) Free r.rules.ram_pages (first_of m) (count_of r.rules m)
    (λ j. freed r (module_pages r.rules m) j s (λ page there. s.pages.modules m page (record { loaded_is = found; inside = there })))

pub retired_protections : (r : State) (span : Span) → IsSound r → r.retired ≡ false
    → protections_of (retires r span) ≡ with_each (protections_of r) (init_text r span) Free
retired_protections r span s before =
    changed_each (protection_in r.approved r.held) (protection_in (without_pages r.approved (init_text r span)) r.held) Free r.rules.ram_pages (init_text r span)
    (λ j. freed r (init_text r span) j s (λ page there. s.pages.text page (text_before r span page before there)))

-- ---- the views for a list of protections

pub at_page : (r : State) (page : ℕ) → page < r.rules.ram_pages → protection_at (protections_of r) page ≡ protection_in r.approved r.held page
at_page r page below =
    let first : 0 + page ≡ page = omega arith in
    ap or_free (get_numbers (protection_in r.approved r.held) 0 r.rules.ram_pages page below) ∙ ap (protection_in r.approved r.held) first

pub views_from : (tables : List ℕ) (r : State) → AreViews tables r.rules.ram_pages (bound_pages r.rules) (protection_at (protections_of r)) →
    AreViews tables r.rules.ram_pages (bound_pages r.rules) (protection_in r.approved r.held)
views_from tables r views =
    views_meet tables r.rules.ram_pages (bound_pages r.rules) (protection_at (protections_of r)) (protection_in r.approved r.held) (λ page below. at_page r page below) views

pub views_to : (tables : List ℕ) (r : State) → AreViews tables r.rules.ram_pages (bound_pages r.rules) (protection_in r.approved r.held) →
    AreViews tables r.rules.ram_pages (bound_pages r.rules) (protection_at (protections_of r))
views_to tables r views =
    views_meet tables r.rules.ram_pages (bound_pages r.rules) (protection_in r.approved r.held) (protection_at (protections_of r)) (λ page below. sym (at_page r page below)) views
