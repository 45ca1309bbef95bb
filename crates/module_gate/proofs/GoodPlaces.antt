-- A place where a module may be loaded: its pages are in RAM, and none of them is taken.
use Rattle.std.proofs.Common.{◌≡◌, ℕ, zero, suc, ◌+◌, ◌*◌, ◌&&◌, List, [], ◌∷◌, ◌++◌, length, refl, ◌∙◌, ap, Bool, true, false, not, arith, add-one}
use Rattle.std.specs.Prelude.{Some, None, find, if◌then◌else◌, ◌||◌, ◌==◌, ◌%◌}
use Rattle.std.specs.List.{list_any}
use Rattle.std.proofs.lemmas.Bool.{and_parts, not-true}
use Rattle.std.proofs.lemmas.Bool.Decides.{nat_tests}
use Rattle.spec_processor.specs.Bytes.{page_of, in_ram, page_size}
use Rattle.sv_types.specs.ApprovedPages.{numbers_from}
use Rattle.sv_types.specs.declared.saved.ModulePlacement.{ModulePlacement}
use Rattle.sv_types.specs.declared.protection.Protection.{Protection}
use Rattle.page_guard.specs.Guarded.{first_taken, IsInRam}
use Rattle.module_gate.specs.Gates.{is_place, is_good_place, pages_at}
use Rattle.spec_reference.specs.Protections.{is_taken}
use Rattle.sv_types.proofs.PageNumbers.{numbers_more}

-- ---- a test of numbers, one after another

any_both : (test : ℕ → Bool) (xs ys : List ℕ) → list_any test (xs ++ ys) ≡ (list_any test xs || list_any test ys)
any_both test [] ys = refl
any_both test (x ∷ xs) ys = by (test x) (any_both test xs ys)
  where
    by : (b : Bool) → list_any test (xs ++ ys) ≡ (list_any test xs || list_any test ys) → (b || list_any test (xs ++ ys)) ≡ (b || list_any test xs || list_any test ys)
    by true e = refl
    by false e = e

or_later : (a b c : Bool) → a ≡ false → b ≡ c → (a || (b || false)) ≡ c
or_later true b c e f = cc
or_later false true c e f = f
or_later false false c e f = f

-- one number more, where none was picked before
pub one_more : (test : ℕ → Bool) (first count : ℕ) (b : Bool) → list_any test (numbers_from first count) ≡ false → test (first + count) ≡ b → list_any test (numbers_from first (count + 1)) ≡ b
one_more test first count b before here =
    ap (λ (n : ℕ). list_any test (numbers_from first n)) (add-one count)
    ∙ ap (list_any test) (numbers_more first count)
    ∙ any_both test (numbers_from first count) ((first + count) ∷ [])
    ∙ or_later (list_any test (numbers_from first count)) (test (first + count)) b before here

-- a number that is picked stays picked with more after
pub picked_stays : (test : ℕ → Bool) (first count more : ℕ) → list_any test (numbers_from first count) ≡ true → list_any test (numbers_from first (count + more)) ≡ true
picked_stays test first zero more e = cc
picked_stays test first (suc count) more e =
    let one : suc count + more ≡ suc (count + more) = omega arith in
    ap (λ (n : ℕ). list_any test (numbers_from first n)) one ∙ by (test first) e (picked_stays test (first + 1) count more)
  where
    by : (b : Bool) → (b || list_any test (numbers_from (first + 1) count)) ≡ true
        → (list_any test (numbers_from (first + 1) count) ≡ true → list_any test (numbers_from (first + 1) (count + more)) ≡ true)
        → (b || list_any test (numbers_from (first + 1) (count + more))) ≡ true
    by true e k = refl
    by false e k = k e

-- where none is picked, none is found
none_found : (test : ℕ → Bool) (xs : List ℕ) → list_any test xs ≡ false → find test xs ≡ None
none_found test [] e = refl
none_found test (x ∷ xs) e = by (test x) e (none_found test xs)
  where
    by : (b : Bool) → (b || list_any test xs) ≡ false → (list_any test xs ≡ false → find test xs ≡ None) → (if b then Some x else find test xs) ≡ None
    by true e k = cc
    by false e k = k e

-- ---- the pages of a place

good_parts : (ram : List ℕ) (guard : List Protection) (about : ModulePlacement) (pages : ℕ) → is_good_place ram guard about pages ≡ true
    → (is_place ram about.gpa about.va pages ≡ true) × (list_any (is_taken guard) (numbers_from (page_of about.gpa) pages) ≡ false)
unfolding is_good_place
good_parts ram guard about pages good =
    let parts = and_parts (is_place ram about.gpa about.va pages) (not (list_any (is_taken guard) (numbers_from (page_of about.gpa) pages))) good in (parts.0, not-true _ parts.1)

pub none_taken : (ram : List ℕ) (guard : List Protection) (about : ModulePlacement) (pages : ℕ) → is_good_place ram guard about pages ≡ true
    → first_taken guard (pages_at about.gpa pages) ≡ None
unfolding first_taken
none_taken ram guard about pages good = none_found (is_taken guard) (numbers_from (page_of about.gpa) pages) (good_parts ram guard about pages good).1

pub place_inside : (ram : List ℕ) (guard : List Protection) (gpa va pages : ℕ) → is_place ram gpa va pages ≡ true → length ram ≡ page_size * length guard
    → IsInRam guard (pages_at gpa pages)
place_inside ram guard gpa va pages place size =
    let parts = and_parts (gpa % page_size == 0 && va % page_size == 0) (in_ram ram gpa (page_size * pages)) place in grind (arith, nat_tests, size)

pub good_inside : (ram : List ℕ) (guard : List Protection) (about : ModulePlacement) (pages : ℕ) → is_good_place ram guard about pages ≡ true → length ram ≡ page_size * length guard
    → IsInRam guard (pages_at about.gpa pages)
good_inside ram guard about pages good size = place_inside ram guard about.gpa about.va pages (good_parts ram guard about pages good).0 size
