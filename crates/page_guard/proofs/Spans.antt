-- Spans of pages: one page more, and what a span changes of the list of protections.
use Rattle.std.proofs.Common.{◌≡◌, refl, ℕ, zero, suc, ◌+◌, ◌*◌, ◌<◌, ◌≤◌, List, [], ◌∷◌, length, sym, ◌∙◌, ap, subst, Bool, true, false}
use Rattle.std.proofs.Common.{not, map, slice_get, slice_set, get_or, replicate, arith, add-one}
use Rattle.std.specs.Prelude.{Option, Some, None, find, ◌==◌}
use Rattle.std.specs.Option.{option_or}
use Rattle.std.proofs.lemmas.Bool.{eqb-true, eq-eqb}
use Rattle.std.proofs.lemmas.List.{length-set, length-replicate}
use Rattle.std.proofs.lemmas.Option.{slice_get_read}
use Rattle.std.proofs.lemmas.List.Folds.{find-append}
use Rattle.spec_processor.specs.Bytes.{page_size}
use Rattle.sv_types.specs.ApprovedPages.{numbers_from}
use Rattle.spec_processor.specs.Regions.{Region}
use Rattle.sv_types.specs.Views.{AreViews, all_free}
use Rattle.gstage_tables.specs.Layout.{HoldsTrees}
use Rattle.sv_types.specs.declared.protection.Protection.{Protection}
use Rattle.sv_types.specs.declared.protection.Protection.TheVariants.{Free}
use Rattle.spec_reference.specs.Protections.{protection_at, or_free, with_pages, is_taken}
use Rattle.sv_types.specs.Protections.{is_free}
use Rattle.page_guard.specs.Guarded.{TablesMatchGuard}
use Rattle.page_guard.proofs.Sets.{get_same}
use Rattle.sv_types.proofs.PageNumbers.{numbers_more}
use Rattle.spec_reference.proofs.Runs.{all_free_at}
use Rattle.sv_types.proofs.SetElements.{set_other}

pub length_pages : (guard : List Protection) (first count : ℕ) (p : Protection) → length (with_pages guard first count p) ≡ length guard
unfolding with_pages
length_pages guard first zero p = refl
length_pages guard first (suc count) p = length-set (with_pages guard first count p) (first + count) p ∙ length_pages guard first count p

-- one page more with a protection
pub pages_more : (guard : List Protection) (first count : ℕ) (p : Protection)
    → slice_set (with_pages guard first count p) (first + count) p ≡ with_pages guard first (count + 1) p
unfolding with_pages
pages_more guard first count p = ap (λ (n : ℕ). with_pages guard first n p) (sym (add-one count))

-- the page that was changed last, or another one that had it before
changed_or_before : (g : List Protection) (first n i : ℕ) (p : Protection) (b : Bool) → (i == n) ≡ b → first + n < length g
    → ((i ≡ n → ⊥) → slice_get g (first + i) ≡ Some p) → slice_get (slice_set g (first + n) p) (first + i) ≡ Some p
changed_or_before g first n i p true last there before =
    subst (λ (k : ℕ). slice_get (slice_set g (first + n) p) (first + k) ≡ Some p) (sym (eqb-true i n last)) (get_same g (first + n) p there)
changed_or_before g first n i p false other there before =
    let apart : i ≡ n → ⊥ = λ same. let r : (i == n) ≡ true = eq-eqb i n same in cc in
    set_other g (first + n) (first + i) p (λ same. apart (omega (arith, same))) ∙ before apart

-- each page of the span has it
pub pages_are : (guard : List Protection) (first count : ℕ) (p : Protection) → first + count ≤ length guard
    → (i : ℕ) → i < count → slice_get (with_pages guard first count p) (first + i) ≡ Some p
unfolding with_pages
pages_are guard first zero p inside i below = absurd (omega (arith, below))
pages_are guard first (suc count) p inside i below =
    changed_or_before (with_pages guard first count p) first count i p (i == count) refl
    (omega (arith, inside, length_pages guard first count p))
    (λ apart. pages_are guard first count p (omega (arith, inside)) i (grind (arith, below, apart)))

-- the first page that a test finds, with one page more
pub found_more : (test : ℕ → Bool) (first count : ℕ) → find test (numbers_from first count) ≡ None
    → find test (numbers_from first (count + 1)) ≡ find test ((first + count) ∷ [])
found_more test first count none =
    ap (λ (n : ℕ). find test (numbers_from first n)) (add-one count)
    ∙ ap (find test) (numbers_more first count)
    ∙ find-append test (numbers_from first count) ((first + count) ∷ [])
    ∙ ap (λ (o : Option ℕ). option_or o (find test ((first + count) ∷ []))) none

-- a page that is found stays found with more pages after
pub found_stays : (test : ℕ → Bool) (first count more page : ℕ) → find test (numbers_from first count) ≡ Some page
    → find test (numbers_from first (count + more)) ≡ Some page
found_stays test first count zero page found =
    let same : count + 0 ≡ count = omega arith in ap (λ (n : ℕ). find test (numbers_from first n)) same ∙ found
found_stays test first count (suc more) page found =
    let before = found_stays test first count more page found in
    let one : count + suc more ≡ suc (count + more) = omega arith in
    let last : List ℕ = (first + (count + more)) ∷ [] in
    ap (λ (n : ℕ). find test (numbers_from first n)) one
    ∙ ap (find test) (numbers_more first (count + more))
    ∙ find-append test (numbers_from first (count + more)) last
    ∙ ap (λ (o : Option ℕ). option_or o (find test last)) before

pub found_at : (test : ℕ → Bool) (first count more : ℕ) → find test (numbers_from first count) ≡ None → test (first + count) ≡ true
    → find test (numbers_from first (count + 1 + more)) ≡ Some (first + count)
found_at test first count more none here =
    let one : find test ((first + count) ∷ []) ≡ Some (first + count) = rw here refl in
    found_stays test first (count + 1) more (first + count) (found_more test first count none ∙ one)

pub none_more : (test : ℕ → Bool) (first count : ℕ) → find test (numbers_from first count) ≡ None → test (first + count) ≡ false
    → find test (numbers_from first (count + 1)) ≡ None
none_more test first count none here =
    let one : find test ((first + count) ∷ []) ≡ None = rw here refl in found_more test first count none ∙ one

pub taken_by : (guard : List Protection) (page : ℕ) (p : Protection) → page < length guard → p ≡ get_or guard page p → is_taken guard page ≡ not (is_free p)
taken_by guard page p below read = ap (λ (o : Option Protection). not (is_free (or_free o))) (slice_get_read guard (length guard) page p refl below read)

pub free_bits : (n : ℕ) → map is_free (replicate n Free) ≡ replicate n true
free_bits zero = refl
free_bits (suc n) = ap (λ (bits : List Bool). true ∷ bits) (free_bits n)

-- the list of free pages is the protections of which all are free
pub none_held : (n : ℕ) → all_free ≡ protection_at (replicate n Free)
none_held n = λ i page. sym (all_free_at n page) i

pub new_tables_match : (r : Region) (n : ℕ) (bound : List ℕ) → length r.ram ≡ page_size * n → AreViews r.tables n bound all_free → HoldsTrees r.tables n bound all_free
    → TablesMatchGuard r (record { pages = replicate n Free; bound = bound })
new_tables_match r n bound ram views trees =
    let size : n ≡ length (replicate n Free) = sym (length-replicate n Free) in
    let same : all_free ≡ protection_at (replicate n Free) = none_held n in record {
      ram = ram ∙ ap (λ (n : ℕ). page_size * n) size;
      views = subst (λ (k : ℕ). AreViews r.tables k bound (protection_at (replicate n Free))) size (subst (AreViews r.tables n bound) same views);
      trees = subst (λ (k : ℕ). HoldsTrees r.tables k bound (protection_at (replicate n Free))) size (subst (HoldsTrees r.tables n bound) same trees);
    }
