-- Pages that are free and stand once in a list are taken one after the other.
use Rattle.std.proofs.Common.{◌≡◌, ℕ, suc, ◌+◌, ◌<◌, inl, inr, List, [], ◌∷◌, ◌++◌, slice_set, refl, ◌∙◌, ap, subst, Bool, true, false, ◌||◌, arith, slice_get}
use Rattle.std.specs.Prelude.{Some, None, if◌then◌else◌, ◌==◌}
use Rattle.std.proofs.lemmas.Bool.{ne_eqb, false_from_ne_true}
use Rattle.sv_types.specs.Policies.{Rules}
use Rattle.sv_types.specs.declared.protection.Protection.{Protection}
use Rattle.sv_types.specs.declared.saved.ModulePlacement.{ModulePlacement}
use Rattle.spec_reference.specs.Origins.{AllAbove, Ascends}
use Rattle.sv_types.specs.Protections.{is_free}
use Rattle.spec_reference.specs.Protections.{protection_at}
use Rattle.spec_reference.specs.States.{has_number, module_pages}
use Rattle.snapshot_format.specs.Judgements.{loaded_pages, take_pages}
use Rattle.snapshot_format.proofs.TakenSpans.{set_beside}
use Rattle.laws_simulation.proofs.Lookups.{both, same_number, above_at}
use Rattle.laws_resume.specs.Keepable.{AscendFrom}
use Rattle.laws_resume.proofs.KeepableStarts.{numbers_ascend}
use Rattle.laws_resume.proofs.ResumedPages.{in_one, of_module}
use Rattle.laws_resume.proofs.TakenPages.{Taking, or_true}

-- ---- each page stands once

abbrev pub AreOnce : List ℕ → Type 0
AreOnce [] = Unit {0}
AreOnce (page ∷ pages) = (has_number pages page ≡ false) × AreOnce pages

-- no number below the first is one of an ascending list
pub not_below : (first k : ℕ) (pages : List ℕ) → AscendFrom first pages → k < first → has_number pages k ≡ false
not_below first k [] up less = refl
not_below first k (page ∷ pages) up less =
    rw (ne_eqb page k (λ same. omega (arith, same, less, up.0)), not_below (page + 1) k pages up.1 (omega (arith, less, up.0))) refl

pub once_up : (first : ℕ) (pages : List ℕ) → AscendFrom first pages → AreOnce pages
once_up first [] up = tt
once_up first (page ∷ pages) up = (not_below (page + 1) page pages up.1 (omega arith), once_up (page + 1) pages up.1)

not_in_both : (xs ys : List ℕ) (page : ℕ) → has_number xs page ≡ false → (has_number ys page ≡ true → ⊥) → has_number (xs ++ ys) page ≡ false
not_in_both xs ys page none other = false_from_ne_true (has_number (xs ++ ys) page) (λ there. elim (in_one xs ys page there) [
  | inl here ↦ both (has_number xs page) here none
  | inr behind ↦ other behind
])

tail_in : (page q : ℕ) (pages : List ℕ) → has_number pages q ≡ true → has_number (page ∷ pages) q ≡ true
tail_in page q pages there = rw there (or_true (page == q))

head_in : (page : ℕ) (pages : List ℕ) → has_number (page ∷ pages) page ≡ true
head_in page pages = ap (λ (b : Bool). b || has_number pages page) (same_number page)

pub once_both : (xs ys : List ℕ) → AreOnce xs → AreOnce ys → ((page : ℕ) → has_number xs page ≡ true → has_number ys page ≡ true → ⊥) → AreOnce (xs ++ ys)
once_both [] ys x y apart = y
once_both (page ∷ xs) ys x y apart = (
  not_in_both xs ys page x.0 (λ there. apart page (head_in page xs) there),
  once_both xs ys x.1 y (λ q here there. apart q (tail_in page q xs here) there),
)

-- ---- the pages of all loaded modules

-- two modules of the list that share a page have one id
abbrev pub ShareNone : Rules → List ModulePlacement → Type 0
ShareNone rules ms = (i j page : ℕ) (m n : ModulePlacement) → slice_get ms i ≡ Some m → slice_get ms j ≡ Some n → has_number (module_pages rules m) page ≡ true
    → has_number (module_pages rules n) page ≡ true → m.id ≡ n.id

apart_from : (rules : Rules) (m : ModulePlacement) (ms : List ModulePlacement) (page : ℕ) → AllAbove m.id ms → ShareNone rules (m ∷ ms)
    → has_number (module_pages rules m) page ≡ true → has_number (loaded_pages rules ms) page ≡ true → ⊥
apart_from rules m ms page above none here there =
    let k = of_module rules ms page there in
    let same : m.id ≡ k.about.id = none 0 (suc k.place) page m k.about refl k.at here k.inside in
    let less : m.id < k.about.id = above_at m.id ms k.place k.about above k.at in omega (arith, same, less)

pub once_loaded : (rules : Rules) (ms : List ModulePlacement) → Ascends ms → ShareNone rules ms → AreOnce (loaded_pages rules ms)
once_loaded rules [] up none = tt
once_loaded rules (m ∷ ms) up none =
    once_both (module_pages rules m) (loaded_pages rules ms) (once_up _ (module_pages rules m) (numbers_ascend _ _))
    (once_loaded rules ms up.1 (λ i j page a b at bt s t. none (suc i) (suc j) page a b at bt s t))
    (λ page here there. apart_from rules m ms page up.0 none here there)

-- ---- they are taken

pub takes : (p : Protection) (guard : List Protection) (pages : List ℕ) → AreOnce pages
    → ((page : ℕ) → has_number pages page ≡ true → is_free (protection_at guard page) ≡ true) → (after : List Protection) × Taking p guard pages after
takes p guard [] once free = (guard, refl)
takes p guard (page ∷ pages) once free =
    let rest = takes p (slice_set guard page p) pages once.1
    (λ q there. ap is_free (set_beside guard page q p (λ same. both (has_number pages q) there (subst (λ (k : ℕ). has_number pages k ≡ false) same once.0))) ∙ free q (tail_in page q pages there)) in
    (rest.0, ap (λ (b : Bool). if b then take_pages p (slice_set guard page p) pages else None) (free page (head_in page pages)) ∙ rest.1)
