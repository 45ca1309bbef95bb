-- Checks, one after the other.
use Rattle.std.proofs.Common.{◌≡◌, ℕ, suc, ◌+◌, ◌<◌, Bool, true, false, List, [], ◌∷◌, ◌++◌, length, get_or, drop, map, flat_map, Some, None, refl, ap, sym, ◌∙◌, subst, arith, add-one, zero}
use Rattle.std.proofs.Math.Seq.{drop-cons}
use Rattle.sv_types.specs.Kernel.{first_refusal, image_check, header_checks, segment_checks, image_checks, loaded_headers, kernel_refusal, text_is_shared}
use Rattle.sv_types.specs.declared.image_fault.HeaderFault.{HeaderFault}
use Rattle.sv_types.specs.declared.image_fault.ImageFault.{ImageFault}
use Rattle.sv_types.specs.declared.kernel.ProgramHeader.{ProgramHeader}
use Rattle.sv_types.proofs.FileChecks.{passed, first_passed, rest_passed}

-- a fault that checks find is the first
pub refused : {F : Type 0} (xs ys : List (F × Bool)) (n : F) → first_refusal xs ≡ Some n → first_refusal (xs ++ ys) ≡ Some n
refused [] ys n some = cc
refused ((m, true) ∷ xs) ys n some = some
refused ((m, false) ∷ xs) ys n some = refused xs ys n some

-- a check of any file finds the same as one of a kernel's
pub image_passed : (xs : List (HeaderFault × Bool)) → first_refusal xs ≡ None → first_refusal (map image_check xs) ≡ None
image_passed [] none = refl
image_passed ((n, true) ∷ xs) none = cc
image_passed ((n, false) ∷ xs) none = image_passed xs none

pub image_refused : (xs : List (HeaderFault × Bool)) (n : HeaderFault) → first_refusal xs ≡ Some n → first_refusal (map image_check xs) ≡ Some (ImageFault.Header n)
image_refused [] n some = cc
image_refused ((m, true) ∷ xs) n some = cc some
image_refused ((m, false) ∷ xs) n some = image_refused xs n some

here : {X F : Type 0} (f : X → List (F × Bool)) (hs : List X) (i : ℕ) (d : X) → i < length hs
    → flat_map f (drop i hs) ≡ f (get_or hs i d) ++ flat_map f (drop (suc i) hs)
here f hs i d h = ap (flat_map f) (drop-cons hs i d h)

pub place_passed : {X F : Type 0} (f : X → List (F × Bool)) (hs : List X) (i : ℕ) (d : X) → i < length hs
    → first_refusal (f (get_or hs i d)) ≡ None → first_refusal (flat_map f (drop (i + 1) hs)) ≡ first_refusal (flat_map f (drop i hs))
place_passed {X = X} f hs i d h none =
    rw add-one (sym (ap first_refusal (here f hs i d h) ∙ passed (f (get_or hs i d)) (flat_map f (drop (suc i) hs)) none))

pub place_refused : {X F : Type 0} (f : X → List (F × Bool)) (hs : List X) (i : ℕ) (d : X) (n : F) → i < length hs
    → first_refusal (f (get_or hs i d)) ≡ Some n → first_refusal (flat_map f (drop i hs)) ≡ Some n
place_refused f hs i d n h some =
    ap first_refusal (here f hs i d h) ∙ refused (f (get_or hs i d)) (flat_map f (drop (suc i) hs)) n some

-- where none of all finds a fault, none at a place does
pub each_passed : {X F : Type 0} (f : X → List (F × Bool)) (hs : List X) (i : ℕ) (d : X) → i < length hs
    → first_refusal (flat_map f hs) ≡ None → first_refusal (f (get_or hs i d)) ≡ None
each_passed f [] i d h none = absurd (omega arith)
each_passed f (x ∷ hs) zero d h none = first_passed (f x) (flat_map f hs) none
each_passed f (x ∷ hs) (suc i) d h none = each_passed f hs i d (omega arith) (rest_passed (f x) (flat_map f hs) none)

abbrev first_test : {F : Type 0} → List (F × Bool) → Bool
first_test [] = false
first_test (check ∷ checks) = check.1

first_test_passed : {F : Type 0} (checks : List (F × Bool)) → first_refusal checks ≡ None → first_test checks ≡ false
first_test_passed [] none = refl
first_test_passed ((n, true) ∷ checks) none = cc
first_test_passed ((n, false) ∷ checks) none = refl

-- ---- the whole file

pub header_refused : (file : List ℕ) (ram_pages : ℕ) (n : ImageFault) → first_refusal (header_checks file) ≡ Some n → kernel_refusal file ram_pages ≡ Some n
unfolding kernel_refusal
header_refused file ram_pages n some = refused (header_checks file) _ n some

pub segment_refused : (file : List ℕ) (ram_pages : ℕ) (n : ImageFault) (hs : List ProgramHeader) → hs ≡ loaded_headers file → first_refusal (header_checks file) ≡ None
    → first_refusal (flat_map (segment_checks (length file) ram_pages) hs) ≡ Some n → kernel_refusal file ram_pages ≡ Some n
unfolding kernel_refusal
segment_refused file ram_pages n hs same none some =
    passed (header_checks file) _ none
    ∙ subst (λ (ks : List ProgramHeader). first_refusal (flat_map (segment_checks (length file) ram_pages) ks ++ image_checks ks) ≡ Some n) same
    (refused (flat_map (segment_checks (length file) ram_pages) hs) (image_checks hs) n some)

pub image_judged : (file : List ℕ) (ram_pages : ℕ) (hs : List ProgramHeader) → hs ≡ loaded_headers file → first_refusal (header_checks file) ≡ None
    → first_refusal (flat_map (segment_checks (length file) ram_pages) hs) ≡ None → kernel_refusal file ram_pages ≡ first_refusal (image_checks hs)
unfolding kernel_refusal
image_judged file ram_pages hs same none passes =
    passed (header_checks file) _ none
    ∙ subst (λ (ks : List ProgramHeader). first_refusal (flat_map (segment_checks (length file) ram_pages) ks ++ image_checks ks) ≡ first_refusal (image_checks hs)) same
    (passed (flat_map (segment_checks (length file) ram_pages) hs) (image_checks hs) passes)

-- ---- a file that isn't refused

pub accepted_image : (file : List ℕ) (ram_pages : ℕ) → kernel_refusal file ram_pages ≡ None → text_is_shared (loaded_headers file) ≡ false
unfolding kernel_refusal image_checks
accepted_image file ram_pages none =
    first_test_passed (image_checks (loaded_headers file))
    (rest_passed (flat_map (segment_checks (length file) ram_pages) (loaded_headers file)) (image_checks (loaded_headers file))
    (rest_passed (header_checks file) _ none))
