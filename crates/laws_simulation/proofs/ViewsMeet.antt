-- A view asks for the protections of the pages in RAM alone.
use Rattle.std.proofs.Common.{◌≡◌, ℕ, zero, suc, ◌+◌, ◌<◌, List, length, map, refl, sym, ◌∙◌, ap, Bool, true, false, ◌&&◌, arith, slice_get}
use Rattle.std.specs.Prelude.{Some, None, if◌then◌else◌}
use Rattle.std.proofs.lemmas.Bool.Decides.{nat_tests}
use Rattle.spec_processor.specs.Bytes.{ram_offset, page_of}
use Rattle.sv_types.specs.ApprovedPages.{numbers_from}
use Rattle.sv_types.specs.Views.{AreViews, IsView, Sight, page_in_ram, view_permits, view_answer, view_hgatp}
use Rattle.spec_processor.specs.declared.access.Access.{Access}
use Rattle.sv_types.specs.declared.protection.Protection.{Protection}

-- two protections of the pages in RAM
abbrev pub Meet : ℕ → (ℕ → Protection) → (ℕ → Protection) → Type 0
Meet n p q = (page : ℕ) → page < n → p page ≡ q page

by_page : (t : ℕ) (sight : Sight) (page : ℕ) (x y : Protection) (access : Access) (b : Bool) (place : ℕ) → (b ≡ true → x ≡ y)
    → (if b && view_permits sight page x access then Some (t + place) else None) ≡ (if b && view_permits sight page y access then Some (t + place) else None)
by_page t sight page x y access true place same = ap (λ (z : Protection). if view_permits sight page z access then Some (t + place) else None) (same refl)
by_page t sight page x y access false place same = refl

page_below : (n gpa : ℕ) → page_in_ram n gpa ≡ true → page_of gpa < n
page_below n gpa e = grind (arith, nat_tests)

answer_meets : (t n : ℕ) (sight : Sight) (p q : ℕ → Protection) (gpa : ℕ) (access : Access) → Meet n p q → view_answer t n sight p gpa access ≡ view_answer t n sight q gpa access
unfolding view_answer
answer_meets t n sight p q gpa access meet =
    by_page t sight (page_of gpa) (p (page_of gpa)) (q (page_of gpa)) access (page_in_ram n gpa) (ram_offset gpa) (λ e. meet (page_of gpa) (page_below n gpa e))

view_meets : (tables : List ℕ) (n : ℕ) (p q : ℕ → Protection) (sight : Sight) (hgatp : ℕ) → Meet n p q → IsView tables n p sight hgatp → IsView tables n q sight hgatp
view_meets tables n p q sight hgatp meet v = record {
  answers = λ ram gpa access size small. v.answers ram gpa access size small ∙ answer_meets (length tables) n sight p q gpa access meet;
  reads = v.reads;
}

pub views_meet : (tables : List ℕ) (n : ℕ) (bound : List ℕ) (p q : ℕ → Protection) → Meet n p q → AreViews tables n bound p → AreViews tables n bound q
views_meet tables n bound p q meet v = record {
  each = λ view sight there. view_meets tables n p q sight (view_hgatp view) meet (v.each view sight there);
}

-- the list of all pages' protections
pub get_numbers : {A : Type 0} (f : ℕ → A) (first n i : ℕ) → i < n → slice_get (map f (numbers_from first n)) i ≡ Some (f (first + i))
get_numbers f first zero i below = absurd (omega arith)
get_numbers f first (suc n) zero below = let e : first + 0 ≡ first = omega arith in rw e refl
get_numbers f first (suc n) (suc i) below = let e : first + suc i ≡ first + 1 + i = omega arith in get_numbers f (first + 1) n i (omega arith) ∙ ap (λ (k : ℕ). Some (f k)) (sym e)
