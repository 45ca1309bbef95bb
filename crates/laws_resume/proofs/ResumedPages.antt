-- The pages of the state in which a machine goes on: whose they are, and that they hold what they should.
use Rattle.std.proofs.Common.{◌≡◌, ℕ, zero, suc, ◌+◌, ◌*◌, ◌/◌, ◌%◌, ◌<◌, ◌≤◌, ◌⊎◌, inl, inr, List, [], ◌∷◌, ◌++◌, length, refl, sym, ◌∙◌, ap, subst, Bool, true, false, ◌&&◌, ◌||◌, arith, slice_get}
use Rattle.sv_types.proofs.TruthValues.{or_assoc}
use Rattle.std.specs.Prelude.{Option, Some, None, option_map, is_some, if◌then◌else◌, ◌==◌, nat_lt, nat_le}
use Rattle.std.specs.List.{list_all}
use Rattle.std.proofs.lemmas.Bool.{eqb-true, or_cases}
use Rattle.std.proofs.lemmas.Option.{same_Some}
use Rattle.spec_processor.specs.Bytes.{page_size, page_bytes, page_of, ram_base, ram_offset}
use Rattle.sv_types.specs.ApprovedPages.{approved_pages}
use Rattle.sv_types.specs.Policies.{Rules}
use Rattle.sv_types.specs.declared.protection.Protection.{Protection}
use Rattle.sv_types.specs.declared.protection.Protection.TheVariants.{Approved}
use Rattle.sv_types.specs.declared.saved.ModulePlacement.{ModulePlacement}
use Rattle.spec_reference.specs.Origins.{AllAbove, Ascends}
use Rattle.spec_reference.specs.Soundness.{KeepsText}
use Rattle.spec_reference.specs.States.{has_number, is_approved_in, find_module, module_pages, pages_in_rule}
use Rattle.snapshot_format.specs.Forms.{is_word, has_all}
use Rattle.snapshot_format.specs.HartForms.{multiple_of}
use Rattle.snapshot_format.specs.PageForms.{is_above, last_page, text_page, text, module_within, last_id, next_module, modules}
use Rattle.snapshot_format.specs.declared.whole.TextPage.{TextPage}
use Rattle.snapshot_format.proofs.FormLaws.{first_true, second_true}
use Rattle.snapshot_format.specs.Judgements.{page_numbers, loaded_pages, fits}
use Rattle.laws_resume.specs.Keepable.{AreAligned, AscendFrom}
use Rattle.laws_resume.proofs.FormParts.{below_is, max_is, last_of}
use Rattle.laws_resume.proofs.TakenPages.{Taking, AllBelow, taken_in_two, length_taken, apart, or_true, after_page}
use Rattle.laws_simulation.proofs.Lookups.{approved_alone, numbers_bounds, above_less}

-- ---- text

aligned_number : (size n : ℕ) → (multiple_of size).has n ≡ true → n % size ≡ 0
unfolding multiple_of
aligned_number size n h = eqb-true (n % size) 0 (second_true (is_word n) (n % size == 0) h)

above_is : (last : Option ℕ) (n : ℕ) → is_above last n ≡ true → after_page last ≤ n
above_is None n e = omega arith
above_is (Some page) n e = let less : page < n = below_is page n e in omega (arith, less)

record Listed (pages : ℕ) (first : ℕ) (text : List TextPage) : Type 0 where
  ascends : AscendFrom first (page_numbers text)
  inside : AllBelow pages (page_numbers text)

no_pages : (n : ℕ) → AllBelow n []
no_pages n page there = cc

one_below : (n page q : ℕ) (first rest : Bool) → (page == q) ≡ first → page < n → (rest ≡ true → q < n) → (first || rest) ≡ true → q < n
one_below n page q true rest at inside later there = subst (λ (k : ℕ). k < n) (eqb-true page q at) inside
one_below n page q false rest at inside later there = later there

more_below : (n page : ℕ) (pages : List ℕ) → page < n → AllBelow n pages → AllBelow n (page ∷ pages)
more_below n page pages inside all q there = one_below n page q (page == q) (has_number pages q) refl inside (all q) there

text_listed : (pages n : ℕ) (before ts : List TextPage) (last : Option ℕ) → last_page before ≡ last → has_all (text_page pages) before n ts ≡ true
    → Listed pages (after_page last) ts
unfolding has_all text_page
text_listed pages n before [] last at h = record { ascends = tt; inside = no_pages pages }
text_listed pages zero before (t ∷ ts) last at h = absurd cc
text_listed pages (suc n) before (t ∷ ts) last at h =
    let one = first_true ((text_page pages before).has t) _ h in
    let number = second_true (is_word t.page) _ (first_true _ (length t.digest == 32) one) in
    let rest = text_listed pages n (before ++ t ∷ []) ts (Some t.page) (ap (option_map (λ (x : TextPage). x.page)) (last_of before t))
    (second_true ((text_page pages before).has t) _ h) in
    record {
      ascends = (above_is last t.page (ap (λ (x : Option ℕ). is_above x t.page) (sym at) ∙ second_true (nat_lt t.page pages) _ number), rest.ascends);
      inside = more_below pages t.page (page_numbers ts) (below_is t.page pages (first_true (nat_lt t.page pages) _ number)) rest.inside;
    }

pub text_ascends : (pages : ℕ) (ts : List TextPage) → (text pages).has ts ≡ true → AscendFrom 0 (page_numbers ts)
unfolding text
text_ascends pages ts h = (text_listed pages (length ts) [] ts None refl (second_true _ (has_all (text_page pages) [] (length ts) ts) h)).ascends

pub text_inside : (pages : ℕ) (ts : List TextPage) → (text pages).has ts ≡ true → AllBelow pages (page_numbers ts)
unfolding text
text_inside pages ts h = (text_listed pages (length ts) [] ts None refl (second_true _ (has_all (text_page pages) [] (length ts) ts) h)).inside

-- ---- modules

-- the ranges of a list of modules
abbrev AreAbove : Option ℕ → List ModulePlacement → Type 0
AreAbove None ms = Unit {0}
AreAbove (Some id) ms = AllAbove id ms

abbrev pub BeginPages : List ModulePlacement → Type 0
BeginPages [] = Unit {0}
BeginPages (m ∷ modules) = (m.gpa % page_size ≡ 0) × BeginPages modules

pub record ModuleParts (modules : List ModulePlacement) : Type 0 where
  pub ascends : Ascends modules
  pub aligned : AreAligned modules
  pub begin : BeginPages modules

record ModulesFrom (last : Option ℕ) (modules : List ModulePlacement) : Type 0 where
  above : AreAbove last modules
  parts : ModuleParts modules

above_one : (last : Option ℕ) (m : ModulePlacement) (modules : List ModulePlacement) → is_above last m.id ≡ true → AllAbove m.id modules → AreAbove last (m ∷ modules)
above_one None m ms e all = tt
above_one (Some id) m ms e all = let less : id < m.id = below_is id m.id e in (less, above_less id m.id ms less all)

no_modules_above : (last : Option ℕ) → AreAbove last []
no_modules_above None = tt
no_modules_above (Some id) = tt

modules_from : (n : ℕ) (before ms : List ModulePlacement) (last : Option ℕ) → last_id before ≡ last → has_all next_module before n ms ≡ true → ModulesFrom last ms
unfolding has_all module_within
modules_from n before [] last at h = record { above = no_modules_above last; parts = record { ascends = tt; aligned = tt; begin = tt } }
modules_from zero before (m ∷ ms) last at h = absurd cc
modules_from (suc n) before (m ∷ ms) last at h =
    let one = first_true ((next_module before).has m) _ h in
    let id_part = first_true (is_word m.id && is_above (last_id before) m.id) _ one in
    let gpa_on = second_true (is_word m.id && is_above (last_id before) m.id) _ one in
    let va_on = second_true ((multiple_of page_size).has m.gpa) _ gpa_on in
    let rest = modules_from n (before ++ m ∷ []) ms (Some m.id) (ap (option_map (λ (x : ModulePlacement). x.id)) (last_of before m)) (second_true ((next_module before).has m) _ h) in
    record {
      above = above_one last m ms (ap (λ (x : Option ℕ). is_above x m.id) (sym at) ∙ second_true (is_word m.id) _ id_part) rest.above;
      parts = record {
        ascends = (rest.above, rest.parts.ascends);
        aligned = (aligned_number page_size m.va (first_true ((multiple_of page_size).has m.va) _ va_on), rest.parts.aligned);
        begin = (aligned_number page_size m.gpa (first_true ((multiple_of page_size).has m.gpa) _ gpa_on), rest.parts.begin);
      };
    }

pub modules_parts : (ms : List ModulePlacement) → modules.has ms ≡ true → ModuleParts ms
unfolding modules
modules_parts ms h = (modules_from (length ms) [] ms None refl (second_true _ (has_all next_module [] (length ms) ms) h)).parts

-- what a test finds of all modules it finds of one that is found
found_by : (test : ModulePlacement → Bool) (x m : ModulePlacement) (id : ℕ) (b : Bool) (rest : Option ModulePlacement) → test x ≡ true → (rest ≡ Some m → test m ≡ true)
    → (if b then Some x else rest) ≡ Some m → test m ≡ true
found_by test x m id true rest one more e = subst (λ (k : ModulePlacement). test k ≡ true) (same_Some x m e) one
found_by test x m id false rest one more e = more e

pub found_all : (test : ModulePlacement → Bool) (ms : List ModulePlacement) (id : ℕ) (m : ModulePlacement) → list_all test ms ≡ true → find_module ms id ≡ Some m → test m ≡ true
unfolding find_module
found_all test [] id m all e = cc
found_all test (x ∷ ms) id m all e =
    found_by test x m id (x.id == id) (find_module ms id) (first_true (test x) _ all) (found_all test ms id m (second_true (test x) _ all)) e

begin_by : (x m : ModulePlacement) (b : Bool) (rest : Option ModulePlacement) → x.gpa % page_size ≡ 0 → (rest ≡ Some m → m.gpa % page_size ≡ 0)
    → (if b then Some x else rest) ≡ Some m → m.gpa % page_size ≡ 0
begin_by x m true rest one more e = subst (λ (k : ModulePlacement). k.gpa % page_size ≡ 0) (same_Some x m e) one
begin_by x m false rest one more e = more e

pub found_begins : (ms : List ModulePlacement) (id : ℕ) (m : ModulePlacement) → BeginPages ms → find_module ms id ≡ Some m → m.gpa % page_size ≡ 0
unfolding find_module
found_begins [] id m all e = cc
found_begins (x ∷ ms) id m all e = begin_by x m (x.id == id) (find_module ms id) all.0 (found_begins ms id m all.1) e

-- ---- a module's pages

-- it is one of the policy's, and its pages lie in RAM
pub record Fits (rules : Rules) (m : ModulePlacement) : Type 0 where
  pub known : m.id < length rules.modules
  pub base : ram_base ≤ m.gpa
  pub inside : ram_offset m.gpa + page_size * pages_in_rule (slice_get rules.modules m.id) ≤ page_size * rules.ram_pages

pub fits_is : (rules : Rules) (m : ModulePlacement) → fits rules m ≡ true → Fits rules m
fits_is rules m e =
    let in_ram = second_true (nat_lt m.id (length rules.modules)) _ e in
    record {
      known = below_is m.id (length rules.modules) (first_true (nat_lt m.id (length rules.modules)) _ e);
      base = max_is ram_base m.gpa (first_true (nat_le ram_base m.gpa) _ in_ram);
      inside = max_is (ram_offset m.gpa + page_size * pages_in_rule (slice_get rules.modules m.id)) (page_size * rules.ram_pages)
          (second_true (nat_le ram_base m.gpa) _ in_ram);
    }

pub place_aligned : (gpa : ℕ) → ram_base ≤ gpa → gpa % page_size ≡ 0 → ram_offset gpa % page_size ≡ 0
place_aligned gpa base whole = omega (arith, base, whole)

pub page_inside : (place n pages page : ℕ) → place % page_size ≡ 0 → place + page_size * n ≤ page_size * pages → page < place / page_size + n → page < pages
page_inside place n pages page whole fits less = omega (arith, whole, fits, less)

pub module_inside : (rules : Rules) (m : ModulePlacement) → Fits rules m → m.gpa % page_size ≡ 0 → AllBelow rules.ram_pages (module_pages rules m)
module_inside rules m k whole page there =
    let n = pages_in_rule (slice_get rules.modules m.id) in
    page_inside (ram_offset m.gpa) n rules.ram_pages page (place_aligned m.gpa k.base whole) k.inside (numbers_bounds (page_of m.gpa) n page there).1

-- ---- lists of pages

has_either : (xs ys : List ℕ) (page : ℕ) → has_number (xs ++ ys) page ≡ (has_number xs page || has_number ys page)
has_either [] ys page = refl
has_either (x ∷ xs) ys page = ap (λ (b : Bool). (x == page) || b) (has_either xs ys page) ∙ or_assoc (x == page) (has_number xs page) (has_number ys page)

pub in_first : (xs ys : List ℕ) (page : ℕ) → has_number xs page ≡ true → has_number (xs ++ ys) page ≡ true
in_first xs ys page e = has_either xs ys page ∙ ap (λ (b : Bool). b || has_number ys page) e

pub in_second : (xs ys : List ℕ) (page : ℕ) → has_number ys page ≡ true → has_number (xs ++ ys) page ≡ true
in_second xs ys page e = has_either xs ys page ∙ ap (λ (b : Bool). has_number xs page || b) e ∙ or_true (has_number xs page)

pub in_one : (xs ys : List ℕ) (page : ℕ) → has_number (xs ++ ys) page ≡ true → (has_number xs page ≡ true) ⊎ (has_number ys page ≡ true)
in_one xs ys page e = or_cases (has_number xs page) (has_number ys page) (sym (has_either xs ys page) ∙ e)

pub both_below : (n : ℕ) (xs ys : List ℕ) → AllBelow n xs → AllBelow n ys → AllBelow n (xs ++ ys)
both_below n xs ys first rest page there = elim (in_one xs ys page there) [
  | inl here ↦ first page here
  | inr there ↦ rest page there
]

-- ---- the pages of all loaded modules

pub loaded_inside : (rules : Rules) (ms : List ModulePlacement) → list_all (fits rules) ms ≡ true → BeginPages ms → AllBelow rules.ram_pages (loaded_pages rules ms)
loaded_inside rules [] all begin = no_pages rules.ram_pages
loaded_inside rules (m ∷ ms) all begin =
    both_below rules.ram_pages (module_pages rules m) (loaded_pages rules ms)
    (module_inside rules m (fits_is rules m (first_true (fits rules m) _ all)) begin.0)
    (loaded_inside rules ms (second_true (fits rules m) _ all) begin.1)

-- a page of a module that is found is among them
among_by : (rules : Rules) (x m : ModulePlacement) (ms : List ModulePlacement) (page : ℕ) (b : Bool) → (find_module ms m.id ≡ Some m → has_number (loaded_pages rules ms) page ≡ true)
    → has_number (module_pages rules m) page ≡ true → (if b then Some x else find_module ms m.id) ≡ Some m → has_number (loaded_pages rules (x ∷ ms)) page ≡ true
among_by rules x m ms page true later there e =
    in_first (module_pages rules x) (loaded_pages rules ms) page (subst (λ (k : ModulePlacement). has_number (module_pages rules k) page ≡ true) (sym (same_Some x m e)) there)
among_by rules x m ms page false later there e = in_second (module_pages rules x) (loaded_pages rules ms) page (later e)

pub among_loaded : (rules : Rules) (ms : List ModulePlacement) (m : ModulePlacement) (page : ℕ) → find_module ms m.id ≡ Some m → has_number (module_pages rules m) page ≡ true
    → has_number (loaded_pages rules ms) page ≡ true
unfolding find_module
among_loaded rules [] m page e there = cc
among_loaded rules (x ∷ ms) m page e there = among_by rules x m ms page (x.id == m.id) (λ found. among_loaded rules ms m page found there) there e

-- and each of them is a module's
pub record IsIn (rules : Rules) (ms : List ModulePlacement) (page : ℕ) : Type 0 where
  pub place : ℕ
  pub about : ModulePlacement
  pub at : slice_get ms place ≡ Some about
  pub inside : has_number (module_pages rules about) page ≡ true

pub of_module : (rules : Rules) (ms : List ModulePlacement) (page : ℕ) → has_number (loaded_pages rules ms) page ≡ true → IsIn rules ms page
of_module rules [] page e = cc
of_module rules (m ∷ ms) page e = elim (in_one (module_pages rules m) (loaded_pages rules ms) page e) [
  | inl here ↦ record { place = 0; about = m; at = refl; inside = here }
  | inr there ↦ let k = of_module rules ms page there in record { place = suc k.place; about = k.about; at = k.at; inside = k.inside }
]

-- two modules that share a page are one
abbrev Shares : Rules → List ModulePlacement → ℕ → ModulePlacement → ModulePlacement → Type 0
Shares rules ms page m n = find_module ms m.id ≡ Some m → find_module ms n.id ≡ Some n → has_number (module_pages rules m) page ≡ true
    → has_number (module_pages rules n) page ≡ true → m.id ≡ n.id

shares_by : (rules : Rules) (x m n : ModulePlacement) (ms : List ModulePlacement) (page : ℕ) (a b : Bool)
    → (has_number (module_pages rules x) page ≡ true → has_number (loaded_pages rules ms) page ≡ true → ⊥) → Shares rules ms page m n
    → (if a then Some x else find_module ms m.id) ≡ Some m → (if b then Some x else find_module ms n.id) ≡ Some n
    → has_number (module_pages rules m) page ≡ true → has_number (module_pages rules n) page ≡ true → m.id ≡ n.id
shares_by rules x m n ms page true true other rest e f s t = ap (λ (k : ModulePlacement). k.id) (sym (same_Some x m e) ∙ same_Some x n f)
shares_by rules x m n ms page true false other rest e f s t =
    absurd (other (subst (λ (k : ModulePlacement). has_number (module_pages rules k) page ≡ true) (sym (same_Some x m e)) s) (among_loaded rules ms n page f t))
shares_by rules x m n ms page false true other rest e f s t =
    absurd (other (subst (λ (k : ModulePlacement). has_number (module_pages rules k) page ≡ true) (sym (same_Some x n f)) t) (among_loaded rules ms m page e s))
shares_by rules x m n ms page false false other rest e f s t = rest e f s t

pub one_module : (rules : Rules) (guard after : List Protection) (ms : List ModulePlacement) (m n : ModulePlacement) (page : ℕ)
    → Taking Approved guard (loaded_pages rules ms) after → list_all (fits rules) ms ≡ true → BeginPages ms → length guard ≡ rules.ram_pages → Shares rules ms page m n
unfolding find_module
one_module rules guard after [] m n page e all begin size f g s t = cc
one_module rules guard after (x ∷ ms) m n page e all begin size f g s t =
    let two = taken_in_two Approved guard after (module_pages rules x) (loaded_pages rules ms) e in
    let inside : AllBelow (length guard) (module_pages rules x) =
    subst (λ (k : ℕ). AllBelow k (module_pages rules x)) (sym size) (module_inside rules x (fits_is rules x (first_true (fits rules x) _ all)) begin.0) in
    let other = apart Approved guard two.0 after Approved (module_pages rules x) (loaded_pages rules ms) page refl inside two.1.0 two.1.1 in
    let rest = one_module rules two.0 after ms m n page two.1.1 (second_true (fits rules x) _ all) begin.1
    (length_taken Approved guard two.0 (module_pages rules x) two.1.0 ∙ size) in
    shares_by rules x m n ms page (x.id == m.id) (x.id == n.id) other rest f g s t

-- ---- approved pages

approved_by : (ram : List ℕ) (page : ℕ) (b : Bool) → is_some (if b then Some (page_bytes ram page) else None) ≡ b
approved_by ram page true = refl
approved_by ram page false = refl

pub approved_is : (ram pages : List ℕ) (page : ℕ) → is_approved_in (approved_pages ram pages) page ≡ has_number pages page
approved_is ram pages page = ap is_some (approved_alone ram pages page) ∙ approved_by ram page (has_number pages page)

bytes_by : (ram bytes : List ℕ) (page : ℕ) (b : Bool) → (if b then Some (page_bytes ram page) else None) ≡ Some bytes → page_bytes ram page ≡ bytes
bytes_by ram bytes page true e = same_Some (page_bytes ram page) bytes e
bytes_by ram bytes page false e = cc

-- they have the bytes that RAM has
pub keeps_text : (ram pages : List ℕ) → KeepsText (approved_pages ram pages) ram
keeps_text ram pages = record { same = λ page bytes e. bytes_by ram bytes page (has_number pages page) (sym (approved_alone ram pages page) ∙ e) }
