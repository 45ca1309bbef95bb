-- The pages of modules that are loaded or under way, in a machine that stands for a state.
use Rattle.std.proofs.Common.{◌≡◌, ℕ, zero, suc, ◌+◌, ◌*◌, ◌/◌, ◌%◌, ◌<◌, ◌≤◌, inl, inr, List, [], ◌∷◌, ◌++◌, length, refl, sym, ◌∙◌, ap, subst, Bool, true, false, ◌&&◌, arith, slice_get}
use Rattle.std.specs.Prelude.{Some, None, Option, option_map, IfSome, nat_le}
use Rattle.std.proofs.lemmas.Bool.{leb-true, cases_Bool}
use Rattle.sv_types.specs.ApprovedPages.{numbers_from}
use Rattle.spec_processor.specs.Bytes.{page_of, ram_offset, page_size}
use Rattle.sv_types.specs.Policies.{Rules, ModuleRule, each_within, rules_within, numbers_within, lists_within, init_within}
use Rattle.sv_types.specs.Policies.{modules_count_within, module_within, modules_within, module_pages_within, sites_count_within, sites_of}
use Rattle.sv_types.specs.Policies.{sites_within}
use Rattle.sv_types.specs.declared.saved.ModulePlacement.{ModulePlacement}
use Rattle.sv_types.specs.declared.protection.Protection.TheVariants.{Held, Approved}
use Rattle.spec_reference.specs.States.{State, Loading, protection_in, protection_by, has_number, is_approved_in, find_module, pages_in_rule, protections_of}
use Rattle.spec_reference.specs.Soundness.{IsSound, IsSoundLoad, HoldsModule}
use Rattle.spec_hardware.specs.Machine.{Machine}
use Rattle.spec_hardware.specs.StandsFor.{Unseen, machine_of, load_kept, load_kept_by}
use Rattle.laws_simulation.proofs.LoadsKept.{elsewhere}
use Rattle.laws_simulation.proofs.Lookups.{length_pages}
use Rattle.page_guard.specs.Guarded.{IsInRam, AllAre}
use Rattle.module_gate.specs.Gates.{module_span, AreApproved}
use Rattle.laws_resume.specs.Laws.{LoadedLaw, HoldsItsPages, LoadingLaw}
use Rattle.laws_resume.proofs.Standings.{listed}
use Rattle.sv_types.proofs.TruthValues.{and_first, and_second}
use Rattle.spec_reference.proofs.LoadedModules.{found_id}

-- ---- spans

in_span : (first n i : ℕ) → i < n → has_number (numbers_from first n) (first + i) ≡ true
in_span first n i below = elim (cases_Bool (has_number (numbers_from first n) (first + i))) [
  | inl there ↦ there
  | inr gone ↦ elim (elsewhere first n (first + i) gone) [ inl before ↦ absurd (omega arith) | inr behind ↦ absurd (omega arith) ]
]

pub approved_is : (r : State) (page : ℕ) → is_approved_in r.approved page ≡ true → protection_in r.approved r.held page ≡ Approved
unfolding protection_in protection_by
approved_is r page e = ap (λ (b : Bool). protection_by b (has_number r.held page)) e

held_is : (r : State) (page : ℕ) → is_approved_in r.approved page ≡ false → has_number r.held page ≡ true → protection_in r.approved r.held page ≡ Held
unfolding protection_in protection_by
held_is r page free held = ap (λ (b : Bool). protection_by b (has_number r.held page)) free ∙ ap (λ (b : Bool). protection_by false b) held

-- ---- how many pages a module has

fits_one : {A : Type 0} (fits : List A → A → Bool) (before xs : List A) (i : ℕ) (x : A) → each_within fits before xs ≡ true → slice_get xs i ≡ Some x
    → (those : List A) × (fits those x ≡ true)
fits_one fits before [] i x within e = cc
fits_one fits before (y ∷ ys) zero x within e =
    let same : y ≡ x = cc in (before, subst (λ z. fits before z ≡ true) same (and_first (fits before y) (each_within fits (before ++ y ∷ []) ys) within))
fits_one fits before (y ∷ ys) (suc i) x within e =
    fits_one fits (before ++ y ∷ []) ys i x (and_second (fits before y) (each_within fits (before ++ y ∷ []) ys) within) e

some_pages : (n : ℕ) → module_pages_within n ≡ true → 1 ≤ n
some_pages n e = leb-true 1 n (and_first (nat_le 1 n) (nat_le n 1024) e)

rule_pages : (exports : ℕ) (before : List ModuleRule) (rule : ModuleRule) → module_within exports before rule ≡ true → 1 ≤ rule.pages
rule_pages exports before rule e = some_pages rule.pages
    (first_of (module_pages_within rule.pages) (sites_count_within (sites_of before) (length rule.sites)) (sites_within rule.pages exports rule.sites) _ e)
  where
    first_of : (a b c d : Bool) → (a && b && c && d) ≡ true → a ≡ true
    first_of true b c d k = refl
    first_of false b c d k = cc

pub there_is : (modules : List ModuleRule) (id : ℕ) → id < length modules → (rule : ModuleRule) × (slice_get modules id ≡ Some rule)
there_is [] id below = absurd (omega arith)
there_is (x ∷ modules) zero below = (x, refl)
there_is (x ∷ modules) (suc id) below = there_is modules id (omega arith)

has_pages : (rules : Rules) (id : ℕ) → rules_within rules ≡ true → id < length rules.modules → 1 ≤ pages_in_rule (slice_get rules.modules id)
has_pages rules id within below =
    let rule = there_is rules.modules id below in
    let all : modules_within (length rules.exports) rules.modules ≡ true =
    and_second (numbers_within rules && lists_within rules && init_within rules.ram_pages rules.init && modules_count_within (length rules.modules))
    (modules_within (length rules.exports) rules.modules) within in
    let one = fits_one (module_within (length rules.exports)) [] rules.modules id rule.0 all rule.1 in
    rw rule.1 (rule_pages (length rules.exports) one.0 rule.0 one.1)

-- ---- modules that are loaded

record IsAllApproved (r : State) (m : ModulePlacement) : Type 0 where
  some : 1 ≤ pages_in_rule (slice_get r.rules.modules m.id)
  approved : (i : ℕ) → i < pages_in_rule (slice_get r.rules.modules m.id) → is_approved_in r.approved (page_of m.gpa + i) ≡ true
  inside : (i : ℕ) → i < pages_in_rule (slice_get r.rules.modules m.id) → page_of m.gpa + i < r.rules.ram_pages

all_approved : (r : State) (id : ℕ) (m : ModulePlacement) → IsSound r → find_module r.loaded id ≡ Some m → IsAllApproved r m
all_approved r id m s e =
    let found : find_module r.loaded m.id ≡ Some m = subst (λ (k : ℕ). find_module r.loaded k ≡ Some m) (sym (found_id r.loaded id m e)) e in
    let n : ℕ = pages_in_rule (slice_get r.rules.modules m.id) in
    let page_is : (i : ℕ) → i < n → is_approved_in r.approved (page_of m.gpa + i) ≡ true =
    λ i below. s.pages.modules m (page_of m.gpa + i) (record { loaded_is = found; inside = in_span (page_of m.gpa) n i below }) in
    record {
      some = has_pages r.rules m.id s.within (s.pages.ids m found);
      approved = page_is;
      inside = λ i below. s.pages.inside (page_of m.gpa + i) (page_is i below);
    }

span_inside : (first n pages : ℕ) → 1 ≤ n → ((i : ℕ) → i < n → first + i < pages) → first + n ≤ pages
span_inside first zero pages some inside = absurd (omega arith)
span_inside first (suc n) pages some inside = let last : first + n < pages = inside n (omega arith) in omega arith

module_inside : (r : State) (m : ModulePlacement) → IsAllApproved r m → IsInRam (protections_of r) (module_span r.rules m)
module_inside r m k =
    let size : length (protections_of r) ≡ r.rules.ram_pages = length_pages (protection_in r.approved r.held) 0 r.rules.ram_pages in
    rw size (span_inside (page_of m.gpa) (pages_in_rule (slice_get r.rules.modules m.id)) r.rules.ram_pages k.some k.inside)

module_approved : (r : State) (m : ModulePlacement) → IsAllApproved r m → AllAre (protections_of r) (module_span r.rules m) Approved
module_approved r m k = record {
  each = λ i below. listed r (page_of m.gpa + i) (k.inside i below) ∙ ap Some (approved_is r (page_of m.gpa + i) (k.approved i below));
}

loaded_by : (o : Unseen) (r : State) → IsSound r → AreApproved (machine_of o r).rules (machine_of o r).protections (machine_of o r).loaded
unfolding machine_of
loaded_by o r s = record {
  inside = λ id m e. module_inside r m (all_approved r id m s e);
  approved = λ id m e. module_approved r m (all_approved r id m s e);
}

pub loaded_approved : LoadedLaw
loaded_approved m r stands = subst (λ (x : Machine). AreApproved x.rules x.protections x.loaded) (sym stands.same) (loaded_by stands.unseen r stands.sound)

-- ---- a load under way

room_of : (place n pages : ℕ) → place % page_size ≡ 0 → place + page_size * n ≤ page_size * pages → place / page_size + n ≤ pages
room_of place n pages aligned inside = omega arith

held_at : (r : State) (load : Loading) (i : ℕ) → HoldsModule r.rules r.approved r.loaded r.held load → i < pages_in_rule (slice_get r.rules.modules load.about.id)
    → slice_get (protections_of r) (page_of load.about.gpa + i) ≡ Some Held
held_at r load i k below =
    let n : ℕ = pages_in_rule (slice_get r.rules.modules load.about.id) in
    let page : ℕ = page_of load.about.gpa + i in
    let room : page_of load.about.gpa + n ≤ r.rules.ram_pages = room_of (ram_offset load.about.gpa) n r.rules.ram_pages k.aligned k.inside in
    let there : has_number r.held page ≡ true = subst (λ (list : List ℕ). has_number list page ≡ true) (sym k.pages) (in_span (page_of load.about.gpa) n i below) in
    listed r page (omega (arith, room, below)) ∙ ap Some (held_is r page (k.free page there) there)

holds : (r : State) (load : Loading) (digests : List (List ℕ)) (right : Bool) → HoldsModule r.rules r.approved r.loaded r.held load
    → HoldsItsPages r.rules (protections_of r) r.loaded (record { hart = load.hart; about = load.about; left = load.left; digests = digests; right = right })
holds r load digests right k =
    let n : ℕ = pages_in_rule (slice_get r.rules.modules load.about.id) in
    let size : length (protections_of r) ≡ r.rules.ram_pages = length_pages (protection_in r.approved r.held) 0 r.rules.ram_pages in
    record {
      known = k.known;
      inside = rw size (room_of (ram_offset load.about.gpa) n r.rules.ram_pages k.aligned k.inside);
      held = record { each = λ i below. held_at r load i k below };
      other = k.other;
      left = k.left;
    }

holds_by : (r : State) (load : Loading) (rule : Option ModuleRule) → HoldsModule r.rules r.approved r.loaded r.held load
    → HoldsItsPages r.rules (protections_of r) r.loaded (load_kept_by r.rules r.ram load rule)
unfolding load_kept_by
holds_by r load None k = holds r load [] true k
holds_by r load (Some rule) k = holds r load _ _ k

under_way : (r : State) (x : Option Loading) → IsSoundLoad r.rules r.approved r.loaded r.held x
    → IfSome (option_map (load_kept r.rules r.ram) x) (HoldsItsPages r.rules (protections_of r) r.loaded)
under_way r None k = tt
under_way r (Some load) k = holds_by r load (slice_get r.rules.modules load.about.id) k

loading_by : (o : Unseen) (r : State) → IsSound r
    → IfSome (machine_of o r).loading (HoldsItsPages (machine_of o r).rules (machine_of o r).protections (machine_of o r).loaded)
unfolding machine_of
loading_by o r s = under_way r r.loading s.load

pub loading_held : LoadingLaw
loading_held m r stands =
    subst (λ (x : Machine). IfSome x.loading (HoldsItsPages x.rules x.protections x.loaded)) (sym stands.same) (loading_by stands.unseen r stands.sound)
