-- Soundness after the steps that change which pages are whose: a load begun, gone on, approved or refused, an unload, and the
-- kernel's init text retired.
use Rattle.laws_simulation.proofs.LoadsKept.{or_first, or_second}
use Rattle.std.proofs.Common.{◌≡◌, ℕ, suc, ◌+◌, ◌*◌, ◌/◌, ◌%◌, ◌<◌, ◌≤◌, ◌⊎◌, inl, inr, List, [], ◌∷◌, ◌++◌, length, refl, sym, ◌∙◌, ap, subst, Bool, true, false, not, ◌&&◌, arith, slice_get}
use Rattle.std.specs.Prelude.{Option, Some, None, if◌then◌else◌, is_some, ◌==◌, nat_le}
use Rattle.std.specs.List.{list_any}
use Rattle.std.proofs.lemmas.Bool.{eqb-true, false_from_ne_true, and_from, not-true, cases_Bool}
use Rattle.std.proofs.lemmas.Bool.Decides.{nat_tests}
use Rattle.std.proofs.lemmas.Option.{slice_get_within}
use Rattle.spec_processor.specs.Bytes.{page_bytes, page_size, page_of, ram_base, ram_offset, in_ram}
use Rattle.sv_types.specs.Policies.{Rules, ModuleRule}
use Rattle.sv_types.specs.ApprovedPages.{ApprovedPage, numbers_from, approved_pages, approved_bytes}
use Rattle.sv_types.specs.declared.module.Span.{Span}
use Rattle.sv_types.specs.declared.saved.ModulePlacement.{ModulePlacement}
use Rattle.spec_reference.specs.States.{State, Loading, is_approved_in, is_protected, has_number, find_module, with_module, without_module, without_pages, module_pages, pages_in_rule}
use Rattle.spec_reference.specs.Loads.{is_good_load}
use Rattle.spec_reference.specs.Answers.{init_text, span_pages}
use Rattle.spec_reference.specs.Calls.{facts_of}
use Rattle.spec_reference.specs.ModuleCalls.{good_address}
use Rattle.spec_reference.specs.Origins.{OwnsPages, IsOwned, IsPageOf, IsMeasured, ownership, is_kernel_text, is_init}
use Rattle.spec_reference.specs.Soundness.{IsSound, IsSoundLoad, HoldsModule, KeepsText}
use Rattle.laws_simulation.proofs.Lookups.{unprotected, both, same_number, numbers_bounds, number_filtered, approved_front, approved_without, found_with, found_without, ascends_with, ascends_without}
use Rattle.laws_simulation.proofs.Sounds.{Goes, text_stays}
use Rattle.sv_types.proofs.TruthValues.{and_first, and_second}

-- ---- a load begins, and goes on

-- the fields of a state's load
abbrev pub loads : State → List ℕ → Option Loading → State
loads r held loading = record r { held = held; loading = loading }

pub goes_load : (r : State) (held : List ℕ) (loading : Option Loading) → IsSound r → IsSoundLoad r.rules r.approved r.loaded held loading → Goes r (loads r held loading)
goes_load r held loading s load = record {
  sound = record {
    within = s.within;
    words = s.words;
    number = s.number;
    harts = s.harts;
    size = s.size;
    text = s.text;
    ascends = s.ascends;
    modules = s.modules;
    load = load;
    pages = s.pages;
    disk = s.disk;
  };
  text = text_stays (ownership r);
}

none_of : (test : ℕ → Bool) (xs : List ℕ) (page : ℕ) → list_any test xs ≡ false → has_number xs page ≡ true → test page ≡ false
none_of test [] page e there = cc
none_of test (x ∷ xs) page e there = none_by test x xs page (x == page) refl e there (none_of test xs page (or_second (test x) (list_any test xs) e))
  where
    none_by : (test : ℕ → Bool) (x : ℕ) (xs : List ℕ) (page : ℕ) (b : Bool) → (x == page) ≡ b → list_any test (x ∷ xs) ≡ false → has_number (x ∷ xs) page ≡ true
        → (has_number xs page ≡ true → test page ≡ false) → test page ≡ false
    none_by test x xs page true at e there more = ap test (sym (eqb-true x page at)) ∙ or_first (test x) (list_any test xs) e
    none_by test x xs page false at e there more = more (rw at at there)

-- an address that is good for so many pages
pub record IsGoodAddress (r : State) (gpa pages : ℕ) : Type 0 where
  pub base : ram_base ≤ gpa
  pub aligned : ram_offset gpa % page_size ≡ 0
  pub inside : ram_offset gpa + page_size * pages ≤ page_size * r.rules.ram_pages
  pub free : (page : ℕ) → has_number (numbers_from (page_of gpa) pages) page ≡ true → is_approved_in r.approved page ≡ false

pub address_good : (r : State) (gpa va pages : ℕ) → length r.ram ≡ page_size * r.rules.ram_pages → good_address (facts_of r) gpa va pages ≡ true → IsGoodAddress r gpa pages
unfolding good_address
address_good r gpa va pages size e =
    let a = and_first (gpa % page_size == 0 && va % page_size == 0 && in_ram r.ram gpa (page_size * pages)) (not (list_any (is_protected r) (numbers_from (page_of gpa) pages))) e in
    let free = not-true (list_any (is_protected r) (numbers_from (page_of gpa) pages))
    (and_second (gpa % page_size == 0 && va % page_size == 0 && in_ram r.ram gpa (page_size * pages)) (not (list_any (is_protected r) (numbers_from (page_of gpa) pages))) e) in
    let both_aligned = and_first (gpa % page_size == 0 && va % page_size == 0) (in_ram r.ram gpa (page_size * pages)) a in
    let room : (nat_le ram_base gpa && nat_le (ram_offset gpa + page_size * pages) (page_size * r.rules.ram_pages)) ≡ true =
    ap (λ (n : ℕ). nat_le ram_base gpa && nat_le (ram_offset gpa + page_size * pages) n) (sym size)
    ∙ and_second (gpa % page_size == 0 && va % page_size == 0) (in_ram r.ram gpa (page_size * pages)) a in
    let whole : gpa % page_size ≡ 0 = eqb-true (gpa % page_size) 0 (and_first (gpa % page_size == 0) (va % page_size == 0) both_aligned) in
    record {
      base = grind (arith, nat_tests);
      aligned = grind (arith, nat_tests);
      inside = grind (arith, nat_tests);
      free = λ page there. unprotected r page (none_of (is_protected r) (numbers_from (page_of gpa) pages) page free there);
    }

pub load_begins : (r : State) (h : ℕ) (m : ModulePlacement) (rule : ModuleRule) → IsSound r → slice_get r.rules.modules m.id ≡ Some rule
    → find_module r.loaded m.id ≡ None → IsGoodAddress r m.gpa rule.pages → Goes r (loads r (module_pages r.rules m) (Some (record { hart = h; about = m; left = rule.pages })))
load_begins r h m rule s known other good =
    let n : pages_in_rule (slice_get r.rules.modules m.id) ≡ rule.pages = ap pages_in_rule known in
    goes_load r (module_pages r.rules m) (Some (record { hart = h; about = m; left = rule.pages })) s (record {
      known = slice_get_within r.rules.modules m.id rule known;
      pages = refl;
      base = good.base;
      aligned = good.aligned;
      inside = rw n good.inside;
      left = rw n (omega arith);
      free = λ page there. good.free page (subst (λ (k : ℕ). has_number (numbers_from (page_of m.gpa) k) page ≡ true) n there);
      other = other;
    })

pub load_goes_on : (r : State) (load : Loading) (left : ℕ) → IsSound r → r.loading ≡ Some load → load.left ≡ suc left
    → Goes r (record r { loading = Some (record load { left = left }) })
load_goes_on r load left s under_way more =
    let k : HoldsModule r.rules r.approved r.loaded r.held load = subst (IsSoundLoad r.rules r.approved r.loaded r.held) under_way s.load in
    let least : load.left ≤ pages_in_rule (slice_get r.rules.modules load.about.id) = k.left in
    goes_load r r.held (Some (record load { left = left })) s (record {
      known = k.known;
      pages = k.pages;
      base = k.base;
      aligned = k.aligned;
      inside = k.inside;
      left = omega arith;
      free = k.free;
      other = k.other;
    })

-- it ends
pub load_ends : (r : State) → IsSound r → Goes r (loads r [] None)
load_ends r s = goes_load r [] None s refl

page_inside : (place n ram_pages page : ℕ) → place + page_size * n ≤ page_size * ram_pages → page < place / page_size + n → page < ram_pages
page_inside place n ram_pages page inside below = omega arith

good_by : (rules : Rules) (ram : List ℕ) (m : ModulePlacement) (rule : Option ModuleRule) → is_good_load rules ram m rule ≡ true → (x : ModuleRule) × (rule ≡ Some x)
unfolding is_good_load
good_by rules ram m None e = absurd (cc)
good_by rules ram m (Some rule) e = (rule, refl)

-- a good module is one of the policy's
good_below : (r : State) (m : ModulePlacement) → is_good_load r.rules r.ram m (slice_get r.rules.modules m.id) ≡ true → m.id < length r.rules.modules
good_below r m e = let k = good_by r.rules r.ram m (slice_get r.rules.modules m.id) e in slice_get_within r.rules.modules m.id k.0 k.1

-- two modules of one id are the same
pub same_module : (r : State) (m n : ModulePlacement) → m.id ≡ n.id → find_module r.loaded m.id ≡ Some m → find_module r.loaded n.id ≡ Some n → m ≡ n
same_module r m n same e f = let k : find_module r.loaded n.id ≡ Some m = subst (λ (id : ℕ). find_module r.loaded id ≡ Some m) same e in cc

-- ---- a module is approved

abbrev pub approves : State → ModulePlacement → State
approves r m = record r {
  held = [];
  loading = None;
  approved = approved_pages r.ram (module_pages r.rules m) ++ r.approved;
  loaded = with_module r.loaded m;
}

-- what is known of the module that a load approves
pub record CanApprove (r : State) (m : ModulePlacement) : Type 0 where
  pub good : is_good_load r.rules r.ram m (slice_get r.rules.modules m.id) ≡ true
  pub base : ram_base ≤ m.gpa
  pub aligned : ram_offset m.gpa % page_size ≡ 0
  pub inside : ram_offset m.gpa + page_size * pages_in_rule (slice_get r.rules.modules m.id) ≤ page_size * r.rules.ram_pages
  pub free : (page : ℕ) → has_number (module_pages r.rules m) page ≡ true → is_approved_in r.approved page ≡ false
  pub other : find_module r.loaded m.id ≡ None

pub front_case : (r : State) (m : ModulePlacement) (page : ℕ) (b : Bool) → has_number (module_pages r.rules m) page ≡ b
    → approved_bytes (approves r m).approved page ≡ (if b then Some (page_bytes r.ram page) else approved_bytes r.approved page)
front_case r m page b e =
    approved_front r.ram (module_pages r.rules m) r.approved page ∙ ap (λ (c : Bool). if c then Some (page_bytes r.ram page) else approved_bytes r.approved page) e

-- a module that is loaded now is the new one, or was loaded before
new_or_old : (r : State) (m n : ModulePlacement) → find_module r.loaded m.id ≡ None → find_module (with_module r.loaded m) n.id ≡ Some n
    → (m ≡ n) ⊎ (((m.id == n.id) ≡ false) × (find_module r.loaded n.id ≡ Some n))
new_or_old r m n other e = new_by m n (find_module r.loaded n.id) (m.id == n.id) refl (sym (found_with r.loaded m n.id other) ∙ e)
  where
    new_by : (m n : ModulePlacement) (rest : Option ModulePlacement) (b : Bool) → (m.id == n.id) ≡ b → (if b then Some m else rest) ≡ Some n
        → (m ≡ n) ⊎ (((m.id == n.id) ≡ false) × (rest ≡ Some n))
    new_by m n rest true at e = inl (cc)
    new_by m n rest false at e = inr (at, e)

new_there : (r : State) (m : ModulePlacement) → find_module r.loaded m.id ≡ None → find_module (with_module r.loaded m) m.id ≡ Some m
new_there r m other = found_with r.loaded m m.id other ∙ ap (λ (b : Bool). if b then Some m else find_module r.loaded m.id) (same_number m.id)

ids_differ : (modules : List ModulePlacement) (m n : ModulePlacement) → find_module modules m.id ≡ None → find_module modules n.id ≡ Some n → (m.id == n.id) ≡ false
ids_differ modules m n other e =
    false_from_ne_true (m.id == n.id) (λ t. let there : find_module modules n.id ≡ None = subst (λ (id : ℕ). find_module modules id ≡ None) (eqb-true m.id n.id t) other in cc)

old_there : (r : State) (m n : ModulePlacement) → find_module r.loaded m.id ≡ None → find_module r.loaded n.id ≡ Some n → find_module (with_module r.loaded m) n.id ≡ Some n
old_there r m n other e =
    found_with r.loaded m n.id other ∙ ap (λ (b : Bool). if b then Some m else find_module r.loaded n.id) (ids_differ r.loaded m n other e) ∙ e

-- the pages that were approved still are
stays_approved : (r : State) (m : ModulePlacement) (page : ℕ) → is_approved_in r.approved page ≡ true → is_approved_in (approves r m).approved page ≡ true
stays_approved r m page e = elim (cases_Bool (has_number (module_pages r.rules m) page)) [
  | inl there ↦ ap is_some (front_case r m page true there)
  | inr gone ↦ ap is_some (front_case r m page false gone) ∙ e
]

new_approved : (r : State) (m : ModulePlacement) (page : ℕ) → has_number (module_pages r.rules m) page ≡ true → is_approved_in (approves r m).approved page ≡ true
new_approved r m page there = ap is_some (front_case r m page true there)

-- a page of a module's is the new one's, or was an old one's
new_or_old_page : (r : State) (m n : ModulePlacement) (page : ℕ) → find_module r.loaded m.id ≡ None → IsPageOf r.rules (with_module r.loaded m) n page
    → ((m ≡ n) × (has_number (module_pages r.rules m) page ≡ true)) ⊎ IsPageOf r.rules r.loaded n page
new_or_old_page r m n page other p = elim (new_or_old r m n other p.loaded_is) [
  | inl same ↦ inl (same, subst (λ (k : ModulePlacement). has_number (module_pages r.rules k) page ≡ true) (sym same) p.inside)
  | inr old ↦ inr (record { loaded_is = old.1; inside = p.inside })
]

again : (r : State) (m n : ModulePlacement) (page : ℕ) → find_module r.loaded m.id ≡ None → IsPageOf r.rules r.loaded n page → IsPageOf r.rules (with_module r.loaded m) n page
again r m n page other p = record { loaded_is = old_there r m n other p.loaded_is; inside = p.inside }

owned_again : (r : State) (m : ModulePlacement) (page : ℕ) → find_module r.loaded m.id ≡ None → IsOwned (ownership r) page → IsOwned (ownership (approves r m)) page
owned_again r m page other (inl text) = inl text
owned_again r m page other (inr of) = inr (of.0, again r m of.0 page other of.1)

approves_pages : (r : State) (m : ModulePlacement) → IsSound r → CanApprove r m → OwnsPages (ownership (approves r m))
approves_pages r m s can = record {
  owned = λ page e. elim (cases_Bool (has_number (module_pages r.rules m) page)) [
    | inl there ↦ inr (m, record { loaded_is = new_there r m can.other; inside = there })
    | inr gone ↦ owned_again r m page can.other (s.pages.owned page (sym (ap is_some (front_case r m page false gone)) ∙ e))
  ];
  text = λ page e. stays_approved r m page (s.pages.text page e);
  modules = λ n page p. elim (new_or_old_page r m n page can.other p) [
    | inl new ↦ new_approved r m page new.1
    | inr old ↦ stays_approved r m page (s.pages.modules n page old)
  ];
  no_text = λ n page p. elim (new_or_old_page r m n page can.other p) [
    | inl new ↦ false_from_ne_true (is_kernel_text (ownership r) page) (λ t. both (is_approved_in r.approved page) (s.pages.text page t) (can.free page new.1))
    | inr old ↦ s.pages.no_text n page old
  ];
  one_module = λ n k page p q. elim (new_or_old_page r m n page can.other p) [
    | inl new ↦ elim (new_or_old_page r m k page can.other q) [
      | inl also ↦ ap (λ (x : ModulePlacement). x.id) (sym new.0 ∙ also.0)
      | inr old ↦ absurd (both (is_approved_in r.approved page) (s.pages.modules k page old) (can.free page new.1))
    ]
    | inr old ↦ elim (new_or_old_page r m k page can.other q) [
      | inl also ↦ absurd (both (is_approved_in r.approved page) (s.pages.modules n page old) (can.free page also.1))
      | inr other ↦ s.pages.one_module n k page old other
    ]
  ];
  inside = λ page e. elim (cases_Bool (has_number (module_pages r.rules m) page)) [
    | inl there ↦ page_inside (ram_offset m.gpa) (pages_in_rule (slice_get r.rules.modules m.id)) r.rules.ram_pages page can.inside
        (numbers_bounds (page_of m.gpa) (pages_in_rule (slice_get r.rules.modules m.id)) page there).1
    | inr gone ↦ s.pages.inside page (sym (ap is_some (front_case r m page false gone)) ∙ e)
  ];
  ids = λ n e. elim (new_or_old r m n can.other e) [
    | inl same ↦ subst (λ (x : ModulePlacement). x.id < length r.rules.modules) same (good_below r m can.good)
    | inr old ↦ s.pages.ids n old.1
  ];
}

approves_text : (r : State) (m : ModulePlacement) → IsSound r → KeepsText (approves r m).approved r.ram
approves_text r m s = record {
  same = λ page bytes e. elim (cases_Bool (has_number (module_pages r.rules m) page)) [
    | inl there ↦ let now : Some (page_bytes r.ram page) ≡ Some bytes = sym (front_case r m page true there) ∙ e in cc
    | inr gone ↦ s.text.same page bytes (sym (front_case r m page false gone) ∙ e)
  ];
}

approves_measured : (r : State) (m n : ModulePlacement) → IsSound r → CanApprove r m → find_module (with_module r.loaded m) n.id ≡ Some n → IsMeasured r.rules r.ram n
approves_measured r m n s can e = elim (new_or_old r m n can.other e) [
  | inl same ↦ subst (IsMeasured r.rules r.ram) same (record { good = can.good; base = can.base; aligned = can.aligned })
  | inr old ↦ s.modules n old.1
]

pub goes_approve : (r : State) (m : ModulePlacement) → IsSound r → CanApprove r m → Goes r (approves r m)
goes_approve r m s can = record {
  sound = record {
    within = s.within;
    words = s.words;
    number = s.number;
    harts = s.harts;
    size = s.size;
    text = approves_text r m s;
    ascends = ascends_with r.loaded m s.ascends can.other;
    modules = λ n e. approves_measured r m n s can e;
    load = refl;
    pages = approves_pages r m s can;
    disk = s.disk;
  };
  text = record {
    rules = refl;
    text = refl;
    was = λ page e. e;
    bytes = λ page e. front_case r m page false
        (false_from_ne_true (has_number (module_pages r.rules m) page) (λ t. both (is_approved_in r.approved page) (s.pages.text page e) (can.free page t)));
  };
}

-- ---- a module is unloaded

abbrev pub unloads : State → ModulePlacement → State
unloads r m = record r { approved = without_pages r.approved (module_pages r.rules m); loaded = without_module r.loaded m.id }

-- what the approved pages without some still have
kept_bytes : (approved : List ApprovedPage) (pages : List ℕ) (page : ℕ) (bytes : List ℕ) → approved_bytes (without_pages approved pages) page ≡ Some bytes
    → (has_number pages page ≡ false) × (approved_bytes approved page ≡ Some bytes)
kept_bytes approved pages page bytes e = kept_by (has_number pages page) (approved_bytes approved page) bytes (sym (approved_without approved pages page) ∙ e)
  where
    kept_by : (b : Bool) (x : Option (List ℕ)) (bytes : List ℕ) → (if b then None else x) ≡ Some bytes → (b ≡ false) × (x ≡ Some bytes)
    kept_by true x bytes e = absurd (cc)
    kept_by false x bytes e = (refl, e)

pub kept_approved : (approved : List ApprovedPage) (pages : List ℕ) (page : ℕ) → is_approved_in (without_pages approved pages) page ≡ true
    → (has_number pages page ≡ false) × (is_approved_in approved page ≡ true)
kept_approved approved pages page e =
    kept_by (has_number pages page) (approved_bytes approved page) (sym (ap is_some (approved_without approved pages page)) ∙ e)
  where
    kept_by : (b : Bool) (x : Option (List ℕ)) → is_some (if b then None else x) ≡ true → (b ≡ false) × (is_some x ≡ true)
    kept_by true x e = absurd (cc)
    kept_by false x e = (refl, e)

pub bytes_left : (approved : List ApprovedPage) (pages : List ℕ) (page : ℕ) → has_number pages page ≡ false → approved_bytes (without_pages approved pages) page ≡ approved_bytes approved page
bytes_left approved pages page gone = approved_without approved pages page ∙ ap (λ (b : Bool). if b then None else approved_bytes approved page) gone

-- a module that is loaded still was loaded, under another id
still_loaded : (modules : List ModulePlacement) (gone : ℕ) (n : ModulePlacement) → find_module (without_module modules gone) n.id ≡ Some n
    → ((gone == n.id) ≡ false) × (find_module modules n.id ≡ Some n)
still_loaded modules gone n e = still_by (gone == n.id) (find_module modules n.id) n (sym (found_without modules gone n.id) ∙ e)
  where
    still_by : (b : Bool) (x : Option ModulePlacement) (n : ModulePlacement) → (if b then None else x) ≡ Some n → (b ≡ false) × (x ≡ Some n)
    still_by true x n e = absurd (cc)
    still_by false x n e = (refl, e)

still_page : (r : State) (m n : ModulePlacement) (page : ℕ) → IsPageOf r.rules (without_module r.loaded m.id) n page → IsPageOf r.rules r.loaded n page
still_page r m n page p = record { loaded_is = (still_loaded r.loaded m.id n p.loaded_is).1; inside = p.inside }

-- a page of another module isn't one of those that go
other_pages : (r : State) (m n : ModulePlacement) (page : ℕ) → IsSound r → find_module r.loaded m.id ≡ Some m → IsPageOf r.rules (without_module r.loaded m.id) n page
    → has_number (module_pages r.rules m) page ≡ false
other_pages r m n page s found p =
    false_from_ne_true (has_number (module_pages r.rules m) page) (λ t.
    let same : m.id ≡ n.id = s.pages.one_module m n page (record { loaded_is = found; inside = t }) (still_page r m n page p) in
    both (m.id == n.id) (subst (λ (id : ℕ). (m.id == id) ≡ true) same (same_number m.id)) (still_loaded r.loaded m.id n p.loaded_is).0)

-- nor is one of the kernel's text
text_pages_stay : (r : State) (m : ModulePlacement) (page : ℕ) → IsSound r → find_module r.loaded m.id ≡ Some m → is_kernel_text (ownership r) page ≡ true
    → has_number (module_pages r.rules m) page ≡ false
text_pages_stay r m page s found e =
    false_from_ne_true (has_number (module_pages r.rules m) page) (λ t. both (is_kernel_text (ownership r) page) e (s.pages.no_text m page (record { loaded_is = found; inside = t })))

owned_still : (r : State) (m : ModulePlacement) (page : ℕ) → IsSound r → find_module r.loaded m.id ≡ Some m → has_number (module_pages r.rules m) page ≡ false
    → IsOwned (ownership r) page → IsOwned (ownership (unloads r m)) page
owned_still r m page s found gone (inl text) = inl text
owned_still r m page s found gone (inr of) = inr (
  of.0,
  record {
    loaded_is = found_without r.loaded m.id of.0.id ∙ ap (λ (b : Bool). if b then None else find_module r.loaded of.0.id)
        (false_from_ne_true (m.id == of.0.id) (λ t. both (has_number (module_pages r.rules m) page)
        (subst (λ (k : ModulePlacement). has_number (module_pages r.rules k) page ≡ true) (sym (same_module r m of.0 (eqb-true m.id of.0.id t) found of.1.loaded_is)) of.1.inside) gone))
        ∙ of.1.loaded_is;
    inside = of.1.inside;
  },
)

unloads_pages : (r : State) (m : ModulePlacement) → IsSound r → find_module r.loaded m.id ≡ Some m → OwnsPages (ownership (unloads r m))
unloads_pages r m s found = record {
  owned = λ page e. let k = kept_approved r.approved (module_pages r.rules m) page e in owned_still r m page s found k.0 (s.pages.owned page k.1);
  text = λ page e. ap is_some (bytes_left r.approved (module_pages r.rules m) page (text_pages_stay r m page s found e)) ∙ s.pages.text page e;
  modules = λ n page p. ap is_some (bytes_left r.approved (module_pages r.rules m) page (other_pages r m n page s found p)) ∙ s.pages.modules n page (still_page r m n page p);
  no_text = λ n page p. s.pages.no_text n page (still_page r m n page p);
  one_module = λ n k page p q. s.pages.one_module n k page (still_page r m n page p) (still_page r m k page q);
  inside = λ page e. s.pages.inside page (kept_approved r.approved (module_pages r.rules m) page e).1;
  ids = λ n e. s.pages.ids n (still_loaded r.loaded m.id n e).1;
}

less_text : (r : State) (pages : List ℕ) → IsSound r → KeepsText (without_pages r.approved pages) r.ram
less_text r pages s = record { same = λ page bytes e. s.text.same page bytes (kept_bytes r.approved pages page bytes e).1 }

-- a load under way stays right where fewer pages are approved and fewer modules are loaded
less_load : (rules : Rules) (approved fewer : List ApprovedPage) (loaded left : List ModulePlacement) (held : List ℕ) (x : Option Loading)
    → ((page : ℕ) → is_approved_in approved page ≡ false → is_approved_in fewer page ≡ false)
    → ((id : ℕ) → find_module loaded id ≡ None → find_module left id ≡ None)
    → IsSoundLoad rules approved loaded held x → IsSoundLoad rules fewer left held x
less_load rules approved fewer loaded left held None pages modules load = load
less_load rules approved fewer loaded left held (Some load) pages modules k = record {
  known = k.known;
  pages = k.pages;
  base = k.base;
  aligned = k.aligned;
  inside = k.inside;
  left = k.left;
  free = λ page e. pages page (k.free page e);
  other = modules load.about.id k.other;
}

fewer_pages : (approved : List ApprovedPage) (pages : List ℕ) (page : ℕ) → is_approved_in approved page ≡ false → is_approved_in (without_pages approved pages) page ≡ false
fewer_pages approved pages page e =
    false_from_ne_true (is_approved_in (without_pages approved pages) page) (λ t. both (is_approved_in approved page) (kept_approved approved pages page t).1 e)

fewer_modules : (modules : List ModulePlacement) (gone id : ℕ) → find_module modules id ≡ None → find_module (without_module modules gone) id ≡ None
fewer_modules modules gone id e = found_without modules gone id ∙ none_by (gone == id) (find_module modules id) e
  where
    none_by : (b : Bool) (x : Option ModulePlacement) → x ≡ None → (if b then None else x) ≡ None
    none_by true x e = refl
    none_by false x e = e

pub goes_unload : (r : State) (m : ModulePlacement) → IsSound r → find_module r.loaded m.id ≡ Some m → Goes r (unloads r m)
goes_unload r m s found = record {
  sound = record {
    within = s.within;
    words = s.words;
    number = s.number;
    harts = s.harts;
    size = s.size;
    text = less_text r (module_pages r.rules m) s;
    ascends = ascends_without r.loaded m.id s.ascends;
    modules = λ n e. s.modules n (still_loaded r.loaded m.id n e).1;
    load = less_load r.rules r.approved (without_pages r.approved (module_pages r.rules m)) r.loaded (without_module r.loaded m.id) r.held r.loading
        (fewer_pages r.approved (module_pages r.rules m)) (fewer_modules r.loaded m.id) s.load;
    pages = unloads_pages r m s found;
    disk = s.disk;
  };
  text = record {
    rules = refl;
    text = refl;
    was = λ page e. e;
    bytes = λ page e. bytes_left r.approved (module_pages r.rules m) page (text_pages_stay r m page s found e);
  };
}

-- ---- the kernel's init text is retired

abbrev pub retires : State → Span → State
retires r span = record r { approved = without_pages r.approved (init_text r span); retired = true }

-- before, the pages that go were the kernel's
pub text_before : (r : State) (span : Span) (page : ℕ) → r.retired ≡ false → has_number (init_text r span) page ≡ true → is_kernel_text (ownership r) page ≡ true
text_before r span page before e =
    let k : (has_number (span_pages span) page && has_number r.text page) ≡ true = sym (number_filtered (has_number r.text) (span_pages span) page) ∙ e in
    rw before (and_from (has_number r.text page) true (and_second (has_number (span_pages span) page) (has_number r.text page) k) refl)

-- and what is left of the kernel's text is no init page
text_behind : (r : State) (span : Span) (page : ℕ) → r.rules.init ≡ Some span → is_kernel_text (ownership (retires r span)) page ≡ true
    → (has_number r.text page ≡ true) × (has_number (init_text r span) page ≡ false)
text_behind r span page init e =
    let out : is_init r.rules.init page ≡ false = not-true (is_init r.rules.init page) (and_second (has_number r.text page) (not (is_init r.rules.init page)) e) in
    let none : has_number (span_pages span) page ≡ false = ap (λ (x : Option Span). is_init x page) (sym init) ∙ out in (
      and_first (has_number r.text page) (not (is_init r.rules.init page)) e,
      number_filtered (has_number r.text) (span_pages span) page ∙ ap (λ (b : Bool). b && has_number r.text page) none,
    )

was_text : (r : State) (span : Span) (page : ℕ) → r.rules.init ≡ Some span → r.retired ≡ false → is_kernel_text (ownership (retires r span)) page ≡ true → is_kernel_text (ownership r) page ≡ true
was_text r span page init before e = rw before (and_from (has_number r.text page) true (text_behind r span page init e).0 refl)

-- a page of the kernel's that doesn't go stays the kernel's
text_after : (r : State) (span : Span) (page : ℕ) → r.rules.init ≡ Some span → is_kernel_text (ownership r) page ≡ true → has_number (init_text r span) page ≡ false
    → is_kernel_text (ownership (retires r span)) page ≡ true
text_after r span page init e gone =
    let text : has_number r.text page ≡ true = and_first (has_number r.text page) (not (r.retired && is_init r.rules.init page)) e in
    let none : (has_number (span_pages span) page && has_number r.text page) ≡ false = sym (number_filtered (has_number r.text) (span_pages span) page) ∙ gone in
    let out : is_init r.rules.init page ≡ false =
    false_from_ne_true (is_init r.rules.init page) (λ t. both (has_number (span_pages span) page && has_number r.text page)
    (and_from (has_number (span_pages span) page) (has_number r.text page) (ap (λ (x : Option Span). is_init x page) (sym init) ∙ t) text) none) in
    and_from (has_number r.text page) (not (is_init r.rules.init page)) text (ap not out)

no_init : (r : State) (span : Span) (n : ModulePlacement) (page : ℕ) → IsSound r → r.retired ≡ false → IsPageOf r.rules r.loaded n page → has_number (init_text r span) page ≡ false
no_init r span n page s before p =
    false_from_ne_true (has_number (init_text r span) page) (λ t. both (is_kernel_text (ownership r) page) (text_before r span page before t) (s.pages.no_text n page p))

owned_after : (r : State) (span : Span) (page : ℕ) → r.rules.init ≡ Some span → has_number (init_text r span) page ≡ false → IsOwned (ownership r) page → IsOwned (ownership (retires r span)) page
owned_after r span page init gone (inl text) = inl (text_after r span page init text gone)
owned_after r span page init gone (inr of) = inr of

retires_pages : (r : State) (span : Span) → IsSound r → r.rules.init ≡ Some span → r.retired ≡ false → OwnsPages (ownership (retires r span))
retires_pages r span s init before = record {
  owned = λ page e. let k = kept_approved r.approved (init_text r span) page e in owned_after r span page init k.0 (s.pages.owned page k.1);
  text = λ page e. ap is_some (bytes_left r.approved (init_text r span) page (text_behind r span page init e).1) ∙ s.pages.text page (was_text r span page init before e);
  modules = λ n page p. ap is_some (bytes_left r.approved (init_text r span) page (no_init r span n page s before p)) ∙ s.pages.modules n page p;
  no_text = λ n page p. false_from_ne_true (is_kernel_text (ownership (retires r span)) page)
      (λ t. both (is_kernel_text (ownership r) page) (was_text r span page init before t) (s.pages.no_text n page p));
  one_module = s.pages.one_module;
  inside = λ page e. s.pages.inside page (kept_approved r.approved (init_text r span) page e).1;
  ids = s.pages.ids;
}

pub goes_retire : (r : State) (span : Span) → IsSound r → r.rules.init ≡ Some span → r.retired ≡ false → Goes r (retires r span)
goes_retire r span s init before = record {
  sound = record {
    within = s.within;
    words = s.words;
    number = s.number;
    harts = s.harts;
    size = s.size;
    text = less_text r (init_text r span) s;
    ascends = s.ascends;
    modules = s.modules;
    load = less_load r.rules r.approved (without_pages r.approved (init_text r span)) r.loaded r.loaded r.held r.loading
        (fewer_pages r.approved (init_text r span)) (λ id e. e) s.load;
    pages = retires_pages r span s init before;
    disk = s.disk;
  };
  text = record {
    rules = refl;
    text = refl;
    was = λ page e. was_text r span page init before e;
    bytes = λ page e. bytes_left r.approved (init_text r span) page (text_behind r span page init e).1;
  };
}
