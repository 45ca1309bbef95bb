-- What was saved of a state isn't refused.
use Rattle.std.proofs.Common.{◌≡◌, ℕ, zero, suc, ◌+◌, ◌-◌, ◌*◌, ◌/◌, ◌%◌, ◌<◌, ◌≤◌, List, [], ◌∷◌, length, map, replicate, refl, sym, ◌∙◌}
use Rattle.std.proofs.Common.{ap, subst, Bool, true, false, not, ◌&&◌, ◌||◌, arith, slice_get}
use Rattle.sv_types.proofs.Sums.{nothing_plus}
use Rattle.std.specs.Prelude.{Option, Some, None, option_map, is_some, if◌then◌else◌, ◌==◌, nat_lt, nat_le, IsTrue}
use Rattle.std.specs.List.{list_all}
use Rattle.std.proofs.lemmas.Bool.{eq-eqb, and_from}
use Rattle.std.proofs.lemmas.List.{length-replicate}
use Rattle.std.proofs.lemmas.Slice.Eq.{bytes_eq-Decides}
use Rattle.spec_processor.specs.Bytes.{page_size, page_bytes, page_of, ram_base, ram_offset}
use Rattle.spec_processor.specs.declared.mode.Mode.{Mode}
use Rattle.spec_processor.specs.declared.mode.Mode.TheVariants.{Kernel, User}
use Rattle.sv_types.specs.ApprovedPages.{numbers_from}
use Rattle.sv_types.specs.Clock.{Clock}
use Rattle.sv_types.specs.Measure.{page_digest, joined_digests}
use Rattle.sv_types.specs.Policies.{Rules, ModuleRule, rules_within}
use Rattle.sv_types.specs.declared.port.PortState.{PortState}
use Rattle.sv_types.specs.declared.protection.Protection.{Protection}
use Rattle.sv_types.specs.declared.protection.Protection.TheVariants.{Free, Held, Approved}
use Rattle.sv_types.specs.declared.saved.ModulePlacement.{ModulePlacement}
use Rattle.spec_reference.specs.Loads.{is_good_load}
use Rattle.spec_reference.specs.Origins.{is_kernel_text, ownership}
use Rattle.sv_types.specs.Protections.{is_free, is_same}
use Rattle.spec_reference.specs.Protections.{protection_at}
use Rattle.spec_reference.specs.Soundness.{IsSound, IsSoundEntry, IsSoundHart, IsSoundLoad}
use Rattle.spec_reference.specs.States.{State, Hart, Loading, find_module, has_number, is_approved_in, module_pages, pages_in_rule, protection_in, protections_of}
use Rattle.spec_reference.specs.SavedStates.{saved_harts, saved_load}
use Rattle.spec_reference.specs.declared.saved_machine.harts.SavedHart.{SavedHart}
use Rattle.snapshot_format.specs.Snapshots.{Contents}
use Rattle.snapshot_format.specs.declared.whole.TextPage.{TextPage}
use Rattle.snapshot_format.specs.Judgements.{approved_of, are_same, fits, guard_due, has_modules, has_text, is_bound, protections_are_due}
use Rattle.snapshot_format.specs.Judgements.{is_guarded_right, is_loaded, is_of_policy, is_retired, is_there, joins, load_fits}
use Rattle.snapshot_format.specs.Judgements.{load_pages, loaded_pages, page_numbers, resume_refusal, take_pages, text_left, then_held}
use Rattle.spec_reference.proofs.PageSpans.{in_numbers}
use Rattle.snapshot_format.proofs.ModuleSites.{some_pages}
use Rattle.laws_resume.specs.Keepable.{AscendFrom, IsKeepable}
use Rattle.laws_resume.specs.Resumed.{KeepsDigests}
use Rattle.laws_resume.specs.SavedAccepted.{SavedAcceptedLaw}
use Rattle.laws_resume.proofs.DueProtections.{by_marks, listed}
use Rattle.laws_resume.proofs.FormParts.{least_is, less_is}
use Rattle.laws_resume.proofs.KeepableStarts.{filter_ascends, numbers_ascend}
use Rattle.laws_resume.proofs.ResumedPages.{of_module, page_inside}
use Rattle.laws_resume.proofs.SavedResumes.{SameText, contents_are, contents_of, from_owned, held_back, left_is, length_saved, same_truth, to_approved}
use Rattle.laws_resume.proofs.TakenAgain.{AreOnce, ShareNone, once_both, once_loaded, once_up, takes}
use Rattle.laws_resume.proofs.TakenPages.{AllBelow, Taking, either_one, length_taken, or_true, taken_at}
use Rattle.laws_simulation.proofs.Lookups.{all_found, both, numbers_bounds, same_number, length_pages}
use Rattle.laws_simulation.proofs.StateLawsHold.{held_free}
use Rattle.spec_reference.proofs.Runs.{all_free_at}

-- ---- lists

all_by : {A : Type 0} (test : A → Bool) (xs : List A) → ((i : ℕ) (x : A) → slice_get xs i ≡ Some x → test x ≡ true) → list_all test xs ≡ true
all_by test [] each = refl
all_by test (x ∷ xs) each = and_from (test x) (list_all test xs) (each 0 x refl) (all_by test xs (λ i y at. each (suc i) y at))

-- ---- the first judgement

bound_by : (rules : Rules) (mode : Mode) (entry : Option ℕ) → IsSoundEntry rules mode entry → is_bound rules entry ≡ true
bound_by rules mode None k = refl
bound_by rules Kernel (Some i) k = ap is_some k.1
bound_by rules User (Some i) k = absurd k

all_bound : (rules : Rules) (clock : Clock) (h : ℕ) (harts : List Hart) → ((i : ℕ) (hart : Hart) → slice_get harts i ≡ Some hart → IsSoundHart rules hart)
    → list_all (λ (x : SavedHart). is_bound rules x.entry) (saved_harts clock h harts) ≡ true
unfolding saved_harts
all_bound rules clock h [] sound = refl
all_bound rules clock h (hart ∷ harts) sound =
    and_from (is_bound rules hart.entry) _ (bound_by rules hart.mode hart.entry (sound 0 hart refl).entry)
    (all_bound rules clock (h + 1) harts (λ i x at. sound (suc i) x at))

-- the last page of a module lies in RAM, so all of them do
room_by : (place n pages : ℕ) → place % page_size ≡ 0 → 1 ≤ n → place / page_size + (n - 1) < pages → place + page_size * n ≤ page_size * pages
room_by place n pages whole some inside = omega (arith, whole, some, inside)

last_in : (first n : ℕ) → 1 ≤ n → has_number (numbers_from first n) (first + (n - 1)) ≡ true
last_in first n some =
    in_numbers first n (first + (n - 1))
    ∙ and_from (nat_le first (first + (n - 1))) _ (least_is first (first + (n - 1)) (omega arith)) (less_is (first + (n - 1) - first) n (omega (arith, some)))

rule_pages : (rules : Rules) (id : ℕ) (x : Option ModuleRule) → IsTrue (rules_within rules) → id < length rules.modules → slice_get rules.modules id ≡ x → 1 ≤ pages_in_rule x
rule_pages rules id None within known at = absurd (past rules.modules id known at)
  where
    past : (xs : List ModuleRule) (i : ℕ) → i < length xs → slice_get xs i ≡ None → ⊥
    past [] i less none = omega (arith, less)
    past (x ∷ xs) zero less none = cc
    past (x ∷ xs) (suc i) less none = past xs i (omega (arith, less)) none
rule_pages rules id (Some rule) within known at = (some_pages rules id rule within at).0

fit_by : (rules : Rules) (m : ModulePlacement) → m.id < length rules.modules → ram_base ≤ m.gpa
    → ram_offset m.gpa + page_size * pages_in_rule (slice_get rules.modules m.id) ≤ page_size * rules.ram_pages → fits rules m ≡ true
fit_by rules m known base inside =
    and_from (nat_lt m.id (length rules.modules)) _ (less_is m.id (length rules.modules) known)
    (and_from (nat_le ram_base m.gpa) _ (least_is ram_base m.gpa base)
    (least_is (ram_offset m.gpa + page_size * pages_in_rule (slice_get rules.modules m.id)) (page_size * rules.ram_pages) inside))

loaded_fits : (r : State) (i : ℕ) (m : ModulePlacement) → IsSound r → slice_get r.loaded i ≡ Some m → fits r.rules m ≡ true
loaded_fits r i m sound at =
    let found = all_found r.loaded i m sound.ascends at in
    let k = sound.modules m found in
    let n : ℕ = pages_in_rule (slice_get r.rules.modules m.id) in
    let some : 1 ≤ n = rule_pages r.rules m.id (slice_get r.rules.modules m.id) sound.within (sound.pages.ids m found) refl in
    let inside : page_of m.gpa + (n - 1) < r.rules.ram_pages =
    sound.pages.inside (page_of m.gpa + (n - 1)) (sound.pages.modules m (page_of m.gpa + (n - 1)) (record { loaded_is = found; inside = last_in (page_of m.gpa) n some })) in
    fit_by r.rules m (sound.pages.ids m found) k.base (room_by (ram_offset m.gpa) n r.rules.ram_pages k.aligned some inside)

none_loaded : (ms : List ModulePlacement) (id : ℕ) → find_module ms id ≡ None → is_loaded ms id ≡ false
unfolding find_module
none_loaded [] id e = refl
none_loaded (m ∷ ms) id e = by m (m.id == id) (find_module ms id) (is_loaded ms id) e (none_loaded ms id)
  where
    by : (m : ModulePlacement) (here : Bool) (rest : Option ModulePlacement) (any : Bool) → (if here then Some m else rest) ≡ None → (rest ≡ None → any ≡ false) → (here || any) ≡ false
    by m true rest any e later = cc
    by m false rest any e later = later e

load_fits_by : (r : State) (x : Option Loading) → IsSoundLoad r.rules r.approved r.loaded r.held x → load_fits r.rules r.loaded (option_map saved_load x) ≡ true
load_fits_by r None k = refl
load_fits_by r (Some load) k =
    and_from (fits r.rules load.about && not (is_loaded r.loaded load.about.id)) _
    (and_from (fits r.rules load.about) (not (is_loaded r.loaded load.about.id)) (fit_by r.rules load.about k.known k.base k.inside) (ap not (none_loaded r.loaded load.about.id k.other)))
    (least_is load.left (pages_in_rule (slice_get r.rules.modules load.about.id)) k.left)

abbrev pub saved_contents : State → ℕ → List TextPage → PortState → List ℕ → Contents
saved_contents r events text port disk = contents_of r events text (protections_of r) port disk

of_policy : (r : State) (events : ℕ) (text : List TextPage) (port : PortState) (disk : List ℕ) → IsSound r → is_of_policy r.rules (saved_contents r events text port disk) ≡ true
unfolding is_of_policy
of_policy r events text port disk sound =
    let harts = saved_harts r.devices.clock 0 r.harts in
    let a : (length harts == r.rules.harts) ≡ true = eq-eqb _ _ (length_saved r.devices.clock 0 r.harts ∙ sound.number) in
    let b : (length (protections_of r) == r.rules.ram_pages) ≡ true = eq-eqb _ _ (length_pages (protection_in r.approved r.held) 0 r.rules.ram_pages) in
    let c = all_bound r.rules r.devices.clock 0 r.harts sound.harts in
    let d : list_all (fits r.rules) r.loaded ≡ true = all_by (fits r.rules) r.loaded (λ i m at. loaded_fits r i m sound at) in
    and_from _ _ (and_from _ _ (and_from _ _ (and_from _ _ a b) c) d) (load_fits_by r r.loading sound.load)

-- ---- the second: whose pages

abbrev same_text : (r : State) (events : ℕ) (text : List TextPage) (port : PortState) (disk : List ℕ) → page_numbers text ≡ r.text → SameText r (saved_contents r events text port disk)
same_text r events text port disk pages = record { text = pages; retired = refl; modules = refl }

share_none : (r : State) → IsSound r → ShareNone r.rules r.loaded
share_none r sound i j page m n at bt s t =
    sound.pages.one_module m n page (record { loaded_is = all_found r.loaded i m sound.ascends at; inside = s })
    (record { loaded_is = all_found r.loaded j n sound.ascends bt; inside = t })

-- the pages that are approved
record Approves (r : State) (c : Contents) : Type 0 where
  once : AreOnce (approved_of r.rules c)
  same : (page : ℕ) → has_number (approved_of r.rules c) page ≡ is_approved_in r.approved page
  below : AllBelow r.rules.ram_pages (approved_of r.rules c)

text_once : (r : State) (c : Contents) → IsKeepable r → SameText r c → AreOnce (text_left r.rules c)
text_once r c keepable k =
    once_up 0 (text_left r.rules c) (filter_ascends (λ page. not (is_retired r.rules c.retired page)) 0 (page_numbers c.text)
    (subst (AscendFrom 0) (sym k.text) keepable.text.ascends))

text_apart : (r : State) (c : Contents) (page : ℕ) → IsSound r → SameText r c → has_number (text_left r.rules c) page ≡ true
    → has_number (loaded_pages r.rules c.modules) page ≡ true → ⊥
text_apart r c page sound k here there =
    let m = of_module r.rules r.loaded page (subst (λ ms. has_number (loaded_pages r.rules ms) page ≡ true) k.modules there) in
    both (is_kernel_text (ownership r) page) (sym (left_is r c page k.text k.retired) ∙ here)
    (sound.pages.no_text m.about page (record { loaded_is = all_found r.loaded m.place m.about sound.ascends m.at; inside = m.inside }))

approves : (r : State) (c : Contents) → IsSound r → IsKeepable r → SameText r c → Approves r c
approves r c sound keepable k =
    let to = λ (page : ℕ). to_approved r c page sound k in
    record {
      once = once_both (text_left r.rules c) (loaded_pages r.rules c.modules) (text_once r c keepable k)
          (subst (λ ms. AreOnce (loaded_pages r.rules ms)) (sym k.modules) (once_loaded r.rules r.loaded sound.ascends (share_none r sound)))
          (λ page here there. text_apart r c page sound k here there);
      same = λ page. same_truth (has_number (approved_of r.rules c) page) (is_approved_in r.approved page) (to page) (λ e. from_owned r c page k (sound.pages.owned page e));
      below = λ page there. sound.pages.inside page (to page there);
    }

-- those that are held
record Holds (r : State) : Type 0 where
  once : AreOnce r.held
  below : AllBelow r.rules.ram_pages r.held

holds_by : (r : State) (x : Option Loading) → IsSoundLoad r.rules r.approved r.loaded r.held x → Holds r
holds_by r None k = record {
  once = subst AreOnce (sym k) tt;
  below = subst (AllBelow r.rules.ram_pages) (sym k) (λ page there. cc);
}
holds_by r (Some load) k =
    let n : ℕ = pages_in_rule (slice_get r.rules.modules load.about.id) in
    record {
      once = subst AreOnce (sym k.pages) (once_up _ (module_pages r.rules load.about) (numbers_ascend _ _));
      below = subst (AllBelow r.rules.ram_pages) (sym k.pages)
          (λ page there. page_inside (ram_offset load.about.gpa) n r.rules.ram_pages page k.aligned k.inside (numbers_bounds (page_of load.about.gpa) n page there).1);
    }

-- ---- protections that are taken again

one_same : (p : Protection) → is_same p p ≡ true
one_same Free = refl
one_same Held = refl
one_same Approved = refl

all_same : (ps : List Protection) → are_same ps ps ≡ true
all_same [] = refl
all_same (p ∷ ps) = and_from (is_same p p) (are_same ps ps) (one_same p) (all_same ps)

-- approved pages are taken first, and those that are held are free then
record TakenTwice (r : State) (c : Contents) : Type 0 where
  mid : List Protection
  approved : Taking Approved (replicate r.rules.ram_pages Free) (approved_of r.rules c) mid
  size : length mid ≡ r.rules.ram_pages
  at : (page : ℕ) → protection_at mid page ≡ either_one (is_approved_in r.approved page) Approved Free
  free : (page : ℕ) → has_number r.held page ≡ true → is_free (protection_at mid page) ≡ true

first_taken : (r : State) (c : Contents) → IsSound r → Approves r c → TakenTwice r c
first_taken r c sound a =
    let n : ℕ = r.rules.ram_pages in
    let free : List Protection = replicate n Free in
    let long : length free ≡ n = length-replicate n Free in
    let pages : List ℕ = approved_of r.rules c in
    let mid = takes Approved free pages a.once (λ page there. ap is_free (all_free_at n page)) in
    let at : (page : ℕ) → protection_at mid.0 page ≡ either_one (is_approved_in r.approved page) Approved Free = λ page.
    taken_at Approved free mid.0 pages page (subst (λ (k : ℕ). AllBelow k pages) (sym long) a.below) mid.1
    ∙ ap (λ (b : Bool). either_one b Approved (protection_at free page)) (a.same page)
    ∙ ap (either_one (is_approved_in r.approved page) Approved) (all_free_at n page) in
    record {
      mid = mid.0;
      approved = mid.1;
      size = length_taken Approved free mid.0 pages mid.1 ∙ long;
      at = at;
      free = λ page there. ap is_free (at page) ∙ ap (λ (b : Bool). is_free (either_one b Approved Free)) (held_free r r.loading page sound.load there);
    }

-- and what they leave are the state's protections
last_is : (r : State) (c : Contents) (last : List Protection) → (k : TakenTwice r c) → Holds r → Taking Held k.mid r.held last → last ≡ protections_of r
unfolding protection_in
last_is r c last k h taken =
    let f : ℕ → Protection = protection_in r.approved r.held in
    let each : (i : ℕ) → protection_at last i ≡ f i = λ i.
    by_marks (is_approved_in r.approved i) (has_number r.held i) (protection_at last i) (protection_at k.mid i)
    (taken_at Held k.mid last r.held i (subst (λ (n : ℕ). AllBelow n r.held) (sym k.size) h.below) taken) (k.at i) (k.free i) in
    sym (listed f 0 last (λ i below. each i ∙ ap f (nothing_plus i)))
    ∙ ap (λ (n : ℕ). map f (numbers_from 0 n)) (length_taken Held k.mid last r.held taken ∙ k.size)

guarded_right : (r : State) (c : Contents) → IsSound r → Approves r c → Holds r → c.protection ≡ protections_of r → load_pages r.rules c.loading ≡ r.held
    → is_guarded_right r.rules c ≡ true
unfolding is_guarded_right guard_due
guarded_right r c sound a h same pages =
    let k = first_taken r c sound a in
    let last = takes Held k.mid r.held h.once k.free in
    let due : then_held (take_pages Approved (replicate r.rules.ram_pages Free) (approved_of r.rules c)) (load_pages r.rules c.loading) ≡ Some last.0 =
    ap (λ (x : Option (List Protection)). then_held x (load_pages r.rules c.loading)) k.approved ∙ ap (take_pages Held k.mid) pages ∙ last.1 in
    ap (λ (x : Option (List Protection)). protections_are_due x c.protection) due
    ∙ ap (are_same last.0) (same ∙ sym (last_is r c last.0 k h last.1))
    ∙ all_same last.0

-- ---- text and modules

page_in : (text : List TextPage) (i : ℕ) (t : TextPage) → slice_get text i ≡ Some t → has_number (page_numbers text) t.page ≡ true
page_in [] i t at = cc
page_in (x ∷ text) zero t at =
    let same : x ≡ t = cc in subst (λ (y : TextPage). (x.page == y.page || has_number (page_numbers text) y.page) ≡
    true) same (ap (λ (b : Bool). b || has_number (page_numbers text) x.page) (same_number x.page))
page_in (x ∷ text) (suc i) t at = rw (page_in text i t at) (or_true (x.page == t.page))

or_by : (a b : Bool) → (a ≡ false → b ≡ true) → (a || b) ≡ true
or_by true b later = refl
or_by false b later = later refl

is_right : (r : State) (text : List TextPage) (i : ℕ) (t : TextPage) → KeepsDigests r text → slice_get text i ≡ Some t
    → (is_retired r.rules r.retired t.page || is_there r.ram t) ≡ true
is_right r text i t k at =
    or_by (is_retired r.rules r.retired t.page) (is_there r.ram t)
    (λ left.
    let there : has_number r.text t.page ≡ true = subst (λ (pages : List ℕ). has_number pages t.page ≡ true) k.pages (page_in text i t at) in
    (bytes_eq-Decides (page_digest (page_bytes r.ram t.page)) t.digest).1 (k.each i t at (and_from (has_number r.text t.page) _ there (ap not left))))

text_there : (r : State) (events : ℕ) (text : List TextPage) (port : PortState) (disk : List ℕ) → KeepsDigests r text → has_text r.rules (saved_contents r events text port disk) ≡ true
unfolding has_text
text_there r events text port disk k = all_by (λ t. is_retired r.rules r.retired t.page || is_there r.ram t) text (λ i t at. is_right r text i t k at)

text_joins : (r : State) (events : ℕ) (text : List TextPage) (port : PortState) (disk : List ℕ) → KeepsDigests r text → joins r.rules (saved_contents r events text port disk) ≡ true
unfolding joins
text_joins r events text port disk k = (bytes_eq-Decides (joined_digests (map (λ (t : TextPage). t.digest) text)) r.rules.kernel).1 k.joined

modules_good : (r : State) (events : ℕ) (text : List TextPage) (port : PortState) (disk : List ℕ) → IsSound r → has_modules r.rules (saved_contents r events text port disk) ≡ true
unfolding has_modules
modules_good r events text port disk sound =
    all_by (λ m. is_good_load r.rules r.ram m (slice_get r.rules.modules m.id)) r.loaded (λ i m at. (sound.modules m (all_found r.loaded i m sound.ascends at)).good)

-- ---- the law

none_refused : (r : State) (events : ℕ) (text : List TextPage) (port : PortState) (disk : List ℕ) → IsSound r → IsKeepable r → KeepsDigests r text
    → resume_refusal r.rules (saved_contents r events text port disk) ≡ None
unfolding resume_refusal
none_refused r events text port disk sound keepable k =
    let c : Contents = saved_contents r events text port disk in
    rw (
      of_policy r events text port disk sound,
      guarded_right r c sound (approves r c sound keepable (same_text r events text port disk k.pages)) (holds_by r r.loading sound.load) refl (held_back r r.loading sound.load),
      text_joins r events text port disk k,
      text_there r events text port disk k,
      modules_good r events text port disk sound,
    ) refl

pub saved_accepted_law : SavedAcceptedLaw
saved_accepted_law r s sound keepable saved digests =
    subst (λ (c : Contents). resume_refusal r.rules c ≡ None)
    (sym (contents_are r s saved ∙ ap (λ (ps : List Protection). contents_of r s.events s.text.items ps s.«machine».port s.«machine».disk.items) saved.protection))
    (none_refused r s.events s.text.items s.«machine».port s.«machine».disk.items sound keepable digests)
