-- The state in which a machine goes on from a snapshot that isn't refused is sound.
use Rattle.std.proofs.Common.{◌≡◌, ℕ, zero, suc, ◌*◌, ◌<◌, ◌≤◌, inl, inr, List, [], ◌∷◌, length, map, replicate, refl, sym, ◌∙◌, ap, subst, Bool, true, false, not, ◌&&◌, ◌||◌, slice_get}
use Rattle.sv_types.proofs.Sums.{nothing_plus}
use Rattle.std.specs.Prelude.{Option, Some, None, option_map, if◌then◌else◌, ◌==◌, nat_le, IsTrue}
use Rattle.std.specs.List.{list_all}
use Rattle.std.proofs.lemmas.Slice.Eq.{bytes_eq-Decides}
use Rattle.std.proofs.lemmas.List.{length-map, length-replicate}
use Rattle.std.proofs.lemmas.Bool.{false_from_ne_true, not-true}
use Rattle.spec_processor.specs.Bytes.{page_size, page_bytes}
use Rattle.sv_types.specs.ApprovedPages.{approved_pages, numbers_from}
use Rattle.sv_types.specs.Console.{max_queued}
use Rattle.sv_types.specs.Measure.{page_digest, joined_digests}
use Rattle.sv_types.specs.Policies.{Rules, rules_within, harts_within}
use Rattle.sv_types.specs.declared.port.PortState.{PortState}
use Rattle.sv_types.specs.declared.protection.Protection.{Protection}
use Rattle.sv_types.specs.declared.protection.Protection.TheVariants.{Free, Held, Approved}
use Rattle.sv_types.specs.declared.saved.ModulePlacement.{ModulePlacement}
use Rattle.spec_reference.specs.Loads.{is_good_load}
use Rattle.spec_reference.specs.Origins.{IsOwned, IsMeasured, OwnsPages, is_kernel_text, ownership}
use Rattle.spec_reference.specs.Soundness.{IsSound, IsSoundDisk, IsSoundLoad}
use Rattle.spec_reference.specs.Start.{AreWords}
use Rattle.spec_reference.specs.Protections.{protection_at}
use Rattle.spec_reference.specs.States.{has_number, is_approved_in, protection_in, find_module, pages_in_rule, protections_of}
use Rattle.spec_reference.specs.SavedStates.{disk_of}
use Rattle.spec_reference.specs.declared.saved_machine.whole.SavedLoad.{SavedLoad}
use Rattle.snapshot_format.specs.DeviceForms.{console, kind_of, port}
use Rattle.snapshot_format.specs.Forms.{is_word}
use Rattle.snapshot_format.specs.PageForms.{load_under_way}
use Rattle.snapshot_format.specs.Snapshots.{Contents, snapshot}
use Rattle.snapshot_format.specs.declared.whole.TextPage.{TextPage}
use Rattle.snapshot_format.proofs.FormLaws.{first_true, second_true}
use Rattle.snapshot_format.specs.Judgements.{page_numbers, is_retired, text_left, loaded_pages, load_pages, approved_of, fits, is_loaded}
use Rattle.snapshot_format.specs.Judgements.{load_fits, is_of_policy, take_pages, then_held, guard_due, is_guarded_right, joins, is_there}
use Rattle.snapshot_format.specs.Judgements.{has_text, has_modules, resume_refusal}
use Rattle.snapshot_format.specs.ResumedStates.{resumed_hart, resumed_load, resumed_state, timers_of}
use Rattle.snapshot_format.specs.declared.resume.refusal.ResumeRefusal.{ResumeRefusal}
use Rattle.snapshot_format.specs.declared.resume.refusal.ResumeRefusal.TheVariants.{OtherPolicy, OtherPages, OtherKernel, OtherText, OtherModule}
use Rattle.laws_resume.specs.Keepable.{AreKeepable, IsKeepableJournal, IsKeepableClock, IsKeepable}
use Rattle.laws_resume.specs.Resumed.{KeepsDigests}
use Rattle.laws_resume.specs.ResumedSound.{ResumedGoesOnLaw, ResumedSoundLaw}
use Rattle.laws_resume.proofs.RequestsStand.{virtio_sound}
use Rattle.laws_resume.proofs.DueProtections.{due_is, by_marks, listed}
use Rattle.laws_resume.proofs.FormParts.{HasParts, parts_of, max_is, block_goes}
use Rattle.laws_resume.proofs.ResumedHarts.{harts_sound, harts_kept, LoadParts, load_parts_of, load_kept, journal_kept, clock_kept}
use Rattle.laws_resume.proofs.KeepableSteps.{keeps_law}
use Rattle.laws_resume.proofs.ResumedHolds.{resumed_law}
use Rattle.laws_resume.proofs.ResumedPages.{text_ascends, text_inside, ModuleParts, modules_parts, found_all, found_begins, Fits, fits_is}
use Rattle.laws_resume.proofs.ResumedPages.{place_aligned, module_inside, in_first, in_second, in_one, both_below, loaded_inside}
use Rattle.laws_resume.proofs.ResumedPages.{among_loaded, of_module, one_module, approved_is, keeps_text}
use Rattle.laws_resume.proofs.TakenPages.{Taking, AllBelow, either_one, taken_in_two, length_taken, taken_at, were_free, apart, found_later}
use Rattle.laws_simulation.proofs.Lookups.{all_found, number_filtered}
use Rattle.snapshot_format.proofs.ModuleSites.{OfPolicy, of_policy}
use Rattle.spec_reference.proofs.Runs.{all_free_at}

-- ---- the judgements, one by one

pub record IsAccepted (rules : Rules) (s : Contents) : Type 0 where
  pub policy : is_of_policy rules s ≡ true
  pub guarded : is_guarded_right rules s ≡ true
  pub joined : joins rules s ≡ true
  pub text : has_text rules s ≡ true
  pub modules : has_modules rules s ≡ true

abbrev first_of : (a b c d e : Bool) → Option ResumeRefusal
first_of a b c d e =
    if not a then Some OtherPolicy else if not b then Some OtherPages else if not c then Some OtherKernel
    else if not d then Some OtherText else if not e then Some OtherModule else None

none_first : (a b c d e : Bool) → first_of a b c d e ≡ None → (a ≡ true) × ((b ≡ true) × ((c ≡ true) × ((d ≡ true) × (e ≡ true))))
none_first true true true true true h = (refl, (refl, (refl, (refl, refl))))
none_first false b c d e h = absurd cc
none_first true false c d e h = absurd cc
none_first true true false d e h = absurd cc
none_first true true true false e h = absurd cc
none_first true true true true false h = absurd cc

pub accepted : (rules : Rules) (s : Contents) → resume_refusal rules s ≡ None → IsAccepted rules s
unfolding resume_refusal
accepted rules s h =
    let all = none_first (is_of_policy rules s) (is_guarded_right rules s) (joins rules s) (has_text rules s) (has_modules rules s) h in
    record { policy = all.0; guarded = all.1.0; joined = all.1.1.0; text = all.1.1.1.0; modules = all.1.1.1.1 }

-- ---- pages that were taken

-- text, then the loaded modules, then the load
record AreTaken (rules : Rules) (s : Contents) : Type 0 where
  text : List Protection
  approved : List Protection
  text_is : Taking Approved (replicate rules.ram_pages Free) (text_left rules s) text
  modules_are : Taking Approved text (loaded_pages rules s.modules) approved
  all_are : Taking Approved (replicate rules.ram_pages Free) (approved_of rules s) approved
  load_is : Taking Held approved (load_pages rules s.loading) s.protection

held_of : (x : Option (List Protection)) (pages : List ℕ) (guard : List Protection) → then_held x pages ≡ Some guard
    → (mid : List Protection) × ((x ≡ Some mid) × Taking Held mid pages guard)
held_of None pages guard e = absurd cc
held_of (Some mid) pages guard e = (mid, (refl, e))

are_taken : (rules : Rules) (s : Contents) → is_guarded_right rules s ≡ true → AreTaken rules s
unfolding is_guarded_right guard_due
are_taken rules s e =
    let held = held_of (take_pages Approved (replicate rules.ram_pages Free) (approved_of rules s)) (load_pages rules s.loading) s.protection (due_is _ s.protection e) in
    let two = taken_in_two Approved (replicate rules.ram_pages Free) held.0 (text_left rules s) (loaded_pages rules s.modules) held.1.0 in
    record {
      text = two.0;
      approved = held.0;
      text_is = two.1.0;
      modules_are = two.1.1;
      all_are = held.1.0;
      load_is = held.1.1;
    }

-- ---- what all of it gives

record Known (rules : Rules) (s : Contents) : Type 0 where
  parts : HasParts s
  policy : OfPolicy rules s
  modules : ModuleParts s.modules
  pages : AreTaken rules s
  joined : joins rules s ≡ true
  text : has_text rules s ≡ true
  good : has_modules rules s ≡ true

known : (rules : Rules) (s : Contents) → snapshot.has s ≡ true → resume_refusal rules s ≡ None → Known rules s
known rules s has none =
    let a = accepted rules s none in
    let parts = parts_of s has in
    record {
      parts = parts;
      policy = of_policy rules s a.policy;
      modules = modules_parts s.modules parts.modules;
      pages = are_taken rules s a.guarded;
      joined = a.joined;
      text = a.text;
      good = a.modules;
    }

-- ---- whose pages

text_below : (rules : Rules) (s : Contents) → Known rules s → AllBelow rules.ram_pages (text_left rules s)
text_below rules s k page there =
    let found = first_true (has_number (page_numbers s.text) page) _ (sym (number_filtered (λ p. not (is_retired rules s.retired p)) (page_numbers s.text) page) ∙ there) in
    subst (λ (n : ℕ). page < n) k.policy.pages (text_inside (length s.protection) s.text k.parts.text page found)

modules_below : (rules : Rules) (s : Contents) → Known rules s → AllBelow rules.ram_pages (loaded_pages rules s.modules)
modules_below rules s k = loaded_inside rules s.modules k.policy.modules k.modules.begin

free_below : (rules : Rules) (pages : List ℕ) → AllBelow rules.ram_pages pages → AllBelow (length (replicate rules.ram_pages Free)) pages
free_below rules pages all = subst (λ (n : ℕ). AllBelow n pages) (sym (length-replicate rules.ram_pages Free)) all

-- a page of the kernel's is one of the text that is left
is_left : (rules : Rules) (s : Contents) (page : ℕ) → is_kernel_text (ownership (resumed_state rules s)) page ≡ has_number (text_left rules s) page
unfolding resumed_state
is_left rules s page = sym (number_filtered (λ p. not (is_retired rules s.retired p)) (page_numbers s.text) page)

text_and_module : (rules : Rules) (s : Contents) (page : ℕ) → Known rules s → has_number (text_left rules s) page ≡ true → has_number (loaded_pages rules s.modules) page ≡ true → ⊥
text_and_module rules s page k =
    apart Approved (replicate rules.ram_pages Free) k.pages.text k.pages.approved Approved (text_left rules s) (loaded_pages rules s.modules) page refl
    (free_below rules (text_left rules s) (text_below rules s k)) k.pages.text_is k.pages.modules_are

owned_of : (rules : Rules) (s : Contents) (page : ℕ) → Known rules s → has_number (approved_of rules s) page ≡ true → IsOwned (ownership (resumed_state rules s)) page
unfolding resumed_state
owned_of rules s page k there = elim (in_one (text_left rules s) (loaded_pages rules s.modules) page there) [
  | inl left ↦ inl (is_left rules s page ∙ left)
  | inr loaded ↦ let m = of_module rules s.modules page loaded in
      inr (m.about, record { loaded_is = all_found s.modules m.place m.about k.modules.ascends m.at; inside = m.inside })
]

pages_owned : (rules : Rules) (s : Contents) → Known rules s → OwnsPages (ownership (resumed_state rules s))
unfolding resumed_state
pages_owned rules s k = record {
  owned = λ page e. owned_of rules s page k (sym (approved_is s.ram (approved_of rules s) page) ∙ e);
  text = λ page e. approved_is s.ram (approved_of rules s) page
      ∙ in_first (text_left rules s) (loaded_pages rules s.modules) page (sym (is_left rules s page) ∙ e);
  modules = λ m page p. approved_is s.ram (approved_of rules s) page
      ∙ in_second (text_left rules s) (loaded_pages rules s.modules) page (among_loaded rules s.modules m page p.loaded_is p.inside);
  no_text = λ m page p. false_from_ne_true _ (λ t. text_and_module rules s page k (sym (is_left rules s page) ∙ t) (among_loaded rules s.modules m page p.loaded_is p.inside));
  one_module = λ m n page p q. one_module rules k.pages.text k.pages.approved s.modules m n page k.pages.modules_are k.policy.modules k.modules.begin
      (length_taken Approved (replicate rules.ram_pages Free) k.pages.text (text_left rules s) k.pages.text_is ∙ length-replicate rules.ram_pages Free)
      p.loaded_is q.loaded_is p.inside q.inside;
  inside = λ page e. both_below rules.ram_pages (text_left rules s) (loaded_pages rules s.modules) (text_below rules s k) (modules_below rules s k) page
      (sym (approved_is s.ram (approved_of rules s) page) ∙ e);
  ids = λ m found. (fits_is rules m (found_all (fits rules) s.modules m.id m k.policy.modules found)).known;
}

-- ---- modules and the load

measured : (rules : Rules) (s : Contents) (m : ModulePlacement) → Known rules s → find_module s.modules m.id ≡ Some m → IsMeasured rules s.ram m
unfolding has_modules
measured rules s m k found =
    let f = fits_is rules m (found_all (fits rules) s.modules m.id m k.policy.modules found) in
    record {
      good = found_all (λ (x : ModulePlacement). is_good_load rules s.ram x (slice_get rules.modules x.id)) s.modules m.id m k.good found;
      base = f.base;
      aligned = place_aligned m.gpa f.base (found_begins s.modules m.id m k.modules.begin found);
    }

-- what is asked of a load
record LoadFits (rules : Rules) (modules : List ModulePlacement) (l : SavedLoad) : Type 0 where
  its : Fits rules l.«module»
  other : find_module modules l.«module».id ≡ None
  left : l.left ≤ pages_in_rule (slice_get rules.modules l.«module».id)

none_by : (x : ModulePlacement) (b : Bool) (any : Bool) (rest : Option ModulePlacement) → (b || any) ≡ false → (any ≡ false → rest ≡ None) → (if b then Some x else rest) ≡ None
none_by x true any rest e later = cc
none_by x false any rest e later = later e

not_loaded : (ms : List ModulePlacement) (id : ℕ) → is_loaded ms id ≡ false → find_module ms id ≡ None
unfolding find_module
not_loaded [] id e = refl
not_loaded (x ∷ ms) id e = none_by x (x.id == id) (is_loaded ms id) (find_module ms id) e (not_loaded ms id)

load_fits_is : (rules : Rules) (ms : List ModulePlacement) (l : SavedLoad) → load_fits rules ms (Some l) ≡ true → LoadFits rules ms l
load_fits_is rules ms l e =
    let two = first_true (fits rules l.«module» && not (is_loaded ms l.«module».id)) _ e in
    record {
      its = fits_is rules l.«module» (first_true (fits rules l.«module») _ two);
      other = not_loaded ms l.«module».id (not-true (is_loaded ms l.«module».id) (second_true (fits rules l.«module») _ two));
      left = max_is l.left (pages_in_rule (slice_get rules.modules l.«module».id)) (second_true (fits rules l.«module» && not (is_loaded ms l.«module».id)) _ e);
    }

load_free : (rules : Rules) (s : Contents) (page : ℕ) → Known rules s → has_number (load_pages rules s.loading) page ≡ true
    → is_approved_in (approved_pages s.ram (approved_of rules s)) page ≡ false
load_free rules s page k there =
    false_from_ne_true _ (λ t. apart Approved (replicate rules.ram_pages Free) k.pages.approved s.protection Held (approved_of rules s) (load_pages rules s.loading) page refl
    (free_below rules (approved_of rules s) (both_below rules.ram_pages (text_left rules s) (loaded_pages rules s.modules) (text_below rules s k) (modules_below rules s k)))
    k.pages.all_are k.pages.load_is (sym (approved_is s.ram (approved_of rules s) page) ∙ t) there)

load_by : (rules : Rules) (s : Contents) (x : Option SavedLoad) → Known rules s → s.loading ≡ x → load_fits rules s.modules x ≡ true
    → ((l : SavedLoad) → x ≡ Some l → LoadParts s.harts l)
    → IsSoundLoad rules (approved_pages s.ram (approved_of rules s)) s.modules (load_pages rules x) (option_map resumed_load x)
load_by rules s None k under e parts = refl
load_by rules s (Some l) k under e parts =
    let f = load_fits_is rules s.modules l e in
    record {
      known = f.its.known;
      pages = refl;
      base = f.its.base;
      aligned = place_aligned l.«module».gpa f.its.base (parts l refl).gpa;
      inside = f.its.inside;
      left = f.left;
      free = λ page there. load_free rules s page k (ap (λ (y : Option SavedLoad). has_number (load_pages rules y) page) under ∙ there);
      other = f.other;
    }

load_sound : (rules : Rules) (s : Contents) → Known rules s
    → IsSoundLoad rules (approved_pages s.ram (approved_of rules s)) s.modules (load_pages rules s.loading) (option_map resumed_load s.loading)
load_sound rules s k =
    load_by rules s s.loading k refl k.policy.load
    (λ l under. load_parts_of s.harts l (subst (λ (y : Option SavedLoad). (load_under_way s.harts).has y ≡ true) under k.parts.loading))

-- ---- protections

approved_below : (rules : Rules) (s : Contents) → Known rules s → AllBelow rules.ram_pages (approved_of rules s)
approved_below rules s k = both_below rules.ram_pages (text_left rules s) (loaded_pages rules s.modules) (text_below rules s k) (modules_below rules s k)

load_below_by : (rules : Rules) (s : Contents) (x : Option SavedLoad) → load_fits rules s.modules x ≡ true → ((l : SavedLoad) → x ≡ Some l → LoadParts s.harts l)
    → AllBelow rules.ram_pages (load_pages rules x)
load_below_by rules s None e parts = λ page there. cc
load_below_by rules s (Some l) e parts = module_inside rules l.«module» (load_fits_is rules s.modules l e).its (parts l refl).gpa

load_below : (rules : Rules) (s : Contents) → Known rules s → AllBelow rules.ram_pages (load_pages rules s.loading)
load_below rules s k =
    load_below_by rules s s.loading k.policy.load
    (λ l under. load_parts_of s.harts l (subst (λ (y : Option SavedLoad). (load_under_way s.harts).has y ≡ true) under k.parts.loading))

-- what the snapshot says of a page is what follows from whose it is
protection_is : (rules : Rules) (s : Contents) (page : ℕ) → Known rules s
    → protection_at s.protection page ≡ protection_in (approved_pages s.ram (approved_of rules s)) (load_pages rules s.loading) page
unfolding protection_in
protection_is rules s page k =
    let free : List Protection = replicate rules.ram_pages Free in
    let size = length_taken Approved free k.pages.approved (approved_of rules s) k.pages.all_are ∙ length-replicate rules.ram_pages Free in
    by_marks (is_approved_in (approved_pages s.ram (approved_of rules s)) page) (has_number (load_pages rules s.loading) page)
    (protection_at s.protection page) (protection_at k.pages.approved page)
    (taken_at Held k.pages.approved s.protection (load_pages rules s.loading) page
    (subst (λ (n : ℕ). AllBelow n (load_pages rules s.loading)) (sym size) (load_below rules s k)) k.pages.load_is)
    (taken_at Approved free k.pages.approved (approved_of rules s) page (free_below rules (approved_of rules s) (approved_below rules s k)) k.pages.all_are
    ∙ ap (λ (b : Bool). either_one b Approved (protection_at free page)) (sym (approved_is s.ram (approved_of rules s) page))
    ∙ ap (either_one (is_approved_in (approved_pages s.ram (approved_of rules s)) page) Approved) (all_free_at rules.ram_pages page))
    (λ there. were_free Held k.pages.approved s.protection (load_pages rules s.loading) page k.pages.load_is there)

protections_are : (rules : Rules) (s : Contents) → Known rules s → protections_of (resumed_state rules s) ≡ s.protection
unfolding resumed_state
protections_are rules s k =
    let f : ℕ → Protection = protection_in (approved_pages s.ram (approved_of rules s)) (load_pages rules s.loading) in
    ap (λ (n : ℕ). map f (numbers_from 0 n)) (sym k.policy.pages)
    ∙ listed f 0 s.protection (λ i below. protection_is rules s i k ∙ ap f (nothing_plus i))

-- ---- the disk

port_sound : (p : PortState) (bytes : List ℕ) → (port (kind_of p)).has p ≡ true → IsSoundDisk (disk_of p bytes)
unfolding port
port_sound (PortState.Block b) bytes h = λ busy. (block_goes b h busy).aligned
port_sound (PortState.Virtio v) bytes h = virtio_sound v bytes h

-- ---- the whole

sound_of : (rules : Rules) (s : Contents) → IsTrue (rules_within rules) → AreWords rules.entries → Known rules s → IsSound (resumed_state rules s)
unfolding resumed_state
sound_of rules s within words k = record {
  within = within;
  words = words;
  number = length-map s.harts resumed_hart ∙ k.policy.harts;
  harts = λ i hart at. harts_sound rules (length s.protection) s.harts i hart k.parts.harts k.policy.bound at;
  size = k.parts.ram ∙ ap (λ (n : ℕ). page_size * n) k.policy.pages;
  text = keeps_text s.ram (approved_of rules s);
  ascends = k.modules.ascends;
  modules = λ m found. measured rules s m k found;
  load = load_sound rules s k;
  pages = pages_owned rules s k;
  disk = port_sound s.port s.disk k.parts.port;
}

few_harts : (n : ℕ) → harts_within n ≡ true → n ≤ 4
few_harts n e = max_is n 4 (second_true (nat_le 1 n) _ e)

console_few : (bytes : List ℕ) → console.has bytes ≡ true → length bytes ≤ max_queued
unfolding console
console_few bytes h =
    max_is (length bytes) max_queued (second_true (is_word (length bytes)) _ (first_true (is_word (length bytes) && nat_le (length bytes) 256) _ h))

keepable_of : (rules : Rules) (s : Contents) → Known rules s → IsKeepable (resumed_state rules s)
unfolding resumed_state
keepable_of rules s k = record {
  harts = subst (λ (n : ℕ). AreKeepable (page_size * n) (map resumed_hart s.harts)) k.policy.pages
      (harts_kept rules (length s.protection) s.harts k.parts.harts k.policy.bound);
  journal = subst (λ (n : ℕ). IsKeepableJournal n s.notes s.counts.notes s.verdict) k.policy.harts
      (journal_kept (length s.harts) s.counts.notes s.notes s.verdict k.parts.notes k.parts.verdict);
  clock = subst (λ (n : ℕ). IsKeepableClock n (record { time = s.time; timers = timers_of s.harts })) k.policy.harts
      (clock_kept s.harts s.time (few_harts (length s.harts) k.parts.few));
  console = console_few s.console k.parts.console;
  modules = k.modules.aligned;
  load = load_kept s.harts s.loading k.parts.loading;
  text = record {
    ascends = text_ascends (length s.protection) s.text k.parts.text;
    inside = subst (λ (n : ℕ). AllBelow n (page_numbers s.text)) k.policy.pages (text_inside (length s.protection) s.text k.parts.text);
  };
}

-- ---- digests

listed_at : (test : TextPage → Bool) (ts : List TextPage) (i : ℕ) (t : TextPage) → list_all test ts ≡ true → slice_get ts i ≡ Some t → test t ≡ true
listed_at test [] i t all e = cc
listed_at test (x ∷ ts) zero t all e = let same : x ≡ t = cc in subst (λ (y : TextPage). test y ≡ true) same (first_true (test x) _ all)
listed_at test (x ∷ ts) (suc i) t all e = listed_at test ts i t (second_true (test x) _ all) e

digests_of : (rules : Rules) (s : Contents) → Known rules s → KeepsDigests (resumed_state rules s) s.text
unfolding resumed_state has_text joins
digests_of rules s k = record {
  pages = refl;
  each = λ i t at left.
      let one = listed_at (λ (x : TextPage). is_retired rules s.retired x.page || is_there s.ram x) s.text i t k.text at in
      let kept = not-true (is_retired rules s.retired t.page) (second_true (has_number (page_numbers s.text) t.page) _ left) in
      (bytes_eq-Decides (page_digest (page_bytes s.ram t.page)) t.digest).0 (found_later (is_retired rules s.retired t.page) (is_there s.ram t) one kept);
  joined = (bytes_eq-Decides (joined_digests (map (λ (t : TextPage). t.digest) s.text)) rules.kernel).0 k.joined;
}

pub resumed_sound_law : ResumedSoundLaw
resumed_sound_law rules s within words has none =
    let k = known rules s has none in
    record {
      sound = sound_of rules s within words k;
      keepable = keepable_of rules s k;
      protections = protections_are rules s k;
      digests = digests_of rules s k;
    }

pub resumed_goes_on_law : ResumedGoesOnLaw
resumed_goes_on_law rules s events within words has none =
    let k = resumed_sound_law rules s within words has none in
    let goes = resumed_law (resumed_state rules s) events k.sound in
    record { goes = goes; keepable = keeps_law (resumed_state rules s) events k.sound k.keepable; digests = goes.digests s.text k.digests }
