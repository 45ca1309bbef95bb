-- What was saved of a state leads back to it.
use Rattle.std.proofs.Common.{◌≡◌, ℕ, zero, suc, ◌+◌, ◌-◌, ◌*◌, ◌<◌, ◌≤◌, inl, inr, List, [], ◌∷◌, ◌++◌, length, map, drop, replicate, refl}
use Rattle.std.proofs.Common.{sym, ◌∙◌, ap, subst, Bool, true, false, not, ◌&&◌, arith, add-one}
use Rattle.std.specs.Prelude.{Option, Some, None, option_map, is_some, if◌then◌else◌, ◌==◌, slice_index}
use Rattle.std.proofs.lemmas.List.{append-nil}
use Rattle.spec_processor.specs.Bits.{flag}
use Rattle.spec_processor.specs.Bytes.{page_bytes, ram_offset}
use Rattle.spec_processor.specs.Registers.{software_bit}
use Rattle.sv_types.specs.ApprovedPages.{approved_bytes, approved_pages}
use Rattle.sv_types.specs.Clock.{Clock, latest, timer_of}
use Rattle.sv_types.specs.declared.port.PortState.{PortState}
use Rattle.sv_types.specs.declared.protection.Protection.{Protection}
use Rattle.spec_reference.specs.Origins.{IsOwned, is_kernel_text, ownership}
use Rattle.spec_reference.specs.Soundness.{IsSound, IsSoundLoad}
use Rattle.spec_reference.specs.States.{State, Hart, Loading, has_number, is_approved_in}
use Rattle.spec_reference.specs.SavedStates.{IsSaved, disk_of, gpa_at, saved_hart, saved_harts, saved_load}
use Rattle.spec_reference.specs.declared.saved_machine.harts.SavedHart.{SavedHart}
use Rattle.snapshot_format.specs.Snapshots.{Contents, contents}
use Rattle.snapshot_format.specs.declared.whole.Snapshot.{Snapshot}
use Rattle.snapshot_format.specs.declared.whole.TextPage.{TextPage}
use Rattle.snapshot_format.specs.Judgements.{page_numbers, is_retired, text_left, loaded_pages, load_pages, approved_of}
use Rattle.snapshot_format.specs.ResumedStates.{resumed_hart, resumed_load, resumed_state, timers_of}
use Rattle.laws_resume.specs.Continues.{Alike}
use Rattle.laws_resume.specs.Keepable.{IsKeepable, IsKeepableClock}
use Rattle.laws_resume.specs.SavedResumes.{SavedResumesLaw}
use Rattle.laws_resume.proofs.ResumedPages.{in_first, in_second, in_one, among_loaded, of_module}
use Rattle.laws_simulation.proofs.Lookups.{all_found, approved_alone, number_filtered}
use Rattle.sv_types.proofs.PolicyLimits.{few_harts}

-- ---- harts

place_back : (place : ℕ) → ram_offset (gpa_at place) ≡ place
place_back place = omega arith

reservation_back : (x : Option ℕ) → option_map ram_offset (option_map gpa_at x) ≡ x
reservation_back None = refl
reservation_back (Some place) = ap (λ (n : ℕ). Some n) (place_back place)

software_back : (software : Bool) → (software_bit * flag software == software_bit) ≡ software
software_back true = refl
software_back false = refl

hart_back : (clock : Clock) (h : ℕ) (hart : Hart) → resumed_hart (saved_hart clock h hart) ≡ hart
hart_back clock h hart = rw (reservation_back hart.reservation, software_back hart.supervisor.software) refl

harts_back : (clock : Clock) (h : ℕ) (harts : List Hart) → map resumed_hart (saved_harts clock h harts) ≡ harts
unfolding saved_harts
harts_back clock h [] = refl
harts_back clock h (hart ∷ harts) =
    ap (λ (first : Hart). first ∷ map resumed_hart (saved_harts clock (h + 1) harts)) (hart_back clock h hart)
    ∙ ap (λ (rest : List Hart). hart ∷ rest) (harts_back clock (h + 1) harts)

pub length_saved : (clock : Clock) (h : ℕ) (harts : List Hart) → length (saved_harts clock h harts) ≡ length harts
unfolding saved_harts
length_saved clock h [] = refl
length_saved clock h (hart ∷ harts) = ap suc (length_saved clock (h + 1) harts)

-- ---- timers

index_here : (xs rest : List ℕ) (h t : ℕ) → drop h xs ≡ t ∷ rest → slice_index xs h ≡ t
index_here [] rest zero t e = cc
index_here (x ∷ xs) rest zero t e = cc
index_here [] rest (suc h) t e = cc
index_here (x ∷ xs) rest (suc h) t e = index_here xs rest h t e

drop_next : (xs rest : List ℕ) (h t : ℕ) → drop h xs ≡ t ∷ rest → drop (suc h) xs ≡ rest
drop_next [] rest zero t e = cc
drop_next (x ∷ xs) rest zero t e = cc
drop_next [] rest (suc h) t e = cc
drop_next (x ∷ xs) rest (suc h) t e = drop_next xs rest h t e

all_latest : (rest : List ℕ) → ((k : ℕ) → k < length rest → slice_index rest k ≡ latest) → replicate (length rest) latest ≡ rest
all_latest [] never = refl
all_latest (t ∷ rest) never =
    let first : t ≡ latest = never 0 (omega arith) in
    ap (λ (n : ℕ). n ∷ replicate (length rest) latest) (sym first)
    ∙ ap (λ (more : List ℕ). t ∷ more) (all_latest rest (λ k below. never (suc k) (omega (arith, below))))

abbrev timers_from : Clock → ℕ → List Hart → List ℕ
timers_from clock h harts = map (λ (x : SavedHart). x.timer) (saved_harts clock h harts)

timers_by : (clock : Clock) (h : ℕ) (harts : List Hart) (rest : List ℕ) → drop h clock.timers ≡ rest → length harts ≤ length rest
    → ((k : ℕ) → length harts ≤ k → k < length rest → slice_index rest k ≡ latest)
    → timers_from clock h harts ++ replicate (length rest - length harts) latest ≡ rest
unfolding saved_harts
timers_by clock h [] rest at few never =
    let whole : length rest - 0 ≡ length rest = omega arith in
    ap (λ (n : ℕ). replicate n latest) whole ∙ all_latest rest (λ k below. never k (omega arith) below)
timers_by clock h (hart ∷ harts) [] at few never = absurd (omega (arith, few))
timers_by clock h (hart ∷ harts) (t ∷ rest) at few never =
    let next : drop (h + 1) clock.timers ≡ rest = subst (λ (n : ℕ). drop n clock.timers ≡ rest) (sym (add-one h)) (drop_next clock.timers rest h t at) in
    let left : suc (length rest) - suc (length harts) ≡ length rest - length harts = omega arith in
    ap (λ (n : ℕ). timer_of clock h ∷ (timers_from clock (h + 1) harts ++ replicate n latest)) left
    ∙ ap (λ (n : ℕ). n ∷ (timers_from clock (h + 1) harts ++ replicate (length rest - length harts) latest)) (index_here clock.timers rest h t at)
    ∙ ap (λ (more : List ℕ). t ∷ more)
    (timers_by clock (h + 1) harts rest next (omega (arith, few)) (λ k past below. never (suc k) (omega (arith, past)) (omega (arith, below))))

timers_back : (clock : Clock) (harts : List Hart) → length harts ≤ 4 → IsKeepableClock (length harts) clock → timers_of (saved_harts clock 0 harts) ≡ clock.timers
timers_back clock harts few k =
    let own : 4 - length (saved_harts clock 0 harts) ≡
    length clock.timers - length harts = left (length (saved_harts clock 0 harts)) (length clock.timers) (length harts) (length_saved clock 0 harts) k.four in
    ap (λ (n : ℕ). timers_from clock 0 harts ++ replicate n latest) own
    ∙ timers_by clock 0 harts clock.timers refl (subst (λ (n : ℕ). length harts ≤ n) (sym k.four) few)
    (λ h past below. k.unset h past (subst (λ (n : ℕ). h < n) k.four below))
  where
    left : (a b c : ℕ) → a ≡ c → b ≡ 4 → 4 - a ≡ b - c
    left a b c s t = omega (arith, s, t)

-- ---- the load under way

loading_back : (x : Option Loading) → option_map resumed_load (option_map saved_load x) ≡ x
loading_back None = refl
loading_back (Some load) = refl

pub held_back : (r : State) (x : Option Loading) → IsSoundLoad r.rules r.approved r.loaded r.held x → load_pages r.rules (option_map saved_load x) ≡ r.held
held_back r None k = sym k
held_back r (Some load) k = sym k.pages

-- ---- approved pages

pub same_truth : (a b : Bool) → (a ≡ true → b ≡ true) → (b ≡ true → a ≡ true) → a ≡ b
same_truth true b there back = sym (there refl)
same_truth false true there back = back refl
same_truth false false there back = refl

-- the snapshot of a state
abbrev pub contents_of : State → ℕ → List TextPage → List Protection → PortState → List ℕ → Contents
contents_of r events text protection port disk = record {
  events = events;
  time = r.devices.clock.time;
  harts = saved_harts r.devices.clock 0 r.harts;
  protection = protection;
  text = text;
  modules = r.loaded;
  retired = r.retired;
  loading = option_map saved_load r.loading;
  console = r.devices.console;
  port = port;
  disk = disk;
  counts = r.journal.counts;
  notes = r.journal.notes;
  verdict = r.journal.verdict;
  ram = r.ram;
}

pub left_is : (r : State) (c : Contents) (page : ℕ) → page_numbers c.text ≡ r.text → c.retired ≡ r.retired → has_number (text_left r.rules c) page ≡ is_kernel_text (ownership r) page
left_is r c page text retired =
    number_filtered (λ p. not (is_retired r.rules c.retired p)) (page_numbers c.text) page
    ∙ ap (λ (list : List ℕ). has_number list page && not (is_retired r.rules c.retired page)) text
    ∙ ap (λ (b : Bool). has_number r.text page && not (is_retired r.rules b page)) retired

pub record SameText (r : State) (c : Contents) : Type 0 where
  pub text : page_numbers c.text ≡ r.text
  pub retired : c.retired ≡ r.retired
  pub modules : c.modules ≡ r.loaded

modules_are : (r : State) (c : Contents) (page : ℕ) → SameText r c → has_number (loaded_pages r.rules c.modules) page ≡ has_number (loaded_pages r.rules r.loaded) page
modules_are r c page k = ap (λ ms. has_number (loaded_pages r.rules ms) page) k.modules

pub to_approved : (r : State) (c : Contents) (page : ℕ) → IsSound r → SameText r c → has_number (approved_of r.rules c) page ≡ true → is_approved_in r.approved page ≡ true
to_approved r c page sound k there = elim (in_one (text_left r.rules c) (loaded_pages r.rules c.modules) page there) [
  | inl left ↦ sound.pages.text page (sym (left_is r c page k.text k.retired) ∙ left)
  | inr loaded ↦ let m = of_module r.rules r.loaded page (sym (modules_are r c page k) ∙ loaded) in
      sound.pages.modules m.about page (record { loaded_is = all_found r.loaded m.place m.about sound.ascends m.at; inside = m.inside })
]

pub from_owned : (r : State) (c : Contents) (page : ℕ) → SameText r c → IsOwned (ownership r) page → has_number (approved_of r.rules c) page ≡ true
from_owned r c page k (inl text) = in_first (text_left r.rules c) (loaded_pages r.rules c.modules) page (left_is r c page k.text k.retired ∙ text)
from_owned r c page k (inr of) =
    in_second (text_left r.rules c) (loaded_pages r.rules c.modules) page
    (modules_are r c page k ∙ among_loaded r.rules r.loaded of.0 page of.1.loaded_is of.1.inside)

bytes_by : (r : State) (page : ℕ) (x : Option (List ℕ)) (b : Bool) → IsSound r → approved_bytes r.approved page ≡ x → b ≡ is_some x
    → (if b then Some (page_bytes r.ram page) else None) ≡ x
bytes_by r page None b sound at same = ap (λ (c : Bool). if c then Some (page_bytes r.ram page) else None) same
bytes_by r page (Some bytes) b sound at same =
    ap (λ (c : Bool). if c then Some (page_bytes r.ram page) else None) same ∙ ap (λ (list : List ℕ). Some list) (sound.text.same page bytes at)

approved_back : (r : State) (c : Contents) (page : ℕ) → IsSound r → SameText r c → approved_bytes (approved_pages r.ram (approved_of r.rules c)) page ≡ approved_bytes r.approved page
approved_back r c page sound k =
    approved_alone r.ram (approved_of r.rules c) page
    ∙ bytes_by r page (approved_bytes r.approved page) (has_number (approved_of r.rules c) page) sound refl
    (same_truth (has_number (approved_of r.rules c) page) (is_approved_in r.approved page) (to_approved r c page sound k) (λ e. from_owned r c page k (sound.pages.owned page e)))

-- ---- the whole

state_back : (r : State) (events : ℕ) (text : List TextPage) (protection : List Protection) (port : PortState) (disk : List ℕ) → IsSound r → IsKeepable r → length r.harts ≤ 4
    → page_numbers text ≡ r.text → disk_of port disk ≡ r.devices.disk
    → Alike r.journal.printed r (resumed_state r.rules (contents_of r events text protection port disk))
unfolding resumed_state
state_back r events text protection port disk sound keepable few pages same =
    let clock : IsKeepableClock (length r.harts) r.devices.clock = subst (λ (n : ℕ). IsKeepableClock n r.devices.clock) (sym sound.number) keepable.clock in
    record {
      approved = λ page. approved_back r (contents_of r events text protection port disk) page sound (record { text = pages; retired = refl; modules = refl });
      printed = sym (append-nil r.journal.printed);
      rest = rw (
        harts_back r.devices.clock 0 r.harts,
        held_back r r.loading sound.load,
        loading_back r.loading,
        pages,
        same,
        timers_back r.devices.clock r.harts few clock,
      ) refl;
    }

pub contents_are : (r : State) (s : Snapshot) → IsSaved r s.«machine»
    → contents s ≡ contents_of r s.events s.text.items s.«machine».protection.items s.«machine».port s.«machine».disk.items
contents_are r s k =
    rw (k.harts, k.ram, k.modules, k.retired, k.loading, k.console, k.time, k.counts, k.notes, k.verdict) refl

pub saved_resumes_law : SavedResumesLaw
saved_resumes_law r s sound keepable saved digests =
    subst (λ (c : Contents). Alike r.journal.printed r (resumed_state r.rules c)) (sym (contents_are r s saved))
    (state_back r s.events s.text.items s.«machine».protection.items s.«machine».port s.«machine».disk.items sound keepable
    (subst (λ (n : ℕ). n ≤ 4) (sym sound.number) (few_harts r.rules sound.within)) digests.pages saved.disk)
