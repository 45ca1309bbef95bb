-- What a snapshot that isn't refused gives its parts.
use Rattle.std.proofs.Common.{◌≡◌, ℕ, ◌+◌, ◌*◌, ◌^◌, ◌<◌, ◌≤◌, List, [], ◌∷◌, length, min, ◌∙◌, ap, subst, sym, true, not, ◌&&◌, arith, slice_get}
use Rattle.std.specs.Prelude.{Option, Some, None, IfSome, IsTrue, nat_le}
use Rattle.std.specs.List.{list_all}
use Rattle.std.proofs.lemmas.Bool.Decides.{nat_tests}
use Rattle.std.proofs.lemmas.List.{length-map}
use Rattle.spec_processor.specs.Bytes.{page_of, page_size}
use Rattle.sv_types.specs.Limits.{max_harts, max_modules, max_notes}
use Rattle.sv_types.specs.Policies.{Rules, rules_within}
use Rattle.sv_types.specs.declared.saved.ModulePlacement.{ModulePlacement}
use Rattle.spec_reference.specs.Origins.{AllAbove, Ascends}
use Rattle.spec_reference.specs.States.{pages_in_rule}
use Rattle.spec_reference.specs.declared.saved_machine.harts.SavedHart.{SavedHart}
use Rattle.spec_reference.specs.declared.saved_machine.whole.SavedLoad.{SavedLoad}
use Rattle.snapshot_format.specs.DeviceForms.{devices, kind_of}
use Rattle.snapshot_format.specs.PageForms.{load_under_way}
use Rattle.snapshot_format.specs.Snapshots.{Contents, snapshot}
use Rattle.snapshot_format.proofs.FormLaws.{first_true, second_true}
use Rattle.spec_hardware.specs.StandsFor.{bound_pages}
use Rattle.module_gate.specs.Ascending.{AscendsFrom}
use Rattle.snapshot_format.specs.Judgements.{fits, is_guarded_right, is_loaded, load_fits, resume_refusal}
use Rattle.laws_resume.proofs.FormParts.{max_is, parts_of}
use Rattle.laws_resume.proofs.ResumedHarts.{journal_kept, load_parts_of}
use Rattle.laws_resume.proofs.ResumedPages.{fits_is, modules_parts}
use Rattle.laws_resume.proofs.ResumedSoundHolds.{accepted}
use Rattle.gstage_tables.specs.Layout.{max_bound}
use Rattle.machine.specs.Counting.{IsWithin}
use Rattle.machine.specs.Seating.{CanAllSit}
use Rattle.machine.proofs.Seated.{all_sit}
use Rattle.snapshot_format.proofs.ModuleSites.{of_policy}
use Rattle.sv_types.proofs.PolicyLimits.{bound_few, few_modules}

-- ---- loaded modules

abbrev BeginFrom : ℕ → List ModulePlacement → Type 0
BeginFrom low [] = Unit {0}
BeginFrom low (m ∷ ms) = low ≤ m.id

from_above : (id : ℕ) (ms : List ModulePlacement) → AllAbove id ms → BeginFrom (id + 1) ms
from_above id [] above = tt
from_above id (m ∷ ms) above = let first : id < m.id = above.0 in omega (arith, first)

-- ids of the policy's modules ascend below the limit
ascends_by : (rules : Rules) (low : ℕ) (ms : List ModulePlacement) → length rules.modules ≤ max_modules → list_all (fits rules) ms ≡ true → Ascends ms
    → BeginFrom low ms → low ≤ max_modules → AscendsFrom low ms
ascends_by rules low [] few fit ascends from least = least
ascends_by rules low (m ∷ ms) few fit ascends from least =
    let known : m.id < length rules.modules = (fits_is rules m (first_true (fits rules m) _ fit)).known in (
      from,
      ascends_by rules (m.id + 1) ms few (second_true (fits rules m) _ fit) ascends.1 (from_above m.id ms ascends.0) (omega (arith, known, few)),
    )

from_none : (ms : List ModulePlacement) → BeginFrom 0 ms
from_none [] = tt
from_none (m ∷ ms) = omega arith

-- ---- the load

load_within : (rules : Rules) (hs : List SavedHart) (ms : List ModulePlacement) (x : Option SavedLoad) → load_fits rules ms x ≡ true → (load_under_way hs).has x ≡ true → IfSome x (IsWithin rules)
load_within rules hs ms None fit has = tt
load_within rules hs ms (Some l) fit has =
    let parts = load_parts_of hs l has in
    let two = first_true (fits rules l.«module» && not (is_loaded ms l.«module».id)) _ fit in
    record {
      fits = first_true (fits rules l.«module») _ two;
      gpa = parts.gpa;
      va = parts.goes.aligned;
      left = max_is l.left (pages_in_rule (slice_get rules.modules l.«module».id)) (second_true (fits rules l.«module» && not (is_loaded ms l.«module».id)) _ fit);
    }

-- ---- the whole

pub record Known (rules : Rules) (s : Contents) : Type 0 where
  pub number : length s.harts ≡ rules.harts
  pub size : length s.protection ≡ rules.ram_pages
  pub ram : length s.ram ≡ page_size * rules.ram_pages
  pub fitting : list_all (fits rules) s.modules ≡ true
  pub right : is_guarded_right rules s ≡ true
  pub sits : (tables : ℕ) → tables + page_size * rules.ram_pages < 2 ^ 63 → CanAllSit tables (record { entries = rules.entries; bound = rules.bound }) s.harts
  pub ascends : AscendsFrom 0 s.modules
  pub load : IfSome s.loading (IsWithin rules)
  pub devices : (devices (kind_of s.port)).has (s.console, (s.port, s.disk)) ≡ true
  pub notes : length s.notes ≤ max_notes
  pub harts : length s.harts ≤ max_harts

min_most : (a b n : ℕ) → n ≡ min a b → n ≤ a
min_most a b n e = grind (arith, nat_tests, e)

pub known : (rules : Rules) (s : Contents) → IsTrue (rules_within rules) → snapshot.has s ≡ true → resume_refusal rules s ≡ None → Known rules s
known rules s within has none =
    let a = accepted rules s none in
    let policy = of_policy rules s a.policy in
    let parts = parts_of s has in
    let noted = journal_kept (length s.harts) s.counts.notes s.notes s.verdict parts.notes parts.verdict in
    record {
      number = policy.harts;
      size = policy.pages;
      ram = parts.ram ∙ ap (λ (n : ℕ). page_size * n) policy.pages;
      fitting = policy.modules;
      right = a.guarded;
      sits = λ tables room. all_sit rules tables (length s.protection) s.harts within
          (subst (λ (n : ℕ). tables + page_size * n < 2 ^ 63) (sym policy.pages) room) parts.harts policy.bound;
      ascends = ascends_by rules 0 s.modules (few_modules rules within) policy.modules (modules_parts s.modules parts.modules).ascends (from_none s.modules) (omega arith);
      load = load_within rules s.harts s.modules s.loading policy.load parts.loading;
      devices = parts.devices;
      notes = min_most max_notes s.counts.notes (length s.notes) noted.number;
      harts = max_is (length s.harts) 4 (second_true (nat_le 1 (length s.harts)) _ parts.few);
    }

-- ---- entries

-- one for each that is bound
pub bound_pages_few : (rules : Rules) (pages : List ℕ) → IsTrue (rules_within rules) → pages ≡ bound_pages rules → length pages ≤ max_bound
bound_pages_few rules pages within same =
    let few = bound_few rules within in
    let number : length pages ≡ length rules.bound = ap length same ∙ length-map rules.bound page_of in
    omega (arith, few, number)
