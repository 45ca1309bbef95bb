-- A machine determines the state that it stands for.
use Rattle.std.proofs.Common.{◌≡◌, ℕ, ◌+◌, ◌-◌, ◌*◌, ◌/◌, ◌<◌, inl, inr, List, [], ◌∷◌, map, drop, length, refl, sym, ◌∙◌, ap, subst, Bool, true, false, ◌==◌, not, arith, slice_get}
use Rattle.std.specs.Prelude.{Option, Some, None, option_map, is_some}
use Rattle.std.proofs.lemmas.Bool.{cases_Bool, false_from_ne_true}
use Rattle.sv_types.specs.ApprovedPages.{approved_bytes}
use Rattle.spec_processor.specs.Bits.{flag}
use Rattle.spec_processor.specs.Bytes.{page_bytes}
use Rattle.spec_processor.specs.HypervisorRegisters.{HypervisorRegisters, virtual_software_bit}
use Rattle.sv_types.specs.Policies.{Rules, ModuleRule}
use Rattle.sv_types.specs.declared.saved.ModulePlacement.{ModulePlacement}
use Rattle.sv_types.specs.declared.protection.Protection.{Protection}
use Rattle.sv_types.specs.declared.protection.Protection.TheVariants.{Approved}
use Rattle.spec_reference.specs.Origins.{IsOwned, IsPageOf, is_kernel_text, ownership}
use Rattle.spec_reference.specs.Soundness.{IsSound, IsSoundLoad}
use Rattle.spec_reference.specs.States.{State, Hart, Loading, has_number, is_approved_in, module_pages, protection_in, protection_by, protections_of}
use Rattle.spec_hardware.specs.Machine.{Machine, HwHart, HwLoad}
use Rattle.spec_hardware.specs.StandsFor.{Unseen, IsRightFor, machine_of, hw_hart, hw_harts, load_kept, load_kept_by}
use Rattle.laws_simulation.proofs.Lookups.{both, none_there}
use Rattle.laws_resume.specs.Laws.{AreSame, DeterminesLaw}
use Rattle.laws_resume.proofs.Standings.{listed}
use Rattle.laws_resume.proofs.Loads.{approved_is}
use Rattle.spec_hardware.proofs.Privileges.{same_mode}

-- ---- harts

-- the hart of the reference machine that a hart of the hardware stands for
hart_after : ℕ → HwHart → Hart
hart_after t hw = record {
  started = hw.started;
  mode = hw.core.hregs.mode;
  pc = hw.core.pc;
  registers = hw.core.registers;
  supervisor = record {
    sstatus = hw.core.csrs.vsstatus;
    sie = hw.core.csrs.hie / 2;
    stvec = hw.core.csrs.vstvec;
    scounteren = hw.core.csrs.scounteren;
    sscratch = hw.core.csrs.vsscratch;
    sepc = hw.core.csrs.vsepc;
    scause = hw.core.csrs.vscause;
    stval = hw.core.csrs.vstval;
    satp = hw.core.csrs.vsatp;
    software = not (hw.core.csrs.hvip == 0);
  };
  reservation = option_map (λ place. place - t) hw.core.reservation;
  entry = hw.entry;
}

half : (n : ℕ) → 2 * n / 2 ≡ n
half n = omega arith

software_is : (b : Bool) → not (virtual_software_bit * flag b == 0) ≡ b
software_is true = refl
software_is false = refl

reservation_is : (t : ℕ) (x : Option ℕ) → option_map (λ place. place - t) (option_map (λ place. t + place) x) ≡ x
reservation_is t None = refl
reservation_is t (Some place) = ap Some (omega arith)

after_is : (t : ℕ) (exits : HypervisorRegisters) (hart : Hart) → hart_after t (hw_hart t exits hart) ≡ hart
unfolding hart_after
after_is t exits hart =
    rw (same_mode hart.mode hart.entry, half hart.supervisor.sie, software_is hart.supervisor.software, reservation_is t hart.reservation) refl

all_after : (t : ℕ) (exits : List HypervisorRegisters) (harts : List Hart) → length exits ≡ length harts → map (hart_after t) (hw_harts t exits harts) ≡ harts
unfolding hw_harts
all_after t [] [] size = refl
all_after t [] (y ∷ harts) size = cc
all_after t (x ∷ exits) [] size = cc
all_after t (x ∷ exits) (y ∷ harts) size =
    ap (λ (z : Hart). z ∷ map (hart_after t) (hw_harts t exits harts)) (after_is t x y) ∙ ap (◌∷◌ y) (all_after t exits harts (cc))

-- ---- a load under way

load_after : HwLoad → Loading
load_after load = record { hart = load.hart; about = load.about; left = load.left }

kept_after : (rules : Rules) (ram : List ℕ) (load : Loading) (rule : Option ModuleRule) → load_after (load_kept_by rules ram load rule) ≡ load
unfolding load_after load_kept_by
kept_after rules ram load None = refl
kept_after rules ram load (Some rule) = refl

loading_after : (rules : Rules) (ram : List ℕ) (x : Option Loading) → option_map load_after (option_map (load_kept rules ram) x) ≡ x
loading_after rules ram None = refl
loading_after rules ram (Some load) = ap Some (kept_after rules ram load (slice_get rules.modules load.about.id))

held_same : (r s : State) (x : Option Loading) → IsSoundLoad r.rules r.approved r.loaded r.held x → IsSoundLoad s.rules s.approved s.loaded s.held x
    → r.rules ≡ s.rules → r.held ≡ s.held
held_same r s None p q rules = p ∙ sym q
held_same r s (Some load) p q rules = p.pages ∙ ap (λ (x : Rules). module_pages x load.about) rules ∙ sym q.pages

-- ---- approved pages

by_approved : (b held : Bool) → protection_by b held ≡ Approved → b ≡ true
unfolding protection_by
by_approved true held e = refl
by_approved false true e = absurd (cc)
by_approved false false e = absurd (cc)

approved_too : (r s : State) (page : ℕ) → IsSound r → protections_of r ≡ protections_of s → r.rules ≡ s.rules → is_approved_in r.approved page ≡ true
    → is_approved_in s.approved page ≡ true
unfolding protection_in
approved_too r s page sound lists rules e =
    let below : page < r.rules.ram_pages = sound.pages.inside page e in
    let there : page < s.rules.ram_pages = subst (λ (x : Rules). page < x.ram_pages) rules below in
    let both_are : Some (protection_in r.approved r.held page) ≡ Some (protection_in s.approved s.held page) =
    sym (listed r page below) ∙ ap (λ (list : List Protection). slice_get list page) lists ∙ listed s page there in
    let same : protection_in r.approved r.held page ≡ protection_in s.approved s.held page = cc in
    by_approved (is_approved_in s.approved page) (has_number s.held page) (sym same ∙ approved_is r page e)

bytes_by : (x : Option (List ℕ)) (bytes : List ℕ) → is_some x ≡ true → ((other : List ℕ) → x ≡ Some other → bytes ≡ other) → x ≡ Some bytes
bytes_by None bytes e same = absurd (cc)
bytes_by (Some other) bytes e same = ap Some (sym (same other refl))

bytes_in : (r : State) (page : ℕ) → IsSound r → is_approved_in r.approved page ≡ true → approved_bytes r.approved page ≡ Some (page_bytes r.ram page)
bytes_in r page sound e = bytes_by (approved_bytes r.approved page) (page_bytes r.ram page) e (λ other found. sound.text.same page other found)

approved_same : (r s : State) (page : ℕ) → IsSound r → IsSound s → protections_of r ≡ protections_of s → r.rules ≡ s.rules → r.ram ≡ s.ram
    → approved_bytes r.approved page ≡ approved_bytes s.approved page
approved_same r s page first second lists rules ram = elim (cases_Bool (is_approved_in r.approved page)) [
  | inl yes_it_is ↦ bytes_in r page first yes_it_is ∙ ap (λ (x : List ℕ). Some (page_bytes x page)) ram
      ∙ sym (bytes_in s page second (approved_too r s page first lists rules yes_it_is))
  | inr not_it ↦ none_there (approved_bytes r.approved page) not_it ∙ sym (none_there (approved_bytes s.approved page)
      (false_from_ne_true (is_approved_in s.approved page) (λ e. both (is_approved_in r.approved page) (approved_too s r page second (sym lists) (sym rules) e) not_it)))
]

-- ---- the kernel's text

-- what is the kernel's text in one state is approved in the other, and no module's there
text_too : (r s : State) (page : ℕ) → IsSound r → IsSound s → protections_of r ≡ protections_of s → r.rules ≡ s.rules → r.loaded ≡ s.loaded
    → is_kernel_text (ownership r) page ≡ true → is_kernel_text (ownership s) page ≡ true
text_too r s page first second lists rules loaded e =
    by_owner (second.pages.owned page (approved_too r s page first lists rules (first.pages.text page e)))
  where
    by_owner : IsOwned (ownership s) page → is_kernel_text (ownership s) page ≡ true
    by_owner (inl text) = text
    by_owner (inr of) = absurd (both (is_kernel_text (ownership r) page) e (first.pages.no_text of.0 page
        (subst (λ (x : Rules). IsPageOf x r.loaded of.0 page) (sym rules)
        (subst (λ (list : List ModulePlacement). IsPageOf s.rules list of.0 page) (sym loaded) of.1))))

text_same : (r s : State) (page : ℕ) → IsSound r → IsSound s → protections_of r ≡ protections_of s → r.rules ≡ s.rules → r.loaded ≡ s.loaded
    → is_kernel_text (ownership r) page ≡ is_kernel_text (ownership s) page
text_same r s page first second lists rules loaded = elim (cases_Bool (is_kernel_text (ownership r) page)) [
  | inl text ↦ text ∙ sym (text_too r s page first second lists rules loaded text)
  | inr other ↦ other ∙ sym (false_from_ne_true (is_kernel_text (ownership s) page)
      (λ e. both (is_kernel_text (ownership r) page) (text_too s r page second first (sym lists) (sym rules) (sym loaded) e) other))
]

-- ---- the law

harts_same : (o p : Unseen) (r s : State) → length o.exits ≡ length r.harts → length p.exits ≡ length s.harts → o.tables ≡ p.tables
    → hw_harts (length o.tables) o.exits r.harts ≡ hw_harts (length p.tables) p.exits s.harts → r.harts ≡ s.harts
harts_same o p r s first second tables e =
    sym (all_after (length o.tables) o.exits r.harts first)
    ∙ ap (map (hart_after (length o.tables))) e
    ∙ ap (λ (list : List ℕ). map (hart_after (length list)) (hw_harts (length p.tables) p.exits s.harts)) tables
    ∙ all_after (length p.tables) p.exits s.harts second

loading_same : (r s : State) → r.rules ≡ s.rules → r.ram ≡ s.ram → option_map (load_kept r.rules r.ram) r.loading ≡ option_map (load_kept s.rules s.ram) s.loading
    → r.loading ≡ s.loading
loading_same r s rules ram e =
    sym (loading_after r.rules r.ram r.loading) ∙ ap (option_map load_after) e ∙ loading_after s.rules s.ram s.loading

same_by : (o p : Unseen) (r s : State) → IsRightFor o r → IsRightFor p s → IsSound r → IsSound s → machine_of o r ≡ machine_of p s
    → AreSame o.cleared r s
unfolding machine_of
same_by o p r s right_o right_p first second e =
    let rules : r.rules ≡ s.rules = ap (λ (m : Machine). m.rules) e in
    let tables : o.tables ≡ p.tables = ap (λ (m : Machine). m.region.tables) e in
    let ram : r.ram ≡ s.ram = ap (λ (m : Machine). m.region.ram) e in
    let lists : protections_of r ≡ protections_of s = ap (λ (m : Machine). m.protections) e in
    let loaded : r.loaded ≡ s.loaded = ap (λ (m : Machine). m.loaded) e in
    let loading : r.loading ≡ s.loading = loading_same r s rules ram (ap (λ (m : Machine). m.loading) e) in
    let cleared : o.cleared ≡ p.cleared = ap (λ (m : Machine). m.cleared) e in
    record {
      rules = rules;
      harts = harts_same o p r s right_o.exits right_p.exits tables (ap (λ (m : Machine). m.harts) e);
      ram = ram;
      approved = λ page. approved_same r s page first second lists rules ram;
      held = held_same r s s.loading (subst (IsSoundLoad r.rules r.approved r.loaded r.held) loading first.load) second.load rules;
      loaded = loaded;
      loading = loading;
      retired = ap (λ (m : Machine). m.retired) e;
      text = λ page. text_same r s page first second lists rules loaded;
      devices = ap (λ (m : Machine). m.devices) e;
      notes = ap (λ (m : Machine). m.journal.notes) e;
      counts = ap (λ (m : Machine). m.journal.counts) e;
      verdict = ap (λ (m : Machine). m.journal.verdict) e;
      printed = ap (λ (m : Machine). m.journal.printed) e ∙ ap (λ (n : ℕ). drop n s.journal.printed) (sym cleared);
    }

pub determines : DeterminesLaw
unfolding machine_of
determines m r s one two =
    let cleared : m.cleared ≡ one.unseen.cleared = ap (λ (x : Machine). x.cleared) one.same in
    subst (λ (n : ℕ). AreSame n r s) (sym cleared)
    (same_by one.unseen two.unseen r s one.unseen_is_right two.unseen_is_right one.sound two.sound (sym one.same ∙ two.same))
