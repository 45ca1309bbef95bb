-- What is seen of a load under way is that of the state that the machine stands for.
use Rattle.std.proofs.Common.{◌≡◌, ℕ, ◌+◌, ◌-◌, ◌*◌, ◌/◌, ◌%◌, ◌≤◌, List, length, refl, sym, ◌∙◌, ap, subst, Bool, arith, slice_get}
use Rattle.std.specs.Prelude.{Option, Some, None, option_map, is_some}
use Rattle.std.specs.Str.{bytes_eq}
use Rattle.spec_processor.specs.Bytes.{page_size, ram_offset}
use Rattle.sv_types.specs.Measure.{measure, page_digests, joined_digests}
use Rattle.sv_types.specs.Policies.{Rules, ModuleRule}
use Rattle.laws_processor.proofs.ByteLemmas.{length_part}
use Rattle.spec_reference.specs.Loads.{module_text, is_as_measured}
use Rattle.spec_reference.specs.Relocations.{masked_text}
use Rattle.spec_reference.specs.SavedStates.{saved_load}
use Rattle.spec_reference.specs.Soundness.{IsSound, IsSoundLoad, HoldsModule}
use Rattle.spec_reference.specs.States.{State, Loading, pages_in_rule}
use Rattle.spec_hardware.specs.Machine.{Machine, HwLoad}
use Rattle.spec_hardware.specs.StandsFor.{StandsFor, Unseen, machine_of, load_kept, load_kept_by, kept_digests}
use Rattle.laws_simulation.proofs.SitesInPages.{AllLieIn, length_masked, rule_lies}
use Rattle.machine.specs.Keeping.{kept_load}
use Rattle.machine.specs.Measured.{hw_is_measured, measures}
use Rattle.machine.proofs.Kept.{loading_kept}

-- ---- the parts of a machine that stands for a state

rules_of_state : (o : Unseen) (r : State) → (machine_of o r).rules ≡ r.rules
unfolding machine_of
rules_of_state o r = refl

pub rules_seen : (m : Machine) (r : State) → StandsFor m r → m.rules ≡ r.rules
rules_seen m r stands = ap (λ (x : Machine). x.rules) stands.same ∙ rules_of_state stands.unseen r

loading_of_state : (o : Unseen) (r : State) → (machine_of o r).loading ≡ option_map (load_kept r.rules r.ram) r.loading
unfolding machine_of
loading_of_state o r = refl

loading_seen : (m : Machine) (r : State) → StandsFor m r → m.loading ≡ option_map (load_kept r.rules r.ram) r.loading
loading_seen m r stands = ap (λ (x : Machine). x.loading) stands.same ∙ loading_of_state stands.unseen r

pub load_seen : (m : Machine) (r : State) → StandsFor m r → option_map kept_load m.loading ≡ option_map saved_load r.loading
load_seen m r stands = ap (option_map kept_load) (loading_seen m r stands) ∙ loading_kept r.rules r.ram r.loading

some_kept : (rules : Rules) (ram : List ℕ) (x : Option Loading) → option_map (load_kept rules ram) x ≡ None → x ≡ None
some_kept rules ram None is = refl
some_kept rules ram (Some load) is = absurd (cc)

-- where the machine has no load under way the state has none
pub none_seen : (m : Machine) (r : State) → StandsFor m r → m.loading ≡ None → r.loading ≡ None
none_seen m r stands none = some_kept r.rules r.ram r.loading (sym (loading_seen m r stands) ∙ none)

-- ---- the text of a load

-- a load under way, of which all pages are counted, with the policy's rule
pub record IsCounted (r : State) (load : Loading) (rule : ModuleRule) : Type 0 where
  pub sound : IsSound r
  pub under_way : r.loading ≡ Some load
  pub known : slice_get r.rules.modules load.about.id ≡ Some rule

holds : (r : State) (load : Loading) (rule : ModuleRule) → IsCounted r load rule → HoldsModule r.rules r.approved r.loaded r.held load
holds r load rule k = subst (IsSoundLoad r.rules r.approved r.loaded r.held) k.under_way k.sound.load

pub text_inside : (r : State) (load : Loading) (rule : ModuleRule) → IsCounted r load rule → ram_offset load.about.gpa + page_size * rule.pages ≤ length r.ram
text_inside r load rule k =
    let inside : ram_offset load.about.gpa + page_size * rule.pages ≤ page_size * r.rules.ram_pages =
    subst (λ (n : ℕ). ram_offset load.about.gpa + page_size * n ≤ page_size * r.rules.ram_pages) (ap pages_in_rule k.known) (holds r load rule k).inside in
    rw k.sound.size inside

pub text_size : (r : State) (load : Loading) (rule : ModuleRule) → IsCounted r load rule → length (module_text r.ram load.about rule.pages) ≡ page_size * rule.pages
text_size r load rule k = length_part r.ram (ram_offset load.about.gpa) (page_size * rule.pages) (text_inside r load rule k)

pub text_lies : (r : State) (load : Loading) (rule : ModuleRule) → IsCounted r load rule → AllLieIn (page_size * rule.pages) rule.sites
text_lies r load rule k = rule_lies r.rules load.about.id rule k.sound.within k.known

-- ---- its measure

measured_same : (text : List ℕ) (pages : ℕ) (rule : ModuleRule) → length (masked_text text rule.sites) ≡ page_size * pages
    → measure (masked_text text rule.sites) ≡ joined_digests (page_digests pages (masked_text text rule.sites))
unfolding measure
measured_same text pages rule size =
    let n : length (masked_text text rule.sites) / page_size ≡ pages = omega arith in
    ap (λ (k : ℕ). joined_digests (page_digests k (masked_text text rule.sites))) n

counted_all : (pages : ℕ) (load : Loading) → load.left ≡ 0 → pages - load.left ≡ pages
counted_all pages load none = omega arith

measured_by : (r : State) (load : Loading) (rule : ModuleRule) → IsCounted r load rule → load.left ≡ 0
    → measures (kept_digests rule (module_text r.ram load.about rule.pages) (rule.pages - load.left)) (Some rule)
    ≡ is_as_measured rule (module_text r.ram load.about rule.pages)
unfolding measures is_as_measured kept_digests
measured_by r load rule k none =
    let text : List ℕ = module_text r.ram load.about rule.pages in
    let all : AllLieIn (length text) rule.sites = subst (λ (n : ℕ). AllLieIn n rule.sites) (sym (text_size r load rule k)) (text_lies r load rule k) in
    let size : length (masked_text text rule.sites) ≡ page_size * rule.pages = length_masked text rule.sites all ∙ text_size r load rule k in
    ap (λ (n : ℕ). bytes_eq (joined_digests (page_digests n (masked_text text rule.sites))) rule.measure) (counted_all rule.pages load none)
    ∙ ap (λ (digest : List ℕ). bytes_eq digest rule.measure) (sym (measured_same text rule.pages rule size))

measured_of_rule : (rules : Rules) (ram : List ℕ) (load : Loading) (rule : ModuleRule) → slice_get rules.modules load.about.id ≡ Some rule
    → hw_is_measured rules (Some (load_kept_by rules ram load (Some rule)))
    ≡ measures (kept_digests rule (module_text ram load.about rule.pages) (rule.pages - load.left)) (Some rule)
unfolding hw_is_measured load_kept_by
measured_of_rule rules ram load rule known =
    ap (λ (x : Option ModuleRule). measures (kept_digests rule (module_text ram load.about rule.pages) (rule.pages - load.left)) x) known

pub measured_seen : (m : Machine) (r : State) (load : Loading) (rule : ModuleRule) → StandsFor m r → r.loading ≡ Some load → load.left ≡ 0
    → slice_get r.rules.modules load.about.id ≡ Some rule → hw_is_measured m.rules m.loading ≡ is_as_measured rule (module_text r.ram load.about rule.pages)
measured_seen m r load rule stands under none known =
    ap (λ (rules : Rules). hw_is_measured rules m.loading) (rules_seen m r stands)
    ∙ ap (λ (x : Option HwLoad). hw_is_measured r.rules x) (loading_seen m r stands ∙ ap (option_map (load_kept r.rules r.ram)) under)
    ∙ ap (λ (x : Option ModuleRule). hw_is_measured r.rules (Some (load_kept_by r.rules r.ram load x))) known
    ∙ measured_of_rule r.rules r.ram load rule known
    ∙ measured_by r load rule (record { sound = stands.sound; under_way = under; known = known }) none
