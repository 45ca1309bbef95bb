-- What an answer may do, one line for each answer that changes other harts or pages: a hart that begins was stopped, and
-- begins at a permitted entry; pages change as the state of a module allows.
use Rattle.std.proofs.Common.{◌≡◌, ℕ, length, refl, sym, subst, Bool, true, false, not, slice_get}
use Rattle.std.specs.Prelude.{Option, Some, None, if◌then◌else◌, ◌==◌, nat_le, is_some}
use Rattle.sv_types.specs.Policies.{ModuleRule}
use Rattle.sv_types.specs.declared.module.Span.{Span}
use Rattle.sv_types.specs.declared.saved.ModulePlacement.{ModulePlacement}
use Rattle.spec_processor.specs.declared.mode.Mode.TheVariants.{Kernel}
use Rattle.spec_reference.specs.States.{State, Hart, Loading, has_number, find_module}
use Rattle.spec_reference.specs.Calls.{Asked, facts_of, mask_exists, timer_call, ipi_call, start_other, hart_call, reset_call}
use Rattle.spec_reference.specs.Loads.{is_good_load}
use Rattle.spec_reference.specs.ModuleCalls.{good_address, load_call, load_decision, unload_call, retire_call, module_call, call_answer_by}
use Rattle.spec_reference.specs.Soundness.{IsSound, HoldsModule}
use Rattle.spec_reference.specs.declared.answers.Answer.{Answer}
use Rattle.spec_reference.specs.declared.answers.SideEffect.{SideEffect}
use Rattle.spec_reference.specs.declared.answers.SideEffect.TheVariants.{StartsHart, BeginsLoad, ApprovesModule, ReleasesModule, UnloadsModule, RetiresInit}
use Rattle.spec_reference.specs.declared.answers.Extension.{Extension}
use Rattle.spec_reference.specs.declared.answers.Reply.{Reply}
use Rattle.spec_reference.specs.declared.answers.Reply.TheVariants.{Stops}
use Rattle.laws_simulation.proofs.Lookups.{none_there}
use Rattle.laws_simulation.proofs.ModulesSound.{IsGoodAddress, address_good}
use Rattle.spec_reference.proofs.LoadedModules.{found_id}

-- a load may begin, as a rule of the policy says
pub record MayBegin (r : State) (m : ModulePlacement) (pages : ℕ) : Type 0 where
  pub rule : ModuleRule
  pub known : slice_get r.rules.modules m.id ≡ Some rule
  pub number : rule.pages ≡ pages
  pub idle : r.loading ≡ None
  pub other : find_module r.loaded m.id ≡ None
  pub good : IsSound r → IsGoodAddress r m.gpa rule.pages

-- the load of a module is under way
pub record MayEnd (r : State) (m : ModulePlacement) : Type 0 where
  pub load : Loading
  pub about : load.about ≡ m
  pub holds : HoldsModule r.rules r.approved r.loaded r.held load

abbrev pub MayHaveSideEffect : State → SideEffect → Type 0
MayHaveSideEffect r (StartsHart other pc opaque) = (slice_get (facts_of r).started other ≡ Some false) × (has_number r.rules.entries pc ≡ true)
MayHaveSideEffect r (BeginsLoad m pages) = MayBegin r m pages
MayHaveSideEffect r (ApprovesModule m) = MayEnd r m × (is_good_load r.rules r.ram m (slice_get r.rules.modules m.id) ≡ true)
MayHaveSideEffect r (ReleasesModule m) = MayEnd r m
MayHaveSideEffect r (UnloadsModule m) = find_module r.loaded m.id ≡ Some m
MayHaveSideEffect r (RetiresInit span) = (r.rules.init ≡ Some span) × (r.retired ≡ false)
MayHaveSideEffect r _ = Unit {0}

-- only kernel mode stops its hart
abbrev pub MayReply : Hart → Reply → Type 0
MayReply hart Stops = hart.mode ≡ Kernel
MayReply hart _ = Unit {0}

pub reply_may : (hart : Hart) (reply : Reply) → hart.mode ≡ Kernel → MayReply hart reply
reply_may hart Stops kernel = kernel
reply_may hart _ kernel = tt

abbrev pub May : State → Answer → Type 0
May r a = MayHaveSideEffect r a.side_effect

choose_may : (r : State) (b : Bool) (x y : Answer) → May r x → May r y → May r (if b then x else y)
choose_may r true x y s t = s
choose_may r false x y s t = t

decide_may : (r : State) (b : Bool) (x y : Answer) → (b ≡ true → May r x) → (b ≡ false → May r y) → May r (if b then x else y)
decide_may r true x y s t = s refl
decide_may r false x y s t = t refl

timer_may : (r : State) (ask : Asked) → May r (timer_call ask)
unfolding timer_call
timer_may r ask = choose_may r (ask.function == 0) _ _ tt tt

ipi_may : (r : State) (ask : Asked) → May r (ipi_call (facts_of r) ask)
unfolding ipi_call
ipi_may r ask = choose_may r (not (ask.function == 0)) _ _ tt (choose_may r (mask_exists (length (facts_of r).started) ask.a0 ask.a1) _ _ tt tt)

start_may : (r : State) (ask : Asked) (x : Option Bool) → slice_get (facts_of r).started ask.a0 ≡ x → May r (start_other (facts_of r) ask x)
unfolding start_other
start_may r ask None e = tt
start_may r ask (Some true) e = tt
start_may r ask (Some false) e = decide_may r (has_number r.rules.entries ask.a1) _ _ (λ entry. (e, entry)) (λ _. tt)

hart_may : (r : State) (ask : Asked) → May r (hart_call (facts_of r) ask)
unfolding hart_call
hart_may r ask =
    choose_may r (ask.function == 0) _ _ (start_may r ask (slice_get (facts_of r).started ask.a0) refl)
    (choose_may r (ask.function == 1) _ _ tt (choose_may r (ask.function == 2) _ _ tt tt))

reset_may : (r : State) (ask : Asked) → May r (reset_call ask)
unfolding reset_call
reset_may r ask =
    choose_may r (not (ask.function == 0)) _ _ tt (choose_may r (ask.a0 == 0) _ _ tt (choose_may r (nat_le ask.a0 2) _ _ tt tt))

-- ---- modules

load_may : (r : State) (ask : Asked) (x : Option ModuleRule) → slice_get r.rules.modules ask.a0 ≡ x → May r (load_call (facts_of r) ask x)
unfolding load_call
load_may r ask None known = tt
load_may r ask (Some rule) known =
    decide_may r (is_some r.loading) _ _ (λ _. tt)
    (λ idle. decide_may r (is_some (find_module r.loaded ask.a0)) _ _ (λ _. tt)
    (λ other. decide_may r (good_address (facts_of r) ask.a1 ask.a2 rule.pages) _ _
    (λ good. record {
      rule = rule;
      known = known;
      number = refl;
      idle = none_there r.loading idle;
      other = none_there (find_module r.loaded ask.a0) other;
      good = λ s. address_good r ask.a1 ask.a2 rule.pages s.size good;
    }) (λ _. tt)))

unload_may : (r : State) (id : ℕ) (x : Option ModulePlacement) → find_module r.loaded id ≡ x → May r (unload_call (facts_of r) id x)
unfolding unload_call
unload_may r id None found = tt
unload_may r id (Some m) found =
    decide_may r (is_some r.loading) _ _ (λ _. tt) (λ _. subst (λ (i : ℕ). find_module r.loaded i ≡ Some m) (sym (found_id r.loaded id m found)) found)

retire_may : (r : State) (x : Option Span) → r.rules.init ≡ x → May r (retire_call (facts_of r) x)
unfolding retire_call
retire_may r None init = tt
retire_may r (Some span) init = decide_may r r.retired _ _ (λ _. tt) (λ before. (init, before))

module_may : (r : State) (ask : Asked) → May r (module_call (facts_of r) ask)
unfolding module_call
module_may r ask =
    choose_may r (ask.function == 0) _ _ (load_may r ask (slice_get r.rules.modules ask.a0) refl)
    (choose_may r (ask.function == 1) _ _ (unload_may r ask.a0 (find_module r.loaded ask.a0) refl)
    (choose_may r (ask.function == 2) _ _ (retire_may r r.rules.init refl) tt))

-- the decision of a load
pub decision_may : (r : State) (load : Loading) (good : Bool) → HoldsModule r.rules r.approved r.loaded r.held load
    → is_good_load r.rules r.ram load.about (slice_get r.rules.modules load.about.id) ≡ good → May r (load_decision good load.about)
decision_may r load true k good = (record { load = load; about = refl; holds = k }, good)
decision_may r load false k good = record { load = load; about = refl; holds = k }

-- ---- all calls

pub answer_may : (r : State) (ask : Asked) (x : Option Extension) → May r (call_answer_by (facts_of r) ask x)
unfolding call_answer_by
answer_may r ask (Some Extension.Timer) = timer_may r ask
answer_may r ask (Some Extension.Interrupt) = ipi_may r ask
answer_may r ask (Some Extension.HartState) = hart_may r ask
answer_may r ask (Some Extension.Reset) = reset_may r ask
answer_may r ask (Some Extension.Modules) = module_may r ask
answer_may r ask _ = tt
