-- What an answer that is given may do to pages and modules: a line for each that changes them.
use Rattle.std.proofs.Common.{◌≡◌, ℕ, List, [], length, refl, sym, ◌∙◌, ap, subst, Bool, true, false, not, slice_get, inl, inr}
use Rattle.std.specs.Prelude.{Option, Some, None, option_map, if◌then◌else◌, ◌==◌, nat_le, is_some}
use Rattle.sv_types.specs.Policies.{Rules, ModuleRule}
use Rattle.sv_types.specs.declared.module.Span.{Span}
use Rattle.sv_types.specs.declared.saved.ModulePlacement.{ModulePlacement}
use Rattle.sv_types.specs.declared.protection.Protection.{Protection}
use Rattle.spec_reference.specs.Calls.{Asked, Facts, mask_exists, timer_call, ipi_call, start_other, hart_call, reset_call}
use Rattle.spec_reference.specs.ModuleCalls.{good_address, module_asked, load_call, load_decision, unload_call, retire_call, module_call, call_answer_by}
use Rattle.spec_reference.specs.States.{find_module, has_number}
use Rattle.spec_reference.specs.declared.answers.Answer.{Answer}
use Rattle.spec_reference.specs.declared.answers.SideEffect.{SideEffect}
use Rattle.spec_reference.specs.declared.answers.SideEffect.TheVariants.{BeginsLoad, ApprovesModule, ReleasesModule, UnloadsModule, RetiresInit}
use Rattle.spec_reference.specs.declared.answers.Extension.{Extension}
use Rattle.spec_hardware.specs.GivenAnswers.{IsGiven}
use Rattle.spec_hardware.specs.Machine.{HwLoad}
use Rattle.module_gate.specs.Gates.{is_good_place}
use Rattle.module_gate.specs.Parts.{load_of, loading_of, facts_in}
use Rattle.module_gate.specs.declared.modules.Modules.{Modules}
use Rattle.module_gate.specs.declared.modules.PendingLoad.{PendingLoad}
use Rattle.spec_reference.proofs.LoadedModules.{found_id}

-- a load may begin, as a rule of the policy says
pub record MayBegin (rules : Rules) (ram : List ℕ) (guard : List Protection) (modules : Modules) (about : ModulePlacement) (pages : ℕ) : Type 0 where
  pub rule : ModuleRule
  pub known : slice_get rules.modules about.id ≡ Some rule
  pub number : rule.pages ≡ pages
  pub idle : is_some (loading_of modules) ≡ false
  pub place : is_good_place ram guard about rule.pages ≡ true

-- the load of a module is under way, and all its pages are counted
pub record IsCounted (modules : Modules) (about : ModulePlacement) : Type 0 where
  pub under_way : PendingLoad
  pub there : modules.loading ≡ Some under_way
  pub counted : under_way.load.left ≡ 0
  pub about_it : under_way.load.about ≡ about

module _ (rules : Rules) (ram : List ℕ) (guard : List Protection) (modules : Modules) where
  abbrev pub MayDo : SideEffect → Type 0
  MayDo (BeginsLoad about pages) = MayBegin rules ram guard modules about pages
  MayDo (ApprovesModule about) = IsCounted modules about
  MayDo (ReleasesModule about) = IsCounted modules about
  MayDo (UnloadsModule about) = find_module modules.gate.loaded about.id ≡ Some about
  MayDo (RetiresInit span) = rules.init ≡ Some span
  MayDo _ = Unit {0}

  abbrev May : Answer → Type 0
  May a = MayDo a.side_effect

  choose_may : (b : Bool) (x y : Answer) → May x → May y → May (if b then x else y)
  choose_may true x y s t = s
  choose_may false x y s t = t

  decide_may : (b : Bool) (x y : Answer) → (b ≡ true → May x) → (b ≡ false → May y) → May (if b then x else y)
  decide_may true x y s t = s refl
  decide_may false x y s t = t refl

  module _ (started : List Bool) (input : List ℕ) where
    abbrev facts : Facts
    facts = facts_in started input rules ram guard modules

    timer_may : (ask : Asked) → May (timer_call ask)
    unfolding timer_call
    timer_may ask = choose_may (ask.function == 0) _ _ tt tt

    ipi_may : (ask : Asked) → May (ipi_call facts ask)
    unfolding ipi_call
    ipi_may ask = choose_may (not (ask.function == 0)) _ _ tt (choose_may (mask_exists (length started) ask.a0 ask.a1) _ _ tt tt)

    start_may : (ask : Asked) (x : Option Bool) → May (start_other facts ask x)
    unfolding start_other
    start_may ask None = tt
    start_may ask (Some true) = tt
    start_may ask (Some false) = choose_may (has_number rules.entries ask.a1) _ _ tt tt

    hart_may : (ask : Asked) → May (hart_call facts ask)
    unfolding hart_call
    hart_may ask =
        choose_may (ask.function == 0) _ _ (start_may ask (slice_get started ask.a0))
        (choose_may (ask.function == 1) _ _ tt (choose_may (ask.function == 2) _ _ tt tt))

    reset_may : (ask : Asked) → May (reset_call ask)
    unfolding reset_call
    reset_may ask =
        choose_may (not (ask.function == 0)) _ _ tt (choose_may (ask.a0 == 0) _ _ tt (choose_may (nat_le ask.a0 2) _ _ tt tt))

    none_loaded : (o : Option ModulePlacement) → is_some o ≡ false → o ≡ None
    none_loaded None e = refl
    none_loaded (Some m) e = cc

    place_good : (ask : Asked) (pages : ℕ) → good_address facts ask.a1 ask.a2 pages ≡ true → is_good_place ram guard (module_asked ask) pages ≡ true
    unfolding good_address is_good_place
    place_good ask pages good = good

    load_may : (ask : Asked) (x : Option ModuleRule) → slice_get rules.modules ask.a0 ≡ x → May (load_call facts ask x)
    unfolding load_call
    load_may ask None known = tt
    load_may ask (Some rule) known =
        decide_may (is_some (loading_of modules)) _ _ (λ _. tt)
        (λ idle. choose_may (is_some (find_module modules.gate.loaded ask.a0)) _ _ tt
        (decide_may (good_address facts ask.a1 ask.a2 rule.pages) _ _
        (λ good. record { rule = rule; known = known; number = refl; idle = idle; place = place_good ask rule.pages good }) (λ _. tt)))

    unload_may : (id : ℕ) (x : Option ModulePlacement) → find_module modules.gate.loaded id ≡ x → May (unload_call facts id x)
    unfolding unload_call
    unload_may id None found = tt
    unload_may id (Some m) found =
        choose_may (is_some (loading_of modules)) _ _ tt (subst (λ (i : ℕ). find_module modules.gate.loaded i ≡ Some m) (sym (found_id modules.gate.loaded id m found)) found)

    retire_may : (x : Option Span) → rules.init ≡ x → May (retire_call facts x)
    unfolding retire_call
    retire_may None init = tt
    retire_may (Some span) init = choose_may modules.gate.retired _ _ tt init

    module_may : (ask : Asked) → May (module_call facts ask)
    unfolding module_call
    module_may ask =
        choose_may (ask.function == 0) _ _ (load_may ask (slice_get rules.modules ask.a0) refl)
        (choose_may (ask.function == 1) _ _ (unload_may ask.a0 (find_module modules.gate.loaded ask.a0) refl)
        (choose_may (ask.function == 2) _ _ (retire_may rules.init refl) tt))

    call_may : (ask : Asked) (x : Option Extension) → May (call_answer_by facts ask x)
    unfolding call_answer_by
    call_may ask (Some Extension.Timer) = timer_may ask
    call_may ask (Some Extension.Interrupt) = ipi_may ask
    call_may ask (Some Extension.HartState) = hart_may ask
    call_may ask (Some Extension.Reset) = reset_may ask
    call_may ask (Some Extension.Modules) = module_may ask
    call_may ask _ = tt

  is_counted : (x : Option PendingLoad) (load : HwLoad) → modules.loading ≡ x → option_map (load_of modules.gate) x ≡ Some load → load.left ≡ 0 → IsCounted modules load.about
  is_counted None load e there counted = absurd (cc)
  is_counted (Some u) load e there counted =
      let same : load_of modules.gate u ≡ load = cc in
      record {
        under_way = u;
        there = e;
        counted = ap (λ (l : HwLoad). l.left) same ∙ counted;
        about_it = ap (λ (l : HwLoad). l.about) same;
      }

  decision_may : (good : Bool) (about : ModulePlacement) → IsCounted modules about → May (load_decision good about)
  decision_may true about counted = counted
  decision_may false about counted = counted

  pub may_do : (side_effect : SideEffect) → IsGiven (facts_in [] [] rules ram guard modules) (loading_of modules) side_effect → MayDo side_effect
  may_do side_effect (inl call) = subst MayDo (sym call.same) (call_may call.started call.input call.ask _)
  may_do side_effect (inr load) = subst MayDo (sym load.same) (decision_may _ load.load.about (is_counted modules.loading load.load refl load.there load.counted))
