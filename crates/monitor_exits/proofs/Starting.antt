-- What happens besides an answer starts no hart, where it isn't the answer to a call of a hart's state.
use Rattle.std.proofs.Common.{ℕ, ◌≤◌, Bool, true, false, Option, Some, None, arith}
use Rattle.std.specs.Prelude.{if◌then◌else◌, ◌==◌, is_some, slice_get}
use Rattle.sv_types.specs.Policies.{ModuleRule}
use Rattle.sv_types.specs.declared.module.Span.{Span}
use Rattle.sv_types.specs.declared.saved.ModulePlacement.{ModulePlacement}
use Rattle.spec_reference.specs.States.{find_module}
use Rattle.spec_reference.specs.Calls.{Asked, Facts}
use Rattle.spec_reference.specs.ModuleCalls.{load_call, unload_call, retire_call, module_call, load_decision, good_address}
use Rattle.spec_reference.specs.declared.answers.Answer.{Answer}
use Rattle.spec_reference.specs.declared.answers.SideEffect.{SideEffect}
use Rattle.spec_reference.specs.declared.answers.SideEffect.TheVariants.{Nothing, SetsTimer, Prints, TakesInput, ShutsDown, SendsInterrupts}
use Rattle.spec_reference.specs.declared.answers.SideEffect.TheVariants.{StartsHart, BeginsLoad, RefusesLoad, ApprovesModule}
use Rattle.spec_reference.specs.declared.answers.SideEffect.TheVariants.{ReleasesModule, UnloadsModule, RefusesUnload, RetiresInit}
use Rattle.spec_reference.specs.declared.answers.SideEffect.TheVariants.{RefusesRetire}
use Rattle.monitor_exits.specs.Known.{StartsOneOf}

either : (n : ℕ) (b : Bool) (yes_answer no_answer : Answer) → StartsOneOf n yes_answer.side_effect → StartsOneOf n no_answer.side_effect
    → StartsOneOf n (if b then yes_answer else no_answer).side_effect
either n true yes_answer no_answer first second = first
either n false yes_answer no_answer first second = second

load_starts : (n : ℕ) (f : Facts) (ask : Asked) (rule : Option ModuleRule) → StartsOneOf n (load_call f ask rule).side_effect
unfolding load_call
load_starts n f ask None = tt
load_starts n f ask (Some rule) =
    either n f.loads _ _ tt
    (either n (is_some (find_module f.loaded ask.a0)) _ _ tt
    (either n (good_address f ask.a1 ask.a2 rule.pages) _ _ tt tt))

unload_starts : (n : ℕ) (f : Facts) (id : ℕ) (about : Option ModulePlacement) → StartsOneOf n (unload_call f id about).side_effect
unfolding unload_call
unload_starts n f id None = tt
unload_starts n f id (Some about) = either n f.loads _ _ tt tt

retire_starts : (n : ℕ) (f : Facts) (span : Option Span) → StartsOneOf n (retire_call f span).side_effect
unfolding retire_call
retire_starts n f None = tt
retire_starts n f (Some span) = either n f.retired _ _ tt tt

pub module_starts : (f : Facts) (ask : Asked) (n : ℕ) → StartsOneOf n (module_call f ask).side_effect
unfolding module_call
module_starts f ask n =
    either n (ask.function == 0) _ _ (load_starts n f ask (slice_get f.rules.modules ask.a0))
    (either n (ask.function == 1) _ _ (unload_starts n f ask.a0 (find_module f.loaded ask.a0))
    (either n (ask.function == 2) _ _ (retire_starts n f f.rules.init) tt))

pub decision_starts : (good : Bool) (about : ModulePlacement) (n : ℕ) → StartsOneOf n (load_decision good about).side_effect
decision_starts true about n = tt
decision_starts false about n = tt

-- of fewer harts, also of more
pub fewer : (n m : ℕ) (side_effect : SideEffect) → n ≤ m → StartsOneOf n side_effect → StartsOneOf m side_effect
fewer n m (StartsHart other pc opaque) less below = omega (arith, less, below)
fewer n m Nothing less below = tt
fewer n m (SetsTimer at) less below = tt
fewer n m (Prints value) less below = tt
fewer n m TakesInput less below = tt
fewer n m ShutsDown less below = tt
fewer n m (SendsInterrupts mask base) less below = tt
fewer n m (BeginsLoad about pages) less below = tt
fewer n m (RefusesLoad id code) less below = tt
fewer n m (ApprovesModule about) less below = tt
fewer n m (ReleasesModule about) less below = tt
fewer n m (UnloadsModule about) less below = tt
fewer n m (RefusesUnload id code) less below = tt
fewer n m (RetiresInit span) less below = tt
fewer n m (RefusesRetire code) less below = tt
