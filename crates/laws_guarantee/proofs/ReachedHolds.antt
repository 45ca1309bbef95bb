-- Each state that a run reaches is what the guarantee is about.
use Rattle.std.proofs.Common.{◌≡◌, ℕ, List, [], inl, inr, sym, ◌∙◌, ap, slice_get}
use Rattle.std.specs.Prelude.{Option, Some, None, ◌==◌}
use Rattle.std.proofs.lemmas.Bool.{eqb-true, cases_Bool}
use Rattle.spec_processor.specs.declared.mode.Mode.{Mode}
use Rattle.spec_processor.specs.declared.mode.Mode.TheVariants.{Kernel, User}
use Rattle.spec_reference.specs.States.{State, Hart, Loading}
use Rattle.laws_simulation.specs.Agree.{IsNotLoading}
use Rattle.laws_simulation.proofs.OthersRest.{same_one}
use Rattle.laws_simulation.proofs.StateLawsHold.{reached_sound, modules_law}
use Rattle.laws_resume.specs.Keepable.{IsKeepableLoad}
use Rattle.laws_resume.proofs.KeepableStarts.{keepable_law}
use Rattle.laws_resume.proofs.ResumedHolds.{resumed_law}
use Rattle.sv_types.specs.declared.event.Event.{Event}
use Rattle.spec_reference.specs.Run.{run}
use Rattle.spec_reference.specs.Soundness.{IsSound}
use Rattle.laws_guarantee.specs.Reached.{HasDigests, ReachedLaw}
use Rattle.laws_guarantee.proofs.Digests.{start_digests}

kept_digests : (s : State) (events : List Event) → IsSound s → HasDigests s → HasDigests (run s events)
kept_digests s events sound k = (k.0, (resumed_law s events sound).digests k.0 k.1)

pub reached_law : ReachedLaw
reached_law s events is_start measured = record {
  sound = reached_sound s events is_start;
  origins = modules_law s events is_start;
  digests = kept_digests s events (reached_sound s [] is_start) (start_digests s measured);
  load = (keepable_law s events is_start).load;
}

-- ---- a load is no hart's in user mode

pub two_modes : (x : Mode) → x ≡ Kernel → x ≡ User → ⊥
two_modes Kernel kernel user = cc
two_modes User kernel user = cc

pub user_unloading : (r : State) (h : ℕ) (hart : Hart) (x : Option Loading) → IsKeepableLoad r.harts x → slice_get r.harts h ≡ Some hart → hart.mode ≡ User
    → IsNotLoading h x
user_unloading r h hart None load found user = tt
user_unloading r h hart (Some load) k found user = elim (cases_Bool (load.hart == h)) [
  | inl its ↦
      let same : k.hart ≡ hart = same_one (slice_get r.harts h) k.hart hart
      (ap (slice_get r.harts) (sym (eqb-true load.hart h its)) ∙ k.found) found in
      absurd (two_modes k.hart.mode k.mode (ap (λ (x : Hart). x.mode) same ∙ user))
  | inr other ↦ other
]
