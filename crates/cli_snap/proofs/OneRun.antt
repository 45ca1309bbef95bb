-- A run that is broken off and goes on is the whole run.
use Rattle.std.proofs.Common.{◌≡◌, ℕ, zero, suc, ◌≤◌, List, ◌∷◌, drop, take, refl, sym, ◌∙◌, ap, subst, arith, Option, Some, None}
use Rattle.sv_types.specs.Schedule.{Schedule, next_event, after_event, begun_with, first_events}
use Rattle.sv_types.specs.declared.event.Event.{Event}
use Rattle.spec_reference.specs.Run.{run}
use Rattle.spec_reference.specs.States.{State}
use Rattle.spec_reference.specs.SavedStates.{IsSaved}
use Rattle.snapshot_format.specs.Snapshots.{contents}
use Rattle.snapshot_format.specs.ResumedStates.{resumed_state}
use Rattle.laws_resume.specs.Continues.{Continues, draw_count}
use Rattle.laws_resume.specs.SnapLaws.{Boot}
use Rattle.laws_resume.proofs.BootDigests.{IsBoot}
use Rattle.laws_resume.proofs.SnapHolds.{snap_continues_law}
use Rattle.cli_snap.specs.SnapAndResume.{IsOneRun, SnapAndResumeLaw}

begun_take : (next : Option Event) (k : ℕ) (events front : List Event) → take k events ≡ front → take (suc k) (begun_with next events) ≡ begun_with next front
begun_take None k events front same = refl
begun_take (Some event) k events front same = ap (λ (es : List Event). event ∷ es) same

-- the first of the first events are those
first_of_first : (k n : ℕ) (script : Schedule) → k ≤ n → take k (first_events n script) ≡ first_events k script
unfolding first_events
first_of_first zero n script few = refl
first_of_first (suc k) zero script few = absurd (omega (arith, few))
first_of_first (suc k) (suc n) script few =
    begun_take (next_event script) k (first_events n (after_event script)) (first_events k (after_event script)) (first_of_first k n (after_event script) (omega (arith, few)))

one_run : (start resumed : State) (script : Schedule) (k made events : ℕ) (front : List Event) → front ≡ first_events k script → made ≡ draw_count start front
    → front ≡ take k (first_events events script) → Continues start k (first_events events script) resumed → IsOneRun start script k made events resumed
one_run start resumed script k made events front is drawn_is taken continues =
    let draws : made ≡ draw_count start (take k (first_events events script)) = drawn_is ∙ ap (draw_count start) taken in
    let left : drop made (first_events events script) ≡ drop (draw_count start (take k (first_events events script))) (first_events events script)
    = ap (λ (n : ℕ). drop n (first_events events script)) draws in
    let fronts : first_events k script ≡ take k (first_events events script) = sym is ∙ taken in
    record {
      output = rw (fronts, left) continues.output;
      verdict = rw left continues.verdict;
      disk = rw left continues.disk;
    }

pub snap_and_resume_law : (boot : Boot) → IsBoot boot → SnapAndResumeLaw boot
snap_and_resume_law boot b rules file disk script k events s measured few snap =
    let start = boot rules file disk in
    let taken : first_events k script ≡ take k (first_events events script) = sym (first_of_first k events script few) in
    one_run start (resumed_state rules (contents s)) script k s.events events (first_events k script) refl snap.made taken
    (snap_continues_law boot b rules file disk (first_events events script) k s measured (record {
      state = subst (λ (es : List Event). IsSaved (run start es) s.«machine») taken snap.state;
      text = snap.text;
    }))
