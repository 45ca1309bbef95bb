-- From what is ready of `live` to what is answered.
use Rattle.std.proofs.Common.{◌≡◌, ℕ, List, ◌∷◌, [], IsTrue, refl, sym, subst, Option, Some, Result, Err, inr}
use Rattle.sv_types.specs.declared.event.Event.{Event}
use Rattle.sv_types.specs.declared.status.Status.{Status}
use Rattle.spec_reference.specs.States.{State}
use Rattle.spec_hardware.specs.Machine.{Machine}
use Rattle.host_io.specs.Outside.{FilesState, SinkState, MaySaveUnder}
use Rattle.live_keys.specs.Keys.{KeysState}
use Rattle.host_io.specs.declared.trouble.Trouble.{Trouble}
use Rattle.host_io.specs.declared.trouble.Trouble.TheVariants.{Write, Memory}
use Rattle.cli_plans.specs.Plans.{live_plan}
use Rattle.secvisor_cli.specs.Answers.{AfterTry}
use Rattle.cli_plans.specs.Reading.{MayFollow}
use Rattle.cli_plans.proofs.PlanLemmas.{may_follow}
use Rattle.cli_plans.specs.CommandLine.{live_judged}
use Rattle.cli_live.specs.LiveAnswers.{LiveOutside, live_outside, TriesAndRuns}

pub may_under : (name other : List ℕ) (f0 f1 : FilesState) → f1.permits_save ≡ f0.permits_save → other ≡ name → MaySaveUnder name f0 → MaySaveUnder other f1
may_under name other f0 f1 same is may text =
    subst (λ (permits : List (List ℕ × List ℕ) → _). IsTrue (permits ((other, text) ∷ []))) (sym same)
    (subst (λ (n : List ℕ). IsTrue (f0.permits_save ((n, text) ∷ []))) (sym is) (may text))

pub named_runs : (start : State) (asked : List Event) (name other : List ℕ) (old new : LiveOutside) (result : Result Status Trouble) → other ≡ name →
    TriesAndRuns start asked other old new result → TriesAndRuns start asked name old new result
named_runs start asked name other old new result is runs = subst (λ (n : List ℕ). TriesAndRuns start asked n old new result) is runs

-- a try in vain ends the answer
pub vain_lives : (start : State) (asked : List Event) (name : List ℕ) (f0 f1 : FilesState) (sink : SinkState) (keys : KeysState) (bench : Option Machine) (trouble : Trouble) →
    AfterTry (Some name) f0 f1 (Err trouble) → TriesAndRuns start asked name (live_outside f0 sink keys bench) (live_outside f1 sink keys bench) (Err trouble)
vain_lives start asked name f0 f1 sink keys bench Write it = inr (record { files = it; sink = refl; bench = refl }, refl, refl)
vain_lives start asked name f0 f1 sink keys bench Memory it = absurd it

-- where all names may be asked for and saved under
pub live_follows : (words : List (List ℕ)) (files : FilesState) → ((asked : List (List ℕ × ℕ)) → IsTrue (files.permits asked)) →
    ((saves : List (List ℕ × List ℕ)) → IsTrue (files.permits_save saves)) → MayFollow (live_plan (live_judged words)) files
live_follows words files all saves = may_follow (live_plan (live_judged words)) files all saves
