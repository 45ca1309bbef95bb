-- From what is ready of `snap` to what is answered.
use Rattle.std.proofs.Common.{◌≡◌, ℕ, List, [], ◌∷◌, IsTrue, refl, sym, subst, Option, Some, Result, Ok, Err, inr}
use Rattle.sv_types.specs.declared.event.Event.{Event}
use Rattle.sv_types.specs.declared.status.Status.{Status}
use Rattle.spec_reference.specs.States.{State}
use Rattle.spec_hardware.specs.Machine.{Machine}
use Rattle.host_io.specs.Outside.{FilesState, SinkState, MaySaveUnder}
use Rattle.secvisor_cli.specs.Answers.{Outside, outside, AfterTry}
use Rattle.cli_plans.specs.Plans.{run_plan, snap_plan}
use Rattle.cli_plans.specs.Reading.{MayFollow}
use Rattle.cli_plans.specs.declared.refusal.Refusal.{Refusal}
use Rattle.host_io.specs.declared.trouble.Trouble.{Trouble}
use Rattle.host_io.specs.declared.trouble.Trouble.TheVariants.{Write, Memory}
use Rattle.cli_plans.proofs.PlanLemmas.{may_follow}
use Rattle.cli_snap.specs.SnapAnswers.{TriesAndSnaps, PerformsRun, PerformsSnap}
use Rattle.cli_snap.specs.SnapReady.{out_of}
use Rattle.cli_plans.specs.CommandLine.{SnapWords, snap_judged}

pub may_under : (name : List ℕ) (f0 f1 : FilesState) → f1.permits_save ≡ f0.permits_save → MaySaveUnder name f0 → MaySaveUnder name f1
may_under name f0 f1 same may bytes = subst (λ (permits : List (List ℕ × List ℕ) → _). IsTrue (permits ((name, bytes) ∷ []))) (sym same) (may bytes)

-- a try in vain ends the answer
pub vain_snaps : (start : State) (events : List Event) (name : List ℕ) (f0 f1 : FilesState) (sink : SinkState) (bench : Option Machine) (trouble : Trouble) →
    AfterTry (Some name) f0 f1 (Err trouble) → TriesAndSnaps start events name (outside f0 sink bench) (outside f1 sink bench) (Err trouble)
vain_snaps start events name f0 f1 sink bench Write it = inr (record { files = it; sink = refl; bench = refl }, refl)
vain_snaps start events name f0 f1 sink bench Memory it = absurd it

-- ---- the words

pub name_may : (words : Result SnapWords Refusal) (value : SnapWords) (files : FilesState) → words ≡ Ok value → MaySaveUnder (out_of words) files → MaySaveUnder value.out files
name_may words value files is may = subst (λ (j : Result SnapWords Refusal). MaySaveUnder (out_of j) files) is may

pub words_performed : (words : Result SnapWords Refusal) (value : SnapWords) (old new : Outside) (result : Result Status Trouble) → words ≡ Ok value →
    PerformsRun (run_plan value.run) value.out old new result → PerformsSnap words old new result
words_performed words value old new result is it =
    subst (λ (j : Result SnapWords Refusal). PerformsSnap j old new result) (sym is)
    (record { reached = it.reached; read = it.read; follows = inr it.follows; answers = it.answers })

-- where all names may be asked for and saved under
pub snap_follows : (words : List (List ℕ)) (files : FilesState) → ((asked : List (List ℕ × ℕ)) → IsTrue (files.permits asked)) →
    ((saves : List (List ℕ × List ℕ)) → IsTrue (files.permits_save saves)) → MayFollow (snap_plan (snap_judged words)) files
snap_follows words files all saves = may_follow (snap_plan (snap_judged words)) files all saves
