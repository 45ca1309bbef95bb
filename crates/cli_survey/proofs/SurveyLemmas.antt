-- A survey, its console and the sink.
use Rattle.std.proofs.Common.{◌≡◌, ◌≢◌, ◌⊎◌, ℕ, zero, suc, ◌<◌, List, [], ◌∷◌, ◌++◌, length, take, replicate, refl, sym, ◌∙◌, ap, subst}
use Rattle.std.proofs.Common.{append_assoc, append-nil, arith, slice_get, Some, inl, inr, true, false}
use Rattle.sv_types.specs.declared.event.Event.{Event}
use Rattle.sv_types.specs.declared.event.Note.{Note}
use Rattle.sv_types.specs.declared.event.Rule.TheVariants.{Write}
use Rattle.sv_types.specs.declared.event.Verdict.{Verdict}
use Rattle.sv_types.specs.declared.event.Verdict.TheVariants.{Running, Stopped}
use Rattle.std.specs.Prelude.{Option, None}
use Rattle.spec_reference.specs.Run.{HasEnded, run, step}
use Rattle.spec_reference.specs.Soundness.{IsSound}
use Rattle.spec_reference.specs.Start.{IsStart, flat_start, boot_start, virtio_start, start as begin}
use Rattle.spec_reference.specs.States.{State}
use Rattle.spec_reference.proofs.Runs.{ended_stays}
use Rattle.spec_hardware.specs.Machine.{Machine, HwHart}
use Rattle.spec_hardware.specs.Reaches.{IsNew}
use Rattle.spec_hardware.specs.StandsFor.{StandsFor}
use Rattle.laws_simulation.proofs.StateLawsHold.{reached_sound}
use Rattle.laws_resume.specs.Keepable.{IsKeepable, IsKeepableVerdict}
use Rattle.laws_resume.proofs.KeepableStarts.{keepable_law}
use Rattle.laws_resume.proofs.KeepableSteps.{keeps_law}
use Rattle.laws_simulation.specs.HwPassing.{hw_moved_on, hw_passed_under, hw_passed_over}
use Rattle.laws_simulation.specs.Passing.{passed_over, survey}
use Rattle.laws_simulation.specs.Passes.{Pass, pass_of, passes}
use Rattle.laws_simulation.specs.SurveyLaws.{IsNoWrite}
use Rattle.laws_simulation.proofs.HwPassesHold.{hw_pass_law}
use Rattle.laws_simulation.proofs.PassesHold.{moves_on_law, pass_law}
use Rattle.laws_simulation.proofs.RowsHold.{passes_on_law}
use Rattle.laws_simulation.proofs.SurveysHold.{same_run_law, unpassed}
use Rattle.laws_guarantee.proofs.SurveysKeep.{survey_keeps}
use Rattle.host_io.specs.Outside.{SinkState, after_taking, BreaksOff}
use Rattle.host_io.proofs.SinkLemmas.{after_taking-append, after_taking-nil}
use Rattle.machine.specs.Console.{Flushed}
use Rattle.machine.specs.Standing.{Stands}
use Rattle.machine.proofs.Passes.{pass_rest}
use Rattle.machine.proofs.Standing.{stands_new, stands_away, stands_notes, stands_verdict, verdict_is}
use Rattle.report.specs.Findings.{FoundByNotes, PassedWrites, RefusedLoads, no_loads, no_writes, with_write}
use Rattle.report.specs.Views.{loads_view, writes_view}
use Rattle.report.specs.declared.findings.found.Found.{Found}
use Rattle.report.specs.declared.findings.loads.RefusedLoad.{RefusedLoad}
use Rattle.cli_survey.specs.Advances.{Advances, Ends, IsRowMade, TellsOn}
use Rattle.cli_survey.specs.Noted.{Tells, noted}
use Rattle.cli_survey.specs.Refusals.{loads_in, refusals, refused, with_loads}
use Rattle.cli_survey.specs.Rows.{GoesAsRow}
use Rattle.cli_survey.proofs.NotedLemmas.{none_noted, noted_on}
use Rattle.cli_survey.proofs.LookLemmas.{loads_on, none_after, survey_on}
use Rattle.cli_survey.specs.Surveys.{HasSurveyed, SurveyBroke, SurveyWants, SurveysUp, is_running, occurrence_of, with_passes, writes_in}

-- ---- events after others

passed_on : (w : PassedWrites) (ps qs : List Pass) → with_passes w (ps ++ qs) ≡ with_passes (with_passes w ps) qs
passed_on w [] qs = refl
passed_on w (p ∷ ps) qs = passed_on (with_write w (occurrence_of p)) ps qs

writes_on : (r : State) (front back : List Event) → writes_in r (front ++ back) ≡ with_passes (writes_in r front) (passes (survey r front) back)
writes_on r front back =
    ap (λ (ps : List Pass). with_passes no_writes ps) (passes_on_law r front back) ∙ passed_on no_writes (passes r front) (passes (survey r front) back)

none_running : (v : Verdict) → v ≡ Running → IsNoWrite v
none_running v is = subst IsNoWrite (sym is) tt

-- ---- a pass

pub passed_prints : (r : State) → (passed_over r).journal.printed ≡ r.journal.printed
passed_prints r = ap (λ (x : State). x.journal.printed) (pass_law r).rest

stands_passed : (m : Machine) (cleared : List ℕ) (r : State) → Stands m cleared r → Stands (hw_passed_over m) cleared (passed_over r)
stands_passed m cleared r s = record {
  stands = hw_pass_law m r s.stands;
  away =
      s.away ∙ ap (λ (p : List ℕ). take m.cleared p) (sym (passed_prints r))
      ∙ ap (λ (n : ℕ). take n (passed_over r).journal.printed) (sym (pass_rest m).cleared);
}

moved_counts : (m : Machine) (h : ℕ) (x : Option HwHart) → (hw_moved_on m h x).journal.counts ≡ m.journal.counts
unfolding hw_moved_on
moved_counts m h None = refl
moved_counts m h (Some hw) = refl

moved_notes : (m : Machine) (h : ℕ) (x : Option HwHart) → (hw_moved_on m h x).journal.notes ≡ m.journal.notes
unfolding hw_moved_on
moved_notes m h None = refl
moved_notes m h (Some hw) = refl

under_notes : (v : Verdict) (m : Machine) → (hw_passed_under v m).journal.notes ≡ m.journal.notes
unfolding hw_passed_under
under_notes (Stopped (Write pc gpa) h turn) m = moved_notes m h (slice_get m.harts h)
under_notes _ m = refl

pub pass_notes : (m : Machine) → (hw_passed_over m).journal.notes ≡ m.journal.notes
unfolding hw_passed_over
pass_notes m = under_notes m.journal.verdict m

under_counts : (v : Verdict) (m : Machine) → (hw_passed_under v m).journal.counts ≡ m.journal.counts
unfolding hw_passed_under
under_counts (Stopped (Write pc gpa) h turn) m = moved_counts m h (slice_get m.harts h)
under_counts _ m = refl

pub pass_counts : (m : Machine) → (hw_passed_over m).journal.counts ≡ m.journal.counts
unfolding hw_passed_over
pass_counts m = under_counts m.journal.verdict m

-- a machine that runs is passed over as it is
pub pass_running : (m : Machine) → m.journal.verdict ≡ Running → m ≡ hw_passed_over m
unfolding hw_passed_over hw_passed_under
pass_running m is = sym (ap (λ (v : Verdict). hw_passed_under v m) is)

-- and nothing is kept of it
pub keeps_writes : (w : PassedWrites) (v : Verdict) → v ≡ Running → w ≡ with_passes w (pass_of v)
unfolding pass_of
keeps_writes w v is = sym (ap (λ (x : Verdict). with_passes w (pass_of x)) is)

pub running_is : (v : Verdict) → is_running v ≡ true → v ≡ Running
running_is Running is = refl
running_is _ is = absurd (cc is)

pub not_running : (v : Verdict) → is_running v ≡ false → v ≢ Running
not_running Running is = λ at. cc is
not_running _ is = λ at. cc at

-- ---- after a pass no write stops the machine, since the hart that wrote is there

at_place : {A : Type 0} (xs : List A) (i : ℕ) → i < length xs → (x : A) × (slice_get xs i ≡ Some x)
at_place [] i below = absurd (omega arith)
at_place (x ∷ xs) zero below = (x, refl)
at_place (x ∷ xs) (suc i) below = at_place xs i (omega arith)

same_calm : (r : State) → IsNoWrite r.journal.verdict → IsNoWrite (passed_over r).journal.verdict
same_calm r none = subst (λ (x : State). IsNoWrite x.journal.verdict) (sym (unpassed r none)) none

calm_under : (v : Verdict) (r : State) → r.journal.verdict ≡ v → IsKeepableVerdict r.rules.harts v → length r.harts ≡ r.rules.harts → IsNoWrite (passed_over r).journal.verdict
calm_under (Stopped (Write pc gpa) h turn) r is k number =
    let there = at_place r.harts h (subst (λ (n : ℕ). h < n) (sym number) k.0) in
    none_running (passed_over r).journal.verdict (moves_on_law r pc gpa h turn there.0 is there.1).running
calm_under _ r is k number = same_calm r (subst IsNoWrite (sym is) tt)

calm_after : (r : State) → IsKeepable r → IsSound r → IsNoWrite (passed_over r).journal.verdict
calm_after r k s = calm_under r.journal.verdict r refl k.journal.last s.number

-- ---- the survey so far

-- the survey goes on: so far the machine has been surveyed over some of the events, and the others are left
record SurveysOn (start : State) (all left : List Event) (m : Machine) (found : Found) (old new : SinkState) : Type 0 where
  pub done : List Event
  pub split : done ++ left ≡ all
  pub surveyed : HasSurveyed start done m found old new
  pub calm : IsNoWrite (survey start done).journal.verdict

start_runs : (s : State) → IsStart s → s.journal.verdict ≡ Running
unfolding flat_start boot_start virtio_start begin
start_runs s (inl k) = ap (λ (x : State). x.journal.verdict) k.same
start_runs s (inr (inl k)) = ap (λ (x : State). x.journal.verdict) k.same
start_runs s (inr (inr k)) = ap (λ (x : State). x.journal.verdict) k.same

start_notes : (s : State) → IsStart s → s.journal.notes ≡ []
unfolding flat_start boot_start virtio_start begin
start_notes s (inl k) = ap (λ (x : State). x.journal.notes) k.same
start_notes s (inr (inl k)) = ap (λ (x : State). x.journal.notes) k.same
start_notes s (inr (inr k)) = ap (λ (x : State). x.journal.notes) k.same

pub new_notes : (m : Machine) (s : State) → IsNew m s → IsStart s → m.journal.notes ≡ []
new_notes m s new is_start = stands_notes m s [] (stands_new m s new) ∙ start_notes s is_start

pub new_runs : (m : Machine) (s : State) → IsNew m s → IsStart s → m.journal.verdict ≡ Running
new_runs m s new is_start = verdict_is m s new.stands ∙ start_runs s is_start

-- nothing of it is kept where no write stopped the machine
none_of : (v : Verdict) → IsNoWrite v → pass_of v ≡ []
unfolding pass_of
none_of (Stopped (Write pc gpa) h turn) none = absurd none
none_of _ none = refl

pub surveys_none : (start : State) (all left : List Event) (m : Machine) (w : Found) (sink : SinkState) → left ≡ all → IsNew m start → IsStart start → writes_view w.writes ≡
    no_writes → loads_view w.loads ≡ no_loads → w.noted ≡ None → SurveysUp start all left m w sink sink
surveys_none start all left m w sink same new is_start none unrefused unnoted =
    let calm : IsNoWrite start.journal.verdict = none_running start.journal.verdict (start_runs start is_start) in
    record {
      done = [];
      split = same;
      before = start;
      passed = sym (unpassed start calm);
      cleared = [];
      stands = stands_new m start new;
      writes_are = ap (λ (ps : List Pass). with_passes (writes_view w.writes) ps) (none_of start.journal.verdict calm) ∙ none;
      loads_are = unrefused;
      told = subst (λ (found : Option FoundByNotes). Tells found m.journal.notes []) (sym unnoted)
          (new_notes m start new is_start);
      taken = sym (after_taking-nil sink);
      calm = calm;
    }

-- the sink is told how far the survey has come
pub surveys_told : (start : State) (all left : List Event) (m : Machine) (w : Found) (old now new : SinkState) → SurveysUp start all left m w old now → new ≡ now →
    SurveysUp start all left m w old new
surveys_told start all left m w old now new up same = subst (λ (k : SinkState). SurveysUp start all left m w old k) (sym same) up

-- and more events are drawn
pub surveys_drawn : (start : State) (all left drawn : List Event) (m : Machine) (w : Found) (old now new : SinkState) → SurveysUp start all left m w old now → drawn ≡ left →
    new ≡ now → SurveysUp start all drawn m w old new
surveys_drawn start all left drawn m w old now new up events same =
    subst (λ (es : List Event). SurveysUp start all es m w old new) (sym events) (surveys_told start all left m w old now new up same)

split_by : (all done left rest row : List Event) → left ≡ row ++ rest → done ++ left ≡ all → (done ++ row) ++ rest ≡ all
split_by all done left rest row parts split = append_assoc done row rest ∙ ap (λ (events : List Event). done ++ events) (sym parts) ∙ split

-- ---- a pass is made

stands_passing : (start : State) (all left : List Event) (m passed : Machine) (w : Found) (old new : SinkState) → (up : SurveysUp start all left m w old new) → passed ≡ hw_passed_over m →
    Stands passed up.cleared (survey start up.done)
stands_passing start all left m passed w old new up is =
    subst (λ (x : Machine). Stands x up.cleared (survey start up.done)) (sym is)
    (subst (λ (x : State). Stands (hw_passed_over m) up.cleared x) (sym up.passed) (stands_passed m up.cleared up.before up.stands))

surveys_passed : (start : State) (all left : List Event) (m passed : Machine) (w after : Found) (old new : SinkState) → SurveysUp start all left m w old new →
    passed ≡ hw_passed_over m → writes_view after.writes ≡ with_passes (writes_view w.writes) (pass_of m.journal.verdict) → loads_view after.loads ≡ loads_view w.loads →
    after.noted ≡ w.noted → SurveysOn start all left passed after old new
surveys_passed start all left m passed w after old new up is kept same noted_same = record {
  done = up.done;
  split = up.split;
  surveyed = record {
    cleared = up.cleared;
    stands = stands_passing start all left m passed w old new up is;
    writes_are = kept ∙ ap (λ (v : Verdict). with_passes (writes_view w.writes) (pass_of v)) (verdict_is m up.before up.stands.stands) ∙ up.writes_are;
    loads_are = same ∙ up.loads_are;
    told = subst (λ (found : Option FoundByNotes). Tells found passed.journal.notes (noted start up.done)) (sym noted_same)
        (subst (λ (notes : List Note). Tells w.noted notes (noted start up.done)) (sym (ap (λ (x : Machine). x.journal.notes) is ∙ pass_notes m)) up.told);
    taken = up.taken;
  };
  calm = up.calm;
}

-- memory may run out while it is kept
pub surveys_want : (start : State) (all left : List Event) (m passed : Machine) (w : Found) (old new : SinkState) → SurveysUp start all left m w old new → passed ≡ hw_passed_over m →
    SurveyWants start all passed old new
surveys_want start all left m passed w old new up is = record {
  among = record {
    done = up.done;
    left = left;
    split = up.split;
    cleared = up.cleared;
    stands = stands_passing start all left m passed w old new up is;
  };
  taken = up.taken;
}

-- ---- a row of events is made

-- what a row of events comes to
record HasMoved (start : State) (all rest : List Event) (next : Machine) (done : List Event) (cleared : List ℕ) (n : ℕ) (e : Event) : Type 0 where
  split : (done ++ replicate n e) ++ rest ≡ all
  before : Stands next cleared (run (survey start done) (replicate n e))
  row : passes (survey start done) (replicate n e) ≡ pass_of (run (survey start done) (replicate n e)).journal.verdict
  reached : survey start (done ++ replicate n e) ≡ passed_over (run (survey start done) (replicate n e))

moved : (n : ℕ) (start : State) (all left rest : List Event) (m next : Machine) (w : Found) (e : Event) (old now : SinkState) →
    (on : SurveysOn start all left m w old now) → left ≡ replicate n e ++ rest → IsRowMade m e n next → HasMoved start all rest next on.done on.surveyed.cleared n e
moved n start all left rest m next w e old now on parts made =
    let r : State = survey start on.done in
    let row : List Event = replicate n e in
    let it : GoesAsRow r n e = made.row r on.surveyed.stands.stands in
    record {
      split = split_by all on.done left rest row parts on.split;
      before = made.stands r on.surveyed.cleared on.surveyed.stands;
      row = it.passed;
      reached = survey_on start on.done row ∙ it.state;
    }

surveys_more : (n : ℕ) (start : State) (all left rest : List Event) (m next : Machine) (w after : Found) (e : Event) (old now : SinkState) → IsStart start →
    SurveysOn start all left m w old now → left ≡ replicate n e ++ rest → IsRowMade m e n next → TellsOn m e n next w.noted after.noted →
    writes_view after.writes ≡ writes_view w.writes → ((r : State) → StandsFor m r → loads_view after.loads ≡ with_loads (loads_view w.loads) (refusals r e)) →
    SurveysUp start all rest next after old now
surveys_more n start all left rest m next w after e old now is_start on parts made told kept added =
    let r : State = survey start on.done in
    let row : List Event = replicate n e in
    let it : HasMoved start all rest next on.done on.surveyed.cleared n e = moved n start all left rest m next w e old now on parts made in
    let first : IsSound start = reached_sound start [] is_start in
    let keeps : IsKeepable r = survey_keeps start on.done (keepable_law start [] is_start) first in
    record {
      done = on.done ++ row;
      split = it.split;
      before = run r row;
      passed = it.reached;
      cleared = on.surveyed.cleared;
      stands = it.before;
      writes_are =
          ap (λ (x : PassedWrites). with_passes x (pass_of (run r row).journal.verdict)) (kept ∙ on.surveyed.writes_are)
          ∙ ap (λ (ps : List Pass). with_passes (writes_in start on.done) ps) (sym it.row)
          ∙ sym (writes_on start on.done row);
      loads_are =
          added r on.surveyed.stands.stands
          ∙ ap (λ (l : RefusedLoads). with_loads l (refusals r e)) on.surveyed.loads_are
          ∙ ap (λ (xs : List RefusedLoad). with_loads (loads_in start on.done) xs) (sym (made.refuses r on.surveyed.stands.stands))
          ∙ sym (loads_on start on.done row);
      told = subst (λ (notes : List Note). Tells after.noted next.journal.notes notes) (sym (noted_on start on.done row))
          (told r (noted start on.done) on.surveyed.stands.stands on.surveyed.told);
      taken = on.surveyed.taken;
      calm =
          subst (λ (x : State). IsNoWrite x.journal.verdict) (sym it.reached)
          (calm_after (run r row) (keeps_law r row on.surveyed.stands.stands.sound keeps) it.before.stands.sound);
    }

-- ---- the console is written

pub surveys_break : (start : State) (all left : List Event) (m passed : Machine) (w : Found) (old now new : SinkState) → SurveysUp start all left m w old now → passed ≡ hw_passed_over m →
    BreaksOff now new m.journal.printed → SurveyBroke start all passed old new
surveys_break start all left m passed w old now new up is broke =
    let want : SurveyWants start all passed old now = surveys_want start all left m passed w old now up is in
    let printed : m.journal.printed ≡ passed.journal.printed = sym (ap (λ (x : Machine). x.journal.printed) is ∙ (pass_rest m).printed) in
    record {
      among = want.among;
      broke = subst (λ (k : SinkState). BreaksOff k new passed.journal.printed) want.taken (subst (λ (p : List ℕ). BreaksOff now new p) printed broke);
    }

pub surveys_flush : (start : State) (all left : List Event) (m flushed : Machine) (w : Found) (old now new : SinkState) → SurveysUp start all left m w old now → Flushed m flushed now new →
    SurveysUp start all left flushed w old new
surveys_flush start all left m flushed w old now new up f = record {
  done = up.done;
  split = up.split;
  before = up.before;
  passed = up.passed;
  cleared = up.cleared ++ f.cleared;
  stands = stands_away m flushed up.before up.cleared f.cleared up.stands f.away;
  writes_are = up.writes_are;
  loads_are = up.loads_are;
  told = subst (λ (notes : List Note). Tells w.noted notes (noted start up.done)) (sym (ap (λ (x : Machine). x.journal.notes) f.away.cleared.same)) up.told;
  taken = f.taken ∙ ap (λ (s : SinkState). after_taking s f.cleared) up.taken ∙ after_taking-append old up.cleared f.cleared;
  calm = up.calm;
}

-- ---- the end

has_ended : (v : Verdict) → v ≢ Running → HasEnded v
has_ended Running ended = absurd (ended refl)
has_ended _ ended = tt

nothing_after : (r : State) (left : List Event) → HasEnded r.journal.verdict → IsNoWrite r.journal.verdict → passes r left ≡ []
nothing_after r [] ended none = refl
nothing_after r (e ∷ left) ended none =
    let same : step r e ≡ r = ended_stays r (e ∷ []) ended in
    ap (λ (x : State). pass_of x.journal.verdict ++ passes (passed_over x) left) same
    ∙ ap (λ (ps : List Pass). ps ++ passes (passed_over r) left) (none_of r.journal.verdict none)
    ∙ ap (λ (x : State). passes x left) (unpassed r none)
    ∙ nothing_after r left ended none

same_after : (r : State) (left : List Event) → HasEnded r.journal.verdict → IsNoWrite r.journal.verdict → survey r left ≡ r
same_after r left ended none =
    let same : run r left ≡ r = ended_stays r left ended in
    same_run_law r left (subst (λ (x : State). IsNoWrite x.journal.verdict) (sym same) none) ∙ same

-- the machine has ended: a survey of what is left changes nothing
surveys_ended : (start : State) (all left : List Event) (m : Machine) (w : Found) (old new : SinkState) → SurveysOn start all left m w old new → m.journal.verdict ≢ Running →
    HasSurveyed start all m w old new
surveys_ended start all left m w old new on ended =
    let r : State = survey start on.done in
    let over : HasEnded r.journal.verdict = has_ended r.journal.verdict (λ is. ended (stands_verdict m r on.surveyed.cleared on.surveyed.stands ∙ is)) in
    let same : r ≡ survey start (on.done ++ left) = sym (same_after r left over on.calm) ∙ sym (survey_on start on.done left) in
    let none : with_passes (writes_in start on.done) (passes r left) ≡ writes_in start on.done =
    ap (λ (ps : List Pass). with_passes (writes_in start on.done) ps) (nothing_after r left over on.calm) in
    let unrefused : with_loads (loads_in start on.done) (refused r left) ≡ loads_in start on.done =
    ap (λ (xs : List RefusedLoad). with_loads (loads_in start on.done) xs) (none_after r left over on.calm) in
    subst (λ (es : List Event). HasSurveyed start es m w old new) on.split (record {
      cleared = on.surveyed.cleared;
      stands = subst (λ (x : State). Stands m on.surveyed.cleared x) same on.surveyed.stands;
      writes_are = on.surveyed.writes_are ∙ sym none ∙ sym (writes_on start on.done left);
      loads_are = on.surveyed.loads_are ∙ sym unrefused ∙ sym (loads_on start on.done left);
      told = subst (λ (notes : List Note). Tells w.noted m.journal.notes notes)
          (sym (append-nil (noted start on.done)) ∙ ap (λ (rest : List Note). noted start on.done ++ rest) (sym (none_noted left r over on.calm))
          ∙ sym (noted_on start on.done left)) on.surveyed.told;
      taken = on.surveyed.taken;
    })

-- none is left
surveys_all : (start : State) (all left : List Event) (m : Machine) (w : Found) (old new : SinkState) → SurveysOn start all left m w old new → left ≡ [] →
    HasSurveyed start all m w old new
surveys_all start all left m w old new on none =
    subst (λ (es : List Event). HasSurveyed start es m w old new) (sym (append-nil on.done) ∙ ap (λ (es : List Event). on.done ++ es) (sym none) ∙ on.split) on.surveyed

-- ---- the events of a loop

-- what was kept before an event
abbrev kept_before : Found → Found → Found
kept_before w after = record { writes = after.writes; loads = w.loads; noted = w.noted }

-- a row of events is made
pub surveys_on : (n : ℕ) (start : State) (all left rest : List Event) (m next : Machine) (w after : Found) (e : Event) (old now : SinkState) → IsStart start →
    SurveysUp start all left m w old now → left ≡ replicate n e ++ rest → Advances m w e n next after → SurveysUp start all rest next after old now
surveys_on n start all left rest m next w after e old now is_start up parts a =
    surveys_more n start all left rest a.ready next (kept_before w after) after e old now is_start
    (surveys_passed start all left m a.ready w (kept_before w after) old now up a.passed.passed a.passed.kept refl refl) parts a.made a.told refl a.looked

over_by : (none : Type 0) (start : State) (all left : List Event) (m : Machine) (w : Found) (old now : SinkState) → SurveysOn start all left m w old now →
    (is_running m.journal.verdict ≡ false) ⊎ none → (none → left ≡ []) → HasSurveyed start all m w old now
over_by none start all left m w old now on (inl stopped) last = surveys_ended start all left m w old now on (not_running m.journal.verdict stopped)
over_by none start all left m w old now on (inr end) last = surveys_all start all left m w old now on (last end)

-- the machine has ended, or none is left
pub surveys_over : (none : Type 0) (start : State) (all left : List Event) (m ready : Machine) (w after : Found) (old now : SinkState) → SurveysUp start all left m w old now →
    Ends none m w ready after → (none → left ≡ []) → HasSurveyed start all ready after old now
surveys_over none start all left m ready w after old now up e last =
    over_by none start all left ready after old now (surveys_passed start all left m ready w after old now up e.passed.passed e.passed.kept e.same e.noted) e.over last
