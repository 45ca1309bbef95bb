-- The end of a survey: the rest of the console, the lines of what was found, and the report.
use Rattle.std.proofs.Common.{◌≡◌, ◌<◌, ℕ, List, [], ◌∷◌, ◌++◌, refl, sym, ◌∙◌, ap, subst, append_assoc, append-nil, IsTrue, Result, Ok, Err, OnOk}
use Rattle.spec_processor.specs.Counters.{CanCount}
use Rattle.sv_types.specs.declared.event.Event.{Event}
use Rattle.sv_types.specs.declared.event.Verdict.{Verdict}
use Rattle.sv_types.specs.declared.status.Status.{Status}
use Rattle.spec_reference.specs.Report.{report}
use Rattle.spec_reference.specs.Run.{step}
use Rattle.spec_reference.specs.States.{State}
use Rattle.spec_hardware.specs.Machine.{Machine}
use Rattle.spec_hardware.specs.StandsFor.{StandsFor, machine_of}
use Rattle.laws_simulation.specs.Passing.{survey_step, survey}
use Rattle.host_io.specs.Outside.{SinkState, after_taking, BreaksOff, MayWrite}
use Rattle.host_io.proofs.SinkLemmas.{after_taking-append, breaks_after, prefix_after, prefix_of_front, prefix_same, prefix_whole}
use Rattle.host_io.specs.declared.trouble.Trouble.{Trouble}
use Rattle.host_io.specs.declared.trouble.Trouble.TheVariants.{Write, Memory}
use Rattle.machine.proofs.Standing.{prints_after, stands_printed, stands_verdict}
use Rattle.secvisor_cli.specs.Answers.{Writes, is_answer}
use Rattle.secvisor_cli.proofs.EndLemmas.{broken_writes, run_is_answer}
use Rattle.report.specs.Findings.{FoundByNotes, PassedWrites, RefusedLoads}
use Rattle.report.specs.Lines.{found_lines}
use Rattle.elf64_load.specs.Names.{names_in}
use Rattle.sv_types.specs.Kernel.{kernel_segments}
use Rattle.report.specs.Views.{loads_view, writes_view}
use Rattle.sv_types.specs.Policies.{ModuleRule, Rules}
use Rattle.machine.proofs.Loadings.{rules_seen}
use Rattle.cli_survey.specs.Noted.{noted}
use Rattle.cli_survey.specs.Refusals.{loads_in}
use Rattle.report.specs.declared.findings.found.Found.{Found as Passed}
use Rattle.cli_survey.specs.Surveys.{HasSurveyed, StandsAmong, SurveyBroke, SurveyWants, Surveyed, writes_in}
use Rattle.cli_survey.specs.SurveyAnswers.{SurveysTo, bytes_due, ending_of, lines_of, lines_found, lines_due, set_apart, status_due, survey_status}
use Rattle.cli_survey.proofs.LookLemmas.{survey_on}
use Rattle.cli_survey.proofs.RowLemmas.{told_view}
use Rattle.cli_survey.proofs.SurveyLemmas.{passed_prints}

-- ---- two writes, one after the other

pub two_written : (due status : Status) (a b first second : List ℕ) (old mid new : SinkState) → a ≡ first → b ≡ second → mid ≡ after_taking old a → new ≡ after_taking mid b →
    status ≡ due → IsTrue (is_answer status) → Writes due (first ++ second) old new (Ok status)
two_written due status a b first second old mid new a_is b_is one two is good =
    let all : new ≡ after_taking old (first ++ second) =
    two ∙ ap (λ (k : SinkState). after_taking k b) one ∙ after_taking-append old a b
    ∙ ap (λ (x : List ℕ). after_taking old (x ++ b)) a_is ∙ ap (λ (x : List ℕ). after_taking old (first ++ x)) b_is in
    record {
      status = is;
      proper = good;
      whole = all;
      prefix = prefix_whole old new (first ++ second) all;
      write = λ e. absurd (cc e);
      memory = λ e. absurd (cc e);
    }

pub two_broken : (due : Status) (a b first second : List ℕ) (old mid new : SinkState) → a ≡ first → b ≡ second → mid ≡ after_taking old a → BreaksOff mid new b →
    Writes due (first ++ second) old new (Err Write)
two_broken due a b first second old mid new a_is b_is one broke =
    let whole : a ++ b ≡ first ++ second = ap (λ (x : List ℕ). x ++ b) a_is ∙ ap (λ (x : List ℕ). first ++ x) b_is in
    broken_writes due (first ++ second) old new (prefix_same old new (a ++ b) (first ++ second) whole (prefix_after old mid new a b one broke.prefix)) (breaks_after old mid new a b one broke).faults

pub survey_is_answer : (lines : List ℕ) (v : Verdict) → IsTrue (is_answer (survey_status lines v))
survey_is_answer [] v = run_is_answer v
survey_is_answer (byte ∷ lines) v = refl

-- ---- the console only grows

grows : (r : State) (es : List Event) → (more : List ℕ) × ((survey r es).journal.printed ≡ r.journal.printed ++ more)
grows r [] = ([], sym (append-nil r.journal.printed))
grows r (e ∷ es) =
    let one = prints_after r e in
    let rest = grows (survey_step r e) es in
    let same : (survey_step r e).journal.printed ≡ r.journal.printed ++ one.0 = passed_prints (step r e) ∙ one.1 in
    (one.0 ++ rest.0, rest.1 ∙ ap (λ (p : List ℕ). p ++ rest.0) same ∙ append_assoc r.journal.printed one.0 rest.0)

-- what was printed after some of the events stands at the front of all that is due
printed_front : (file : List ℕ) (start : State) (done left events : List Event) → done ++ left ≡ events →
    (rest : List ℕ) × ((survey start done).journal.printed ++ rest ≡ bytes_due file start events)
printed_front file start done left events split =
    let grown = grows (survey start done) left in
    let after : List ℕ = ending_of file (writes_in start events) (loads_in start events) (noted start events) (survey start events) in
    let all : (survey start done).journal.printed ++ grown.0 ≡ (survey start events).journal.printed =
    sym grown.1 ∙ ap (λ (s : State). s.journal.printed) (sym (survey_on start done left)) ∙ ap (λ (es : List Event). (survey start es).journal.printed) split in
    (grown.0 ++ after, sym (append_assoc (survey start done).journal.printed grown.0 after) ∙ ap (λ (p : List ℕ). p ++ after) all)

-- ---- a survey that failed

among_printed : (file : List ℕ) (start : State) (events : List Event) (m : Machine) (a : StandsAmong start events m) →
    (rest : List ℕ) × ((a.cleared ++ m.journal.printed) ++ rest ≡ bytes_due file start events)
among_printed file start events m a =
    let front = printed_front file start a.done a.left events a.split in
    (front.0, ap (λ (p : List ℕ). p ++ front.0) (stands_printed m (survey start a.done) a.cleared a.stands) ∙ front.1)

broke_writes : (file : List ℕ) (start : State) (events : List Event) (m : Machine) (old new : SinkState) → SurveyBroke start events m old new →
    Writes (status_due file start events) (bytes_due file start events) old new (Err Write)
broke_writes file start events m old new b =
    let front = among_printed file start events m b.among in
    broken_writes (status_due file start events) (bytes_due file start events) old new
    (prefix_same old new _ _ front.1
    (prefix_of_front old new (b.among.cleared ++ m.journal.printed) front.0 (prefix_after old (after_taking old b.among.cleared) new b.among.cleared m.journal.printed refl b.broke.prefix)))
    b.broke.faults

wants_writes : (file : List ℕ) (start : State) (events : List Event) (m : Machine) (old new : SinkState) → SurveyWants start events m old new →
    Writes (status_due file start events) (bytes_due file start events) old new (Err Memory)
wants_writes file start events m old new b =
    let front = among_printed file start events m b.among in
    record {
      status = tt;
      proper = tt;
      whole = tt;
      prefix =
          prefix_same old new _ _ front.1
          (prefix_of_front old new (b.among.cleared ++ m.journal.printed) front.0 (prefix_of_front old new b.among.cleared m.journal.printed (prefix_whole old new b.among.cleared b.taken)));
      write = λ e. absurd (cc e);
      memory = λ _. ap (λ (k : SinkState). k.faults) b.taken;
    }

pub survey_failed : (file : List ℕ) (start : State) (events : List Event) (m : Machine) (w : Passed) (old new : SinkState) (trouble : Trouble) →
    Surveyed start events m w old new (Err trouble) → SurveysTo file start events m old new (Err trouble)
survey_failed file start events m w old new Write b = record { writes = broke_writes file start events m old new b; among = b.among; all = tt }
survey_failed file start events m w old new Memory b = record { writes = wants_writes file start events m old new b; among = b.among; all = tt }

-- ---- a whole survey

pub may_write : (start : State) (events : List Event) (m : Machine) (w : Passed) (old new : SinkState) → HasSurveyed start events m w old new → MayWrite old → MayWrite new
may_write start events m w old new s may = record {
  is_open = subst (λ (b : _). IsTrue b) (sym (ap (λ (k : SinkState). k.is_open) s.taken)) may.is_open;
  count = subst (λ (n : ℕ). CanCount n) (sym (ap (λ (k : SinkState). k.faults) s.taken)) may.count;
}

report_is : (m : Machine) (r : State) → StandsFor m r → report m.journal ≡ report r.journal
unfolding machine_of
report_is m r s = ap (λ (x : Machine). report x.journal) s.same

writes_after : (due : Status) (front bytes all : List ℕ) (old mid new : SinkState) (result : Result Status Trouble) → mid ≡ after_taking old front → front ++ bytes ≡ all →
    Writes due bytes mid new result → Writes due all old new result
writes_after due front bytes all old mid new (Ok status) taken whole w =
    let written : new ≡ after_taking old all =
    w.whole ∙ ap (λ (k : SinkState). after_taking k bytes) taken ∙ after_taking-append old front bytes ∙ ap (λ (b : List ℕ). after_taking old b) whole in
    record {
      status = w.status;
      proper = w.proper;
      whole = written;
      prefix = prefix_whole old new all written;
      write = λ e. absurd (cc e);
      memory = λ e. absurd (cc e);
    }
writes_after due front bytes all old mid new (Err trouble) taken whole w = record {
  status = tt;
  proper = tt;
  whole = tt;
  prefix = prefix_same old new (front ++ bytes) all whole (prefix_after old mid new front bytes taken w.prefix);
  write = λ is. subst (λ (n : ℕ). n < new.faults) (ap (λ (k : SinkState). k.faults) taken) (w.write is);
  memory = λ is. w.memory is ∙ ap (λ (k : SinkState). k.faults) taken;
}

none_left : (events : List Event) (result : Result Status Trouble) → OnOk result (◌≡◌ {A = List Event} [] [])
none_left events (Ok status) = refl
none_left events (Err trouble) = tt

abbrev lines_by : (file : List ℕ) → List ModuleRule → PassedWrites → RefusedLoads → FoundByNotes → List ℕ
lines_by file modules writes loads found = set_apart (found_lines (names_in file (kernel_segments file)) modules writes loads found)

-- what the machine and what was found tell is what is due
ending_same : (file : List ℕ) (start : State) (events : List Event) (m : Machine) (w : Passed) (old new : SinkState) → HasSurveyed start events m w old new →
    lines_found file m w ≡ lines_due file start events
ending_same file start events m w old new s =
    let modules : List ModuleRule = (survey start events).rules.modules in
    ap (λ (f : FoundByNotes). lines_by file m.rules.modules (writes_view w.writes) (loads_view w.loads) f) (told_view w.noted m.journal.notes (noted start events) s.told)
    ∙ ap (λ (k : Rules). lines_of file k.modules (writes_view w.writes) (loads_view w.loads) (noted start events)) (rules_seen m (survey start events) s.stands.stands)
    ∙ ap (λ (x : PassedWrites). lines_of file modules x (loads_view w.loads) (noted start events)) s.writes_are
    ∙ ap (λ (x : RefusedLoads). lines_of file modules (writes_in start events) x (noted start events)) s.loads_are

pub survey_finished : (file : List ℕ) (start : State) (events : List Event) (m : Machine) (w : Passed) (old mid new : SinkState) (result : Result Status Trouble) →
    HasSurveyed start events m w old mid →
    Writes (survey_status (lines_found file m w) m.journal.verdict)
    (m.journal.printed ++ (lines_found file m w ++ report m.journal)) mid new result → SurveysTo file start events m old new result
survey_finished file start events m w old mid new result s writes =
    let last : State = survey start events in
    let lines : lines_found file m w ≡ lines_due file start events = ending_same file start events m w old mid s in
    let due : survey_status (lines_found file m w) m.journal.verdict ≡ status_due file start events =
    ap (λ (x : List ℕ). survey_status x m.journal.verdict) lines ∙ ap (λ (v : Verdict). survey_status (lines_due file start events) v) (stands_verdict m last s.cleared s.stands) in
    let after : List ℕ = lines_found file m w ++ report m.journal in
    let whole : s.cleared ++ (m.journal.printed ++ after) ≡ bytes_due file start events =
    sym (append_assoc s.cleared m.journal.printed after)
    ∙ ap (λ (p : List ℕ). p ++ after) (stands_printed m last s.cleared s.stands)
    ∙ ap (λ (x : List ℕ). last.journal.printed ++ (x ++ report m.journal)) lines
    ∙ ap (λ (x : List ℕ). last.journal.printed ++ (lines_due file start events ++ x)) (report_is m last s.stands.stands) in
    record {
      writes =
          subst (λ (d : Status). Writes d (bytes_due file start events) old new result) due
          (writes_after _ s.cleared (m.journal.printed ++ after) (bytes_due file start events) old mid new result s.taken whole writes);
      among = record { done = events; left = []; split = append-nil events; cleared = s.cleared; stands = s.stands };
      all = none_left events result;
    }
