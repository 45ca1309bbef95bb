-- A survey without a line passed over nothing.
use Rattle.std.proofs.Common.{◌≡◌, ◌<◌, ℕ, Bool, true, false, List, [], ◌∷◌, ◌++◌, refl, ◌∙◌, ap, subst, arith, codes}
use Rattle.std.specs.Prelude.{◌==◌, if◌then◌else◌}
use Rattle.std.specs.Fmt.{decimal}
use Rattle.std.proofs.lemmas.Bool.{eqb-true}
use Rattle.std.proofs.lemmas.Bool.Decides.{nat_tests}
use Rattle.sv_types.specs.Output.{line_end, run_status}
use Rattle.sv_types.specs.declared.event.Event.{Event}
use Rattle.sv_types.specs.declared.event.Note.{Note}
use Rattle.sv_types.specs.declared.event.Rule.TheVariants.{Write}
use Rattle.sv_types.specs.declared.event.Verdict.{Verdict}
use Rattle.sv_types.specs.declared.event.Verdict.TheVariants.{Stopped}
use Rattle.sv_types.specs.Kernel.{kernel_segments}
use Rattle.spec_reference.specs.Report.{output, report}
use Rattle.spec_reference.specs.Run.{run, step}
use Rattle.spec_reference.specs.States.{State}
use Rattle.laws_simulation.specs.Passing.{survey_step, survey}
use Rattle.laws_simulation.specs.Passes.{Pass, pass_of, passes}
use Rattle.laws_simulation.specs.SurveyLaws.{IsNoWrite}
use Rattle.laws_simulation.proofs.SurveysHold.{unpassed}
use Rattle.elf64_load.specs.Names.{KernelNames, names_in}
use Rattle.report.specs.Findings.{PassedWrites, RefusedLoads, found_by, no_writes, raised, with_write}
use Rattle.report.specs.Lines.{all_loads, denied_lines, fetch_lines, found_lines, survey_lines, total_line, write_lines}
use Rattle.sv_types.specs.Policies.{ModuleRule}
use Rattle.cli_survey.specs.Noted.{noted}
use Rattle.cli_survey.specs.Refusals.{loads_in}
use Rattle.cli_survey.specs.NoFindings.{NoFindingsLaw}
use Rattle.cli_survey.specs.Surveys.{occurrence_of, with_passes, writes_in}
use Rattle.cli_survey.specs.SurveyAnswers.{set_apart, survey_status}

-- ---- lists of two parts

first_none : {A : Type 0} (xs ys : List A) → xs ++ ys ≡ [] → xs ≡ []
first_none [] ys e = refl
first_none (x ∷ xs) ys e = absurd (cc e)

second_none : {A : Type 0} (xs ys : List A) → xs ++ ys ≡ [] → ys ≡ []
second_none [] ys e = e
second_none (x ∷ xs) ys e = absurd (cc e)

apart_none : (lines : List ℕ) → set_apart lines ≡ [] → lines ≡ []
apart_none [] e = refl
apart_none (b ∷ lines) e = absurd (cc e)

-- ---- no line

total_by : (total : ℕ) (none : Bool) → (total == 0) ≡ none → (if none then [] else codes "writes " ++ (decimal total ++ line_end)) ≡ [] → total ≡ 0
total_by total true is e = eqb-true total 0 is
total_by total false is e = absurd (cc e)

total_none : (total : ℕ) → total_line total ≡ [] → total ≡ 0
unfolding total_line
total_none total e = total_by total (total == 0) refl e

no_total : (names : KernelNames) (modules : List ModuleRule) (w : PassedWrites) (loads : RefusedLoads) (notes : List Note) → survey_lines names modules w loads notes ≡ [] → w.total ≡ 0
unfolding found_lines
no_total names modules w loads notes e =
    let writes = write_lines names w.findings ++ total_line w.total in
    let fetches = fetch_lines names (found_by notes).demotions in
    let refused = all_loads modules loads in
    total_none w.total
    (second_none (write_lines names w.findings) (total_line w.total)
    (first_none writes fetches (first_none (writes ++ fetches) refused (first_none ((writes ++ fetches) ++ refused) (denied_lines (found_by notes).denied) e))))

-- ---- no pass

one_raised : (n : ℕ) → 0 < raised n
one_raised n = grind (arith, nat_tests)

some_passed : (ps : List Pass) (w : PassedWrites) → 0 < w.total → 0 < (with_passes w ps).total
some_passed [] w some = some
some_passed (p ∷ ps) w some = some_passed ps (with_write w (occurrence_of p)) (one_raised w.total)

none_passed : (ps : List Pass) → (with_passes no_writes ps).total ≡ 0 → ps ≡ []
none_passed [] none = refl
none_passed (p ∷ ps) none =
    let some = some_passed ps (with_write no_writes (occurrence_of p)) (one_raised 0) in absurd (omega (arith, some, none))

calm_of : (v : Verdict) → pass_of v ≡ [] → IsNoWrite v
unfolding pass_of
calm_of (Stopped (Write pc gpa) h turn) none = absurd (cc none)
calm_of _ none = tt

same_run : (r : State) (events : List Event) → passes r events ≡ [] → survey r events ≡ run r events
same_run r [] none = refl
same_run r (e ∷ events) none =
    let here : survey_step r e ≡ step r e = unpassed (step r e) (calm_of (step r e).journal.verdict (first_none (pass_of (step r e).journal.verdict) (passes (survey_step r e) events) none)) in
    let rest : passes (survey_step r e) events ≡ [] = second_none (pass_of (step r e).journal.verdict) (passes (survey_step r e) events) none in
    ap (λ (x : State). survey x events) here ∙ same_run (step r e) events (subst (λ (x : State). passes x events ≡ []) here rest)

-- ---- the law

pub no_findings_law : NoFindingsLaw
no_findings_law file start events none =
    let last : State = survey start events in
    let unpassed : passes start events ≡ [] =
    none_passed (passes start events) (no_total (names_in file (kernel_segments file)) last.rules.modules (writes_in start events) (loads_in start events) (noted start events)
    (apart_none (survey_lines (names_in file (kernel_segments file)) last.rules.modules (writes_in start events) (loads_in start events) (noted start events)) none)) in
    let same : last ≡ run start events = same_run start events unpassed in
    record {
      state = same;
      bytes = ap (λ (lines : List ℕ). last.journal.printed ++ (lines ++ report last.journal)) none ∙ ap output same;
      status = ap (λ (lines : List ℕ). survey_status lines last.journal.verdict) none ∙ ap (λ (x : State). run_status x.journal.verdict) same;
    }
