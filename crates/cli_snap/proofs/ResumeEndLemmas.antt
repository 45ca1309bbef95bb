-- What is due where the files hold what is in range, and how `resume` ends then.
use Rattle.std.proofs.Common.{◌≡◌, ◌≤◌, ℕ, List, length, nat_lt, Bool, true, false, refl, sym, ◌∙◌, ap, arith, Option, Some, Result, Ok, Err, if◌then◌else◌}
use Rattle.std.proofs.lemmas.Bool.Decides.{nat_tests}
use Rattle.sv_types.specs.Policies.{Rules}
use Rattle.sv_types.specs.Schedule.{Schedule}
use Rattle.policy.specs.Refusals.{Judged}
use Rattle.policy.specs.Text.{rules_of_text}
use Rattle.script.specs.AutoScripts.{events_of_text, first_refused}
use Rattle.sv_types.specs.Steps.{◌>>=◌}
use Rattle.snapshot_format.specs.Snapshots.{Contents, if_at_end, max_snapshot_bytes, snapshot, snapshot_read}
use Rattle.snapshot_format.specs.declared.refusal.SnapRefusal.{SnapRefusal}
use Rattle.snapshot_format.specs.declared.refusal.SnapRefusal.TheVariants.{TooLong}
use Rattle.snapshot_format.specs.ResumedStates.{resumed_state}
use Rattle.snapshot_format.specs.declared.resume.refusal.ResumeRefusal.{ResumeRefusal}
use Rattle.cli_plans.specs.CommandLine.{Source, Text, ResumeWords, resume_judged}
use Rattle.secvisor_cli.specs.DueIn.{due_in}
use Rattle.cli_plans.specs.Plans.{RunFrom, Plan, Judge, max_policy_bytes, max_script_bytes, part_judged, policy_judged, policy_part, script_part, text_part}
use Rattle.cli_plans.specs.declared.file_fault.FileFault.{FileFault}
use Rattle.cli_plans.specs.declared.file_fault.Part.{Part}
use Rattle.cli_plans.specs.declared.refusal.Refusal.{Refusal}
use Rattle.secvisor_cli.proofs.DueLemmas.{due_held, run_ends}
use Rattle.cli_snap.specs.ResumeEnds.{HoldPolicy, HoldResumable, HoldScript, HoldText, ResumeEndsLaw}
use Rattle.cli_snap.specs.ResumePlans.{after_policy, behind_script, after_snapshot, contents_judged, events_after, resume_plan, resumed_due, snapshot_part, words_plan}

-- ---- the snapshot

few_by : (long : Bool) (read : Result Contents SnapRefusal) (s : Contents) → (if long then Err TooLong else read) ≡ Ok s → long ≡ false
few_by true read s is = absurd (cc is)
few_by false read s is = refl

-- bytes that are a snapshot aren't too many
snapshot_few : (bytes : List ℕ) (s : Contents) → snapshot_read bytes ≡ Ok s → length bytes ≤ max_snapshot_bytes
unfolding snapshot_read
snapshot_few bytes s is =
    let few : nat_lt max_snapshot_bytes (length bytes) ≡ false = few_by (nat_lt max_snapshot_bytes (length bytes)) (snapshot.taken bytes >>= if_at_end) s is in
    grind (arith, nat_tests)

-- ---- what is due

module _ (held : List ℕ → Option (List ℕ)) where
  snapshot_due : (name bytes : List ℕ) (s : Contents) (next : Contents → Plan) → held name ≡ Some bytes → snapshot_read bytes ≡ Ok s →
      due_in held (snapshot_part name next) ≡ due_in held (next s)
  unfolding snapshot_part
  snapshot_due name bytes s next holds is =
      due_held held Part.Snapshot name max_snapshot_bytes (λ b. Judge (contents_judged next (snapshot_read b))) bytes holds (snapshot_few bytes s is)
      ∙ ap (λ (read : Result Contents SnapRefusal). due_in held (contents_judged next read)) is

  policy_due : (name : List ℕ) (rules : Rules) (next : Rules → Plan) → HoldPolicy held name rules → due_in held (policy_part name next) ≡ due_in held (next rules)
  unfolding policy_part
  policy_due name rules next it =
      due_held held Part.Policy name max_policy_bytes (λ b. Judge (policy_judged next (rules_of_text b))) it.text it.held_is it.few
      ∙ ap (λ (judged : Judged Rules). due_in held (policy_judged next judged)) it.reads

  text_due : (name : List ℕ) (harts : ℕ) (script : Schedule) (next : Schedule → Plan) → HoldText held name harts script → due_in held (text_part harts name next) ≡ due_in held (next script)
  unfolding text_part
  text_due name harts script next it =
      due_held held Part.Script name max_script_bytes (λ b. Judge (part_judged FileFault.ScriptLine (next (Schedule.Listed (events_of_text harts b))) (first_refused b))) it.text it.held_is it.few
      ∙ ap (λ (line : Option ℕ). due_in held (part_judged FileFault.ScriptLine (next (Schedule.Listed (events_of_text harts it.text))) line)) it.good
      ∙ ap (λ (s : Schedule). due_in held (next s)) (sym it.reads)

  script_due : (source : Source) (harts : ℕ) (script : Schedule) (next : Schedule → Plan) → HoldScript held source harts script →
      due_in held (script_part harts source next) ≡ due_in held (next script)
  unfolding script_part
  script_due (Text name) harts script next it = text_due name harts script next it
  script_due _ harts script next is = ap (λ (s : Schedule). due_in held (next s)) (sym is)

  words_due : (words : ResumeWords) (s : Contents) (rules : Rules) (script : Schedule) → HoldResumable held words s rules script →
      due_in held (words_plan words) ≡ RunFrom (resumed_state rules s) (events_after s.events words.events script) words.save
  unfolding words_plan after_snapshot after_policy behind_script
  words_due words s rules script it =
      snapshot_due words.saved it.bytes s (after_snapshot words) it.held_is it.reads
      ∙ policy_due words.policy rules (after_policy words s) it.policy
      ∙ script_due words.script rules.harts script (behind_script words s rules) it.events
      ∙ ap (λ (refusal : Option ResumeRefusal). resumed_due rules s (events_after s.events words.events script) words.save refusal) it.accepted

pub plan_due : (held : List ℕ → Option (List ℕ)) (judged : Result ResumeWords Refusal) (words : ResumeWords) (s : Contents) (rules : Rules) (script : Schedule) → judged ≡ Ok words →
    HoldResumable held words s rules script → due_in held (resume_plan judged) ≡ RunFrom (resumed_state rules s) (events_after s.events words.events script) words.save
plan_due held judged words s rules script is it =
    ap (λ (j : Result ResumeWords Refusal). due_in held (resume_plan j)) is ∙ words_due held words s rules script it

pub resume_ends : ResumeEndsLaw
resume_ends words asked s rules script old new answer is it whole h =
    run_ends (resume_plan (resume_judged words)) (resumed_state rules s) (events_after s.events asked.events script) asked.save old new answer whole
    (plan_due old.files.held (resume_judged words) asked s rules script is it) h
