use Rattle.std.proofs.Common.{Err}
use Rattle.sv_types.specs.Policies.{rules_of}
use Rattle.snapshot_format.specs.Snapshots.{contents}
use Rattle.cli_plans.specs.Plans.{policy_part, script_part}
use Rattle.cli_plans.specs.Words.{source_value, resume_value}
use Rattle.secvisor_cli.proofs.ReadyLemmas.{err_by}
use Rattle.cli_snap.specs.ResumePlans.{after_policy, behind_script, after_snapshot, snapshot_part, words_plan}
use Rattle.cli_snap.specs.ResumeReady.{Resumes}
use Rattle.cli_snap.proofs.StageLemmas.{judge_end, pass}
use Rattle.cli_snap.proofs.resume.ready.prepare_resume.Goals as goal

pub read_snapshot-requires-clause-permitted : goal.read_snapshot-requires-clause-permitted
unfolding words_plan
read_snapshot-requires-clause-permitted g c = record { next = after_snapshot (resume_value c.args.asked.now); may = c.requires.permitted }

pub returns-in_err-snapshot : goal.returns-in_err-snapshot
unfolding words_plan
returns-in_err-snapshot g c =
    err_by _ c.in_err-snapshot.field-0.0 (λ r. Resumes (words_plan (resume_value c.args.asked.now)) (g.F.Files.state c.args.files.now) (g.F.Files.state c.read_snapshot.new.files) r)
    c.from_residual.ensures.1 (c.in_err-snapshot.ensures.stage (after_snapshot (resume_value c.args.asked.now)))

pub read_policy-requires-clause-permitted : goal.read_policy-requires-clause-permitted
unfolding words_plan after_snapshot
read_policy-requires-clause-permitted g c = record {
  next = after_policy (resume_value c.args.asked.now) (contents c.in_ok-snapshot.snapshot);
  may = c.in_ok-snapshot.ensures.stage.may (after_snapshot (resume_value c.args.asked.now)) c.requires.permitted;
}

pub returns-in_err-policy : goal.returns-in_err-policy
unfolding words_plan after_snapshot
returns-in_err-policy g c =
    err_by _ c.in_err-policy.field-0.0 (λ r. Resumes (words_plan (resume_value c.args.asked.now)) (g.F.Files.state c.args.files.now) (g.F.Files.state c.read_policy.new.files) r)
    c.from_residual-in_err-policy.ensures.1
    (pass (snapshot_part c.args.asked.now.saved.now) (contents c.in_ok-snapshot.snapshot) (after_snapshot (resume_value c.args.asked.now)) _ _ _ (Err c.in_err-policy.field-0.0)
    c.in_ok-snapshot.ensures.stage
    (c.in_err-policy.ensures.stage (after_policy (resume_value c.args.asked.now) (contents c.in_ok-snapshot.snapshot))))

pub read_script-requires-clause-permitted : goal.read_script-requires-clause-permitted
unfolding words_plan after_snapshot after_policy
read_script-requires-clause-permitted g c = record {
  next = behind_script (resume_value c.args.asked.now) (contents c.in_ok-snapshot.snapshot) (rules_of c.in_ok-policy.policy);
  may = c.in_ok-policy.ensures.stage.may (after_policy (resume_value c.args.asked.now) (contents c.in_ok-snapshot.snapshot))
      (c.in_ok-snapshot.ensures.stage.may (after_snapshot (resume_value c.args.asked.now)) c.requires.permitted);
}

pub returns-in_err-script : goal.returns-in_err-script
unfolding words_plan after_snapshot after_policy
returns-in_err-script g c =
    err_by _ c.in_err-script.field-0.0 (λ r. Resumes (words_plan (resume_value c.args.asked.now)) (g.F.Files.state c.args.files.now) (g.F.Files.state c.read_script.new.files) r)
    c.from_residual-in_err-script.ensures.1
    (pass (snapshot_part c.args.asked.now.saved.now) (contents c.in_ok-snapshot.snapshot) (after_snapshot (resume_value c.args.asked.now)) _ _ _ (Err c.in_err-script.field-0.0)
    c.in_ok-snapshot.ensures.stage
    (pass (policy_part c.args.asked.now.policy.now) (rules_of c.in_ok-policy.policy) (after_policy (resume_value c.args.asked.now) (contents c.in_ok-snapshot.snapshot)) _ _ _
    (Err c.in_err-script.field-0.0) c.in_ok-policy.ensures.stage
    (c.in_err-script.ensures.stage (behind_script (resume_value c.args.asked.now) (contents c.in_ok-snapshot.snapshot) (rules_of c.in_ok-policy.policy)))))

pub returns : goal.returns
unfolding words_plan after_snapshot after_policy behind_script
returns g c =
    pass (snapshot_part c.args.asked.now.saved.now) (contents c.in_ok-snapshot.snapshot) (after_snapshot (resume_value c.args.asked.now)) _ _ _ c.go_on.result c.in_ok-snapshot.ensures.stage
    (pass (policy_part c.args.asked.now.policy.now) (rules_of c.in_ok-policy.policy) (after_policy (resume_value c.args.asked.now) (contents c.in_ok-snapshot.snapshot)) _ _ _
    c.go_on.result c.in_ok-policy.ensures.stage
    (pass (script_part c.in_ok-policy.policy.harts (source_value c.args.asked.now.script)) c.in_ok-script.script
    (behind_script (resume_value c.args.asked.now) (contents c.in_ok-snapshot.snapshot) (rules_of c.in_ok-policy.policy)) _ _ _ c.go_on.result c.in_ok-script.ensures.stage
    (judge_end _ _ c.go_on.result c.go_on.ensures)))
