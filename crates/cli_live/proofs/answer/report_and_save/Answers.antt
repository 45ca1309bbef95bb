use Rattle.std.proofs.Common.{ℕ, List, refl, subst, string_bytes, Some, Result, Ok, Err}
use Rattle.sv_types.specs.declared.status.Status.{Status}
use Rattle.sv_types.specs.Output.{run_status}
use Rattle.machine.specs.Standing.{machine_output}
use Rattle.cli_live.specs.LiveRuns.{harts_of, events_made}
use Rattle.host_io.specs.declared.trouble.Trouble.{Trouble}
use Rattle.host_io.specs.declared.trouble.Trouble.TheVariants.{Memory}
use Rattle.secvisor_cli.specs.Answers.{Writes, AfterSave}
use Rattle.cli_plans.specs.Plans.{Exactly}
use Rattle.secvisor_cli.proofs.ReadyLemmas.{err_by}
use Rattle.secvisor_cli.proofs.SaveLemmas.{saved_ok, saved_err}
use Rattle.secvisor_cli.proofs.EndLemmas.{wanting_writes}
use Rattle.cli_live.specs.LiveAnswers.{SavesScript}
use Rattle.cli_live.proofs.LiveLemmas.{is_script}
use Rattle.cli_live.proofs.answer.report_and_save.Goals as goal

pub returns-in_err-text : goal.returns-in_err-text
returns-in_err-text g c =
    err_by _ Memory
    (λ r. (written : Result Status Trouble) ×
    Writes (run_status c.args.live.now.machine.journal.verdict) (machine_output c.args.live.now.machine) (g.O.Sink.state c.args.out.now) (g.O.Sink.state c.args.out.now) written
    × SavesScript (harts_of c.args.live.now.script) (events_made c.args.live.now) c.args.name.now (g.F.Files.state c.args.files.now) (g.F.Files.state c.args.files.now) written r)
    c.from_residual.ensures.1 (Err Memory, wanting_writes _ _ _, (refl, refl))

pub returns-in_err-status : goal.returns-in_err-status
returns-in_err-status g c =
    err_by _ c.in_err-status.field-0.0
    (λ r. (written : Result Status Trouble) ×
    Writes (run_status c.args.live.now.machine.journal.verdict) (machine_output c.args.live.now.machine) (g.O.Sink.state c.args.out.now) (g.O.Sink.state c.finish.new.out) written
    × SavesScript (harts_of c.args.live.now.script) (events_made c.args.live.now) c.args.name.now (g.F.Files.state c.args.files.now) (g.F.Files.state c.args.files.now) written r)
    c.from_residual-in_err-status.ensures.1 (Err c.in_err-status.field-0.0, c.in_err-status.ensures.writes, (refl, refl))

pub save_text-requires-clause-permitted : goal.save_text-requires-clause-permitted
save_text-requires-clause-permitted g c = c.requires.permitted _

pub returns-in_err-save_text : goal.returns-in_err-save_text
returns-in_err-save_text g c =
    let script = is_script c.args.live.now (string_bytes c.in_ok-text.text) c.requires.way c.in_ok-text.ensures.reads c.in_ok-text.ensures.accepted c.in_ok-text.ensures.size in
    let save = subst (λ (bytes : List ℕ). AfterSave (Some (record { name = c.args.name.now; content = Exactly bytes })) (g.F.Files.state c.args.files.now)
    (g.F.Files.state c.save_text.new.files) (Err c.in_err-save_text.field-0.0)) c.as_str.ensures.value c.in_err-save_text.ensures in
    err_by _ c.in_err-save_text.field-0.0
    (λ r. (written : Result Status Trouble) ×
    Writes (run_status c.args.live.now.machine.journal.verdict) (machine_output c.args.live.now.machine) (g.O.Sink.state c.args.out.now) (g.O.Sink.state c.finish.new.out) written
    × SavesScript (harts_of c.args.live.now.script) (events_made c.args.live.now) c.args.name.now (g.F.Files.state c.args.files.now) (g.F.Files.state c.save_text.new.files) written r)
    c.from_residual-in_err-save_text.ensures.1 (
      Ok c.in_ok-status.status,
      c.in_ok-status.ensures.writes,
      (
        string_bytes c.in_ok-text.text,
        script,
        saved_err (Some (record { name = c.args.name.now; content = Exactly (string_bytes c.in_ok-text.text) }))
            (g.F.Files.state c.args.files.now) (g.F.Files.state c.save_text.new.files) c.in_ok-status.status c.in_err-save_text.field-0.0 save,
      ),
    )

pub returns : goal.returns
returns g c =
    let script = is_script c.args.live.now (string_bytes c.in_ok-text.text) c.requires.way c.in_ok-text.ensures.reads c.in_ok-text.ensures.accepted c.in_ok-text.ensures.size in
    let save = subst (λ (bytes : List ℕ). AfterSave (Some (record { name = c.args.name.now; content = Exactly bytes })) (g.F.Files.state c.args.files.now)
    (g.F.Files.state c.save_text.new.files) (Ok c.in_ok-save_text.field-0)) c.as_str.ensures.value c.in_ok-save_text.ensures in (
      Ok c.in_ok-status.status,
      c.in_ok-status.ensures.writes,
      (
        string_bytes c.in_ok-text.text,
        script,
        saved_ok (Some (record { name = c.args.name.now; content = Exactly (string_bytes c.in_ok-text.text) }))
            (g.F.Files.state c.args.files.now) (g.F.Files.state c.save_text.new.files) c.in_ok-status.status c.in_ok-save_text.field-0 save,
      ),
    )
