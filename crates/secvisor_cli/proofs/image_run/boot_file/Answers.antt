use Rattle.std.proofs.Common.{refl, sym, ◌∙◌, ap, Ok}
use Rattle.sv_types.specs.Policies.{Rules, rules_of}
use Rattle.sv_types.specs.Schedule.{Schedule, first_events}
use Rattle.secvisor_cli.specs.declared.ready.Ready.TheVariants.{Run}
use Rattle.cli_plans.specs.Plans.{kernel_part, boot_plan}
use Rattle.secvisor_cli.specs.Ready.{Prepares, IsFresh, run_of, run_ready, stop_of}
use Rattle.cli_plans.specs.Words.{run_value}
use Rattle.secvisor_cli.proofs.ReadyLemmas.{err_by, boot_rules, fresh_with}
use Rattle.secvisor_cli.proofs.StageLemmas.{kernel_stopped, disk_may, script_may, disk_stopped, script_stopped, script_ready, image_booted, boot_stopped}
use Rattle.secvisor_cli.proofs.image_run.boot_file.Goals as goal

pub returns-in_err-image-clause-prepares : goal.returns-in_err-image-clause-prepares
returns-in_err-image-clause-prepares g c =
    err_by _ c.in_err-image.field-0.0
    (λ r. Prepares (kernel_part (rules_of c.args.policy) c.args.file.now (boot_plan (run_value c.args.asked.now) (rules_of c.args.policy) c.args.file.now))
    (g.F.Files.state c.args.files.now) (g.F.Files.state c.args.files.now) (run_ready (run_of r)))
    c.from_residual.ensures.1
    (kernel_stopped (rules_of c.args.policy) c.args.file.now _ _ c.in_err-image.field-0.0 c.in_err-image.ensures)

pub read_disk-requires-clause-permitted : goal.read_disk-requires-clause-permitted
read_disk-requires-clause-permitted g c =
    disk_may (run_value c.args.asked.now) (rules_of c.args.policy) c.args.file.now _ c.in_ok-image.ensures.accepted c.requires.permitted

pub returns-in_err-disk-clause-prepares : goal.returns-in_err-disk-clause-prepares
returns-in_err-disk-clause-prepares g c =
    err_by _ c.in_err-disk.field-0.0
    (λ r. Prepares (kernel_part (rules_of c.args.policy) c.args.file.now (boot_plan (run_value c.args.asked.now) (rules_of c.args.policy) c.args.file.now))
    (g.F.Files.state c.args.files.now) (g.F.Files.state c.read_disk.new.files) (run_ready (run_of r)))
    c.from_residual-in_err-disk.ensures.1
    (disk_stopped (run_value c.args.asked.now) (rules_of c.args.policy) c.args.file.now _ _ c.in_err-disk.field-0.0 c.in_ok-image.ensures.accepted c.in_err-disk.ensures.stage)

pub read_script-requires-clause-permitted : goal.read_script-requires-clause-permitted
read_script-requires-clause-permitted g c =
    script_may (run_value c.args.asked.now) (rules_of c.args.policy) c.args.file.now c.in_ok-disk.disk.items _ _ c.in_ok-image.ensures.accepted c.in_ok-disk.ensures.stage c.requires.permitted

pub returns-in_err-script-clause-prepares : goal.returns-in_err-script-clause-prepares
returns-in_err-script-clause-prepares g c =
    err_by _ c.in_err-script.field-0.0
    (λ r. Prepares (kernel_part (rules_of c.args.policy) c.args.file.now (boot_plan (run_value c.args.asked.now) (rules_of c.args.policy) c.args.file.now))
    (g.F.Files.state c.args.files.now) (g.F.Files.state c.read_script.new.files) (run_ready (run_of r)))
    c.from_residual-in_err-script.ensures.1
    (script_stopped (run_value c.args.asked.now) (rules_of c.args.policy) c.args.file.now c.in_ok-disk.disk.items _ _ _ c.in_err-script.field-0.0 c.in_ok-image.ensures.accepted
    c.in_ok-disk.ensures.stage c.in_err-script.ensures.stage)

pub returns-in_err-booted-clause-prepares : goal.returns-in_err-booted-clause-prepares
returns-in_err-booted-clause-prepares g c =
    err_by _ (stop_of c.in_err-booted.field-0.0)
    (λ r. Prepares (kernel_part (rules_of c.args.policy) c.args.file.now (boot_plan (run_value c.args.asked.now) (rules_of c.args.policy) c.args.file.now))
    (g.F.Files.state c.args.files.now) (g.F.Files.state c.read_script.new.files) (run_ready (run_of r)))
    c.from_residual-in_err-booted.ensures.1
    (script_ready (run_value c.args.asked.now) (rules_of c.args.policy) c.args.file.now c.in_ok-disk.disk.items c.in_ok-script.script _ _ _ _ c.in_ok-image.ensures.accepted
    c.in_ok-disk.ensures.stage c.in_ok-script.ensures.stage
    (boot_stopped c.args.asked.now.kind (rules_of c.args.policy) c.args.file.now c.in_ok-disk.disk.items _ _ c.in_ok-image.image c.in_err-booted.field-0.0 c.in_ok-image.ensures
    c.in_err-booted.ensures.refused))

pub returns-clause-prepares : goal.returns-clause-prepares
returns-clause-prepares g c =
    let new = c.in_ok-booted.ensures.booted.new c.args.file.now c.in_ok-image.ensures in
    let fresh = fresh_with c.args.asked.now.kind (rules_of c.args.policy) c.args.file.now c.in_ok-disk.disk.items c.in_ok-booted.booted.machine new in
    let it : IsFresh (record {
      machine = c.in_ok-booted.booted.machine;
      script = c.in_ok-script.script;
      events = c.args.asked.now.events;
      save = c.args.asked.now.save;
    }) = record { events = c.requires.events; state = record { state = _; stands = new.stands }; counts = fresh.0; console = fresh.1 } in
    script_ready (run_value c.args.asked.now) (rules_of c.args.policy) c.args.file.now c.in_ok-disk.disk.items c.in_ok-script.script _ _ _ _ c.in_ok-image.ensures.accepted
    c.in_ok-disk.ensures.stage c.in_ok-script.ensures.stage
    (image_booted c.args.asked.now.kind (rules_of c.args.policy) c.args.file.now c.in_ok-disk.disk.items (first_events c.args.asked.now.events c.in_ok-script.script) _ c.in_ok-image.image
    (Ok (Run (record { machine = c.in_ok-booted.booted.machine; script = c.in_ok-script.script; events = c.args.asked.now.events; save = c.args.asked.now.save })))
    c.in_ok-image.ensures c.in_ok-booted.ensures.booted.measured c.in_ok-booted.ensures.booted.permitted (new, refl, refl, it))

pub returns-clause-draws : goal.returns-clause-draws
returns-clause-draws g c = λ number is.
    let new = c.in_ok-booted.ensures.booted.new c.args.file.now c.in_ok-image.ensures in
    c.in_ok-script.ensures.draws number is
    ∙ ap (λ (r : Rules). Schedule.Auto r.harts number) (sym (boot_rules c.args.asked.now.kind (rules_of c.args.policy) c.args.file.now c.in_ok-disk.disk.items c.in_ok-booted.booted.machine new))
