use Rattle.sv_types.specs.Policies.{rules_of}
use Rattle.sv_types.specs.Schedule.{first_events}
use Rattle.machine.specs.declared.boot.BootRefusal.{BootRefusal}
use Rattle.cli_plans.specs.Words.{run_value}
use Rattle.secvisor_cli.specs.Ready.{stop_of}
use Rattle.secvisor_cli.specs.declared.ready.Stop.TheVariants.{Memory}
use Rattle.secvisor_cli.proofs.ReadyLemmas.{err_by}
use Rattle.secvisor_cli.proofs.StageLemmas.{kernel_stopped, disk_may, disk_stopped, script_may, script_stopped, script_ready, boot_stopped}
use Rattle.cli_trials.specs.Orders.{order_schedule}
use Rattle.cli_trials.specs.Reading.{BootsFrom}
use Rattle.cli_trials.proofs.PartLemmas.{boot_is, boots_from}
use Rattle.cli_trials.proofs.parts.boot_parts.Goals as goal

pub returns-in_err-image-clause-boots : goal.returns-in_err-image-clause-boots
returns-in_err-image-clause-boots g c =
    err_by _ c.in_err-image.field-0.0
    (λ r. BootsFrom (run_value c.args.asked.now) (rules_of c.args.policy) c.args.file.now (g.F.Files.state c.args.files.now) (g.F.Files.state c.args.files.now) r)
    c.from_residual.ensures.1
    (kernel_stopped (rules_of c.args.policy) c.args.file.now _ _ c.in_err-image.field-0.0 c.in_err-image.ensures)

pub read_disk-requires-clause-permitted : goal.read_disk-requires-clause-permitted
read_disk-requires-clause-permitted g c =
    disk_may (run_value c.args.asked.now) (rules_of c.args.policy) c.args.file.now _ c.in_ok-image.ensures.accepted c.requires.permitted

pub returns-in_err-disk-clause-boots : goal.returns-in_err-disk-clause-boots
returns-in_err-disk-clause-boots g c =
    err_by _ c.in_err-disk.field-0.0
    (λ r. BootsFrom (run_value c.args.asked.now) (rules_of c.args.policy) c.args.file.now (g.F.Files.state c.args.files.now) (g.F.Files.state c.read_disk.new.files) r)
    c.from_residual-in_err-disk.ensures.1
    (disk_stopped (run_value c.args.asked.now) (rules_of c.args.policy) c.args.file.now _ _ c.in_err-disk.field-0.0 c.in_ok-image.ensures.accepted c.in_err-disk.ensures.stage)

pub read_order-requires-clause-permitted : goal.read_order-requires-clause-permitted
read_order-requires-clause-permitted g c =
    script_may (run_value c.args.asked.now) (rules_of c.args.policy) c.args.file.now c.in_ok-disk.disk.items _ _ c.in_ok-image.ensures.accepted c.in_ok-disk.ensures.stage c.requires.permitted

pub returns-in_err-order-clause-boots : goal.returns-in_err-order-clause-boots
returns-in_err-order-clause-boots g c =
    err_by _ c.in_err-order.field-0.0
    (λ r. BootsFrom (run_value c.args.asked.now) (rules_of c.args.policy) c.args.file.now (g.F.Files.state c.args.files.now) (g.F.Files.state c.read_order.new.files) r)
    c.from_residual-in_err-order.ensures.1
    (script_stopped (run_value c.args.asked.now) (rules_of c.args.policy) c.args.file.now c.in_ok-disk.disk.items _ _ _ c.in_err-order.field-0.0 c.in_ok-image.ensures.accepted
    c.in_ok-disk.ensures.stage c.in_err-order.ensures.stage)

pub returns-in_err-copy-clause-boots : goal.returns-in_err-copy-clause-boots
returns-in_err-copy-clause-boots g c =
    let words = run_value c.args.asked.now in
    let rules = rules_of c.args.policy in
    let schedule = order_schedule rules.harts c.in_ok-order.order in
    err_by _ Memory
    (λ r. BootsFrom words rules c.args.file.now (g.F.Files.state c.args.files.now) (g.F.Files.state c.read_order.new.files) r)
    c.from_residual-in_err-copy.ensures.1
    (script_ready words rules c.args.file.now c.in_ok-disk.disk.items schedule _ _ _ _ c.in_ok-image.ensures.accepted c.in_ok-disk.ensures.stage c.in_ok-order.ensures.stage
    (boot_stopped words.kind rules c.args.file.now c.in_ok-disk.disk.items (first_events words.events schedule) words.save c.in_ok-image.image BootRefusal.Memory c.in_ok-image.ensures tt))

pub returns-in_err-check_boot-clause-boots : goal.returns-in_err-check_boot-clause-boots
returns-in_err-check_boot-clause-boots g c =
    let words = run_value c.args.asked.now in
    let rules = rules_of c.args.policy in
    let schedule = order_schedule rules.harts c.in_ok-order.order in
    err_by _ (stop_of c.in_err-check_boot.field-0.0)
    (λ r. BootsFrom words rules c.args.file.now (g.F.Files.state c.args.files.now) (g.F.Files.state c.read_order.new.files) r)
    c.from_residual-in_err-check_boot.ensures.1
    (script_ready words rules c.args.file.now c.in_ok-disk.disk.items schedule _ _ _ _ c.in_ok-image.ensures.accepted c.in_ok-disk.ensures.stage c.in_ok-order.ensures.stage
    (boot_stopped words.kind rules c.args.file.now c.in_ok-disk.disk.items (first_events words.events schedule) words.save c.in_ok-image.image c.in_err-check_boot.field-0.0 c.in_ok-image.ensures
    c.in_err-check_boot.ensures.refused))

pub returns-clause-boots : goal.returns-clause-boots
returns-clause-boots g c =
    let words = run_value c.args.asked.now in
    let rules = rules_of c.args.policy in
    let schedule = order_schedule rules.harts c.in_ok-order.order in
    boots_from words rules c.args.file.now c.in_ok-disk.disk.items schedule _ _ _ c.in_ok-image.ensures.accepted c.in_ok-disk.ensures.stage c.in_ok-order.ensures.stage
    (boot_is words.kind rules c.args.file.now c.in_ok-disk.disk.items (first_events words.events schedule) words.save c.in_ok-image.image c.in_ok-image.ensures
    c.in_ok-check_boot.ensures.measured c.in_ok-check_boot.ensures.permitted)
