use Rattle.std.proofs.Common.{◌≡◌, Ok, None, refl, ap}
use Rattle.sv_types.specs.Schedule.{Schedule, first_events}
use Rattle.secvisor_cli.specs.declared.ready.Ready.TheVariants.{Run}
use Rattle.cli_plans.specs.Plans.{flat_events, measure_judged}
use Rattle.secvisor_cli.specs.Ready.{IsReady, IsFresh, stop_of}
use Rattle.secvisor_cli.proofs.ReadyLemmas.{err_by, booted_ready, stopped_boot, fresh_flat}
use Rattle.secvisor_cli.proofs.flat.boot.Goals as goal

pub returns-in_err-machine : goal.returns-in_err-machine
returns-in_err-machine g c =
    err_by _ (stop_of c.in_err-machine.field-0.0) (λ r. IsReady (measure_judged c.args.pages.now c.args.wanted (flat_events c.args.events)) r) c.from_residual.ensures.1
    (stopped_boot _ _ _ c.in_err-machine.field-0.0 c.in_err-machine.ensures.refused)

pub returns : goal.returns
returns g c =
    let new = c.in_ok-machine.ensures.new in
    let fresh = fresh_flat c.args.pages.now c.args.wanted c.in_ok-machine.machine new in
    let it : IsFresh (record { machine = c.in_ok-machine.machine; script = c.rounds-script.result; events = c.args.events; save = None }) = record {
      events = c.requires.events;
      state = record { state = _; stands = new.stands };
      counts = fresh.0;
      console = fresh.1;
    } in
    let events : first_events c.args.events c.rounds-script.result ≡ flat_events c.args.events = ap (λ (s : Schedule). first_events c.args.events s) c.rounds-script.ensures in
    booted_ready c.args.pages.now c.args.wanted (flat_events c.args.events)
    (Ok (Run (record { machine = c.in_ok-machine.machine; script = c.rounds-script.result; events = c.args.events; save = None })))
    c.in_ok-machine.ensures.measured (new, events, refl, it)
