use Rattle.std.proofs.Common.{ap, map, string_bytes, Err}
use Rattle.std.specs.Result.{is_ok}
use Rattle.cli_plans.specs.CommandLine.{LiveWords}
use Rattle.cli_plans.specs.declared.asking.Unread.TheVariants as unread
use Rattle.cli_plans.proofs.PlanLemmas.{asked_goes, asked_may}
use Rattle.secvisor_cli.proofs.StageLemmas.{words_ready, words_unread}
use Rattle.secvisor_cli.specs.declared.ready.Stop.TheVariants.{Memory}
use Rattle.cli_plans.specs.Plans.{run_plan, live_plan}
use Rattle.secvisor_cli.specs.Ready.{stop_of_unread}
use Rattle.secvisor_cli.proofs.ReadyLemmas.{begins, err_by}
use Rattle.cli_live.specs.LiveRuns.{harts_of}
use Rattle.cli_plans.specs.CommandLine.{live_judged}
use Rattle.cli_plans.specs.Words.{live_value}
use Rattle.cli_live.specs.LiveReady.{PreparesLive}
use Rattle.cli_live.proofs.ReadyLemmas.{fresh_way}
use Rattle.cli_live.proofs.ready.prepare_live.Goals as goal

pub returns-in_err-asked-clause-prepares : goal.returns-in_err-asked-clause-prepares
returns-in_err-asked-clause-prepares g c =
    err_by _ (stop_of_unread c.in_err-asked.field-0.0)
    (λ r. PreparesLive (live_plan (live_judged (map string_bytes c.args.words.now))) (g.F.Files.state c.args.files.now) (g.F.Files.state c.args.files.now) r)
    c.from_residual.ensures.1 (words_unread (λ (w : LiveWords). run_plan w.run) live_value _ c.in_err-asked.field-0.0 _ c.in_err-asked.ensures.asked)

pub returns-in_err-line-clause-prepares : goal.returns-in_err-line-clause-prepares
returns-in_err-line-clause-prepares g c =
    err_by _ Memory
    (λ r. PreparesLive (live_plan (live_judged (map string_bytes c.args.words.now))) (g.F.Files.state c.args.files.now) (g.F.Files.state c.args.files.now) r)
    c.from_residual-in_err-line.ensures.1 (words_unread (λ (w : LiveWords). run_plan w.run) live_value _ unread.Memory _ (ap is_ok c.in_ok-asked.ensures.asked))

pub returns-in_err-journal-clause-prepares : goal.returns-in_err-journal-clause-prepares
returns-in_err-journal-clause-prepares g c =
    err_by _ Memory
    (λ r. PreparesLive (live_plan (live_judged (map string_bytes c.args.words.now))) (g.F.Files.state c.args.files.now) (g.F.Files.state c.args.files.now) r)
    c.from_residual-in_err-journal.ensures.1 (words_unread (λ (w : LiveWords). run_plan w.run) live_value _ unread.Memory _ (ap is_ok c.in_ok-asked.ensures.asked))

pub prepare_run-requires-clause-permitted : goal.prepare_run-requires-clause-permitted
prepare_run-requires-clause-permitted g c = λ κs lives. asked_may (λ (w : LiveWords). run_plan w.run) _ (live_value c.in_ok-asked.asked) _ c.in_ok-asked.ensures.asked c.requires.permitted

pub returns-in_err-booted-clause-prepares : goal.returns-in_err-booted-clause-prepares
returns-in_err-booted-clause-prepares g c =
    err_by _ c.in_err-booted.field-0.0
    (λ r. PreparesLive (live_plan (live_judged (map string_bytes c.args.words.now))) (g.F.Files.state c.args.files.now) (g.F.Files.state c.prepare_run.new.files) r)
    c.from_residual-in_err-booted.ensures.1
    (words_ready (λ (w : LiveWords). run_plan w.run) _ (live_value c.in_ok-asked.asked) _ _ (Err c.in_err-booted.field-0.0) c.in_ok-asked.ensures.asked c.in_err-booted.ensures.prepares)

pub returns-clause-prepares : goal.returns-clause-prepares
returns-clause-prepares g c =
    let draws = c.in_ok-booted.ensures.draws 0 c.in_ok-asked.ensures.drawn.1 in
    let line = c.in_ok-line.ensures in
    let b = begins _ _ _ c.in_ok-booted.booted c.in_ok-booted.ensures.prepares in record {
      start = b.start;
      save = _;
      follows = asked_goes (λ (w : LiveWords). run_plan w.run) _ (live_value c.in_ok-asked.asked) _ _ _ c.in_ok-asked.ensures.asked b.follows;
      is_new = b.is_new;
      fresh = record {
        way = fresh_way _ _ c.in_ok-journal.ensures.keys c.in_ok-journal.ensures.autos c.in_ok-journal.ensures.room line.taker.1 draws b.fresh.state b.fresh.counts;
        keys = c.in_ok-journal.ensures.keys;
        autos = c.in_ok-journal.ensures.autos;
        harts = ap harts_of draws;
        console = b.fresh.console;
        events = b.fresh.events;
        line = line.taker.0;
        feeder = line.feeder;
      };
    }
