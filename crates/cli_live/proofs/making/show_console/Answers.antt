use Rattle.std.proofs.Common.{ℕ, List, subst}
use Rattle.host_io.specs.Outside.{BreaksOff}
use Rattle.host_io.proofs.SinkLemmas.{on_err}
use Rattle.machine.proofs.Standing.{cleared_none, flushed_all}
use Rattle.cli_live.proofs.MadeEvents.{shown, broken_show}
use Rattle.cli_live.proofs.making.show_console.Goals as goal

pub returns-in_err-write_all-clause-broke : goal.returns-in_err-write_all-clause-broke
returns-in_err-write_all-clause-broke g c =
    let off = subst (λ (p : List ℕ). BreaksOff (g.O.Sink.state c.args.out.now) (g.O.Sink.state c.write_all.new.out) p) c.printed.ensures c.in_err-write_all.ensures.failed in
    on_err c.from_residual.result _ (λ made. broken_show c.args.machine.now _ _ off made)

pub returns-in_err-write_all-clause-cleared : goal.returns-in_err-write_all-clause-cleared
returns-in_err-write_all-clause-cleared g c = cleared_none c.args.machine.now

pub returns-clause-on : goal.returns-clause-on
returns-clause-on g c = λ made.
    shown c.args.machine.now c.clear_printed.new.self _ _ c.clear_printed.ensures.printed
    (flushed_all c.args.machine.now c.clear_printed.new.self _ _ _ c.clear_printed.ensures.cleared c.clear_printed.ensures.printed c.printed.ensures c.in_ok-write_all.ensures.whole) made
